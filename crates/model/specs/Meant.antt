-- What code makes of a condition's number, in the words of Conditions.
use Rattle.model.specs.Conditions.{Condition as Meaning, role, kind, fact, malformed}
use Rattle.model.specs.declared.Condition.{Condition}
use Rattle.model.specs.declared.Condition.TheVariants.{Role, Kind, Fact, Malformed}

abbrev pub condition_of : Condition → Meaning
condition_of (Role q) = role q
condition_of (Kind k) = kind k
condition_of (Fact f) = fact f
condition_of Malformed = malformed
