-- What an answer of code says, in numbers. "Each answers a code and a second number. Code 0 is acceptance."
use Rattle.std.specs.Prelude.{ℕ, Result, Ok, Err}
use Rattle.model.specs.Limits.{accepted, malformed_policy, unsound_state, out_of_range, already_active, no_rule_satisfied, table_full, not_in_appointer_role, stands_already, no_such_certificate, may_not_revoke, not_active}
use Rattle.model.specs.Values.{Tables}
use Rattle.model.specs.declared.Lent.{Lent}
use Rattle.model.specs.declared.Reason.{Reason}
use Rattle.model.specs.declared.Reason.TheVariants.{MalformedPolicy, UnsoundState, OutOfRange, AlreadyActive, NoRuleSatisfied, TableFull, NotInAppointerRole, StandsAlready, NoSuchCertificate, MayNotRevoke, NotActive}

-- "Codes and their order"
abbrev pub code_of : Reason → ℕ
code_of MalformedPolicy = malformed_policy
code_of UnsoundState = unsound_state
code_of OutOfRange = out_of_range
code_of AlreadyActive = already_active
code_of NoRuleSatisfied = no_rule_satisfied
code_of TableFull = table_full
code_of NotInAppointerRole = not_in_appointer_role
code_of StandsAlready = stands_already
code_of NoSuchCertificate = no_such_certificate
code_of MayNotRevoke = may_not_revoke
code_of NotActive = not_active

-- what a call of code answers: accepted, its second number; refused, why
abbrev pub Answer : Type 0
Answer = Result ℕ Reason

module _ {A : Type 0} where
  abbrev pub code : Result A Reason → ℕ
  code (Ok x) = accepted
  code (Err reason) = code_of reason

abbrev pub second : Answer → ℕ
second (Ok n) = n
second (Err reason) = 0

-- the tables that are lent
abbrev pub tables_of : Lent → Tables
tables_of policy = record { rules = policy.rules.now; kinds = policy.kinds.now; rights = policy.rights.now }
