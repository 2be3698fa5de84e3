-- What is held when a call has been accepted, before anything falls: a grant is added, a logged-out user's rows are taken off, and
-- at fresh all of them.
use Rattle.std.specs.Prelude.{List, [], ◌∷◌, ◌++◌}
use Rattle.model.specs.Lists.{without}
use Rattle.model.specs.Values.{Policy, State}
use Rattle.model.specs.Calls.{Call, fresh, activate, appoint, revoke, withdraw, environment, logout, invoke, effective, chain, lowest_rule, of_user}
use Rattle.model.specs.declared.Row.{Row}

unfoldable pub held : Policy → State → Call → List Row
held p t fresh = []
held p t (activate u q) = t.rows ++ (record { user = u; role = q; rule = lowest_rule p t u q } ∷ [])
held p t (appoint appointer appointee k) = t.rows
held p t (revoke caller appointee k appointer) = t.rows
held p t (withdraw appointee k appointer) = t.rows
held p t (environment f value) = t.rows
held p t (logout u) = without (of_user u) t.rows
held p t (invoke u x) = t.rows
held p t (effective u q x) = t.rows
held p t (chain u q) = t.rows
