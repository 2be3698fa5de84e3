-- A policy is sound if its tables have their form and their rows fit: the clauses, in the order in which they are judged.
use Prim.Native.Nat.{◌/◌}
use mathlib.Core.Path.{◌≡◌, refl, sym, ◌∙◌}
use mathlib.Core.Bool.{Bool, true, false, ◌&&◌, and-true}
use lib.Dec.{leb}
use lib.ListN.{length}
use Rattle.model.specs.Lists.{all}
use Rattle.model.specs.Values.{Tables}
use Rattle.model.specs.Layout.{rule_from, kind_from, right_from, policy_of}
use Rattle.model.specs.Sound.{is_whole, rule_fits, kind_fits, right_fits, policy_clauses, sound_policy}
use Rattle.table.specs.Entries.{kinds_only}
use Rattle.table.proofs.Entries.{length-entries}
use Rattle.policy.specs.Fitting.{tables_formed, rows_fit}
use Rattle.policy.proofs.Unread.{rules_fit_same}

-- each table's two clauses are judged together
sorted : (a b c d e f g h i : Bool) → (a && (b && (c && (d && (e && (f && (g && (h && (i && true))))))))) ≡ ((((a && d) && (b && e)) && (c && f)) && ((g && h) && i))
sorted false b c d e f g h i = refl
sorted true false c false e f g h i = refl
sorted true false c true e f g h i = refl
sorted true true false false e f g h i = refl
sorted true true false true false f g h i = refl
sorted true true false true true f g h i = refl
sorted true true true false e f g h i = refl
sorted true true true true false f g h i = refl
sorted true true true true true false g h i = refl
sorted true true true true true true false h i = refl
sorted true true true true true true true false i = refl
sorted true true true true true true true true i = and-true i

pub policy_parts : (t : Tables) → (tables_formed t && rows_fit t) ≡ sound_policy t
unfolding policy_clauses policy_of
policy_parts t =
    sym
    (sorted (is_whole 11 t.rules) (is_whole 7 t.kinds) (is_whole 2 t.rights) (leb (length t.rules / 11) 512) (leb (length t.kinds / 7) 128) (leb (length t.rights / 2) 2048) (all (rule_fits (kinds_only t.kinds)) (policy_of t).rules) (all kind_fits (policy_of t).kinds) (all right_fits (policy_of t).rights))
    ∙ (λ j.
    is_whole 11 t.rules
    && (is_whole 7 t.kinds
    && (is_whole 2 t.rights
    && (leb (sym (length-entries rule_from 11 t.rules (length t.rules / 11)) j) 512
    && (leb (sym (length-entries kind_from 7 t.kinds (length t.kinds / 7)) j) 128
    && (leb (sym (length-entries right_from 2 t.rights (length t.rights / 2)) j) 2048
    && (sym (rules_fit_same (policy_of t) (kinds_only t.kinds) refl (policy_of t).rules) j && (all kind_fits (policy_of t).kinds && (all right_fits (policy_of t).rights && true)))))))))
