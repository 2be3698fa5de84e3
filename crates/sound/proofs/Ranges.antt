-- What a sound state keeps of ranges.
use Prim.Native.Nat.{ℕ, ◌/◌, ◌≤◌, ◌<◌}
use mathlib.Core.Path.{◌≡◌, subst}
use mathlib.Core.Bool.{true}
use mathlib.Core.List.{List, [], ◌++◌}
use native.Mathlib.Omega.{arith}
use lib.Dec.{T, ltb→lt}
use lib.ListN.{length}
use Rattle.model.specs.Lists.{all, all_over_earlier}
use Rattle.model.specs.Values.{Policy, world_of}
use Rattle.model.specs.Layout.{decode, policy_of, rule_from, kind_from}
use Rattle.model.specs.Sound.{row_sound, certificate_clauses, certificate_sound, well_formed, sound_values, sound}
use Rattle.model.specs.declared.Row.{Row}
use Rattle.model.proofs.Tests.{is_true, of_true, and_left, and_right, each, all_of, earlier_of}
use Rattle.table.specs.Entries.{Sized, rules_only, kinds_only}
use Rattle.table.proofs.Entries.{length-entries, sized}
use Rattle.marks.specs.Owned.{InRange, CertificatesInRange}
use Rattle.sound.specs.Fitting.{fit_clauses, row_fits}
use Rattle.sound.proofs.Judged.{stays, rows_parts}

row_bounds : (p : Policy) (r : Row) → T (row_fits p r) → (r.user < 4096) × (r.role < 256)
unfolding fit_clauses
row_bounds p r t = let h = each (fit_clauses p r) t in (ltb→lt r.user 4096 h.0, ltb→lt r.role 256 h.1.0)

-- the rows are named rightly, and the certificates are in range
pub ranges : (p : Policy) (s : List ℕ) → Sized s → CertificatesInRange s → all (row_fits p) (decode s).rows ≡ true → InRange s
ranges p s z c e = record { sized = z; rows = λ r m. row_bounds p r (all_of (row_fits p) (decode s).rows (of_true (all (row_fits p) (decode s).rows) e) r m); certificates = c }

pub certificates_range : (p : Policy) (s : List ℕ) → length p.kinds ≤ 128 → all_over_earlier (certificate_sound p) [] (decode s).certificates ≡ true → CertificatesInRange s
unfolding certificate_clauses
certificates_range p s few e c m =
    let f = earlier_of (certificate_sound p) [] (decode s).certificates (of_true (all_over_earlier (certificate_sound p) [] (decode s).certificates) e) c m in
    let h = each (certificate_clauses p ([] ++ f.0) c) f.3 in
    let k : c.kind < length p.kinds = ltb→lt c.kind (length p.kinds) h.1.0 in
    (ltb→lt c.appointee 4096 h.0, omega (arith, k))

-- as many rules and kinds as the tables have whole rows
pub rule_count : (rules : List ℕ) → length (rules_only rules).rules ≡ length rules / 11
unfolding policy_of
rule_count rules = length-entries rule_from 11 rules (length rules / 11)

pub kind_count : (kinds : List ℕ) → length (kinds_only kinds).kinds ≡ length kinds / 7
unfolding policy_of
kind_count kinds = length-entries kind_from 7 kinds (length kinds / 7)

-- a sound state keeps the ranges
pub sound_in_range : (p : Policy) (s : List ℕ) → length p.kinds ≤ 128 → sound p s ≡ true → InRange s
unfolding sound sound_values
sound_in_range p s few e =
    let t = of_true (sound p s) e in
    let f : T (well_formed s) = and_left (well_formed s) (sound_values p (decode s)) t in
    let r : T (sound_values p (decode s)) = and_right (well_formed s) (sound_values p (decode s)) t in
    let a = and_left (all_over_earlier (certificate_sound p) [] (decode s).certificates) (all_over_earlier (row_sound (world_of p (decode s))) [] (decode s).rows) r in
    let b = and_right (all_over_earlier (certificate_sound p) [] (decode s).certificates) (all_over_earlier (row_sound (world_of p (decode s))) [] (decode s).rows) r in
    let n = and_left (all (row_fits p) (decode s).rows) (all_over_earlier (stays (world_of p (decode s))) [] (decode s).rows) (subst T (rows_parts (world_of p (decode s)) (decode s).rows) b) in
    ranges p s (sized s (is_true (well_formed s) f)) (certificates_range p s few (is_true (all_over_earlier (certificate_sound p) [] (decode s).certificates) a)) (is_true (all (row_fits p) (decode s).rows) n)
