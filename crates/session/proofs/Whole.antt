-- The whole program: too long an input, and one that is loaded and then run.
use Prim.Native.Nat.{ℕ, ◌≤◌, ◌<◌}
use mathlib.Core.Path.{◌≡◌, sym, ap, ◌∙◌, subst⁻¹}
use mathlib.Core.Bool.{Bool, cond}
use mathlib.Core.List.{List, [], ◌++◌}
use native.Mathlib.Omega.{arith}
use lib.ListN.{length, take, replicate}
use borrow.Author.Tests.{lt-ltb, le-ltb}
use Rattle.program.specs.Program.{bad_record, start, steps, program}
use Rattle.writer.specs.Writing.{Wrote}
use Rattle.writer.proofs.Sizes.{bad_short}
use Rattle.load.specs.Loading.{tables_of, running, lines_from, Loads}
use Rattle.load.specs.declared.Loaded.{Loaded}
use Rattle.session.specs.Output.{Holds}

-- the bytes are those of the writer's slice
pub held_in : (out : List ℕ) (w : ℕ) (bytes out' : List ℕ) → Holds out w bytes → out' ≡ out → Holds out' w bytes
held_in out w bytes out' h e = subst⁻¹ (λ (bs : List ℕ). Holds bs w bytes) e h

module _ (text out : List ℕ) (w : ℕ) where
  -- "Longer input writes `bad,0` only."
  pub too_long : (out₀ : List ℕ) (at : ℕ) → at ≡ 0 → 65536 < length text → 16 ≤ length out₀ → Wrote out₀ out at (bad_record 0) w → Holds out w (program text)
  unfolding program
  too_long out₀ at first h room o =
      record {
        within = omega (arith, first, o.place, o.size, bad_short 0 (omega arith));
        front = o.front ∙ ap (λ (k : ℕ). take k out₀ ++ bad_record 0) first ∙ sym (ap (λ (b : Bool). cond b (bad_record 0) (steps start (lines_from text 0)).written) (lt-ltb 65536 (length text) h));
      }

  pub loaded_and_run : (rules kinds rights : List ℕ) (r : Loaded) (text' : List ℕ) (at : ℕ) → text' ≡ text → at ≡ r.at → length text ≤ 65536 → Loads text rules kinds rights r → Holds out w (steps (running (tables_of rules kinds rights r.counts) (replicate 1602 0) r.taken []) (lines_from text' at)).written → Holds out w (program text)
  unfolding program
  loaded_and_run rules kinds rights r text' at same here h l o =
      record {
        within = o.within;
        front =
            o.front
            ∙ (λ i. (steps (running (tables_of rules kinds rights r.counts) (replicate 1602 0) r.taken []) (lines_from (same i) (here i))).written)
            ∙ sym l.goes_on
            ∙ sym (ap (λ (b : Bool). cond b (bad_record 0) (steps start (lines_from text 0)).written) (le-ltb 65536 (length text) h));
      }
