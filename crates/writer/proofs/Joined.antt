-- Writes one behind the other are one write.
use Prim.Native.Nat.{ℕ, ◌+◌, ◌-◌, ◌≤◌}
use mathlib.Core.Path.{◌≡◌, refl, sym, ap, subst, ◌∙◌}
use mathlib.Core.List.{List, [], ◌++◌, append_assoc, append-nil}
use native.Mathlib.Omega.{arith}
use native.Mathlib.Nat.{add-zero}
use lib.ListN.{length-drop, length, take, drop, length-append}
use lib.Seq.{length-take-le, drop-drop}
use borrow.Rule.Slice.PartMut.{put_mid, same_len_mid}
use Rattle.std.proofs.lemmas.Slice.{take-put_mid, drop-put_mid}
use Rattle.writer.specs.Writing.{Wrote}

pub wrote_none : (out : List ℕ) (at : ℕ) → Wrote out out at [] at
wrote_none out at = record { size = refl; place = sym (add-zero at); front = sym (append-nil (take at out)); behind = refl }

pub wrote_same : (out out' : List ℕ) (at : ℕ) (xs ys : List ℕ) (next : ℕ) → xs ≡ ys → Wrote out out' at xs next → Wrote out out' at ys next
wrote_same out out' at xs ys next e w = subst (λ (bytes : List ℕ). Wrote out out' at bytes next) e w

-- the bytes copied over as many of what is lent
pub wrote_over : (out bytes : List ℕ) (at k : ℕ) (ys : List ℕ) → k ≡ length bytes → ys ≡ bytes → at + length bytes ≤ length out → Wrote out (put_mid at k out ys) at bytes (at + length bytes)
wrote_over out bytes at k ys n e h =
    let size : length ys ≡ length bytes = ap length e in
    record {
      size = same_len_mid at k out ys (size ∙ sym (length-take-le (length bytes) (drop at out) (simp length-drop (omega arith))) ∙ ap (λ (m : ℕ). length (take m (drop at out))) (sym n));
      place = refl;
      front = take-put_mid at k out ys (at + length bytes) (omega (arith, size)) (omega arith) ∙ ap (λ (l : List ℕ). take at out ++ l) e;
      behind = drop-put_mid at k out ys (at + length bytes) (omega arith) (omega arith) (size ∙ sym n);
    }

pub wrote_then : (out out' out'' : List ℕ) (at : ℕ) (xs : List ℕ) (next : ℕ) (ys : List ℕ) (last : ℕ) → Wrote out out' at xs next → Wrote out' out'' next ys last → Wrote out out'' at (xs ++ ys) last
wrote_then out out' out'' at xs next ys last w v =
    record {
      size = v.size ∙ w.size;
      place = omega (arith, w.place, v.place, length-append xs ys);
      front = v.front ∙ ap (λ (l : List ℕ). l ++ ys) w.front ∙ append_assoc (take at out) xs ys;
      behind = v.behind ∙ later;
    }
  where
    far : next + (last - next) ≡ last
    far = omega (arith, v.place)

    later : drop last out' ≡ drop last out
    later =
        ap (λ (n : ℕ). drop n out') (sym far)
        ∙ sym (drop-drop (last - next) next out')
        ∙ ap (drop (last - next)) w.behind
        ∙ drop-drop (last - next) next out
        ∙ ap (λ (n : ℕ). drop n out) far
