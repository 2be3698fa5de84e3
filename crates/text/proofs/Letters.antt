-- The laws by which a field is compared with a word, and the first word that it says is found.
use Prim.Native.Nat.{ℕ, suc}
use mathlib.Core.Path.{◌≡◌, refl, ap}
use mathlib.Core.Bool.{Bool, true, false, ◌&&◌, cond}
use mathlib.Core.List.{List, [], ◌∷◌}
use lib.Dec.{eqb}
use lib.Pointwise.{pointwise}
use Rattle.std.specs.List.{find}
use Rattle.program.specs.Vocabulary.{same, word_of, numbered}
use Rattle.program.specs.Said.{number_of, word_said}
use Rattle.program.specs.declared.Word.{Word}
use Rattle.program.specs.declared.Word.TheVariants.{Rule, Kind, Right, Activate, Appoint, Revoke, Withdraw, Env, Logout, Invoke, Effective}
use Rattle.std.specs.Prelude.{Some, None}

pub same_by_bytes : (f w : List ℕ) → pointwise eqb f w ≡ same f w
same_by_bytes [] [] = refl
same_by_bytes [] (b ∷ w) = refl
same_by_bytes (a ∷ f) [] = refl
same_by_bytes (a ∷ f) (b ∷ w) = ap (λ (later : Bool). eqb a b && later) (same_by_bytes f w)

-- the words in the vocabulary's order
abbrev pub named : List Word
named = Rule ∷ Kind ∷ Right ∷ Activate ∷ Appoint ∷ Revoke ∷ Withdraw ∷ Env ∷ Logout ∷ Invoke ∷ Effective ∷ []

-- the first of them that a field says has the number of the first word that it says
pub word_found : (f : List ℕ) → word_said (find (λ (w : Word). same f (numbered (number_of w)).letters) named) ≡ word_of f
unfolding word_of
word_found f =
    go
    (says Rule)
    (says Kind)
    (says Right)
    (says Activate)
    (says Appoint)
    (says Revoke)
    (says Withdraw)
    (says Env)
    (says Logout)
    (says Invoke)
    (says Effective)
  where
    says : Word → Bool
    says w = same f (numbered (number_of w)).letters

    go : (a b c d e f g h i j k : Bool) →
        word_said (cond a (Some Rule) (cond b (Some Kind) (cond c (Some Right) (cond d (Some Activate) (cond e (Some Appoint) (cond f (Some Revoke) (cond g (Some Withdraw) (cond h (Some Env) (cond i (Some Logout) (cond j (Some Invoke) (cond k (Some Effective) None)))))))))))
        ≡ cond a 0 (suc (cond b 0 (suc (cond c 0 (suc (cond d 0 (suc (cond e 0 (suc (cond f 0 (suc (cond g 0 (suc (cond h 0 (suc (cond i 0 (suc (cond j 0 (suc (cond k 0 1))))))))))))))))))))
    go true b c d e f g h i j k = refl
    go false true c d e f g h i j k = refl
    go false false true d e f g h i j k = refl
    go false false false true e f g h i j k = refl
    go false false false false true f g h i j k = refl
    go false false false false false true g h i j k = refl
    go false false false false false false true h i j k = refl
    go false false false false false false false true i j k = refl
    go false false false false false false false false true j k = refl
    go false false false false false false false false false true k = refl
    go false false false false false false false false false false true = refl
    go false false false false false false false false false false false = refl
