-- What revoke and withdraw share: a certificate is taken away.
use Rattle.std.specs.Prelude.{ℕ, Bool, not, List, [], ◌∷◌}
use Rattle.model.specs.Limits.{no_such_certificate, may_not_revoke}
use Rattle.model.specs.Outcome.{Course, Given, Keeps, ◌⇒◌, first_code, decided}
use Rattle.model.specs.Calls.{out_of_range_unless, is_user, has_row, stands, without_certificate, settled}
use Rattle.model.specs.Answered.{Answer, code, second}
use Rattle.model.specs.declared.Certificate.{Certificate}

-- the course of a call that takes the certificate away, if that is allowed
abbrev pub taken_on : Given → Certificate → Bool → Course
taken_on g c allowed =
    record {
      refusals = out_of_range_unless (is_user c.appointee ∷ has_row g.policy c.kind ∷ is_user c.appointer ∷ []) ∷ (not (stands g.state c) ⇒ no_such_certificate) ∷ (not allowed ⇒ may_not_revoke) ∷ [];
      effect = settled g (without_certificate g.state c);
    }

-- the answer r and the numbers s' are what the course comes to on the numbers s
abbrev pub Comes : Course → List ℕ → Answer → List ℕ → Type 0
Comes course s r s' = Keeps (decided (first_code course.refusals) s [] course.effect) (code r) (second r) s' []
