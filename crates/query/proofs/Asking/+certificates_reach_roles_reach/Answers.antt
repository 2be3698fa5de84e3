use mathlib.Core.Path.{subst⁻¹}
use Rattle.std.proofs.Common.{◌≡◌, ◌<◌, [], sym, subst, ◌∙◌, length, arith}
use Rattle.model.specs.Layout.{policy_of}
use Rattle.model.specs.Conditions.{membership, rule_numbered}
use Rattle.model.specs.declared.Row.{Row}
use Rattle.table.specs.Entries.{without_rights}
use Rattle.rests.specs.Asked.{Grown}
use Rattle.query.proofs.Reaching.{tell_none, tell_other, tell_own, tell_row, tell_part, tell_all, tell_down}
use Rattle.query.proofs.Asking.+certificates_reach_roles_reach.Goals as goal

pub certificates_reach-returns : goal.certificates_reach-returns
certificates_reach-returns t c =
    let asking = c.args.self.now in
    let own : c.membership-number-items.result.now ≡ membership (rule_numbered (policy_of (without_rights asking.policy.rules.now [])) c.row_at.result.rule) = cc in
    let all : c.loop-number.number-index ≡ length c.membership-number-items.result.now = omega arith in
    tell_all _ _ _ _ _ _ c.row_at.result c.row_at.ensures _ _ asking.ready (omega arith) _
    (rw (← own) (subst (Grown asking.policy.kinds.now c.args.asked.now c.loop-number.asked c.membership-number-items.result.now) all c.loop-number.invariant.0))
    (rw (← own) (λ j l. c.loop-number.invariant.1 j (omega arith)))
    c.roles_reach.ensures

pub roles_reach-loop-i-preserved-then-not-is_asked : goal.roles_reach-loop-i-preserved-then-not-is_asked
roles_reach-loop-i-preserved-then-not-is_asked t c = record {
  closed = c.loop-i.invariant.closed;
  told = λ r h. c.loop-i.invariant.told r (tell_down _ _ _ _ _ c.loop-i.i r (omega arith) (tell_other _ _ _ _ _ _ c.row_at-row.result c.row_at-row.ensures r (sym c.is_asked.ensures ∙ c.if-not-is_asked.true) h));
}

pub roles_reach-returns-then-has_right : goal.roles_reach-returns-then-has_right
roles_reach-returns-then-has_right t c =
    c.loop-i.invariant.told _
    (tell_down _ _ _ _ _ c.loop-i.i _ (omega arith)
    (tell_own _ _ _ _ _ _ c.row_at-row.result c.row_at-row.ensures (subst⁻¹ (λ (r : Row). r.role < 256) c.row_at-row.ensures (c.args.self.now.ready.fits _ (omega arith))) (sym c.is_asked.ensures ∙ c.if-not-is_asked.false) (sym c.has_right.ensures ∙ c.if-has_right.true)))

pub roles_reach-returns-then-not-ask_row : goal.roles_reach-returns-then-not-ask_row
roles_reach-returns-then-not-ask_row t c =
    let asking = c.args.self.now in
    c.loop-i.invariant.told _
    (tell_down _ _ _ _ _ c.loop-i.i _ (omega arith)
    (tell_row _ _ _ _ _ _ c.row_at-row.result c.row_at-row.ensures (subst⁻¹ (λ (r : Row). r.role < 256) c.row_at-row.ensures (asking.ready.fits _ (omega arith))) (sym c.is_asked.ensures ∙ c.if-not-is_asked.false) asking.ready (omega arith) _ (sym c.has_right.ensures ∙ c.if-has_right.false)
    (tell_part _ _ _ _ _ _ c.row_at-row.result c.row_at-row.ensures _ _ _ (c.ask_row.ensures.grown asking.policy.kinds.now c.loop-i.invariant.closed) c.certificates_reach.ensures)))

pub roles_reach-loop-i-preserved : goal.roles_reach-loop-i-preserved
roles_reach-loop-i-preserved t c =
    let asking = c.args.self.now in
    let grown = c.ask_row.ensures.grown asking.policy.kinds.now c.loop-i.invariant.closed in
    record {
      closed = grown.closed;
      told = λ r h.
          c.loop-i.invariant.told _
          (tell_down _ _ _ _ _ c.loop-i.i _ (omega arith)
          (tell_row _ _ _ _ _ _ c.row_at-row.result c.row_at-row.ensures (subst⁻¹ (λ (r : Row). r.role < 256) c.row_at-row.ensures (asking.ready.fits _ (omega arith))) (sym c.is_asked.ensures ∙ c.if-not-is_asked.false) asking.ready (omega arith) _ (sym c.has_right.ensures ∙ c.if-has_right.false)
          (tell_all _ _ _ _ _ _ c.row_at-row.result c.row_at-row.ensures _ _ asking.ready (omega arith) r grown (c.ask_row.ensures.each (c.if-not-ask_row.false) asking.policy.kinds.now c.loop-i.invariant.closed) h)));
    }

pub roles_reach-returns : goal.roles_reach-returns
roles_reach-returns t c = c.loop-i.invariant.told _ (tell_none _ _ _ _ _ _ (omega arith))
