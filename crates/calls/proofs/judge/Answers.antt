use Rattle.std.proofs.Common.{sym, ◌∙◌}
use Rattle.model.specs.Answered.{tables_of}
use Rattle.sound.proofs.Unread.{sound-without-rights}
use Rattle.calls.proofs.Judged.{no-policy, no-state, all_sound, lent-kinds}
use Rattle.calls.proofs.judge.Goals as goal

pub returns-then-not-policy_sound : goal.returns-then-not-policy_sound
returns-then-not-policy_sound c = no-policy (tables_of c.args.policy) c.args.state.now (sym c.policy_sound.ensures ∙ c.if-not-policy_sound.true)

pub state_sound-requires : goal.state_sound-requires
state_sound-requires c = lent-kinds (tables_of c.args.policy) (sym c.policy_sound.ensures ∙ c.if-not-policy_sound.false)

pub returns-then-not-state_sound : goal.returns-then-not-state_sound
returns-then-not-state_sound c =
    no-state (tables_of c.args.policy) c.args.state.now (sym c.policy_sound.ensures ∙ c.if-not-policy_sound.false)
    (sym (sound-without-rights (tables_of c.args.policy) c.args.state.now) ∙ sym c.state_sound.ensures ∙ c.if-not-state_sound.true)

pub returns : goal.returns
returns c =
    all_sound (tables_of c.args.policy) c.args.state.now (sym c.policy_sound.ensures ∙ c.if-not-policy_sound.false)
    (sym (sound-without-rights (tables_of c.args.policy) c.args.state.now) ∙ sym c.state_sound.ensures ∙ c.if-not-state_sound.false)
