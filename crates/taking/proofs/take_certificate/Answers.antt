use Prim.Native.Nat.{suc}
use mathlib.Core.List.{◌++◌}
use lib.ListN.{take, drop}
use Rattle.model.specs.Values.{with_certificates}
use Rattle.model.specs.Layout.{decode}
use Rattle.model.proofs.Tests.{of_true}
use Rattle.model.specs.Sound.{well_formed}
use Rattle.model.proofs.Numbers.{decode-fits}
use Rattle.taking.proofs.Falls.{encoded_formed, encoded_in_range, one_less_member, fallen_after, one_less_fits}
use Rattle.taking.proofs.take_certificate.Goals as goal

pub fall-requires : goal.fall-requires
fall-requires c = (
  encoded_formed _ _ c.remove_certificate.ensures (one_less_fits (decode c.args.state.now) c.args.j (decode-fits c.args.state.now (of_true (well_formed c.args.state.now) c.requires.0))),
  encoded_in_range c.args.state.now _ _ c.remove_certificate.ensures (one_less_fits (decode c.args.state.now) c.args.j (decode-fits c.args.state.now (of_true (well_formed c.args.state.now) c.requires.0))) c.requires.1 (λ r m. m) (λ x m. one_less_member (decode c.args.state.now).certificates c.args.j x m),
)

pub returns : goal.returns
returns c =
    fallen_after c.args.policy.rules.now c.args.policy.kinds.now c.remove_certificate.new.state _ (with_certificates (decode c.args.state.now) (take c.args.j (decode c.args.state.now).certificates ++ drop (suc c.args.j) (decode c.args.state.now).certificates)) c.fall.result c.remove_certificate.ensures
    (one_less_fits (decode c.args.state.now) c.args.j (decode-fits c.args.state.now (of_true (well_formed c.args.state.now) c.requires.0))) c.fall.ensures
