use Rattle.std.proofs.Common.{suc, ◌+◌, ◌-◌, ◌*◌, ◌≡◌, length, length-take, length-drop, rules, arith}
use Rattle.model.specs.Layout.{certificate_count}
use Rattle.table.proofs.Form.{formed}
use Rattle.change.proofs.Changed.{cleared, certificate_removed}
use Rattle.change.proofs.remove_certificate.Goals as goal

pub copy_within-requires-clause-in_bounds : goal.copy_within-requires-clause-in_bounds
copy_within-requires-clause-in_bounds c = let f = formed c.args.state.now c.requires.0 in omega (arith, f.size, f.certificates)

pub copy_within-requires-clause-dest_in_bounds : goal.copy_within-requires-clause-dest_in_bounds
copy_within-requires-clause-dest_in_bounds c = let f = formed c.args.state.now c.requires.0 in omega (arith, f.size, f.certificates)

pub slice_bounds-fill-end : goal.slice_bounds-fill-end
slice_bounds-fill-end c = let f = formed c.args.state.now c.requires.0 in omega (arith, f.size, f.certificates, c.copy_within.ensures.len)

pub returns : goal.returns
returns c =
    let f = formed c.args.state.now c.requires.0 in
    let last : suc (c.from-last.result - 1) ≡ certificate_count c.args.state.now = omega (arith, c.from-last.ensures, c.requires.1) in
    let three : (c.from-last.result - 1) * 3 + 834 + 3 - ((c.from-last.result - 1) * 3 + 834) ≡ 3 = omega arith in
    let size : length c.fill.new.self ≡ 3 = omega (arith, simp (length-take, length-drop) at c.fill.ensures.len, f.size, f.certificates, c.copy_within.ensures.len) in
    certificate_removed c.args.state.now c.copy_within.new.self _ c.args.j (c.from-last.result - 1) f c.requires.1 last (search rules) (cleared c.copy_within.new.self c.fill.new.self ((c.from-last.result - 1) * 3 + 834) _ _ (omega (arith, f.size, f.certificates, c.copy_within.ensures.len)) three size (c.fill.ensures.after (λ y e. e)))
