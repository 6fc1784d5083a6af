use Rattle.std.proofs.Common.{◌+◌, ◌*◌, ◌<◌, ◌^◌, arith, lit<, refl, rules}
use Rattle.std.specs.Int.{w128}
use Rattle.std.proofs.Math.Nat.{one-le-pow}
use Rattle.std.proofs.lemmas.Int.{to_z_pos}
use Rattle.quantity_text.proofs.quantity.after_mark.Goals as goal

pub reduced-requires-clause-top : goal.reduced-requires-clause-top
reduced-requires-clause-top c =
    let size : c.args.whole * c.pow-unit.result + c.args.back < 2 ^ 127 = search rules in
    rw (to_z_pos w128 (c.args.whole * c.pow-unit.result + c.args.back) size) size

pub reduced-requires-clause-above : goal.reduced-requires-clause-above
reduced-requires-clause-above c = omega (arith, c.pow-unit.ensures, one-le-pow c.args.places 10 (lit< tt))

pub returns-then-mark-eq46 : goal.returns-then-mark-eq46
returns-then-mark-eq46 c =
    let size : c.args.whole * c.pow-unit.result + c.args.back < 2 ^ 127 = search rules in
    let value = rw (to_z_pos w128 (c.args.whole * c.pow-unit.result + c.args.back) size) at c.reduced.ensures.value in
    rw (c.if-mark-eq46.true, value, c.pow-unit.ensures) refl
