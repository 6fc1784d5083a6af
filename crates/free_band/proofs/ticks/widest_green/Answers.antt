use Rattle.std.proofs.Common.{◌≡◌, pos, arith, to_z}
use Rattle.std.specs.Int.{w128}
use Rattle.std.proofs.lemmas.Int.{ints, to_z-of_z}
use Rattle.band_measure.proofs.WidestGreens.{none_in_red, line_at_red, rest_of_green}
use Rattle.free_band.proofs.ticks.widest_green.Goals as goal

pub returns-then-since-eq0 : goal.returns-then-since-eq0
returns-then-since-eq0 c =
    let s = c.ranges.start in
    let l : to_z w128 c.args.line ≡ pos c.args.line = omega (arith, ints) in
    let e = simp (to_z-of_z, l) at c.since_start-since.ensures.value in
    line_at_red c.args.cycle c.args.red c.since_start-since.result c.args.start (pos c.args.line) c.requires.red c.requires.cycle e c.if-since-eq0.true

pub returns-then-since-red : goal.returns-then-since-red
returns-then-since-red c =
    let s = c.ranges.start in
    let l : to_z w128 c.args.line ≡ pos c.args.line = omega (arith, ints) in
    let e = simp (to_z-of_z, l) at c.since_start-since.ensures.value in
    none_in_red c.args.cycle c.args.red c.since_start-since.result c.args.start (pos c.args.line) c.requires.red c.requires.cycle e c.if-since-eq0.false c.if-since-red.true

pub returns-else-since-red : goal.returns-else-since-red
returns-else-since-red c =
    let s = c.ranges.start in
    let l : to_z w128 c.args.line ≡ pos c.args.line = omega (arith, ints) in
    let e = simp (to_z-of_z, l) at c.since_start-since.ensures.value in
    rest_of_green c.args.cycle c.args.red c.since_start-since.result c.args.start (pos c.args.line) c.requires.red c.requires.cycle e c.if-since-red.false c.since_start-since.ensures.below
