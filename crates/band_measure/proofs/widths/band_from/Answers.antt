use Rattle.std.proofs.Common.{◌≡◌, ◌<◌, ◌≤◌, arith, rules, pos, FitsSigned}
use Rattle.std.specs.Int.{w128}
use Rattle.std.proofs.lemmas.Int.{to_z-of_z}
use Rattle.progression.specs.Street.{count}
use Rattle.band_measure.proofs.WidestGreens.{none_from, walk_green, widest_from}
use Rattle.band_measure.proofs.widths.band_from.Goals as goal

pub returns-in_default : goal.returns-in_default
returns-in_default c =
    let lt : c.loop-place.place < count c.args.artery.now = omega (arith, c.count-place-end.ensures.value, c.loop-place-test.true) in
    none_from c.args.artery.now c.args.base.now c.args.dir (pos c.args.first) c.loop-place.place lt (c.in_default.ensures)

pub loop-place-preserved : goal.loop-place-preserved
loop-place-preserved c =
    let fits : FitsSigned w128 c.way_beyond-later.result = search rules in
    let width = c.in-Some.ensures in
    record {
      here = rw to_z-of_z c.way_beyond-later.ensures.here;
      near = rw to_z-of_z c.way_beyond-later.ensures.near;
      green = walk_green c.args.artery.now c.args.base.now c.args.dir (pos c.args.first) c.loop-place.place c.loop-place.band c.in-Some.width c.lesser-band.result
          c.lesser-band.ensures.one c.lesser-band.ensures.other c.loop-place.invariant.green width;
      most = λ b l g. c.lesser-band.ensures.most b (c.loop-place.invariant.most b l (λ k p. g k (omega (arith, p)))) (width.most b (g c.loop-place.place (omega arith)));
    }

pub returns : goal.returns
returns c =
    let all : c.loop-place.place ≡ count c.args.artery.now = omega (arith, c.count-place-end.ensures.value, c.loop-place.auto.place-end, c.loop-place-test.false) in
    let two : 2 ≤ c.args.base.now.unit = omega (arith, c.unit.ensures.value, c.unit.ensures.least) in
    widest_from c.args.artery.now c.args.base.now c.args.dir (pos c.args.first) c.known_valid.ensures two c.loop-place.band
    (rw all at c.loop-place.invariant.green)
    (rw all at c.loop-place.invariant.most)
