use Rattle.std.proofs.Common.{rules, pos, sym, FitsSigned}
use Rattle.band_measure.proofs.Lines.{crossing_is}
use Rattle.std.specs.Int.{w128}
use Rattle.std.proofs.lemmas.Int.{to_z-of_z}
use Rattle.band_measure.proofs.widths.widest_at.Goals as goal

pub returns : goal.returns
returns c =
    let later = c.ranges.later in
    let start : FitsSigned w128 c.red_start-start.result = search rules in
    let crossed : FitsSigned w128 c.line-crossed.result = search rules in
    let found = simp to_z-of_z at c.widest_green.ensures in
    let line = simp to_z-of_z at c.line-crossed.ensures.value in
    rw (
      c.cycle.ensures.value,
      c.red_start-start.ensures.value,
      c.red_ticks-red.ensures.value,
      line,
      c.requires.here,
      sym
          (crossing_is c.args.artery.now c.args.base.now c.args.dir (pos c.args.first) c.args.place),
      c.stop-signal.ensures.value,
      c.count.ensures.value,
    ) at found
