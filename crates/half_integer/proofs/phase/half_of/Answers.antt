use Rattle.std.proofs.Common.{rules, FitsSigned}
use Rattle.std.specs.Int.{w128}
use Rattle.std.proofs.lemmas.Int.{to_z-of_z}
use Rattle.half_integer.proofs.Centred.{not_centred, later_odd, later_even}
use Rattle.half_integer.proofs.phase.half_of.Goals as goal

pub returns-then-red-ne0-clause-test : goal.returns-then-red-ne0-clause-test
returns-then-red-ne0-clause-test c = later_odd c.args.artery.now c.args.timing.now c.args.signal c.red_ticks-red.result c.red_ticks-red.ensures.value c.if-red-ne0.true

pub returns-else-red-ne0 : goal.returns-else-red-ne0
returns-else-red-ne0 c =
    let start : FitsSigned w128 c.red_start-start.result = search rules in
    let tick : FitsSigned w128 c.before_zero.result = search rules in
    let value = simp to_z-of_z at c.since_start.ensures.value in
    record {
      test = later_even c.args.artery.now c.args.timing.now c.args.signal c.red_ticks-red.result c.since_start.result c.cycle.result c.red_start-start.result c.before_zero.result
          c.red_ticks-red.ensures.value c.if-red-ne0.false c.cycle.ensures.value c.red_start-start.ensures.value c.before_zero.ensures.value value;
      centred = not_centred c.args.artery.now c.args.timing.now c.args.signal c.red_ticks-red.result c.since_start.result c.cycle.result c.red_start-start.result c.before_zero.result
          c.red_ticks-red.ensures.value c.if-red-ne0.false c.cycle.ensures.value c.red_start-start.ensures.value c.before_zero.ensures.value value;
    }
