use Rattle.std.proofs.Common.{arith}
use Rattle.half_integer.proofs.Twice.{fits_twice, is_even}
use Rattle.half_integer.proofs.plan.half.Goals as goal

pub half_plan-requires-clause-even : goal.half_plan-requires-clause-even
half_plan-requires-clause-even c =
    let unit = c.unit-unit.ensures.value in
    let least = c.unit-unit.ensures.least in
    is_even c.args.artery.now c.args.timing.now c.in_default.ensures.shape (rw c.patterns-patterns.ensures.value at c.patterns-patterns.ensures.each)
    (omega (arith, unit, least)) c.in_default-half_end.ensures.level c.in_default-half_end.ensures.equal

pub half_plan-requires-clause-fits : goal.half_plan-requires-clause-fits
half_plan-requires-clause-fits c = fits_twice c.args.artery.now c.args.timing.now c.head-head.ensures.valid c.in_default-half_end.ensures.fits
