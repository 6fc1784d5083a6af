use Rattle.std.proofs.Common.{arith}
use Rattle.typed_plan.proofs.Counted.{has_counts}
use Rattle.typed_plan.proofs.timing.timing_of.Goals as goal

pub fitting_grid-requires : goal.fitting_grid-requires
fitting_grid-requires c =
    let few = c.known_valid.ensures.few in
    has_counts c.args.artery.now c.args.plan.now (omega (arith, few)) c.in-Ok.ensures

pub timed-requires-clause-counts : goal.timed-requires-clause-counts
timed-requires-clause-counts c =
    let few = c.known_valid.ensures.few in
    has_counts c.args.artery.now c.args.plan.now (omega (arith, few)) c.in-Ok.ensures
