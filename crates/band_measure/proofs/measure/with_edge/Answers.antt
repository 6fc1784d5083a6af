use Rattle.band_measure.proofs.Tries.{held_past_none, first_found, better_found, better_held}
use Rattle.band_measure.proofs.measure.with_edge.Goals as goal

pub returns-in-None : goal.returns-in-None
returns-in-None c = held_past_none c.args.artery.now c.args.base.now c.args.dir c.args.place c.args.best c.edge-first.result c.edge-first.ensures.value c.in-None.ensures c.requires.best

pub returns-in-None-best : goal.returns-in-None-best
returns-in-None-best c = first_found c.args.artery.now c.args.base.now c.args.dir c.args.place c.edge-first.result c.in-Some.band c.edge-first.ensures.value
    c.edge-first.ensures.below c.in-Some.ensures (rw c.in-None-best.is at c.requires.best)

pub returns-then-is_better : goal.returns-then-is_better
returns-then-is_better c =
    better_found c.args.artery.now c.args.base.now c.args.dir c.args.place c.edge-first.result c.in-Some.band c.in-Some-best.held.first c.in-Some-best.held.band
    c.edge-first.ensures.value c.in-Some.ensures (rw c.in-Some-best.is at c.requires.best) c.edge-first.ensures.below (c.is_better.ensures.yes c.if-is_better.true)

pub returns-else-is_better : goal.returns-else-is_better
returns-else-is_better c =
    better_held c.args.artery.now c.args.base.now c.args.dir c.args.place c.edge-first.result c.in-Some.band c.in-Some-best.held.first c.in-Some-best.held.band
    c.edge-first.ensures.value c.in-Some.ensures (rw c.in-Some-best.is at c.requires.best) (c.is_better.ensures.no c.if-is_better.false)
