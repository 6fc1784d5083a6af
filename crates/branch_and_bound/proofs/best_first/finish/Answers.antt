use Rattle.std.proofs.Common.{Some, None, refl}
use Rattle.branch_and_bound.proofs.Finishing.{best_answer, none_answer}
use Rattle.branch_and_bound.proofs.best_first.finish.Goals as goal

pub returns-in-Some : goal.returns-in-Some
returns-in-Some g c = record {
  best = Some c.in-Some.best;
  timing = refl;
  answer = best_answer (g.P.Relaxation.rules c.args._relaxation.now) c.args.meter.limit c.args.nodes.items c.in_ok-tree.tree.items c.in-Some.best
      c.requires.holds.0 c.args.meter.spent c.requires.within
      (rw c.in-Some.is at c.requires.holds.1) (rw c.in-Some.is at c.requires.settled) (rw c.in-Some.is at c.in_ok-tree.ensures);
}

pub returns-in-None : goal.returns-in-None
returns-in-None g c = record {
  best = None;
  timing = refl;
  answer = none_answer (g.P.Relaxation.rules c.args._relaxation.now) c.args.meter.limit c.args.nodes.items c.in_ok-tree.tree.items c.requires.holds.0
      c.whole.result c.args.meter.spent c.requires.within
      (rw c.in-None.is at c.requires.holds.1) (rw c.in-None.is at c.requires.settled) (rw c.in-None.is at c.in_ok-tree.ensures) c.whole.ensures;
}
