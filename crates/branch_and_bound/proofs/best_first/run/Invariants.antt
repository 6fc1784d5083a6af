use Rattle.std.proofs.Common.{◌≡◌}
use Rattle.rational_theory.specs.Rational.{ℚ}
use Rattle.work_meter.specs.Work.{IsWithin}
use Rattle.branch_and_bound.specs.State.{IsSearchState, weights}
use Rattle.branch_and_bound.proofs.best_first.run.Given as goal

abbrev pub invariant-splits : goal.invariant-splits
invariant-splits g l = record {
  ready : g.P.Relaxation.Ready l.relaxation l.room;
  within : IsWithin l.progress.meter.spent l.progress.meter.limit;
  limit : l.progress.meter.limit ≡ l.initial.progress.meter.limit;
  holds : (top : ℚ) × IsSearchState (g.P.Relaxation.rules l.relaxation) l.nodes.items l.progress.incumbent top l.progress.meter.spent;
}

abbrev pub decreases-splits : goal.decreases-splits
decreases-splits g l = weights l.nodes.items
