use Rattle.std.proofs.Common.{sym, subst, ◌+◌, List, ℕ}
use Rattle.whole_offsets.specs.Lines.{AreLeast}
use Rattle.whole_offsets.proofs.Pushes.{least_more}
use Rattle.whole_offsets.proofs.lines.least_runs.Goals as goal

pub loop-index-preserved : goal.loop-index-preserved
loop-index-preserved c =
    subst (λ (xs : List ℕ). AreLeast c.args.artery.now c.args.base.now.grid c.args.dir xs (c.loop-index.index + 1)) (sym c.in_ok-push.ensures.items)
    (least_more c.args.artery.now c.args.base.now.grid c.args.dir c.loop-index.runs.items c.loop-index.index c.run_limits.result.least c.run_limits.result.most c.loop-index.invariant
    c.run_limits.ensures)
