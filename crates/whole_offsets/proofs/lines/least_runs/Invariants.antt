use Rattle.whole_offsets.specs.Lines.{AreLeast}
use Rattle.whole_offsets.proofs.lines.least_runs.Given as goal

abbrev pub invariant-loop-index : goal.invariant-loop-index
invariant-loop-index l = AreLeast l.artery l.base.grid l.dir l.runs.items l.index
