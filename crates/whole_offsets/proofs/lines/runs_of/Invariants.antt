use Rattle.whole_offsets.specs.Lines.{AreRunsOf}
use Rattle.whole_offsets.proofs.lines.runs_of.Given as goal

abbrev pub invariant-loop-index : goal.invariant-loop-index
invariant-loop-index l = AreRunsOf l.artery l.dir l.free l.runs.items l.index
