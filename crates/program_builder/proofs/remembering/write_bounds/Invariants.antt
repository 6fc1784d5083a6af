use Rattle.program_builder.proofs.WrittenRows.{IsWriting}
use Rattle.program_builder.proofs.remembering.write_bounds.Given as goal

abbrev pub invariant-loop-row : goal.invariant-loop-row
invariant-loop-row l = IsWriting l.bounds l.fn.tableau l.tableau l.row
