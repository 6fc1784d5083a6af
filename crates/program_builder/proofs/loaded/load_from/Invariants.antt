use Rattle.program_builder.proofs.BoxBounds.{IsBounding}
use Rattle.program_builder.proofs.loaded.load_from.Given as goal

-- the rows so far have the bounds of the box
abbrev pub invariant-loop-row : goal.invariant-loop-row
invariant-loop-row l = IsBounding l.artery l.area l.tableau l.row
