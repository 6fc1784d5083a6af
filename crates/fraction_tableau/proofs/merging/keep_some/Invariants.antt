use Rattle.std.proofs.Common.{take}
use Rattle.fraction_tableau.specs.KeptCells.{number_in}
use Rattle.fraction_tableau.specs.Marks.{AreMarked}
use Rattle.fraction_tableau.proofs.Keeps.{Keeping}
use Rattle.fraction_tableau.proofs.merging.keep_some.Given as goal

abbrev pub invariant-loop-taken : goal.invariant-loop-taken
invariant-loop-taken l =
    Keeping (number_in l.row) l.fn.done.below l.place l.fn.done.made l.fn.cells l.cells l.taken l.made
    × (AreMarked l.fn.done.marks (take l.fn.done.made l.fn.cells) → AreMarked l.marks (take l.made l.cells))
