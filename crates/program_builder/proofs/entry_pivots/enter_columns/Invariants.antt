use Rattle.std.proofs.Common.{◌≡◌, ◌+◌, None}
use Rattle.narrow_fraction.specs.Attempt.{first_below}
use Rattle.program_builder.specs.EntryRefusals.{refusal_at}
use Rattle.simplex_theory.specs.Tableau.{height}
use Rattle.program_builder.specs.Remembering.{HaveRoom}
use Rattle.program_builder.proofs.WrittenBounds.{AreNotesBelow}
use Rattle.program_builder.proofs.EntryPivots.{pivoted}
use Rattle.program_builder.proofs.entry_pivots.enter_columns.Given as goal

abbrev pub invariant-loop-pivots : goal.invariant-loop-pivots
invariant-loop-pivots l = record {
  table : l.tableau ≡ pivoted l.basis l.fn.tableau l.pivots;
  notes : AreNotesBelow l.basis l.fn.tableau.table l.pivots l.notes;
  room : HaveRoom l.notes (height l.fn.tableau.table + 1);
  passed : first_below (refusal_at l.basis l.fn.tableau.table) l.pivots ≡ None;
}
