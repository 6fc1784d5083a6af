use Rattle.std.proofs.Common.{◌≡◌, ◌<◌, ℕ, false}
use Rattle.entry_theory.specs.Entry as rule
use Rattle.program_builder.proofs.choosing.entry_row.Given as goal

abbrev pub invariant-loop-row : goal.invariant-loop-row
invariant-loop-row l = (k : ℕ) → k < l.row → rule.can_take l.basis l.tableau.table l.column k ≡ false
