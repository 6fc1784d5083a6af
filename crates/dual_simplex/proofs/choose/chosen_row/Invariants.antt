use Rattle.std.proofs.Common.{◌≡◌}
use Rattle.simplex_theory.specs.Tableau.{bound}
use Rattle.simplex_theory.specs.Best.{best}
use Rattle.simplex_theory.specs.BlandRule.{is_negative, row_before}
use Rattle.dual_simplex.proofs.choose.chosen_row.Given as goal

abbrev pub invariant-loop-row : goal.invariant-loop-row
invariant-loop-row l = l.best ≡ best (λ i. is_negative (bound l.tableau.table i)) (row_before l.tableau.table) l.row
