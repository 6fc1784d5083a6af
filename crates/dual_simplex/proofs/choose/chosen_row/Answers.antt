use Rattle.std.proofs.Common.{◌≡◌, ◌∙◌, ap, arith}
use Rattle.simplex_theory.specs.Tableau.{height, bound}
use Rattle.simplex_theory.specs.Best.{best}
use Rattle.simplex_theory.proofs.Best.{on_best, best_low}
use Rattle.simplex_theory.specs.BlandRule.{chosen_row, is_negative, row_before}
use Rattle.simplex_theory.proofs.BlandRule.{row_order}
use Rattle.dual_simplex.proofs.choose.chosen_row.Goals as goal

pub better_row-best-requires-clause-best : goal.better_row-best-requires-clause-best
better_row-best-requires-clause-best c =
    let t = c.args.tableau.now.table in
    rw c.loop-row.invariant (best_low (λ i. is_negative (bound t i)) (row_before t) c.loop-row.row (height t) _ (on_best _ _ c.loop-row.row (row_order t)) (omega arith))

pub returns : goal.returns
unfolding chosen_row
returns c =
    let t = c.args.tableau.now.table in
    let e : c.loop-row.row ≡ height t = omega arith in
    c.loop-row.invariant ∙ ap (best (λ i. is_negative (bound t i)) (row_before t)) e
