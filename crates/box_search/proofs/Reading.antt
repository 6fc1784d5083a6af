-- What is read off the last tableau of a line.
use Rattle.std.proofs.Common.{◌≡◌, ℕ, List, sym, ◌∙◌, ap, subst}
use Rattle.named_row.specs.declared.leaves.Weight.{Weight}
use Rattle.rational_theory.specs.Rational.{ℚ}
use Rattle.simplex_theory.specs.Tableau.{Tableau}
use Rattle.simplex_theory.specs.RowLists.{vertex_point}
use Rattle.simplex_theory.specs.DualSteps.{IsPlaced}
use Rattle.simplex_theory.specs.BlandRule.{infeasible, Says}
use Rattle.simplex_theory.proofs.BlandRule.{says}
use Rattle.fraction_tableau.specs.NamedTableaus.{NamedTableau}
use Rattle.dual_leaf.specs.Leaves.{goal_multipliers, row_multipliers}
use Rattle.branch_and_bound.specs.Lines.{BoxLine}
use Rattle.box_search.specs.Program.{Program}
use Rattle.box_search.specs.Ends.{steps_of, named_last, last_table, end_point, end_leaf, leaf_by}
use Rattle.box_search.specs.laws.RunLaws.{run_dual}
use Rattle.box_search.specs.Runs.{IsOptimalRun, IsInfeasibleRun}

module _ {T W : Type 0} (p : Program T W) (line : BoxLine) (t : NamedTableau) where
  -- ---- at an optimal end
  pub leaf_read : (ws : List Weight) → IsOptimalRun p line t → ws ≡ goal_multipliers t → ws ≡ end_leaf p line
  unfolding end_leaf
  leaf_read ws r e = e ∙ ap goal_multipliers r.tableau_is ∙ ap (leaf_by (named_last p line)) (sym r.move_is)

  pub point_read : (xs : List ℚ) → IsOptimalRun p line t → xs ≡ vertex_point t.table → xs ≡ end_point p line
  point_read xs r e = e ∙ ap (λ u. vertex_point u.table) r.tableau_is

  -- what the last tableau gives the parts
  pub kept_read : {K : Type 0} (keeps : Tableau → K → Type 0) (kept : K) → p.IsSound → IsOptimalRun p line t → (IsPlaced t.table → keeps t.table kept) → keeps (last_table p line) kept
  kept_read keeps kept v r h = subst (λ u. keeps u.table kept) r.tableau_is (h (subst (λ u. IsPlaced u.table) (sym r.tableau_is) (run_dual p line v (steps_of p line)).placed))

  -- ---- at an infeasible one
  pub row_said : (row : ℕ) → IsInfeasibleRun p line t row → Says t.table (infeasible row)
  row_said row r = subst (λ u. Says u.table (infeasible row)) (sym r.tableau_is) (subst (Says (last_table p line)) r.move_is (says (last_table p line)))

  pub refuter_read : (row : ℕ) (ws : List Weight) → IsInfeasibleRun p line t row → ws ≡ row_multipliers t row → ws ≡ end_leaf p line
  unfolding end_leaf
  refuter_read row ws r e = e ∙ ap (λ u. row_multipliers u row) r.tableau_is ∙ ap (leaf_by (named_last p line)) (sym r.move_is)
