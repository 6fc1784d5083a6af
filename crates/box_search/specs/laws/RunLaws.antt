-- What the run of a line of a sound program is: each tableau is dual feasible and stands for the rows of the line's box, and there
-- is an end. At an optimal one the vertex meets the rows and has the bound as its goal's value, and the leaf covers the goal with the
-- bound; at an infeasible one the leaf refutes.
use Rattle.std.proofs.Common.{◌≡◌, ℕ, zero, suc, pos, false, List, [], ◌∷◌, length, ◌<◌, ◌≤◌, sym, ◌∙◌, ap, subst, arith}
use Rattle.std.proofs.lemmas.List.{get_or-map, length-map}
use Rattle.rational_theory.specs.Rational.{whole, ◌≤ℚ◌}
use Rattle.rational_theory.specs.Rows as maths
use Rattle.rational_theory.specs.Rational.{ℚ}
use Rattle.rational_theory.specs.Rows.{IsMet, AllMet}
use Rattle.simplex_theory.specs.Tableau.{height, width, bound}
use Rattle.simplex_theory.specs.DualSteps.{IsDual}
use Rattle.simplex_theory.specs.RowLists.{row_at, StandsForRows, IsOptimalPoint, vertex_point}
use Rattle.simplex_theory.proofs.RowLists.{optimal_point, length-columns_from, rows_stand_after}
use Rattle.simplex_theory.specs.BlandRule.{optimal, infeasible, Says}
use Rattle.simplex_theory.proofs.BlandRule.{says}
use Rattle.simplex_theory.specs.Paths.{HaveSameBasics}
use Rattle.simplex_theory.specs.StepCounts.{is_pivot}
use Rattle.simplex_theory.proofs.StepCounts as counts
use Rattle.simplex_theory.proofs.StepCounts.{ended, dual_after}
use Rattle.fraction_tableau.specs.NamedTableaus.{unnamed, name_in}
use Rattle.dual_leaf.specs.Leaves.{goal_multipliers, row_multipliers, CoversWith, RefutesAt}
use Rattle.dual_leaf.proofs.LeafLaws.{goal_leaf_covers, row_leaf_refutes, own_shares}
use Rattle.branch_and_bound.specs.Lines.{BoxLine}
use Rattle.box_search.specs.Program.{Program, rows_for}
use Rattle.box_search.specs.Ends.{table_after, steps_of, last_table, named_last, end_move, end_point, end_bound, leaf_by, end_leaf, leaf_row}
use Rattle.box_search.specs.laws.Standing.{height-after, width-after}

met_at : (x : List ℚ) (rows : List maths.Row) (k : ℕ) → AllMet x rows → k < length rows → IsMet x (row_at rows k)
met_at x [] k m h = absurd (omega arith)
met_at x (r ∷ rows) zero m h = m.0
met_at x (r ∷ rows) (suc k) m h = met_at x rows k m.1 (omega arith)

module _ {T W : Type 0} (p : Program T W) (line : BoxLine) (s : p.IsSound) where
  -- ---- the tableaus
  pub run_dual : (k : ℕ) → IsDual (table_after p line k)
  unfolding table_after
  run_dual k = dual_after (p.first line) k (p.first_is s line).dual

  pub run_stands : (k : ℕ) → StandsForRows (table_after p line k) (rows_for p line.area) p.goal
  unfolding table_after
  run_stands k = rows_stand_after (p.first line) (rows_for p line.area) p.goal k (p.first_is s line).dual (p.first_is s line).stands

  pub run_width : (k : ℕ) → width (table_after p line k) ≡ p.columns
  unfolding table_after
  run_width k = width-after (p.first line) k ∙ (p.first_is s line).columns_are

  pub first_height : height (p.first line) ≡ length p.names
  first_height = sym (p.first_is s line).stands.shape.count ∙ length-map p.names (p.row line.area)

  pub run_height : (k : ℕ) → height (table_after p line k) ≡ length p.names
  unfolding table_after
  run_height k = height-after (p.first line) k ∙ first_height

  pub end_reached : is_pivot (end_move p line) ≡ false
  unfolding table_after steps_of
  end_reached = ended (p.first line) (p.first_is s line).dual

  -- no set of basic variables comes twice
  pub no_basis_twice : (i k : ℕ) → i < k → k ≤ steps_of p line → HaveSameBasics (table_after p line i) (table_after p line k) → ⊥
  unfolding table_after steps_of
  no_basis_twice i k h l b = counts.no_basis_twice (p.first line) i k (p.first_is s line).dual h l b

  last_dual : IsDual (last_table p line)
  last_dual = run_dual (steps_of p line)

  last_stands : StandsForRows (last_table p line) (rows_for p line.area) p.goal
  last_stands = run_stands (steps_of p line)

  each_named : length p.names ≡ height (last_table p line)
  each_named = sym (run_height (steps_of p line))

  -- the point that is read has all columns
  pub point_columns : length (end_point p line) ≡ p.columns
  unfolding vertex_point
  point_columns = length-columns_from _ 0 (width (last_table p line)) ∙ run_width (steps_of p line)

  -- ---- an optimal end
  module _ (e : end_move p line ≡ optimal) where
    bounds_low : (i : ℕ) → i < height (last_table p line) → whole (pos 0) ≤ℚ bound (last_table p line) i
    bounds_low = subst (λ m. Says (last_table p line) m) e (says (last_table p line))

    pub optimal_vertex : IsOptimalPoint (last_table p line) (rows_for p line.area) p.goal (end_point p line)
    optimal_vertex = optimal_point (last_table p line) (rows_for p line.area) p.goal last_dual last_stands bounds_low

    -- the vertex meets each named row
    pub vertex_row : (k : ℕ) → k < length p.names → IsMet (end_point p line) (p.row line.area (name_in p.names k))
    vertex_row k h =
        subst (λ r. IsMet (end_point p line) r) (get_or-map (p.row line.area) p.names k unnamed (record { coefs = []; bound = whole (pos 0) }) h)
        (met_at (end_point p line) (rows_for p line.area) k optimal_vertex.met (let l = length-map p.names (p.row line.area) in omega arith))

    pub vertex_columns : length (end_point p line) ≡ p.columns
    vertex_columns = point_columns

    pub leaf_is : end_leaf p line ≡ goal_multipliers (named_last p line)
    unfolding end_leaf
    leaf_is = ap (leaf_by (named_last p line)) e

    pub leaf_covers : CoversWith p.goal p.columns (end_bound p line) (leaf_row p line.area (end_leaf p line))
    leaf_covers =
        subst (λ w. CoversWith p.goal w (end_bound p line) (leaf_row p line.area (end_leaf p line))) (run_width (steps_of p line))
        (subst (λ ws. CoversWith p.goal (width (last_table p line)) (end_bound p line) (leaf_row p line.area ws)) (sym leaf_is)
        ((goal_leaf_covers (named_last p line)).covers (last_table p line) (p.row line.area) p.goal (own_shares (named_last p line) each_named) last_dual last_stands))

  -- ---- an infeasible one
  module _ (i : ℕ) (e : end_move p line ≡ infeasible i) where
    pub said : Says (last_table p line) (infeasible i)
    said = subst (λ m. Says (last_table p line) m) e (says (last_table p line))

    pub row_leaf_is : end_leaf p line ≡ row_multipliers (named_last p line) i
    unfolding end_leaf
    row_leaf_is = ap (leaf_by (named_last p line)) e

    pub leaf_refutes : RefutesAt p.columns (leaf_row p line.area (end_leaf p line))
    leaf_refutes =
        subst (λ w. RefutesAt w (leaf_row p line.area (end_leaf p line))) (run_width (steps_of p line))
        (subst (λ ws. RefutesAt (width (last_table p line)) (leaf_row p line.area ws)) (sym row_leaf_is)
        ((row_leaf_refutes (named_last p line) i each_named said.0 said.1 said.2).refutes (p.row line.area) p.goal last_dual last_stands))
