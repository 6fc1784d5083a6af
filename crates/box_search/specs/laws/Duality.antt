-- Weak duality over a box of a program: a point that meets the box's rows meets each sum of them, and so has no greater goal than a leaf
-- says that covers the goal, and no leaf refutes. The leaf of each line's end is over rows of the program.
use Rattle.std.proofs.Common.{◌≡◌, ℕ, zero, suc, Bool, true, false, cond, List, [], ◌∷◌, ◌++◌, map, length, ◌<◌, ◌≤◌, refl, subst, arith}
use Rattle.std.specs.Ordering.{eq_by_cmp}
use Rattle.rational_theory.specs.Rational.{ℚ, ◌≤ℚ◌}
use Rattle.rational_theory.specs.Compare.{cmp_ℚ}
use Rattle.rational_theory.proofs.Order.{≤ℚ_trans, <ℚ_not-≤ℚ}
use Rattle.rational_theory.specs.Rows.{dot, AllMet, AllNonNegative, IsMet}
use Rattle.rational_theory.proofs.Rows.{combine_met}
use Rattle.progression.specs.Speeds.{number}
use Rattle.linear_theory.specs.Boxes.{Area}
use Rattle.linear_theory.proofs.Bounds.{dot_grows}
use Rattle.named_row.specs.declared.names.RowId.{RowId}
use Rattle.named_row.specs.declared.leaves.Weight.{Weight}
use Rattle.simplex_theory.specs.DualSteps.{IsDual}
use Rattle.simplex_theory.specs.BlandRule.{Move, optimal, infeasible, pivoted}
use Rattle.simplex_theory.proofs.Multipliers.{goal_weight_low, row_weight_low}
use Rattle.fraction_tableau.specs.NamedTableaus.{name_in}
use Rattle.program_builder.specs.BoxRows.{IsAmong}
use Rattle.dual_leaf.specs.Leaves.{CoversWith, RefutesAt, multiplier, multipliers_below}
use Rattle.branch_and_bound.specs.Lines.{BoxLine}
use Rattle.box_search.specs.Program.{Program}
use Rattle.box_search.specs.Ends.{steps_of, last_table, named_last, end_move, end_point, end_bound, leaf_by, end_leaf, leaf_row}
use Rattle.box_search.specs.laws.RunLaws as runs

-- ---- leaves
-- each row is among these, and no multiplier is negative
abbrev pub AreOver : List RowId → List Weight → Type 0
AreOver names [] = Unit {0}
AreOver names (w ∷ ws) = IsAmong names w.row × (number 0 ≤ℚ w.by) × AreOver names ws

over_append : (names : List RowId) (vs ws : List Weight) → AreOver names vs → AreOver names ws → AreOver names (vs ++ ws)
over_append names [] ws h k = k
over_append names (v ∷ vs) ws h k = (h.0, h.1, over_append names vs ws h.2 k)

over_one : (names : List RowId) (k : ℕ) (by : ℚ) → k < length names → number 0 ≤ℚ by → AreOver names (multiplier (name_in names k) by)
over_one names k by h low = pick (eq_by_cmp cmp_ℚ by (number 0))
  where
    pick : (b : Bool) → AreOver names (cond b [] (record { row = name_in names k; by = by } ∷ []))
    pick true = tt
    pick false = (record { place = k; within = h; is = refl }, low, tt)

over_below : (names : List RowId) (f : ℕ → ℚ) → ((r : ℕ) → number 0 ≤ℚ f r) → (n : ℕ) → n ≤ length names → AreOver names (multipliers_below names f n)
unfolding multipliers_below
over_below names f low zero h = tt
over_below names f low (suc n) h = over_append names (multipliers_below names f n) (multiplier (name_in names n) (f n)) (over_below names f low n (omega arith)) (over_one names n (f n) (omega arith) (low n))

-- ---- points
-- a point of a box: no value is below 0, and it meets each of the box's rows
pub record IsPointOf {T W : Type 0} (p : Program T W) (box : Area) (x : List ℚ) : Type 0 where
  pub columns : length x ≡ p.columns
  pub not_negative : AllNonNegative x
  pub rows : (k : ℕ) → k < length p.names → IsMet x (p.row box (name_in p.names k))

module _ {T W : Type 0} (p : Program T W) (box : Area) (x : List ℚ) (v : IsPointOf p box x) where
  rows_met : (ws : List Weight) → AreOver p.names ws → AllMet x (map (λ w. p.row box w.row) ws)
  rows_met [] h = tt
  rows_met (w ∷ ws) h = (subst (λ r. IsMet x (p.row box r)) h.0.is (v.rows h.0.place h.0.within), rows_met ws h.2)

  none_negative : (ws : List Weight) → AreOver p.names ws → AllNonNegative (map (λ w. w.by) ws)
  none_negative [] h = tt
  none_negative (w ∷ ws) h = (h.1, none_negative ws h.2)

  pub sum_met : (ws : List Weight) → AreOver p.names ws → IsMet x (leaf_row p box ws)
  sum_met ws h = combine_met _ _ x (none_negative ws h) (rows_met ws h)

  -- the goal there is at most the bound of a leaf that covers it
  pub goal_below : (ws : List Weight) (value : ℚ) → AreOver p.names ws → CoversWith p.goal p.columns value (leaf_row p box ws) → dot p.goal x ≤ℚ value
  goal_below ws value h c =
      let w = v.columns in
      subst (λ y. dot p.goal x ≤ℚ y) c.bound
      (≤ℚ_trans _ _ _ (dot_grows (leaf_row p box ws).coefs p.goal x (λ j l. c.coefs j (omega arith)) v.not_negative) (sum_met ws h).met)

  -- and no leaf refutes
  pub none_refutes : (ws : List Weight) → AreOver p.names ws → RefutesAt p.columns (leaf_row p box ws) → ⊥
  none_refutes ws h c =
      let w = v.columns in
      <ℚ_not-≤ℚ _ _ c.bound (≤ℚ_trans _ _ _ (dot_grows (leaf_row p box ws).coefs [] x (λ j l. c.coefs j (omega arith)) v.not_negative) (sum_met ws h).met)

-- ---- ends
module _ {T W : Type 0} (p : Program T W) (line : BoxLine) (s : p.IsSound) where
  last_dual : IsDual (last_table p line)
  last_dual = runs.run_dual p line s (steps_of p line)

  -- the leaf of every end is over rows of the program
  pub end_over : AreOver p.names (end_leaf p line)
  unfolding end_leaf
  end_over = pick (end_move p line) refl
    where
      pick : (m : Move) → end_move p line ≡ m → AreOver p.names (leaf_by (named_last p line) m)
      pick optimal e = over_below p.names _ (λ r. goal_weight_low (last_table p line) _ last_dual) (length p.names) (omega arith)
      pick (infeasible i) e = over_below p.names _ (λ r. row_weight_low (last_table p line) i _ (runs.said p line s i e).2) (length p.names) (omega arith)
      pick (pivoted r j) e = tt

  module _ (e : end_move p line ≡ optimal) where
    -- the last vertex is a point of the box
    pub end_point_of : IsPointOf p line.area (end_point p line)
    end_point_of = record { columns = runs.vertex_columns p line s e; not_negative = (runs.optimal_vertex p line s e).not_negative; rows = runs.vertex_row p line s e }

    -- so the leaf there doesn't refute
    pub end_not_refuted : RefutesAt p.columns (leaf_row p line.area (end_leaf p line)) → ⊥
    end_not_refuted r = none_refutes p line.area (end_point p line) end_point_of (end_leaf p line) end_over r

    -- no point of the box has a greater goal than the bound
    pub end_greatest : (x : List ℚ) → IsPointOf p line.area x → dot p.goal x ≤ℚ end_bound p line
    end_greatest x v = goal_below p line.area x v (end_leaf p line) (end_bound p line) end_over (runs.leaf_covers p line s e)

-- where the points of one line's box are points of another's, the other's bound is no less
pub bound_falls : {T W : Type 0} (p : Program T W) (line part : BoxLine) → p.IsSound → end_move p line ≡ optimal → end_move p part ≡ optimal
    → ((x : List ℚ) → IsPointOf p part.area x → IsPointOf p line.area x) → end_bound p part ≤ℚ end_bound p line
bound_falls p line part s e f wider =
    subst (λ y. y ≤ℚ end_bound p line) (runs.optimal_vertex p part s f).goal_value (end_greatest p line s e (end_point p part) (wider (end_point p part) (end_point_of p part s f)))
