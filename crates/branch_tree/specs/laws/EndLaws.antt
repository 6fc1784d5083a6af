-- What the end of a line of an artery is: its vertex is a point of the line's box whose weighted band is the bound, and its leaf covers
-- the goal with the bound, or refutes.
use Rattle.std.proofs.Common.{◌≡◌, ℕ, List, map, refl, sym, subst}
use Rattle.rational_theory.proofs.Order.{≤ℚ_refl}
use Rattle.rational_theory.specs.Rows.{IsMet}
use Rattle.progression.specs.Street.{Street, count}
use Rattle.progression.specs.declared.parts.Dir.TheVariants.{Outbound, Inbound}
use Rattle.artery_model.specs.Valid.{IsValid}
use Rattle.linear_theory.specs.Boxes.{Area}
use Rattle.linear_theory.specs.Places as places
use Rattle.rational_theory.specs.Rational.{ℚ}
use Rattle.linear_theory.specs.Rows as forms
use Rattle.linear_theory.specs.Names.{Name, WaitRow, FastRow, SlowRow, RiseRow, DropRow, CycleLowRow, CycleHighRow, RatioRow, LoopLowRow, LoopHighRow, TurnLowRow, TurnHighRow, LeastRow, EqualLowRow, EqualHighRow, NoRow, HasRow, form_of, name_of}
use Rattle.linear_theory.specs.Covering.{CoversGoal, RefutesAll}
use Rattle.linear_theory.specs.Trees.{AreWeights}
use Rattle.loop_rows.specs.Weights.{named}
use Rattle.named_row.specs.declared.names.RowId.{RowId}
use Rattle.simplex_theory.specs.BlandRule.{optimal, infeasible}
use Rattle.program_builder.proofs.RowOrder.{rows_there, among_rows}
use Rattle.program_builder.specs.Opening.{row_for, goal_of}
use Rattle.recovery_theory.specs.Vertices.{IsVertex, goal_at}
use Rattle.dual_leaf.specs.Leaves.{CoversWith, RefutesAt}
use Rattle.branch_and_bound.specs.Lines.{BoxLine}
use Rattle.box_search.specs.Ends.{end_move, end_point, end_bound, end_leaf}
use Rattle.branch_tree.specs.LeafRows.{sum_of}
use Rattle.branch_tree.specs.ArteryProgram.{program_of}
use Rattle.branch_tree.specs.laws.LeafWeights.{sum_read, weights_of}
use Rattle.box_search.specs.laws.Duality.{IsPointOf, end_over, end_point_of, end_not_refuted}
use Rattle.box_search.specs.laws.RunLaws as runs

-- ---- what is promised of an end
pub record IsOptimalEnd (a : Street) (line : BoxLine) : Type 0 where
  pub vertex : IsVertex a line.area (end_point (program_of a) line)
  pub goal : goal_at a (end_point (program_of a) line) ≡ end_bound (program_of a) line
  pub rows : AreWeights a (map named (end_leaf (program_of a) line))
  pub covers : CoversGoal a (end_bound (program_of a) line) (sum_of a line.area (end_leaf (program_of a) line))
  pub bound : (sum_of a line.area (end_leaf (program_of a) line)).bound ≡ end_bound (program_of a) line

pub record IsInfeasibleEnd (a : Street) (line : BoxLine) : Type 0 where
  pub rows : AreWeights a (map named (end_leaf (program_of a) line))
  pub refutes : RefutesAll a (sum_of a line.area (end_leaf (program_of a) line))

-- ---- names of rows
-- each row has a name with a family's number
pub record IsNumbered (n : Name) : Type 0 where
  pub row : RowId
  pub is : name_of row.family row.index ≡ n

numbered : (a : Street) (n : Name) → HasRow a n → IsNumbered n
numbered a (WaitRow Outbound i) h = record { row = record { family = 1; index = i }; is = refl }
numbered a (WaitRow Inbound i) h = record { row = record { family = 2; index = i }; is = refl }
numbered a (FastRow Outbound i) h = record { row = record { family = 3; index = i }; is = refl }
numbered a (FastRow Inbound i) h = record { row = record { family = 4; index = i }; is = refl }
numbered a (SlowRow Outbound i) h = record { row = record { family = 5; index = i }; is = refl }
numbered a (SlowRow Inbound i) h = record { row = record { family = 6; index = i }; is = refl }
numbered a (RiseRow Outbound i) h = record { row = record { family = 7; index = i }; is = refl }
numbered a (RiseRow Inbound i) h = record { row = record { family = 8; index = i }; is = refl }
numbered a (DropRow Outbound i) h = record { row = record { family = 9; index = i }; is = refl }
numbered a (DropRow Inbound i) h = record { row = record { family = 10; index = i }; is = refl }
numbered a (CycleLowRow i) h = record { row = record { family = 11; index = i }; is = refl }
numbered a (CycleHighRow i) h = record { row = record { family = 12; index = i }; is = refl }
numbered a (RatioRow i) h = record { row = record { family = 13; index = i }; is = refl }
numbered a (LoopLowRow i) h = record { row = record { family = 14; index = i }; is = refl }
numbered a (LoopHighRow i) h = record { row = record { family = 15; index = i }; is = refl }
numbered a (TurnLowRow i) h = record { row = record { family = 16; index = i }; is = refl }
numbered a (TurnHighRow i) h = record { row = record { family = 17; index = i }; is = refl }
numbered a (LeastRow Outbound i) h = record { row = record { family = 18; index = i }; is = refl }
numbered a (LeastRow Inbound i) h = record { row = record { family = 19; index = i }; is = refl }
numbered a (EqualLowRow i) h = record { row = record { family = 20; index = i }; is = refl }
numbered a (EqualHighRow i) h = record { row = record { family = 21; index = i }; is = refl }
numbered a NoRow h = absurd h

-- a point of a box, in the words of recovery, is one of the program's
pub vertex_is_point : (a : Street) (box : Area) (x : List ℚ) → IsVertex a box x → IsPointOf (program_of a) box x
vertex_is_point a box x v = record { columns = v.columns; not_negative = v.not_negative; rows = λ k h. v.rows _ (rows_there a k h) }

pub point_is_vertex : (a : Street) (box : Area) (x : List ℚ) → IsPointOf (program_of a) box x → IsVertex a box x
point_is_vertex a box x v = record { columns = v.columns; not_negative = v.not_negative; rows = row_met }
  where
    row_met : (n : Name) → HasRow a n → IsMet x (forms.line a (form_of a box n))
    row_met n h =
        let r = numbered a n h in
        let g = among_rows a r.row (subst (λ m. HasRow a m) (sym r.is) h) in
        subst (λ m. IsMet x (forms.line a (form_of a box m))) r.is (subst (λ (q : RowId). IsMet x (row_for a box q)) g.is (v.rows g.place g.within))

module _ (a : Street) (line : BoxLine) (v : IsValid a) where
  -- the leaf of each end has rows of the artery
  pub end_rows : AreWeights a (map named (end_leaf (program_of a) line))
  end_rows = weights_of a (end_leaf (program_of a) line) (end_over (program_of a) line v)

  -- ---- an optimal end
  module _ (e : end_move (program_of a) line ≡ optimal) where
    leaf_covers : CoversWith (goal_of a) (places.width (count a)) (end_bound (program_of a) line) (sum_of a line.area (end_leaf (program_of a) line))
    leaf_covers =
        subst (λ s. CoversWith (goal_of a) (places.width (count a)) (end_bound (program_of a) line) s) (sum_read a line.area (end_leaf (program_of a) line)) (runs.leaf_covers (program_of a) line v e)

    pub optimal_end : IsOptimalEnd a line
    optimal_end = record {
      vertex = point_is_vertex a line.area (end_point (program_of a) line) (end_point_of (program_of a) line v e);
      goal = (runs.optimal_vertex (program_of a) line v e).goal_value;
      rows = end_rows;
      covers = record { coefs = λ j l. leaf_covers.coefs j l; bound = rw leaf_covers.bound (≤ℚ_refl _) };
      bound = leaf_covers.bound;
    }

    -- the leaf doesn't refute
    pub optimal_not_refuted : RefutesAll a (sum_of a line.area (end_leaf (program_of a) line)) → ⊥
    optimal_not_refuted r =
        end_not_refuted (program_of a) line v e
        (subst (λ s. RefutesAt (places.width (count a)) s) (sym (sum_read a line.area (end_leaf (program_of a) line))) (record { coefs = λ j l. r.coefs j l; bound = r.bound }))

  -- ---- an infeasible end
  module _ (i : ℕ) (e : end_move (program_of a) line ≡ infeasible i) where
    leaf_refutes : RefutesAt (places.width (count a)) (sum_of a line.area (end_leaf (program_of a) line))
    leaf_refutes = subst (λ s. RefutesAt (places.width (count a)) s) (sum_read a line.area (end_leaf (program_of a) line)) (runs.leaf_refutes (program_of a) line v i e)

    pub infeasible_end : IsInfeasibleEnd a line
    infeasible_end = record {
      rows = end_rows;
      refutes = record { coefs = λ j l. leaf_refutes.coefs j l; bound = leaf_refutes.bound };
    }
