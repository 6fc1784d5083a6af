-- The row and the column that a refused ratio or pivot names lie in the tableau: the goal row comes after the last row, and the
-- bound after the last column.
use Rattle.std.proofs.Common.{arith, ◌≡◌, ℕ, suc, ◌<◌, ◌≤◌, Bool, true, false, cond, eqb, Option, None, Some, List, length, refl, subst}
use Rattle.rational_theory.specs.Rational.{ℚ}
use Rattle.narrow_fraction.specs.Attempt.{first_below}
use Rattle.narrow_fraction.specs.declared.wide.Op.{Op}
use Rattle.narrow_fraction.specs.declared.wide.Wide.{Wide}
use Rattle.narrow_fraction.specs.Past128.{past_wide}
use Rattle.simplex_theory.specs.Tableau as tableaus
use Rattle.simplex_theory.specs.Tableau.{Tableau, IsShaped, height, cell}
use Rattle.simplex_theory.specs.DualSteps.{IsChoice}
use Rattle.simplex_theory.specs.BlandRule.{is_negative, chosen_row, chosen_place}
use Rattle.simplex_theory.proofs.BlandRule.{chosen_choice, chosen_row_in}
use Rattle.fraction_tableau.specs.declared.wide_cell.WideCell.{WideCell}
use Rattle.fraction_tableau.specs.Refusals.{at_cell, refused, divide_at, divide_refusal, clear_at, clear_refusal, row_refusal, pivot_refusal}
use Rattle.dual_simplex.specs.Ratios.{ratio_at, ratio_refusal}
use Rattle.dual_simplex.specs.Steps.{step_pivot, step_place, step_ratio, step_row, step_of}
use Rattle.dual_simplex.specs.declared.outcome.Step.{Step}
use Rattle.dual_simplex.specs.declared.outcome.Step.TheVariants as steps
use Rattle.branch_and_bound.specs.Lines.{BoxLine}
use Rattle.box_search.specs.Program.{Program}
use Rattle.box_search.specs.Ends.{table_after}
use Rattle.box_search.specs.laws.RunLaws.{run_dual, run_height, run_width}
use Rattle.box_search.specs.Sites.{step_at}
use Rattle.box_search.specs.SiteNames.{IsRatioIn, IsCellIn}
use Rattle.box_search.proofs.EachRefusal.{Each, each_some, each_none, each_earlier, each_first}

each_cond : {E : Type 0} (P : E → Type 0) (b : Bool) (o p : Option E) → Each P o → Each P p → Each P (cond b o p)
each_cond P true o p f g = f
each_cond P false o p f g = g

-- ---- one operation
refused_at : (P : WideCell → Type 0) (op : Op) (x y : ℚ) (i k : ℕ) → ((w : Wide) → P (record { row = i; col = k; wide = w })) → Each P (refused op x y i k)
unfolding refused
refused_at P op x y i k h = pick (past_wide op x y)
  where
    pick : (o : Option Wide) → Each P (at_cell i k o)
    pick None = each_none P
    pick (Some w) = each_some P (record { row = i; col = k; wide = w }) (h w)

-- ---- in a tableau
module _ (t : Tableau) (shaped : IsShaped t) where
  abbrev IsRatio : WideCell → Type 0
  IsRatio w = (w.row < height t) × (w.col < tableaus.width t)

  abbrev IsCell : WideCell → Type 0
  IsCell w = (w.row ≤ height t) × (w.col ≤ tableaus.width t)

  ratios : (r : ℕ) → r < height t → Each IsRatio (ratio_refusal t r)
  unfolding ratio_refusal
  ratios r h = each_first IsRatio (ratio_at t r) (tableaus.width t) (λ k l. each_cond IsRatio (is_negative (cell t r k)) _ None (refused_at IsRatio _ _ _ r k (λ w. (h, l))) (each_none IsRatio))

  -- in a row of the tableau's length
  divides : (i j : ℕ) (c : List ℚ) → i ≤ height t → j < tableaus.width t → length c ≡ suc (tableaus.width t) → Each IsCell (divide_refusal i j c)
  unfolding divide_refusal
  divides i j c h l e =
      each_earlier IsCell (refused _ _ _ i j) _ (refused_at IsCell _ _ _ i j (λ w. (h, omega arith)))
      (each_first IsCell (divide_at i j c) (length c) (λ k m. each_cond IsCell (eqb k j) None _ (each_none IsCell) (refused_at IsCell _ _ _ i k (λ w. (h, omega arith)))))

  clears : (i j : ℕ) (e d : List ℚ) (p : ℚ) → i ≤ height t → j < tableaus.width t → length d ≡ suc (tableaus.width t) → Each IsCell (clear_refusal i j e d p)
  unfolding clear_refusal
  clears i j e d p h l q =
      each_earlier IsCell (first_below (clear_at i j e d) (length d)) _
      (each_first IsCell (clear_at i j e d) (length d) (λ k m.
      each_cond IsCell (eqb k j) None _ (each_none IsCell)
      (each_earlier IsCell (refused _ _ _ i k) _ (refused_at IsCell _ _ _ i k (λ w. (h, omega arith))) (refused_at IsCell _ _ _ i k (λ w. (h, omega arith))))))
      (refused_at IsCell _ _ _ i j (λ w. (h, omega arith)))

  pivots : (r j : ℕ) → IsChoice t r j → Each IsCell (pivot_refusal r j t.rows t.goal)
  unfolding pivot_refusal
  pivots r j c =
      let row = c.row in
      each_earlier IsCell (divide_refusal r j (tableaus.line t r)) _ (divides r j (tableaus.line t r) (omega arith) c.place (shaped.lines r c.row))
      (each_earlier IsCell (clear_refusal (height t) j _ t.goal _) _ (clears (height t) j _ t.goal _ (omega arith) c.place shaped.goals)
      (each_first IsCell (row_refusal r j _ _ t.rows) (height t) (λ i l. each_cond IsCell (eqb i r) None _ (each_none IsCell)
      (clears i j _ (tableaus.line t i) _ (omega arith) c.place (shaped.lines i l)))))

  -- what a step names
  abbrev IsNamed : Step → Type 0
  IsNamed steps.Optimal = Unit {0}
  IsNamed (steps.Infeasible r) = Unit {0}
  IsNamed (steps.Pivoted r j) = Unit {0}
  IsNamed (steps.Wide true w) = IsRatio w
  IsNamed (steps.Wide false w) = IsCell w

  by_pivot : (r j : ℕ) (o : Option WideCell) → Each IsCell o → IsNamed (step_pivot r j o)
  by_pivot r j None h = tt
  by_pivot r j (Some w) h = h w refl

  by_place : (r : ℕ) (o : Option ℕ) → chosen_row t ≡ Some r → chosen_place t r ≡ o → IsNamed (step_place t r o)
  by_place r None e f = tt
  by_place r (Some j) e f = by_pivot r j _ (pivots r j (chosen_choice t r j e f))

  by_ratio : (r : ℕ) (o : Option WideCell) → chosen_row t ≡ Some r → Each IsRatio o → IsNamed (step_ratio t r o)
  by_ratio r None e h = by_place r (chosen_place t r) e refl
  by_ratio r (Some w) e h = h w refl

  by_row : (o : Option ℕ) → chosen_row t ≡ o → IsNamed (step_row t o)
  by_row None e = tt
  by_row (Some r) e = by_ratio r _ e (ratios r (chosen_row_in t r e).0)

  named : IsNamed (step_of t)
  unfolding step_of
  named = by_row (chosen_row t) refl

-- ---- in the run of a line of a program
abbrev pub IsNamedStep : ℕ → ℕ → Step → Type 0
IsNamedStep rows columns steps.Optimal = Unit {0}
IsNamedStep rows columns (steps.Infeasible r) = Unit {0}
IsNamedStep rows columns (steps.Pivoted r j) = Unit {0}
IsNamedStep rows columns (steps.Wide true w) = IsRatioIn rows columns w
IsNamedStep rows columns (steps.Wide false w) = IsCellIn rows columns w

module _ (rows columns : ℕ) (t : Tableau) (shaped : IsShaped t) (height_is : height t ≡ rows) (width_is : tableaus.width t ≡ columns) where
  step_of_program : (s : Step) → IsNamed t shaped s → IsNamedStep rows columns s
  step_of_program steps.Optimal h = tt
  step_of_program (steps.Infeasible r) h = tt
  step_of_program (steps.Pivoted r j) h = tt
  step_of_program (steps.Wide true w) h = (subst (λ n. w.row < n) height_is h.0, subst (λ n. w.col < n) width_is h.1)
  step_of_program (steps.Wide false w) h = (subst (λ n. w.row ≤ n) height_is h.0, subst (λ n. w.col ≤ n) width_is h.1)

pub step_named : {T W : Type 0} (p : Program T W) (line : BoxLine) → p.IsSound → (k : ℕ) → IsNamedStep (length p.names) p.columns (step_at p line k)
step_named p line v k =
    let t = table_after p line k in
    let shaped = (run_dual p line v k).shaped in
    step_of_program (length p.names) p.columns t shaped (run_height p line v k) (run_width p line v k) (step_at p line k) (named t shaped)
