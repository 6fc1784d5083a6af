-- Lemmas on the definitions of `RowLists`.
use Rattle.std.proofs.Common.{◌≡◌, ℕ, zero, suc, pos, List, [], ◌∷◌, length, get_or, ◌+◌, ◌<◌, ◌≤◌, refl, sym, ◌∙◌, ap, subst, arith}
use Rattle.rational_theory.specs.Rational.{ℚ, whole, ◌*ℚ◌, ◌≤ℚ◌}
use Rattle.rational_theory.specs.Rows.{Row, dot, IsMet, AllMet, AllNonNegative}
use Rattle.simplex_theory.specs.Tableau.{Tableau, height, width, bound, exchange, IsShaped, IsPlace}
use Rattle.simplex_theory.proofs.Tableau.{height-exchange, width-exchange}
use Rattle.simplex_theory.specs.DualSteps.{IsDual}
use Rattle.simplex_theory.proofs.DualSteps.{place_of}
use Rattle.simplex_theory.specs.BlandRule.{Move, optimal, infeasible, pivoted, move, made, Says}
use Rattle.simplex_theory.proofs.BlandRule.{says}
use Rattle.simplex_theory.specs.StepCounts.{after}
use Rattle.simplex_theory.proofs.StepCounts.{next_is, dual_after}
use Rattle.simplex_theory.specs.Vertices.{vertex}
use Rattle.simplex_theory.specs.Totals.{total}
use Rattle.simplex_theory.proofs.Totals.{total_same, dot_total_lists}
use Rattle.simplex_theory.proofs.Multipliers.{stands-exchange}
use Rattle.simplex_theory.proofs.Loaded.{vertex_low, vertex_rows, vertex_goal}
use Rattle.simplex_theory.specs.RowLists.{row_at, system_of, StandsForRows, columns_from, vertex_point, IsOptimalPoint}

pub length-columns_from : (f : ℕ → ℚ) (c n : ℕ) → length (columns_from f c n) ≡ n
length-columns_from f c zero = refl
length-columns_from f c (suc n) = ap suc (length-columns_from f (suc c) n)

pub columns_from_at : (f : ℕ → ℚ) (c n k : ℕ) → k < n → get_or (columns_from f c n) k (whole (pos 0)) ≡ f (c + k)
columns_from_at f c zero k h = absurd (omega arith)
columns_from_at f c (suc n) zero h = let e : c ≡ c + 0 = omega arith in ap f e
columns_from_at f c (suc n) (suc k) h = let e : suc c + k ≡ c + suc k = omega arith in columns_from_at f (suc c) n k (omega arith) ∙ ap f e

-- a sum at such a point
pub dot-columns : (f : ℕ → ℚ) (n : ℕ) (c : List ℚ) → length c ≤ n → dot c (columns_from f 0 n) ≡ total (λ k. get_or c k (whole (pos 0)) *ℚ f k) n
dot-columns f n c h =
    let l = length-columns_from f 0 n in
    dot_total_lists c (columns_from f 0 n) (omega arith)
    ∙ ap (total (λ k. get_or c k (whole (pos 0)) *ℚ get_or (columns_from f 0 n) k (whole (pos 0)))) l
    ∙ total_same _ _ n (λ k p. let e : 0 + k ≡ k = omega arith in ap (λ x. get_or c k (whole (pos 0)) *ℚ x) (columns_from_at f 0 n k p ∙ ap f e))

columns_not_negative : (f : ℕ → ℚ) (c n : ℕ) → ((v : ℕ) → whole (pos 0) ≤ℚ f v) → AllNonNegative (columns_from f c n)
columns_not_negative f c zero h = tt
columns_not_negative f c (suc n) h = (h c, columns_not_negative f (suc c) n h)

all_met_from : (x : List ℚ) (rows : List Row) → ((r : ℕ) → r < length rows → IsMet x (row_at rows r)) → AllMet x rows
all_met_from x [] h = tt
all_met_from x (r ∷ rs) h = (h 0 (omega arith), all_met_from x rs (λ i l. h (suc i) (omega arith)))

pub optimal_point : (t : Tableau) (rows : List Row) (goal : List ℚ) → IsDual t → StandsForRows t rows goal → ((i : ℕ) → i < height t → whole (pos 0) ≤ℚ bound t i)
    → IsOptimalPoint t rows goal (vertex_point t)
unfolding vertex_point
optimal_point t rows goal d s h = record {
  not_negative = columns_not_negative (vertex t) 0 (width t) (λ v. vertex_low t v d h);
  met = all_met_from _ rows (λ r l.
      let k = subst (λ n. r < n) s.shape.count l in
      record {
        met = subst (λ u. u ≤ℚ (row_at rows r).bound) (sym (dot-columns (vertex t) (width t) (row_at rows r).coefs (s.shape.coefs r k)))
            (vertex_rows t (system_of rows goal) r d s.stands h k);
      });
  goal_value = dot-columns (vertex t) (width t) goal s.shape.goals ∙ vertex_goal t (system_of rows goal) d s.stands;
}

-- ---- along exchanges and steps
pub rows_stand-exchange : (r j : ℕ) (t : Tableau) (rows : List Row) (goal : List ℚ) → IsShaped t → IsPlace t r j → StandsForRows t rows goal → StandsForRows (exchange r j t) rows goal
rows_stand-exchange r j t rows goal h p s = record {
  shape = rw (height-exchange r j t, width-exchange r j t) s.shape;
  stands = stands-exchange r j t (system_of rows goal) h p s.stands;
}

rows_stand_made : (t : Tableau) (m : Move) (rows : List Row) (goal : List ℚ) → IsDual t → Says t m → StandsForRows t rows goal → StandsForRows (made m t) rows goal
rows_stand_made t optimal rows goal d h s = s
rows_stand_made t (infeasible r) rows goal d h s = s
rows_stand_made t (pivoted r j) rows goal d h s = rows_stand-exchange r j t rows goal d.shaped (place_of t r j h) s

pub rows_stand_after : (t : Tableau) (rows : List Row) (goal : List ℚ) (k : ℕ) → IsDual t → StandsForRows t rows goal → StandsForRows (after t k) rows goal
unfolding after
rows_stand_after t rows goal zero d s = s
rows_stand_after t rows goal (suc k) d s =
    subst (λ u. StandsForRows u rows goal) (sym (next_is (after t k)))
    (rows_stand_made (after t k) (move (after t k)) rows goal (dual_after t k d) (says (after t k)) (rows_stand_after t rows goal k d s))
