-- The dual ratios with their refusals: at each place with a negative cell, the goal cell over the negated cell.
use Rattle.std.proofs.Common.{◌≡◌, ℕ, pos, true, cond, Option, Some, None, Result, Ordering, ◌<◌}
use Rattle.rational_theory.specs.Rational.{whole, neg_ℚ, ◌/ℚ◌, ◌<ℚ◌}
use Rattle.rational_theory.specs.Compare.{cmp_ℚ}
use Rattle.simplex_theory.specs.Tableau.{Tableau, cell, goal_cell, width}
use Rattle.simplex_theory.specs.BlandRule.{is_negative}
use Rattle.narrow_fraction.specs.Attempt.{attempt, first_below}
use Rattle.narrow_fraction.specs.declared.wide.Op.TheVariants.{Div}
use Rattle.fraction_tableau.specs.Refusals.{refused}
use Rattle.fraction_tableau.specs.declared.wide_cell.WideCell.{WideCell}
use Rattle.dual_simplex.specs.declared.choose.Chosen.{Chosen}

-- the refusal of the ratio at place k of row r
abbrev pub ratio_at : Tableau → ℕ → ℕ → Option WideCell
ratio_at t r k = cond (is_negative (cell t r k)) (refused Div (goal_cell t k) (neg_ℚ (cell t r k)) r k) None

-- the first refused ratio of row r
unfoldable pub ratio_refusal : Tableau → ℕ → Option WideCell
ratio_refusal t r = first_below (ratio_at t r) (width t)

-- a place with its cells in the goal row and in the row
abbrev pub with_cells : Tableau → ℕ → Option ℕ → Option Chosen
with_cells t r None = None
with_cells t r (Some j) = Some (record { place = j; goal = goal_cell t j; cell = cell t r j })

abbrev pub place_of : Option Chosen → Option ℕ
place_of None = None
place_of (Some b) = Some b.place

-- a place of a negative cell, with its cells, whose ratio was not refused
pub record IsChosen (t : Tableau) (r : ℕ) (c : Chosen) : Type 0 where
  pub place : c.place < width t
  pub goal_is : c.goal ≡ goal_cell t c.place
  pub cell_is : c.cell ≡ cell t r c.place
  pub negative : is_negative (cell t r c.place) ≡ true
  pub passed : ratio_at t r c.place ≡ None

-- two places of negative cells of row r, where the ratio of the second was not refused
pub record CanCompare (r : ℕ) (next best : Chosen) : Type 0 where
  pub next_negative : next.cell <ℚ whole (pos 0)
  pub best_negative : best.cell <ℚ whole (pos 0)
  pub passed : refused Div best.goal (neg_ℚ best.cell) r best.place ≡ None

-- how the ratio of the first compares with that of the second, or its refusal
abbrev pub Compares : ℕ → Chosen → Chosen → Result Ordering WideCell → Type 0
Compares r next best result =
    result ≡ attempt (refused Div next.goal (neg_ℚ next.cell) r next.place) (cmp_ℚ (next.goal /ℚ neg_ℚ next.cell) (best.goal /ℚ neg_ℚ best.cell))
