-- The rows that keep each link's band within the greens at its two ends, that of the ratio on each link, and the goal.
use Rattle.std.specs.Prelude.{ℕ, ◌+◌, ◌-◌, List, [], ◌∷◌, ◌++◌, replicate, if◌then◌else◌}
use Rattle.std.specs.Ordering.{is_lt}
use Rattle.rational_theory.specs.Rational.{ℚ, neg_ℚ, ◌*ℚ◌}
use Rattle.rational_theory.specs.Compare.{cmp_ℚ}
use Rattle.rational_theory.specs.Rows as maths
use Rattle.progression.specs.Street.{Street, count}
use Rattle.progression.specs.Speeds.{number}
use Rattle.progression.specs.Columns.{WaitOf}
use Rattle.progression.specs.declared.parts.Dir.{Dir}
use Rattle.progression.specs.declared.parts.Dir.TheVariants.{Outbound, Inbound}
use Rattle.linear_theory.specs.Places.{place, width}
use Rattle.linear_theory.specs.Blocks.{green_part}
use Rattle.linear_theory.specs.Rows.{Cell, placed_row, minus_one}
use Rattle.link_theory.specs.declared.ends.LinkEnd.{LinkEnd}
use Rattle.link_theory.specs.declared.ends.LinkEnd.TheVariants.{Here, Next}
use Rattle.link_theory.specs.LinkColumns.{link_width, half_place}

-- the signal at an end of link i
abbrev pub signal_at : LinkEnd → ℕ → ℕ
signal_at Here i = i
signal_at Next i = i + 1

-- a number at the wait at an end, and one at the half
abbrev pub end_cells : Street → Dir → LinkEnd → ℕ → ℚ → ℚ → List Cell
end_cells a d e i at_wait at_half = let n = count a in (place n (WaitOf d (signal_at e i)), at_wait) ∷ (half_place n d i, at_half) ∷ []

-- one at each half of a link
abbrev pub half_cells : Street → ℕ → ℚ → ℚ → List Cell
half_cells a i at_out at_in = let n = count a in (half_place n Outbound i, at_out) ∷ (half_place n Inbound i, at_in) ∷ []

-- ---- forms
-- a row as it is written: its cells in the order of their places, and its bound
pub record LinkForm : Type 0 where
  pub cells : List Cell
  pub bound : ℚ

-- the row of a form: 0 in all columns that it does not name
abbrev pub link_line : Street → LinkForm → maths.Row
link_line a f = placed_row (link_width (count a)) f.cells f.bound

-- the half is at most the wait at the end
abbrev pub near_form : Street → Dir → LinkEnd → ℕ → LinkForm
near_form a d e i = record { cells = end_cells a d e i minus_one (number 1); bound = number 0 }

-- wait and half fit into the green there
abbrev pub far_form : Street → Dir → LinkEnd → ℕ → LinkForm
far_form a d e i = record { cells = end_cells a d e i (number 1) (number 1); bound = green_part a d (signal_at e i) }

-- the ratio of the link's halves, where it is below 1
abbrev pub link_below_form : Street → ℕ → LinkForm
link_below_form a i = record { cells = half_cells a i a.head.ratio minus_one; bound = number 0 }

-- where it is above
abbrev pub link_above_form : Street → ℕ → LinkForm
link_above_form a i = record { cells = half_cells a i (neg_ℚ a.head.ratio) (number 1); bound = number 0 }

-- there is such a row where it is not 1
abbrev pub link_ratio_form : Street → ℕ → LinkForm
link_ratio_form a i = if is_lt (cmp_ℚ a.head.ratio (number 1)) then link_below_form a i else link_above_form a i

-- ---- the goal
-- the value: 2 at each outbound half, twice the ratio at each inbound half, and 0 elsewhere
abbrev pub link_goal : Street → List ℚ
link_goal a = let n = count a in
    replicate (width n) (number 0) ++ (replicate (n - 1) (number 2) ++ replicate (n - 1) (number 2 *ℚ a.head.ratio))
