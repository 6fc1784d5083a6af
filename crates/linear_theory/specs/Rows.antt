-- The families of rows: each row says that a sum of columns, each times its number, is at most the bound.
use Rattle.std.specs.Prelude.{ℕ, ◌+◌, negsuc, List, [], ◌∷◌, ◌++◌, replicate, slice_set, if◌then◌else◌}
use Rattle.std.specs.Ordering.{is_lt}
use Rattle.rational_theory.specs.Rational.{ℚ, whole, neg_ℚ, inverse_ℚ, ◌-ℚ◌, ◌/ℚ◌}
use Rattle.rational_theory.specs.Compare.{cmp_ℚ}
use Rattle.rational_theory.specs.Rows as maths
use Rattle.progression.specs.Street.{Street, count, distance, least_band}
use Rattle.progression.specs.Speeds.{number, run_low, run_high}
use Rattle.progression.specs.Columns.{Column, BandOf, Frequency, WaitOf, RunOf, ShiftOf}
use Rattle.progression.specs.declared.parts.Pair.{Pair}
use Rattle.progression.specs.declared.parts.Dir.{Dir}
use Rattle.progression.specs.declared.parts.Dir.TheVariants.{Outbound, Inbound}
use Rattle.linear_theory.specs.Places.{place, width}
use Rattle.linear_theory.specs.Shifts.{shift_at}
use Rattle.linear_theory.specs.Blocks.{part, green_part, red_here, clear_next, clear_here}
use Rattle.linear_theory.specs.Boxes.{Area, loop_span, turn_span}

-- ---- rows of any width
-- a column's place, from 0, and its number
abbrev pub Cell : Type 0
Cell = ℕ × ℚ

-- the cells put into a row
abbrev pub placed : List ℚ → List Cell → List ℚ
placed xs [] = xs
placed xs (c ∷ cs) = placed (slice_set xs c.0 c.1) cs

-- a row of so many columns: 0 in all that no cell names
abbrev pub placed_row : ℕ → List Cell → ℚ → maths.Row
placed_row width cs bound = record { coefs = placed (replicate width (number 0)) cs; bound = bound }

-- a row with so many further columns, in which it is 0
abbrev pub widened : ℕ → maths.Row → maths.Row
widened further r = record { coefs = r.coefs ++ replicate further (number 0); bound = r.bound }

-- ---- those of an artery's columns
-- a column and its number
abbrev pub Entry : Type 0
Entry = Column × ℚ

-- a row as it is written: its entries in the order of their columns, and its bound
pub record Form : Type 0 where
  pub entries : List Entry
  pub bound : ℚ

-- the entries by the places of their columns among those of n signals
abbrev pub places_of : ℕ → List Entry → List Cell
places_of n [] = []
places_of n (e ∷ es) = (place n e.0, e.1) ∷ places_of n es

-- the row of a form: 0 in all columns that it does not name
abbrev pub line : Street → Form → maths.Row
line a f = placed_row (width (count a)) (places_of (count a) f.entries) f.bound

abbrev pub minus_one : ℚ
minus_one = whole (negsuc 0)

-- ---- one signal or link in one direction
-- the band fits into the green
abbrev pub wait_form : Street → Dir → ℕ → Form
wait_form a d i = record { entries = (BandOf d, number 1) ∷ (WaitOf d i, number 1) ∷ []; bound = green_part a d i }

-- the run at the greatest speed
abbrev pub fast_form : Street → Dir → ℕ → Form
fast_form a d i = record { entries = (Frequency, run_low a d i) ∷ (RunOf d i, minus_one) ∷ []; bound = number 0 }

-- the run at the least
abbrev pub slow_form : Street → Dir → ℕ → Form
slow_form a d i = record { entries = (Frequency, neg_ℚ (run_high a d i)) ∷ (RunOf d i, number 1) ∷ []; bound = number 0 }

-- one over a distance
abbrev pub one_over : Street → Dir → ℕ → ℚ
one_over a d i = number 1 /ℚ number (distance a d i)

-- the pace rises by at most the limit
abbrev pub rise_form : Street → Dir → ℕ → Pair → Form
rise_form a d i c = record { entries = (Frequency, neg_ℚ c.most) ∷ (RunOf d i, neg_ℚ (one_over a d i)) ∷ (RunOf d (i + 1), one_over a d (i + 1)) ∷ []; bound = number 0 }

-- and drops by at most the other
abbrev pub drop_form : Street → Dir → ℕ → Pair → Form
drop_form a d i c = record { entries = (Frequency, c.least) ∷ (RunOf d i, one_over a d i) ∷ (RunOf d (i + 1), neg_ℚ (one_over a d (i + 1))) ∷ []; bound = number 0 }

-- ---- the cycle and the bands
-- at most the greatest cycle
abbrev pub cycle_low_form : Street → Form
cycle_low_form a = record { entries = (Frequency, minus_one) ∷ []; bound = neg_ℚ (inverse_ℚ a.head.cycle.most) }

-- at least the least cycle
abbrev pub cycle_high_form : Street → Form
cycle_high_form a = record { entries = (Frequency, number 1) ∷ []; bound = inverse_ℚ a.head.cycle.least }

-- the ratio of the bands, where it is below 1
abbrev pub ratio_below_form : Street → Form
ratio_below_form a = record { entries = (BandOf Outbound, a.head.ratio) ∷ (BandOf Inbound, minus_one) ∷ []; bound = number 0 }

-- where it is above
abbrev pub ratio_above_form : Street → Form
ratio_above_form a = record { entries = (BandOf Outbound, neg_ℚ a.head.ratio) ∷ (BandOf Inbound, number 1) ∷ []; bound = number 0 }

-- there is such a row where it is not 1
abbrev pub ratio_form : Street → Form
ratio_form a = if is_lt (cmp_ℚ a.head.ratio (number 1)) then ratio_below_form a else ratio_above_form a

-- each band is at least as wide as the artery asks
abbrev pub least_form : Street → Dir → Form
least_form a d = record { entries = (BandOf d, minus_one) ∷ []; bound = neg_ℚ (least_band a d) }

-- the outbound band is at most the inbound one, where they have to be equal
abbrev pub equal_low_form : Form
equal_low_form = record { entries = (BandOf Outbound, number 1) ∷ (BandOf Inbound, minus_one) ∷ []; bound = number 0 }

-- and at least
abbrev pub equal_high_form : Form
equal_high_form = record { entries = (BandOf Outbound, minus_one) ∷ (BandOf Inbound, number 1) ∷ []; bound = number 0 }

-- ---- the box
-- the columns of a block sum, those that are added with one number, those that are taken away with the other
abbrev pub block_entries : ℕ → ℚ → ℚ → List Entry
block_entries i added taken =
    (WaitOf Outbound i, added) ∷ (WaitOf Outbound (i + 1), taken) ∷ (WaitOf Inbound i, added) ∷ (WaitOf Inbound (i + 1), taken)
    ∷ (RunOf Outbound i, added) ∷ (RunOf Inbound i, added) ∷ (ShiftOf i, added) ∷ (ShiftOf (i + 1), taken) ∷ []

-- the part of a block sum that no column stands for
abbrev pub constant : Street → ℕ → ℚ
constant a i = red_here a i -ℚ red_here a (i + 1) -ℚ clear_next a i -ℚ clear_here a i

-- the block sum is at least the span's least number, and at most its greatest
abbrev pub loop_low_form : Street → Area → ℕ → Form
loop_low_form a box i = record { entries = block_entries i minus_one (number 1); bound = constant a i -ℚ whole (loop_span box i).least }

abbrev pub loop_high_form : Street → Area → ℕ → Form
loop_high_form a box i = record { entries = block_entries i (number 1) minus_one; bound = whole (loop_span box i).most -ℚ constant a i }

-- the shift is at least that of the least rank, and at most that of the greatest
abbrev pub turn_low_form : Street → Area → ℕ → Form
turn_low_form a box i = record { entries = (ShiftOf i, minus_one) ∷ []; bound = neg_ℚ (part a (shift_at a i (turn_span box i).least)) }

abbrev pub turn_high_form : Street → Area → ℕ → Form
turn_high_form a box i = record { entries = (ShiftOf i, number 1) ∷ []; bound = part a (shift_at a i (turn_span box i).most) }

-- ---- the goal
-- the weighted band: 1 at the outbound band, the ratio at the inbound band
abbrev pub goal_form : Street → Form
goal_form a = record { entries = (BandOf Outbound, number 1) ∷ (BandOf Inbound, a.head.ratio) ∷ []; bound = number 0 }
