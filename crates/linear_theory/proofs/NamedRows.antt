-- The point of a good timing of the box meets every row that the artery has.
use Rattle.std.proofs.Common.{◌≡◌, List, refl, sym, true≢false}
use Rattle.std.specs.Prelude.{Option, None, Some, IsSome}
use Rattle.rational_theory.specs.Rational.{ℚ}
use Rattle.rational_theory.specs.Rows.{IsMet}
use Rattle.progression.specs.Street.{Street}
use Rattle.progression.specs.Speeds.{change}
use Rattle.progression.specs.TimingRecord.{TimingRecord}
use Rattle.progression.specs.Columns.{point}
use Rattle.progression.specs.declared.parts.Pair.{Pair}
use Rattle.linear_theory.specs.Boxes.{Area}
use Rattle.linear_theory.specs.Rows.{Form, line, rise_form, drop_form}
use Rattle.linear_theory.specs.Names.{Name, WaitRow, FastRow, SlowRow, RiseRow, DropRow, CycleLowRow, CycleHighRow, RatioRow, LoopLowRow, LoopHighRow}
use Rattle.linear_theory.specs.Names.{TurnLowRow, TurnHighRow, LeastRow, EqualLowRow, EqualHighRow, NoRow, HasRow, limits_form, form_of}
use Rattle.linear_theory.specs.Counts.{Counts, IsGoodPoint}
use Rattle.linear_theory.proofs.RowLaws.{wait_law, fast_law, slow_law, rise_law, drop_law, cycle_low_law, cycle_high_law, ratio_law, least_law, equal_low_law, equal_high_law}
use Rattle.linear_theory.proofs.BoxRowLaws.{loop_low_law, loop_high_law, turn_low_law, turn_high_law}

module _ (a : Street) (box : Area) (t : TimingRecord) (c : Counts a box t) where
  -- where limits are given, the row is theirs
  limits_law : (f : Pair → Form) (o : Option Pair) → IsSome o → ((m : Pair) → o ≡ Some m → IsMet (point a t) (line a (f m))) → IsMet (point a t) (line a (limits_form f o))
  limits_law f None g h = absurd (true≢false (sym g))
  limits_law f (Some m) g h = h m refl

  -- each of the artery's rows is met
  pub row_law : (n : Name) → HasRow a n → IsMet (point a t) (line a (form_of a box n))
  row_law (WaitRow d i) h = wait_law a t c.street c.good d i h
  row_law (FastRow d i) h = fast_law a t c.street c.good d i h
  row_law (SlowRow d i) h = slow_law a t c.street c.good d i h
  row_law (RiseRow d i) h = limits_law (rise_form a d i) (change a d i) h.2 (λ m e. rise_law a t c.street c.good i h.0 h.1 m d e)
  row_law (DropRow d i) h = limits_law (drop_form a d i) (change a d i) h.2 (λ m e. drop_law a t c.street c.good i h.0 h.1 m d e)
  row_law (CycleLowRow i) h = cycle_low_law a t c.street c.good
  row_law (CycleHighRow i) h = cycle_high_law a t c.street c.good
  row_law (RatioRow i) h = ratio_law a t c.street c.good h.1
  row_law (LoopLowRow i) h = loop_low_law a box t c i h
  row_law (LoopHighRow i) h = loop_high_law a box t c i h
  row_law (TurnLowRow i) h = turn_low_law a box t c i h
  row_law (TurnHighRow i) h = turn_high_law a box t c i h
  row_law (LeastRow d i) h = least_law a t c.street c.good d
  row_law (EqualLowRow i) h = equal_low_law a t c.street c.good h.1
  row_law (EqualHighRow i) h = equal_high_law a t c.street c.good h.1
  row_law NoRow h = absurd h

-- so does each point that counts
pub row_at_point : (a : Street) (box : Area) (x : List ℚ) → IsGoodPoint a box x → (n : Name) → HasRow a n → IsMet x (line a (form_of a box n))
row_at_point a box x p n h = rw p.is (row_law a box p.timing p.counts n h)
