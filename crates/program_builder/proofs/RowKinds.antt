-- The rows that the pivots of the start change, the waits' and those of the bands alone, have small numbers; no other row has a band.
use Rattle.std.proofs.Common.{ℕ, ℤ, pos, negsuc, ◌-◌, ◌<◌, ◌≤◌, ◌⊎◌, inl, inr, unsigned_abs, Bool, true, false, Option, None, Some, arith, if◌then◌else◌}
use Rattle.std.proofs.lemmas.Int.{ints}
use Rattle.std.specs.Ordering.{is_lt}
use Rattle.rational_theory.specs.Rational.{ℚ, whole, neg_ℚ}
use Rattle.rational_theory.specs.Compare.{cmp_ℚ}
use Rattle.rational_theory.specs.laws.Fractions.{abs-neg_ℤ}
use Rattle.rational_theory.proofs.Lowest.{num_size, den_size}
use Rattle.progression.specs.Street.{Street, count, HasSignal, signal_of, red_parts, no_signal, least_band}
use Rattle.progression.specs.Speeds.{number, change}
use Rattle.progression.specs.declared.parts.Pair.{Pair}
use Rattle.progression.specs.declared.parts.Dir.{Dir}
use Rattle.progression.specs.declared.parts.Dir.TheVariants.{Outbound, Inbound}
use Rattle.artery_model.specs.Valid.{IsValid, IsSignal}
use Rattle.linear_theory.specs.Places.{place}
use Rattle.linear_theory.specs.Blocks.{green_part}
use Rattle.linear_theory.specs.Boxes.{Area}
use Rattle.linear_theory.specs.Rows.{Form, wait_form, ratio_form, ratio_below_form, ratio_above_form, rise_form, drop_form, least_form, equal_low_form, equal_high_form, goal_form}
use Rattle.linear_theory.proofs.RowNumbers.{green_part_is}
use Rattle.linear_theory.specs.Names.{Name, WaitRow, FastRow, SlowRow, RiseRow, DropRow, CycleLowRow, CycleHighRow, RatioRow, LoopLowRow, LoopHighRow}
use Rattle.linear_theory.specs.Names.{TurnLowRow, TurnHighRow, LeastRow, EqualLowRow, EqualHighRow, NoRow, HasRow, name_of, form_of, limits_form}
use Rattle.program_builder.proofs.LineCells.{AllEntries}

-- a fraction whose two numbers are n at most
pub record IsUpTo (n : ℕ) (x : ℚ) : Type 0 where
  pub num : unsigned_abs x.num ≤ n
  pub den : x.den ≤ n

-- the numbers of a description are that small
abbrev pub IsSmall : ℚ → Type 0
IsSmall x = IsUpTo 100000 x

-- neither band is among the columns
abbrev pub HasNoBand : ℕ → Form → Type 0
HasNoBand n f = AllEntries (λ e. 2 ≤ place n e.0) f.entries

pub record IsSmallForm (f : Form) : Type 0 where
  pub entries : AllEntries (λ e. IsSmall e.1) f.entries
  pub bound : IsSmall f.bound

pub small_whole : (z : ℤ) → unsigned_abs z ≤ 100000 → IsSmall (whole z)
unfolding whole
small_whole z h = record { num = h; den = omega arith }

pub up_to_neg : (n : ℕ) (x : ℚ) → IsUpTo n x → IsUpTo n (neg_ℚ x)
unfolding neg_ℚ
up_to_neg n x h = record { num = rw (abs-neg_ℤ x.num) h.num; den = h.den }

module _ (a : Street) (v : IsValid a) where
  signal_valid : (i : ℕ) → HasSignal a i → IsSignal a.head.parts (signal_of a i)
  signal_valid i h = let l = h.0 in let m = h.1 in v.each_signal (i - 1) no_signal (omega arith)

  pub some_green : (d : Dir) (i : ℕ) → HasSignal a i → red_parts a d i < a.head.parts
  some_green Outbound i h = (signal_valid i h).green_out
  some_green Inbound i h = (signal_valid i h).green_in

  small_green : (d : Dir) (i : ℕ) → HasSignal a i → IsSmall (green_part a d i)
  small_green d i h =
      let n = a.head.parts in
      let p = v.least_parts in
      let q = v.most_parts in
      let s = num_size (pos (n - red_parts a d i)) n (omega arith) in
      let t = den_size (pos (n - red_parts a d i)) n (omega arith) in
      rw (green_part_is a d i (some_green d i h)) (record { num = omega (arith, ints, s); den = omega arith })

  pub small_ratio : IsSmall a.head.ratio
  small_ratio = record { num = v.ratio.num; den = let l = v.ratio.den in omega arith }

  small_one : IsSmall (number 1)
  small_one = small_whole (pos 1) (omega arith)

  pub small_zero : IsSmall (number 0)
  small_zero = small_whole (pos 0) (omega arith)

  small_minus : IsSmall (whole (negsuc 0))
  small_minus = small_whole (negsuc 0) (omega arith)

  pub small_wait : (d : Dir) (i : ℕ) → HasSignal a i → IsSmallForm (wait_form a d i)
  small_wait d i h = record { entries = (small_one, (small_one, tt)); bound = small_green d i h }

  pub small_goal : IsSmallForm (goal_form a)
  small_goal = record { entries = (small_one, (small_ratio, tt)); bound = small_zero }

  small_ratio_form : IsSmallForm (ratio_form a)
  small_ratio_form = pick (is_lt (cmp_ℚ a.head.ratio (number 1)))
    where
      pick : (b : Bool) → IsSmallForm (if b then ratio_below_form a else ratio_above_form a)
      pick true = record { entries = (small_ratio, (small_minus, tt)); bound = small_zero }
      pick false = record { entries = (up_to_neg 100000 a.head.ratio small_ratio, (small_one, tt)); bound = small_zero }

  small_least_band : (d : Dir) → IsSmall (least_band a d)
  small_least_band Outbound = record { num = v.least_out.num; den = let l = v.least_out.den in omega arith }
  small_least_band Inbound = record { num = v.least_in.num; den = let l = v.least_in.den in omega arith }

  small_least : (d : Dir) → IsSmallForm (least_form a d)
  small_least d = record { entries = (small_minus, tt); bound = up_to_neg 100000 (least_band a d) (small_least_band d) }

  small_equal_low : IsSmallForm equal_low_form
  small_equal_low = record { entries = (small_one, (small_minus, tt)); bound = small_zero }

  small_equal_high : IsSmallForm equal_high_form
  small_equal_high = record { entries = (small_minus, (small_one, tt)); bound = small_zero }

  no_band_limits : (f : Pair → Form) (o : Option Pair) → ((c : Pair) → HasNoBand (count a) (f c)) → HasNoBand (count a) (limits_form f o)
  no_band_limits f None h = tt
  no_band_limits f (Some c) h = h c

  no_band_rise : (d : Dir) (i : ℕ) (c : Pair) → HasNoBand (count a) (rise_form a d i c)
  no_band_rise Outbound i c = (omega arith, (omega arith, (omega arith, tt)))
  no_band_rise Inbound i c = let n = v.few in (omega arith, (omega arith, (omega arith, tt)))

  no_band_drop : (d : Dir) (i : ℕ) (c : Pair) → HasNoBand (count a) (drop_form a d i c)
  no_band_drop Outbound i c = (omega arith, (omega arith, (omega arith, tt)))
  no_band_drop Inbound i c = let n = v.few in (omega arith, (omega arith, (omega arith, tt)))

  kind_of_name : (box : Area) (n : Name) → HasRow a n → HasNoBand (count a) (form_of a box n) ⊎ IsSmallForm (form_of a box n)
  kind_of_name box (WaitRow d i) h = inr (small_wait d i h)
  kind_of_name box (FastRow Outbound i) h = inl (omega arith, (omega arith, tt))
  kind_of_name box (FastRow Inbound i) h = let n = v.few in inl (omega arith, (omega arith, tt))
  kind_of_name box (SlowRow Outbound i) h = inl (omega arith, (omega arith, tt))
  kind_of_name box (SlowRow Inbound i) h = let n = v.few in inl (omega arith, (omega arith, tt))
  kind_of_name box (RiseRow d i) h = inl (no_band_limits (rise_form a d i) (change a d i) (no_band_rise d i))
  kind_of_name box (DropRow d i) h = inl (no_band_limits (drop_form a d i) (change a d i) (no_band_drop d i))
  kind_of_name box (CycleLowRow i) h = inl (omega arith, tt)
  kind_of_name box (CycleHighRow i) h = inl (omega arith, tt)
  kind_of_name box (RatioRow i) h = inr small_ratio_form
  kind_of_name box (LoopLowRow i) h =
      let n = v.few in inl (omega arith, (omega arith, (omega arith, (omega arith, (omega arith, (omega arith, (omega arith, (omega arith, tt))))))))
  kind_of_name box (LoopHighRow i) h =
      let n = v.few in inl (omega arith, (omega arith, (omega arith, (omega arith, (omega arith, (omega arith, (omega arith, (omega arith, tt))))))))
  kind_of_name box (TurnLowRow i) h = inl (omega arith, tt)
  kind_of_name box (TurnHighRow i) h = inl (omega arith, tt)
  kind_of_name box (LeastRow d i) h = inr (small_least d)
  kind_of_name box (EqualLowRow i) h = inr small_equal_low
  kind_of_name box (EqualHighRow i) h = inr small_equal_high
  kind_of_name box NoRow h = absurd h

  pub kind_of_row : (box : Area) (f i : ℕ) → HasRow a (name_of f i) → HasNoBand (count a) (form_of a box (name_of f i)) ⊎ IsSmallForm (form_of a box (name_of f i))
  kind_of_row box f i h = kind_of_name box (name_of f i) h
