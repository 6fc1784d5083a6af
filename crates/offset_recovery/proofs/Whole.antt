-- The outcome, from the tests in their order; and what they say of the vertex.
use Rattle.std.proofs.Common.{◌≡◌, ℕ, zero, suc, ◌+◌, ◌-◌, ◌<◌, ◌⊎◌, inl, inr, List, Option, Some, None, Bool, true, false, refl, ap, subst, arith}
use Rattle.std.specs.Prelude.{not, option_map, unwrap_or}
use Rattle.progression.specs.TimingRecord.{TimingRecord}
use Rattle.rational_theory.specs.Rational.{ℚ}
use Rattle.rational_theory.specs.Floor.{floor_ℚ}
use Rattle.narrow_fraction.specs.Attempt.{earlier, refusal_if, first_below}
use Rattle.narrow_fraction.proofs.Attempt.{neither, none_each}
use Rattle.progression.specs.Street.{Street, count, HasSignal, HasLink}
use Rattle.progression.specs.Columns.{ShiftOf}
use Rattle.linear_theory.specs.Places.{place}
use Rattle.linear_theory.specs.Blocks.{block_sum}
use Rattle.linear_theory.specs.Boxes.{Area, IsBoxOf}
use Rattle.linear_theory.specs.Counts.{IsStreet}
use Rattle.recovery_theory.specs.Placing.{timing_of}
use Rattle.recovery_theory.specs.Vertices.{IsVertex, IsLongVertex, IsWhole}
use Rattle.recovery_theory.specs.Splitting.{is_whole_number, is_ranked, rank_below}
use Rattle.recovery_theory.proofs.Kept.{long_vertex}
use Rattle.recovery_theory.proofs.Inside.{loop_inside, turn_inside, block_is_whole, turn_is_ranked}
use Rattle.search_box.specs.declared.span.At.{At}
use Rattle.search_box.specs.declared.span.At.TheVariants.{Loop, Turn}
use Rattle.search_box.specs.Places.{IsPlace}
use Rattle.loop_rows.specs.Totals.{block_wide}
use Rattle.offset_recovery.specs.declared.outcome.WideTiming.{WideTiming}
use Rattle.offset_recovery.specs.declared.outcome.WideTiming.TheVariants as wide
use Rattle.offset_recovery.specs.Inside.{SplitsInside}
use Rattle.offset_recovery.specs.Outcomes.{Outcome, Refused, Splits, Gives, with_timing}
use Rattle.offset_recovery.specs.Tests.{product_test, link_test, signal_test}
use Rattle.offset_recovery.specs.Recovered.{link_tests, signal_tests, box_tests, number_tests, recovered_by, recovered}

-- ---- the outcome
-- whatever the tests of the numbers are
pub by_first : (a : Street) (box : Area) (x : List ℚ) (numbers : Option WideTiming) (o : Outcome TimingRecord) → box_tests a box x ≡ Some o → recovered_by a box x numbers ≡ o
by_first a box x numbers o h = rw h refl

pub by_wide : (a : Street) (box : Area) (x : List ℚ) (numbers : Option WideTiming) (w : WideTiming) → box_tests a box x ≡ None → numbers ≡ Some w → recovered_by a box x numbers ≡ Refused w
by_wide a box x numbers w h k = rw (h, k) refl

pub by_timing : (a : Street) (box : Area) (x : List ℚ) (numbers : Option WideTiming) → box_tests a box x ≡ None → numbers ≡ None → recovered_by a box x numbers ≡ Gives (timing_of a x)
by_timing a box x numbers h k = rw (h, k) refl

-- ---- nothing splits
kept_true : {E : Type 0} (b : Bool) (e : E) → refusal_if (not b) e ≡ None → b ≡ true
kept_true true e h = refl
kept_true false e h = cc

link_passes : (a : Street) (x : List ℚ) (i : ℕ) → link_test a x i ≡ None → is_whole_number (block_sum a x i) ≡ true
link_passes a x i h =
    kept_true (is_whole_number (block_sum a x i)) (Splits (Loop i (floor_ℚ (block_sum a x i))))
    (neither (option_map (λ w. Refused (wide.Sum i w)) (block_wide a x i)) (refusal_if (not (is_whole_number (block_sum a x i))) (Splits (Loop i (floor_ℚ (block_sum a x i))))) h).1

signal_passes : (a : Street) (box : Area) (x : List ℚ) (i : ℕ) → signal_test a box x i ≡ None → is_ranked a box x i ≡ true
signal_passes a box x i h =
    kept_true (is_ranked a box x i) (Splits (Turn i (rank_below a x i)))
    (neither (option_map Refused (product_test a x (place (count a) (ShiftOf i)))) (refusal_if (not (is_ranked a box x i)) (Splits (Turn i (rank_below a x i)))) h).1

at_link : (a : Street) (x : List ℚ) (i : ℕ) → HasLink a i → link_tests a x ≡ None → link_test a x i ≡ None
at_link a x i k h =
    let l = k.0 in let m = k.1 in
    let e : i - 1 + 1 ≡ i = omega arith in
    subst (λ n. link_test a x n ≡ None) e (none_each (λ j. link_test a x (j + 1)) (count a - 1) h (i - 1) (omega arith))

at_signal : (a : Street) (box : Area) (x : List ℚ) (i : ℕ) → HasSignal a i → signal_tests a box x ≡ None → signal_test a box x i ≡ None
at_signal a box x i k h =
    let l = k.0 in let m = k.1 in
    let e : i - 1 + 1 ≡ i = omega arith in
    subst (λ n. signal_test a box x n ≡ None) e (none_each (λ j. signal_test a box x (j + 1)) (count a) h (i - 1) (omega arith))

pub whole_of : (a : Street) (box : Area) (x : List ℚ) → IsBoxOf a box → box_tests a box x ≡ None → IsWhole a x
whole_of a box x b h =
    let p = neither (link_tests a x) (signal_tests a box x) h in
    record {
      blocks = λ i k. block_is_whole a x i (link_passes a x i (at_link a x i k p.0));
      shifts = λ i k. turn_is_ranked a box x b i k (signal_passes a box x i (at_signal a box x i k p.1));
    }

-- ---- something splits
-- the test that stops
record Found {E : Type 0} (f : ℕ → Option E) (n : ℕ) (e : E) : Type 0 where
  at : ℕ
  below : at < n
  is : f at ≡ Some e

either : {E : Type 0} (b c : Option E) (e : E) → earlier b c ≡ Some e → (b ≡ Some e) ⊎ (c ≡ Some e)
either None c e h = inr h
either (Some d) c e h = inl h

found : {E : Type 0} (f : ℕ → Option E) (n : ℕ) (e : E) → first_below f n ≡ Some e → Found f n e
found f zero e h = cc
found f (suc n) e h = elim (either (first_below f n) (f n) e h) [
  | inl q ↦ let r = found f n e q in record { at = r.at; below = let l = r.below in omega arith; is = r.is }
  | inr q ↦ record { at = n; below = omega arith; is = q }
]

-- the two tests at a link or signal
abbrev pub both_tests : {W : Type 0} → (W → WideTiming) → Option W → Bool → At → Option (Outcome TimingRecord)
both_tests f r b q = earlier (option_map (λ w. Refused (f w)) r) (refusal_if (not b) (Splits q))

-- a place comes from the second
splits_from : {W : Type 0} (f : W → WideTiming) (r : Option W) (b : Bool) (q p : At) → both_tests f r b q ≡ Some (Splits p) → (b ≡ false) × (q ≡ p)
splits_from f None true q p h = cc
splits_from f None false q p h = let e : q ≡ p = cc in (refl, e)
splits_from f (Some w) b q p h = cc

-- a vertex does so inside
pub long_inside : (a : Street) (box : Area) (x : List ℚ) → IsStreet a → IsBoxOf a box → IsLongVertex a box x → SplitsInside a box x
long_inside a box x h b v = record { columns = v.columns; loops = loop_inside a box x h b v; turns = turn_inside a box x h b v }

link_inside : (a : Street) (box : Area) (x : List ℚ) (i : ℕ) (p : At) → SplitsInside a box x → HasLink a i → link_test a x i ≡ Some (Splits p) → IsPlace box p
link_inside a box x i p v k e =
    let s = splits_from (λ w. wide.Sum i w) (block_wide a x i) (is_whole_number (block_sum a x i)) (Loop i (floor_ℚ (block_sum a x i))) p e in
    subst (IsPlace box) s.1 (v.loops i k s.0)

signal_inside : (a : Street) (box : Area) (x : List ℚ) (i : ℕ) (p : At) → SplitsInside a box x → HasSignal a i → signal_test a box x i ≡ Some (Splits p) → IsPlace box p
signal_inside a box x i p v k e =
    let s = splits_from (λ w. w) (product_test a x (place (count a) (ShiftOf i))) (is_ranked a box x i) (Turn i (rank_below a x i)) p e in
    subst (IsPlace box) s.1 (v.turns i k s.0)

pub place_within : (a : Street) (box : Area) (x : List ℚ) (p : At) → SplitsInside a box x → box_tests a box x ≡ Some (Splits p) → IsPlace box p
place_within a box x p v e = elim (either (link_tests a x) (signal_tests a box x) (Splits p) e) [
  | inl q ↦ let f = found (λ j. link_test a x (j + 1)) (count a - 1) (Splits p) q in
      let l = f.below in link_inside a box x (f.at + 1) p v (omega arith, omega arith) f.is
  | inr q ↦ let f = found (λ j. signal_test a box x (j + 1)) (count a) (Splits p) q in
      let l = f.below in signal_inside a box x (f.at + 1) p v (omega arith, omega arith) f.is
]

pub place_inside : (a : Street) (box : Area) (x : List ℚ) (p : At) → IsStreet a → IsBoxOf a box → IsVertex a box x → box_tests a box x ≡ Some (Splits p) → IsPlace box p
place_inside a box x p h b v e = place_within a box x p (long_inside a box x h b (long_vertex a box x v)) e

-- ---- what an outcome says
-- no test of the box gives a timing
no_timing : {W : Type 0} (f : W → WideTiming) (r : Option W) (b : Bool) (q : At) (t : TimingRecord) → both_tests f r b q ≡ Some (Gives t) → ⊥
no_timing f None true q t h = cc
no_timing f None false q t h = cc
no_timing f (Some w) b q t h = cc

box_gives_none : (a : Street) (box : Area) (x : List ℚ) (t : TimingRecord) → box_tests a box x ≡ Some (Gives t) → ⊥
box_gives_none a box x t e = elim (either (link_tests a x) (signal_tests a box x) (Gives t) e) [
  | inl q ↦ let f = found (λ j. link_test a x (j + 1)) (count a - 1) (Gives t) q in let i = f.at + 1 in
      no_timing (λ w. wide.Sum i w) (block_wide a x i) (is_whole_number (block_sum a x i)) (Loop i (floor_ℚ (block_sum a x i))) t f.is
  | inr q ↦ let f = found (λ j. signal_test a box x (j + 1)) (count a) (Gives t) q in let i = f.at + 1 in
      no_timing (λ w. w) (product_test a x (place (count a) (ShiftOf i))) (is_ranked a box x i) (Turn i (rank_below a x i)) t f.is
]

-- a timing comes where no test of the box stops
gives : (first : Option (Outcome TimingRecord)) (number : Option WideTiming) (t u : TimingRecord) → (first ≡ Some (Gives t) → ⊥)
    → unwrap_or (earlier first (option_map Refused number)) (Gives u) ≡ Gives t → (first ≡ None) × (u ≡ t)
gives None None t u n h = let e : u ≡ t = cc in (refl, e)
gives None (Some w) t u n h = cc
gives (Some o) number t u n h = let e : o ≡ Gives t = h in absurd (n (ap Some e))

pub by_gives : (a : Street) (box : Area) (x : List ℚ) (numbers : Option WideTiming) (t : TimingRecord) → recovered_by a box x numbers ≡ Gives t → (box_tests a box x ≡ None) × (timing_of a x ≡ t)
by_gives a box x numbers t h = gives (box_tests a box x) numbers t (timing_of a x) (box_gives_none a box x t) h

pub gives_timing : (a : Street) (box : Area) (x : List ℚ) (t : TimingRecord) → recovered a box x ≡ Gives t → (box_tests a box x ≡ None) × (timing_of a x ≡ t)
unfolding recovered
gives_timing a box x t h = by_gives a box x (number_tests a x) t h

-- and a place where one does
splits : (first : Option (Outcome TimingRecord)) (number : Option WideTiming) (p : At) (u : TimingRecord) → unwrap_or (earlier first (option_map Refused number)) (Gives u) ≡ Splits p
    → first ≡ Some (Splits p)
splits None None p u h = cc
splits None (Some w) p u h = cc
splits (Some o) number p u h = ap Some h

pub by_splits : (a : Street) (box : Area) (x : List ℚ) (numbers : Option WideTiming) (p : At) → recovered_by a box x numbers ≡ Splits p → box_tests a box x ≡ Some (Splits p)
by_splits a box x numbers p h = splits (box_tests a box x) numbers p (timing_of a x) h

pub splits_place : (a : Street) (box : Area) (x : List ℚ) (p : At) → recovered a box x ≡ Splits p → box_tests a box x ≡ Some (Splits p)
unfolding recovered
splits_place a box x p h = by_splits a box x (number_tests a x) p h

-- ---- with something made of the timing
pub only_splits : {S T : Type 0} (f : S → T) (o : Outcome S) (p : At) → with_timing f o ≡ Splits p → o ≡ Splits p
only_splits f (Refused w) p h = cc
only_splits f (Splits q) p h = let e : q ≡ p = cc in ap Splits e
only_splits f (Gives t) p h = cc

-- the timing that it is made of
pub record Made {S T : Type 0} (f : S → T) (o : Outcome S) (t : T) : Type 0 where
  pub of : S
  pub is : f of ≡ t
  pub given : o ≡ Gives of

pub only_gives : {S T : Type 0} (f : S → T) (o : Outcome S) (t : T) → with_timing f o ≡ Gives t → Made f o t
only_gives f (Refused w) t h = cc
only_gives f (Splits q) t h = cc
only_gives f (Gives s) t h = let e : f s ≡ t = cc in record { of = s; is = e; given = refl }
