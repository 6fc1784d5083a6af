-- The worked timings, computed.
use Rattle.std.proofs.Common.{◌≡◌, ℕ, zero, suc, ◌<◌, ◌≤◌, Bool, true, false, refl, arith, ◌⊎◌, inl, inr, subst, sym}
use Rattle.std.specs.Prelude.{IsTrue, ◌&&◌, ℤ, pos, ◌+ℤ◌, length}
use Rattle.rational_theory.specs.Rational.{whole, over, inverse_ℚ, neg_ℚ, ◌+ℚ◌, ◌*ℚ◌, ◌/ℚ◌, ◌≤ℚ◌}
use Rattle.rational_theory.specs.Gcd.{gcd}
use Rattle.rational_theory.proofs.Arithmetic.{same_cross}
use Rattle.std.proofs.Common.{true≢false}
use Rattle.std.proofs.lemmas.Int.{ints}
use Rattle.progression.specs.Street.{Street, count, HasSignal, HasLink, allows}
use Rattle.progression.specs.Speeds.{number, run_low, run_high}
use Rattle.progression.specs.BaseRecord.{BaseRecord, IsBaseRecord, cycle, pattern_of, run}
use Rattle.progression.specs.TimingRecord.{TimingRecord, base, band}
use Rattle.progression.specs.Good.{Good, IsBase, RatioHolds, HasLeastBand}
use Rattle.progression.specs.Best.{weighted_band}
use Rattle.progression.specs.Green.{is_green, red_start, red_ticks}
use Rattle.progression.specs.Lines.{stop, crossing, IsGreenAt, IsGreenWay}
use Rattle.progression.specs.Worked.{two_signals, timing, with_clearance, with_lefts, one_way, unequal_lefts, two_way}
use Rattle.progression.specs.declared.parts.Dir.{Dir}
use Rattle.progression.specs.declared.parts.Dir.TheVariants.{Outbound, Inbound}

-- the test passes from 0 to n - 1
abbrev all_below : (ℕ → Bool) → ℕ → Bool
all_below test zero = true
all_below test (suc n) = test n && all_below test n

and_parts : (a b : Bool) → a && b ≡ true → (a ≡ true) × (b ≡ true)
and_parts true true e = (refl, refl)
and_parts true false e = absurd cc
and_parts false b e = absurd cc

last_or_before : (t n : ℕ) → t < suc n → (t < n) ⊎ (t ≡ n)
last_or_before t n l = grind arith

each_below : (test : ℕ → Bool) (n t : ℕ) → all_below test n ≡ true → t < n → IsTrue (test t)
each_below test zero t e l = absurd (omega arith)
each_below test (suc n) t e l =
    let parts = and_parts (test n) (all_below test n) e in
    elim (last_or_before t n l) [ inl h ↦ each_below test n t parts.1 h | inr h ↦ subst (λ k. IsTrue (test k)) (sym h) parts.0 ]

each_to : (test : ℕ → Bool) (n t : ℕ) → all_below test (suc n) ≡ true → t ≤ n → IsTrue (test t)
each_to test n t e l = each_below test (suc n) t e (omega arith)

-- an artery of two signals: what holds at both holds at each, and what holds of its link holds of each
module _ (a : Street) (two : count a ≡ 2) where
  at_signal : (P : ℕ → Type 0) → P 1 → P 2 → (i : ℕ) → HasSignal a i → P i
  at_signal P p q zero h = absurd (omega (arith, h.0))
  at_signal P p q (suc zero) h = p
  at_signal P p q (suc (suc zero)) h = q
  at_signal P p q (suc (suc (suc i))) h = absurd (omega (arith, h.1, two))

  pub at_link : (P : ℕ → Type 0) → P 1 → (i : ℕ) → HasLink a i → P i
  at_link P p zero h = absurd (omega (arith, h.0))
  at_link P p (suc zero) h = p
  at_link P p (suc (suc i)) h = absurd (omega (arith, h.1, two))

-- a place of a way with two signals
at_two_places : (P : ℕ → Type 0) → P 0 → P 1 → (j : ℕ) → j < 2 → P j
at_two_places P p q zero h = p
at_two_places P p q (suc zero) h = q
at_two_places P p q (suc (suc j)) h = absurd (omega arith)

pub both : (P : Dir → Type 0) → P Outbound → P Inbound → (d : Dir) → P d
both P p q Outbound = p
both P p q Inbound = q

-- the rules of a base, from those of the two signals and of the link
module _ (a : Street) (p : BaseRecord) (two : count a ≡ 2) where
  abbrev IsFast : Dir → Type 0
  IsFast d = (run_low a d 1 *ℚ number p.grid) ≤ℚ number (run p d 1)

  abbrev IsSlow : Dir → Type 0
  IsSlow d = number (run p d 1) ≤ℚ (run_high a d 1 *ℚ number p.grid)

  base_of : IsBaseRecord p → length p.patterns ≡ count a → IsTrue (allows a 1 (pattern_of p 1)) → IsTrue (allows a 2 (pattern_of p 2))
      → (a.head.cycle.least *ℚ number p.grid) ≤ℚ number (cycle a p) → number (cycle a p) ≤ℚ (a.head.cycle.most *ℚ number p.grid)
      → IsFast Outbound → IsFast Inbound → IsSlow Outbound → IsSlow Inbound → IsBase a p
  base_of formed shape allowed_first allowed_last least most fast_out fast_in slow_out slow_in = record {
    formed = formed;
    shape = shape;
    patterns = at_signal a two (λ i. IsTrue (allows a i (pattern_of p i))) allowed_first allowed_last;
    cycle_least = least;
    cycle_most = most;
    fast = λ d. at_link a two (λ i. (run_low a d i *ℚ number p.grid) ≤ℚ number (run p d i)) (both IsFast fast_out fast_in d);
    slow = λ d. at_link a two (λ i. number (run p d i) ≤ℚ (run_high a d i *ℚ number p.grid)) (both IsSlow slow_out slow_in d);
    rise = λ d i h k. absurd (omega (arith, h.0, k.1, two));
    drop = λ d i h k. absurd (omega (arith, h.0, k.1, two));
  }

-- a timing of two ticks a second whose bands are green
good : (first_out : ℤ) (band_out band_in : ℕ)
    → RatioHolds (number 1) band_out band_in
    → IsGreenWay two_signals (timing 2 100 first_out band_out band_in) Outbound
    → IsGreenWay two_signals (timing 2 100 first_out band_out band_in) Inbound
    → Good two_signals (timing 2 100 first_out band_out band_in)
unfolding whole over inverse_ℚ ◌*ℚ◌ gcd
good first_out band_out band_in r out back = record {
  base = base_of two_signals (base (timing 2 100 first_out band_out band_in)) refl
      (record { grid = omega arith; unit = omega arith; reds = refl; run_out = refl; run_in = refl }) refl refl refl
      (record { cross = omega (arith, ints) }) (record { cross = omega (arith, ints) })
      (record { cross = omega (arith, ints) }) (record { cross = omega (arith, ints) }) (record { cross = omega (arith, ints) }) (record { cross = omega (arith, ints) });
  ratio = r;
  least = both (HasLeastBand two_signals (timing 2 100 first_out band_out band_in)) (record { cross = omega (arith, ints) }) (record { cross = omega (arith, ints) });
  equal = λ e. absurd cc;
  outbound = out;
  inbound = back;
}

-- whether the line of the band that comes t ticks after its first crosses the j-th signal in green
abbrev tick_test : Street → TimingRecord → Dir → ℕ → ℕ → Bool
tick_test a p d j t = let i = stop d (count a) j in
    is_green (cycle a (base p)) (red_start a (base p) d i) (red_ticks a (base p) d i) (crossing a p d j +ℤ pos t)

by_test : (a : Street) (p : TimingRecord) (d : Dir) (j : ℕ) → all_below (tick_test a p d j) (suc (band p d)) ≡ true → IsGreenAt a p d j
by_test a p d j e = λ t l. each_to (tick_test a p d j) (band p d) t e l

way_by_test : (a : Street) (p : TimingRecord) (d : Dir) → count a ≡ 2 → all_below (tick_test a p d 0) (suc (band p d)) ≡ true → all_below (tick_test a p d 1) (suc (band p d)) ≡ true → IsGreenWay a p d
way_by_test a p d n e f = λ j l. at_two_places (IsGreenAt a p d) (by_test a p d 0 e) (by_test a p d 1 f) j (omega (arith, n))

pub whole_greens : Good two_signals (timing 2 100 (pos 100) 100 100)
unfolding whole over ◌+ℚ◌ neg_ℚ ◌*ℚ◌ gcd
whole_greens = let p = timing 2 100 (pos 100) 100 100 in
    good (pos 100) 100 100 (record { cross = omega (arith, ints) }) (way_by_test two_signals p Outbound refl refl refl) (way_by_test two_signals p Inbound refl refl refl)

pub line_at_red : Good two_signals (timing 2 100 (pos 200) 0 0)
unfolding whole over ◌+ℚ◌ neg_ℚ ◌*ℚ◌ gcd
line_at_red = let p = timing 2 100 (pos 200) 0 0 in
    good (pos 200) 0 0 (record { cross = omega (arith, ints) }) (way_by_test two_signals p Outbound refl refl refl) (way_by_test two_signals p Inbound refl refl refl)

pub their_band : weighted_band two_signals (timing 2 100 (pos 100) 100 100) ≡ number 1
unfolding whole over inverse_ℚ ◌+ℚ◌ ◌*ℚ◌ gcd
their_band = same_cross _ _ refl

pub too_wide : Good two_signals (timing 2 100 (pos 100) 101 100) → ⊥
too_wide g = true≢false (sym (g.outbound 0 (omega arith) 101 (omega arith)))

pub in_the_red : Good two_signals (timing 2 100 (pos 50) 0 0) → ⊥
in_the_red g = true≢false (sym (g.outbound 0 (omega arith) 0 (omega arith)))

pub too_long : Good two_signals (timing 1 100 (pos 100) 100 100) → ⊥
unfolding whole over ◌*ℚ◌ gcd
too_long g = let c = g.base.cycle_most.cross in absurd (omega (arith, ints, c))

pub too_fast : Good two_signals (timing 2 99 (pos 100) 100 100) → ⊥
unfolding whole over inverse_ℚ ◌*ℚ◌ gcd
too_fast g = let c = (g.base.fast Outbound 1 (omega arith, omega arith)).cross in absurd (omega (arith, ints, c))

pub late_for_clearance : Good with_clearance (timing 2 100 (pos 100) 100 100) → ⊥
late_for_clearance g = true≢false (sym (g.outbound 1 (omega arith) 0 (omega arith)))

-- the band's tick 231 lies in the red that the lagging left turn moved
pub lagging_left : Good with_lefts (one_way 1) → ⊥
lagging_left g = true≢false (sym (g.outbound 1 (omega arith) 81 (omega arith)))

pub leading_lefts : Good with_lefts (one_way 3)
unfolding whole over inverse_ℚ ◌+ℚ◌ neg_ℚ ◌*ℚ◌ gcd
leading_lefts = let p = one_way 3 in record {
  base = base_of with_lefts (base p) refl
      (record { grid = omega arith; unit = omega arith; reds = refl; run_out = refl; run_in = refl }) refl refl refl
      (record { cross = omega (arith, ints) }) (record { cross = omega (arith, ints) })
      (record { cross = omega (arith, ints) }) (record { cross = omega (arith, ints) }) (record { cross = omega (arith, ints) }) (record { cross = omega (arith, ints) });
  ratio = record { cross = omega (arith, ints) };
  least = both (HasLeastBand with_lefts p) (record { cross = omega (arith, ints) }) (record { cross = omega (arith, ints) });
  equal = λ e. absurd cc;
  outbound = way_by_test with_lefts p Outbound refl refl refl;
  inbound = way_by_test with_lefts p Inbound refl refl refl;
}

pub half_a_cycle : weighted_band with_lefts (one_way 3) ≡ number 1 /ℚ number 2
unfolding whole over inverse_ℚ ◌+ℚ◌ ◌*ℚ◌ gcd
half_a_cycle = same_cross _ _ refl

-- a timing of the artery with unequal lefts whose bands are green
turning : (pattern red first_out band_out first_in band_in : ℕ)
    → IsTrue (allows unequal_lefts 2 pattern)
    → RatioHolds (number 1) band_out band_in
    → IsGreenWay unequal_lefts (two_way pattern red first_out band_out first_in band_in) Outbound
    → IsGreenWay unequal_lefts (two_way pattern red first_out band_out first_in band_in) Inbound
    → Good unequal_lefts (two_way pattern red first_out band_out first_in band_in)
unfolding whole over inverse_ℚ ◌+ℚ◌ neg_ℚ ◌*ℚ◌ gcd
turning pattern red first_out band_out first_in band_in allowed r out back = let p = two_way pattern red first_out band_out first_in band_in in record {
  base = base_of unequal_lefts (base p) refl
      (record { grid = omega arith; unit = omega arith; reds = refl; run_out = refl; run_in = refl }) refl refl allowed
      (record { cross = omega (arith, ints) }) (record { cross = omega (arith, ints) })
      (record { cross = omega (arith, ints) }) (record { cross = omega (arith, ints) }) (record { cross = omega (arith, ints) }) (record { cross = omega (arith, ints) });
  ratio = r;
  least = both (HasLeastBand unequal_lefts p) (record { cross = omega (arith, ints) }) (record { cross = omega (arith, ints) });
  equal = λ e. absurd cc;
  outbound = out;
  inbound = back;
}

pub first_pattern : Good unequal_lefts (two_way 1 50 100 80 150 100)
unfolding whole over ◌+ℚ◌ neg_ℚ ◌*ℚ◌ gcd
first_pattern = let p = two_way 1 50 100 80 150 100 in turning 1 50 100 80 150 100 refl (record { cross = omega (arith, ints) })
    (way_by_test unequal_lefts p Outbound refl refl refl) (way_by_test unequal_lefts p Inbound refl refl refl)

pub second_pattern : Good unequal_lefts (two_way 2 50 100 100 150 90)
unfolding whole over ◌+ℚ◌ neg_ℚ ◌*ℚ◌ gcd
second_pattern = let p = two_way 2 50 100 100 150 90 in turning 2 50 100 100 150 90 refl (record { cross = omega (arith, ints) })
    (way_by_test unequal_lefts p Outbound refl refl refl) (way_by_test unequal_lefts p Inbound refl refl refl)

pub third_pattern : Good unequal_lefts (two_way 3 70 120 80 160 90)
unfolding whole over ◌+ℚ◌ neg_ℚ ◌*ℚ◌ gcd
third_pattern = let p = two_way 3 70 120 80 160 90 in turning 3 70 120 80 160 90 refl (record { cross = omega (arith, ints) })
    (way_by_test unequal_lefts p Outbound refl refl refl) (way_by_test unequal_lefts p Inbound refl refl refl)

pub fourth_pattern : Good unequal_lefts (two_way 4 50 100 80 150 90)
unfolding whole over ◌+ℚ◌ neg_ℚ ◌*ℚ◌ gcd
fourth_pattern = let p = two_way 4 50 100 80 150 90 in turning 4 50 100 80 150 90 refl (record { cross = omega (arith, ints) })
    (way_by_test unequal_lefts p Outbound refl refl refl) (way_by_test unequal_lefts p Inbound refl refl refl)

-- the outbound band's tick 231 lies in the red that begins at tick 30
pub first_pattern_wider_out : Good unequal_lefts (two_way 1 50 100 81 150 100) → ⊥
first_pattern_wider_out g = true≢false (sym (g.outbound 1 (omega arith) 81 (omega arith)))

-- the inbound band's tick 241 lies in the red that begins at tick 40
pub second_pattern_wider_in : Good unequal_lefts (two_way 2 50 100 100 150 91) → ⊥
second_pattern_wider_in g = true≢false (sym (g.inbound 0 (omega arith) 91 (omega arith)))

-- the outbound red ends at tick 170
pub third_pattern_sooner_out : Good unequal_lefts (two_way 3 70 119 80 160 90) → ⊥
third_pattern_sooner_out g = true≢false (sym (g.outbound 1 (omega arith) 0 (omega arith)))

-- the inbound red ends at tick 160
pub third_pattern_sooner_in : Good unequal_lefts (two_way 3 70 120 80 159 90) → ⊥
third_pattern_sooner_in g = true≢false (sym (g.inbound 0 (omega arith) 0 (omega arith)))

pub fourth_pattern_wider_out : Good unequal_lefts (two_way 4 50 100 81 150 90) → ⊥
fourth_pattern_wider_out g = true≢false (sym (g.outbound 1 (omega arith) 81 (omega arith)))

pub fourth_pattern_wider_in : Good unequal_lefts (two_way 4 50 100 80 150 91) → ⊥
fourth_pattern_wider_in g = true≢false (sym (g.inbound 0 (omega arith) 91 (omega arith)))
