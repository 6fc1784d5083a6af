-- Worked timings of the smallest artery: two signals 500 metres apart, driven in 50 seconds, each with half of a cycle of 100 seconds red.
use Rattle.std.specs.Prelude.{◌≡◌, ℕ, List, [], ◌∷◌, None, ℤ, pos, true, codes, false}
use Rattle.rational_theory.specs.Rational.{◌/ℚ◌}
use Rattle.progression.specs.Street.{Street}
use Rattle.progression.specs.Speeds.{number}
use Rattle.progression.specs.TimingRecord.{TimingRecord}
use Rattle.progression.specs.Good.{Good}
use Rattle.progression.specs.Best.{weighted_band}
use Rattle.progression.specs.declared.parts.Pair.{Pair}
use Rattle.progression.specs.declared.parts.Signal.{Signal}
use Rattle.progression.specs.declared.parts.Units.TheVariants.{Metric}

abbrev pub exactly : ℕ → Pair
exactly n = record { least = number n; most = number n }

abbrev pub half_red : List ℕ → Signal
half_red name = record { name = name; red = 50; left_out = 0; left_in = 0; patterns = true ∷ true ∷ true ∷ true ∷ []; clear_out = 0; clear_in = 0 }

abbrev pub two_signals : Street
two_signals = record {
  head = record { name = None; units = Metric; version = 1; parts = 100; cycle = exactly 100; ratio = number 1; least_out = number 0; least_in = number 0; equal = false };
  signals = half_red (codes "A") ∷ half_red (codes "B") ∷ [];
  links = record { distance_out = 500; distance_in = 500; speed_out = exactly 36; speed_in = exactly 36; change_out = None; change_in = None } ∷ [];
}

-- two ticks a second, the second signal half a cycle after the first
abbrev pub timing : ℕ → ℕ → ℤ → ℕ → ℕ → TimingRecord
timing grid run first_out band_out band_in = record {
  grid = grid;
  unit = 2;
  patterns = 1 ∷ 1 ∷ [];
  reds = pos 0 ∷ pos 100 ∷ [];
  run_out = run ∷ [];
  run_in = 100 ∷ [];
  first_out = first_out;
  first_in = pos 200;
  band_out = band_out;
  band_in = band_in;
}

-- The second signal's queue needs ten parts to clear before the outbound band comes.
abbrev pub with_clearance : Street
with_clearance = record two_signals { signals = half_red (codes "A") ∷ record (half_red (codes "B")) { clear_out = 10 } ∷ [] }

-- Half as far apart, and the second signal has 40 parts of common red and both left turns of 10 parts.
abbrev pub with_lefts : Street
with_lefts = record {
  head = two_signals.head;
  signals = half_red (codes "A") ∷ record (half_red (codes "B")) { red = 40; left_out = 10; left_in = 10 } ∷ [];
  links = record { distance_out = 250; distance_in = 250; speed_out = exactly 36; speed_in = exactly 36; change_out = None; change_in = None } ∷ [];
}

-- only an outbound band, and the second signal with this left turn pattern
abbrev pub one_way : ℕ → TimingRecord
one_way pattern = record {
  grid = 2;
  unit = 2;
  patterns = 1 ∷ pattern ∷ [];
  reds = pos 0 ∷ pos 50 ∷ [];
  run_out = 50 ∷ [];
  run_in = 50 ∷ [];
  first_out = pos 100;
  first_in = pos 150;
  band_out = 100;
  band_in = 0;
}

-- The second signal has an outbound left turn of 5 parts and an inbound one of 10: its outbound red takes 100 ticks, and its inbound red 90. The way
-- back is three times as long.
abbrev pub unequal_lefts : Street
unequal_lefts = record {
  head = two_signals.head;
  signals = half_red (codes "A") ∷ record (half_red (codes "B")) { red = 40; left_out = 5; left_in = 10 } ∷ [];
  links = record { distance_out = 250; distance_in = 750; speed_out = exactly 36; speed_in = exactly 36; change_out = None; change_in = None } ∷ [];
}

-- a band either way, and the second signal with this left turn pattern and start of its common red
abbrev pub two_way : (pattern red first_out band_out first_in band_in : ℕ) → TimingRecord
two_way pattern red first_out band_out first_in band_in = record {
  grid = 2;
  unit = 2;
  patterns = 1 ∷ pattern ∷ [];
  reds = pos 0 ∷ pos red ∷ [];
  run_out = 50 ∷ [];
  run_in = 150 ∷ [];
  first_out = pos first_out;
  first_in = pos first_in;
  band_out = band_out;
  band_in = band_in;
}

pub record WorkedTimings : Type 0 where
  pub whole_greens : Good two_signals (timing 2 100 (pos 100) 100 100)
  pub their_band : weighted_band two_signals (timing 2 100 (pos 100) 100 100) ≡ number 1
  pub one_tick_wider : ¬ Good two_signals (timing 2 100 (pos 100) 101 100)
  pub a_line_in_the_red : ¬ Good two_signals (timing 2 100 (pos 50) 0 0)
  pub a_line_at_the_start_of_the_red : Good two_signals (timing 2 100 (pos 200) 0 0)
  pub twice_the_cycle : ¬ Good two_signals (timing 1 100 (pos 100) 100 100)
  pub one_tick_too_fast : ¬ Good two_signals (timing 2 99 (pos 100) 100 100)
  pub clearance_moves_the_line : ¬ Good with_clearance (timing 2 100 (pos 100) 100 100)
  pub lagging_left_shortens_the_green : ¬ Good with_lefts (one_way 1)
  pub leading_lefts_hold : Good with_lefts (one_way 3)
  pub half_a_cycle : weighted_band with_lefts (one_way 3) ≡ number 1 /ℚ number 2
  -- the outbound red alone begins before the common red, by the inbound left turn's 20 ticks
  pub first_pattern : Good unequal_lefts (two_way 1 50 100 80 150 100)
  pub first_pattern_wider_out : ¬ Good unequal_lefts (two_way 1 50 100 81 150 100)
  -- the inbound red alone does, by the outbound left turn's 10 ticks
  pub second_pattern : Good unequal_lefts (two_way 2 50 100 100 150 90)
  pub second_pattern_wider_in : ¬ Good unequal_lefts (two_way 2 50 100 100 150 91)
  -- neither does, so each ends after the common red
  pub third_pattern : Good unequal_lefts (two_way 3 70 120 80 160 90)
  pub third_pattern_sooner_out : ¬ Good unequal_lefts (two_way 3 70 119 80 160 90)
  pub third_pattern_sooner_in : ¬ Good unequal_lefts (two_way 3 70 120 80 159 90)
  -- both do
  pub fourth_pattern : Good unequal_lefts (two_way 4 50 100 80 150 90)
  pub fourth_pattern_wider_out : ¬ Good unequal_lefts (two_way 4 50 100 81 150 90)
  pub fourth_pattern_wider_in : ¬ Good unequal_lefts (two_way 4 50 100 80 150 91)
