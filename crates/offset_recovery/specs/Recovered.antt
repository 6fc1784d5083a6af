-- The timing of a vertex, the place where it splits its box, or the first number that does not fit: the tests in their order.
use Rattle.std.specs.Prelude.{ℕ, ◌+◌, ◌-◌, List, length, Option, option_map, unwrap_or}
use Rattle.rational_theory.specs.Rational.{ℚ}
use Rattle.narrow_fraction.specs.Attempt.{earlier, first_below}
use Rattle.progression.specs.Street.{Street, count}
use Rattle.progression.specs.TimingRecord.{TimingRecord}
use Rattle.progression.specs.Columns.{BandOf, Frequency, WaitOf, RunOf}
use Rattle.progression.specs.declared.parts.Dir.{Dir}
use Rattle.progression.specs.declared.parts.Dir.TheVariants.{Outbound, Inbound}
use Rattle.linear_theory.specs.Places.{place}
use Rattle.linear_theory.specs.Boxes.{Area}
use Rattle.recovery_theory.specs.Ticks.{unit_of, ticks_of}
use Rattle.recovery_theory.specs.Placing.{pattern_at, first_out_of, red_of, first_in_of, timing_of}
use Rattle.offset_recovery.specs.declared.outcome.WideTiming.{WideTiming}
use Rattle.offset_recovery.specs.Outcomes.{Outcome, Refused, Gives}
use Rattle.offset_recovery.specs.Tests.{product_test, unit_test, number_test, column_test, link_test, signal_test}
use Rattle.offset_recovery.specs.ByLink.{tests_by_link}

-- ---- the box
-- the block sums in order of the links, then the shifts in order of the signals
abbrev pub link_tests : Street → List ℚ → Option (Outcome TimingRecord)
link_tests a x = first_below (λ j. link_test a x (j + 1)) (count a - 1)

abbrev pub signal_tests : Street → Area → List ℚ → Option (Outcome TimingRecord)
signal_tests a box x = first_below (λ j. signal_test a box x (j + 1)) (count a)

abbrev pub box_tests : Street → Area → List ℚ → Option (Outcome TimingRecord)
box_tests a box x = earlier (link_tests a x) (signal_tests a box x)

-- ---- numbers
-- the products in order of the columns, then the least common multiple in the same order
abbrev pub unit_tests : Street → List ℚ → Option WideTiming
unit_tests a x = earlier (first_below (product_test a x) (length x)) (first_below (unit_test a x) (length x))

-- the ticks of frequency and runs, in order of the columns
abbrev pub run_tests : Street → List ℚ → Dir → Option WideTiming
run_tests a x d = tests_by_link a x (λ i. place (count a) (RunOf d i))

abbrev pub line_tests : Street → List ℚ → Option WideTiming
line_tests a x = earlier (column_test a x Frequency) (earlier (run_tests a x Outbound) (run_tests a x Inbound))

-- those of the bands before them
abbrev pub column_tests : Street → List ℚ → Option WideTiming
column_tests a x = earlier (column_test a x (BandOf Outbound)) (earlier (column_test a x (BandOf Inbound)) (line_tests a x))

-- the first outbound crossing, the reds after the first, and the first inbound crossing, each named by a wait
abbrev pub first_out_at : Street → List ℚ → ℕ
first_out_at a x = first_out_of a (unit_of a x) (ticks_of a x) (pattern_at a x)

abbrev pub red_at : Street → List ℚ → ℕ → ℕ
red_at a x i = red_of a (unit_of a x) (ticks_of a x) (pattern_at a x) i

abbrev pub first_in_at : Street → List ℚ → ℕ
first_in_at a x = first_in_of a (unit_of a x) (ticks_of a x) (pattern_at a x)

abbrev pub red_tests : Street → List ℚ → Option WideTiming
red_tests a x = first_below (λ j. number_test (place (count a) (WaitOf Outbound (j + 2))) (red_at a x (j + 2))) (count a - 1)

abbrev pub first_in_test : Street → List ℚ → Option WideTiming
first_in_test a x = number_test (place (count a) (WaitOf Inbound (count a))) (first_in_at a x)

abbrev pub placed_tests : Street → List ℚ → Option WideTiming
placed_tests a x =
    earlier (number_test (place (count a) (WaitOf Outbound 1)) (first_out_at a x))
    (earlier (red_tests a x) (first_in_test a x))

-- those of all numbers, where these are the tests of its columns
abbrev pub number_tests_by : Street → List ℚ → Option WideTiming → Option WideTiming
number_tests_by a x columns = earlier (unit_tests a x) (earlier columns (placed_tests a x))

abbrev pub number_tests : Street → List ℚ → Option WideTiming
number_tests a x = number_tests_by a x (column_tests a x)

-- ---- the whole
-- where these are the tests of its numbers
abbrev pub recovered_by : Street → Area → List ℚ → Option WideTiming → Outcome TimingRecord
recovered_by a box x numbers = unwrap_or (earlier (box_tests a box x) (option_map Refused numbers)) (Gives (timing_of a x))

unfoldable pub recovered : Street → Area → List ℚ → Outcome TimingRecord
recovered a box x = recovered_by a box x (number_tests a x)
