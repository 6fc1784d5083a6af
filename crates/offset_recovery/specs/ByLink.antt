-- The columns of which each link has one: their tests and their ticks, in order of the links. `at` is the place of a link's column.
use Rattle.std.specs.Prelude.{ℕ, ◌+◌, ◌-◌, List, Option}
use Rattle.rational_theory.specs.Rational.{ℚ}
use Rattle.narrow_fraction.specs.Attempt.{first_below}
use Rattle.progression.specs.Street.{Street, count}
use Rattle.progression.specs.Columns.{numbered}
use Rattle.recovery_theory.specs.Ticks.{ticks_in}
use Rattle.offset_recovery.specs.declared.outcome.WideTiming.{WideTiming}
use Rattle.offset_recovery.specs.Tests.{number_test}

abbrev pub tests_by_link : Street → List ℚ → (ℕ → ℕ) → Option WideTiming
tests_by_link a x at = first_below (λ j. number_test (at (j + 1)) (ticks_in a x (at (j + 1)))) (count a - 1)

abbrev pub ticks_by_link : Street → List ℚ → (ℕ → ℕ) → List ℕ
ticks_by_link a x at = numbered (count a - 1) 1 (λ i. ticks_in a x (at i))

-- the place of a link's column, of columns that stand side by side from that of link 1 on
abbrev pub from_first : ℕ → ℕ → ℕ
from_first first i = first + (i - 1)
