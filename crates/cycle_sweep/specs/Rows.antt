-- The street at one cycle, and what is found at each of several.
use Rattle.std.specs.Prelude.{◌≡◌, ℕ, List, Option}
use Rattle.std.specs.List.{AllZip}
use Rattle.rational_theory.specs.Rational.{ℚ, ◌≤ℚ◌}
use Rattle.progression.specs.Street.{Street}
use Rattle.progression.specs.declared.parts.Head.{Head}
use Rattle.box_search.specs.Told.{IsTimed}
use Rattle.branch_tree.specs.Searched.{IsSearched}
use Rattle.cycle_sweep.specs.declared.row.SweepRow.{SweepRow}
use Rattle.cycle_sweep.specs.declared.row.SweepRow.TheVariants.{Outside, Searched}

abbrev pub head_at : Head → ℚ → Head
head_at h cycle = record h { cycle = record { least = cycle; most = cycle } }

-- the street with this cycle alone
abbrev pub at_cycle : Street → ℚ → Street
at_cycle a cycle = record a { head = head_at a.head cycle }

-- the cycle is within the street's own limits
abbrev pub IsAllowed : Street → ℚ → Type 0
IsAllowed a cycle = (a.head.cycle.least ≤ℚ cycle) × (cycle ≤ℚ a.head.cycle.most)

-- the row of a cycle: outside exactly where the street doesn't allow it, else what a search found of the street at this cycle alone
abbrev pub IsRow : Street → Option ℕ → ℚ → SweepRow → Type 0
IsRow a limit cycle (Outside shown) = (shown ≡ cycle) × ¬ IsAllowed a cycle
IsRow a limit cycle (Searched shown found) = (shown ≡ cycle) × IsAllowed a cycle × IsSearched (at_cycle a cycle) limit found

-- as many rows as cycles, each row that of the cycle at its place
abbrev pub AreRows : Street → Option ℕ → List ℚ → List SweepRow → Type 0
AreRows a limit cycles rows = AllZip (IsRow a limit) cycles rows

-- a timing stands under the verdict that claims one, and none where none is claimed
abbrev pub IsTimedRow : SweepRow → Type 0
IsTimedRow (Outside cycle) = Unit {0}
IsTimedRow (Searched cycle found) = IsTimed found.timing found.verdict
