-- What a search of the street with one cycle alone finds, and the timing from which the offsets of that cycle start.
use Rattle.std.specs.Prelude.{◌≡◌, ℕ, Option, Some, None}
use Rattle.std.specs.Option.{option_or}
use Rattle.rational_theory.specs.Rational.{ℚ}
use Rattle.progression.specs.Street.{Street}
use Rattle.progression.specs.Speeds.{number}
use Rattle.progression.specs.TimingRecord.{TimingRecord}
use Rattle.progression.specs.Best as best
use Rattle.progression.specs.Best.{Bounded}
use Rattle.branch_and_bound.specs.declared.found.Verdict.{Verdict}
use Rattle.branch_and_bound.specs.declared.found.Verdict.TheVariants.{Best, NoTiming, Stopped}
use Rattle.box_search.specs.declared.site.SitePart.{SitePart}
use Rattle.branch_tree.specs.Told.{Found}
use Rattle.branch_tree.specs.Searched.{IsSearched}
use Rattle.cycle_sweep.specs.Rows.{at_cycle}
use Rattle.whole_plan.specs.declared.searching.CycleFound.{CycleFound}

-- the street with this cycle alone, in seconds
abbrev pub street_at : Street → ℕ → Street
street_at a k = at_cycle a (number k)

-- how many units of work the search of a cycle may spend
abbrev pub search_units : ℕ
search_units = 10000

-- what no weighted band exceeds, where a timing may be good
abbrev pub bound_by : Verdict SitePart → ℚ → Option ℚ
bound_by NoTiming bound = None
bound_by Best bound = Some bound
bound_by (Stopped stop) bound = Some bound

-- no good timing of the street has a weighted band above the number, and where there is none no timing is good
abbrev pub IsCeiling : Street → Option ℚ → Type 0
IsCeiling a None = best.NoTiming a
IsCeiling a (Some bound) = Bounded a bound

-- the timing and the bound that a search of a street found
pub record IsSought (street : Street) (s : CycleFound) : Type 0 where
  pub found : Found
  pub searched : IsSearched street (Some search_units) found
  pub timing_is : s.timing ≡ found.timing
  pub bound_is : s.bound ≡ bound_by found.verdict found.bound

-- The offsets of the cycle start from this timing: the one that was found, and where none was from the given one, if there is one.
pub record IsStart (a : Street) (given : Option TimingRecord) (k : ℕ) (start : Option TimingRecord) : Type 0 where
  pub sought : CycleFound
  pub found : IsSought (street_at a k) sought
  pub start_is : start ≡ option_or sought.timing given
