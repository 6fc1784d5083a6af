-- Which timings count for a box, and their points.
use Rattle.std.specs.Prelude.{◌≡◌, ℕ, ◌<◌, ◌≤◌, List}
use Rattle.rational_theory.specs.Rational.{ℚ, ◌<ℚ◌}
use Rattle.progression.specs.Street.{Street, count, HasSignal, HasLink, red_parts, speed}
use Rattle.progression.specs.Speeds.{number}
use Rattle.progression.specs.TimingRecord.{TimingRecord}
use Rattle.progression.specs.Good.{Good}
use Rattle.progression.specs.Columns.{point}
use Rattle.progression.specs.declared.parts.Dir.{Dir}
use Rattle.linear_theory.specs.Boxes.{Area, IsBoxOf, InBox}

-- What an artery's numbers keep: some red and some green at each signal in each direction, limits of the cycle and speeds above 0.
pub record IsStreet (a : Street) : Type 0 where
  pub signals : 2 ≤ count a
  pub red : (d : Dir) (i : ℕ) → HasSignal a i → 1 ≤ red_parts a d i
  pub green : (d : Dir) (i : ℕ) → HasSignal a i → red_parts a d i < a.head.parts
  pub cycle_least : number 0 <ℚ a.head.cycle.least
  pub cycle_most : number 0 <ℚ a.head.cycle.most
  pub speed_least : (d : Dir) (i : ℕ) → HasLink a i → number 0 <ℚ (speed a d i).least
  pub speed_most : (d : Dir) (i : ℕ) → HasLink a i → number 0 <ℚ (speed a d i).most

-- a good timing whose block sums and shift ranks are those of the box
pub record Counts (a : Street) (box : Area) (t : TimingRecord) : Type 0 where
  pub street : IsStreet a
  pub good : Good a t
  pub boxed : IsBoxOf a box
  pub inside : InBox a box t

-- the point of such a timing
pub record IsGoodPoint (a : Street) (box : Area) (x : List ℚ) : Type 0 where
  pub timing : TimingRecord
  pub counts : Counts a box timing
  pub is : x ≡ point a timing
