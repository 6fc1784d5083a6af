-- The least grid of a plan: its numbers, and the first of them that is too large.
use Rattle.std.specs.Prelude.{◌≡◌, ℕ, zero, suc, ◌<◌, ◌≤◌, ◌-◌, ◌*◌, ◌/◌, ◌^◌, ◌==◌, nat_le, List, [], ◌∷◌, ◌++◌, map, find, min, slice_index, Option, ℤ, pos, ◌+ℤ◌, ◌-ℤ◌, ◌*ℤ◌, unsigned_abs, if◌then◌else◌}
use Rattle.std.specs.Int.{int_min}
use Rattle.rational_theory.specs.Rational.{ℚ, ◌/ℚ◌}
use Rattle.rational_theory.specs.Gcd.{lcm}
use Rattle.progression.specs.Columns.{numbered}
use Rattle.progression.specs.Green.{is_early, since}
use Rattle.progression.specs.BaseRecord.{BaseRecord}
use Rattle.progression.specs.Speeds.{number}
use Rattle.progression.specs.Street.{Street, count, left_against, red_parts}
use Rattle.progression.specs.declared.parts.Dir.{Dir}
use Rattle.progression.specs.declared.parts.Dir.TheVariants.{Outbound, Inbound}
use Rattle.description_reader.specs.Typed.{Typed}
use Rattle.description_reader.specs.declared.measure.Reference.{Reference}
use Rattle.description_reader.specs.declared.measure.Reference.TheVariants.{Red, GreenOut, GreenIn, FirstGreen, EndOut, EndIn}
use Rattle.typed_plan.specs.Asked.{after, travel}
use Rattle.typed_plan.specs.declared.times.Times.{Times}
use Rattle.typed_plan.specs.declared.times.Times.TheVariants.{Part, After, Run}

-- ---- the times of a plan that have to be whole ticks, in seconds
abbrev pub time : Street → Typed → Times → ℕ → ℚ
time a p Part i = p.cycle /ℚ number a.head.parts
time a p After i = after p i
time a p (Run d) i = travel a p d i

abbrev pub how_many : Street → Times → ℕ
how_many a Part = 1
how_many a After = count a
how_many a (Run d) = count a - 1

-- a time in ticks, on a grid of which it is a whole number of them
abbrev pub ticks : ℕ → ℚ → ℤ
ticks grid x = x.num *ℤ pos (grid / x.den)

-- a grid that is twice as fine where a part had but one tick
abbrev pub doubled : ℕ → ℕ → ℕ
doubled unit grid = if unit == 1 then 2 * grid else grid

-- ---- the moments, in parts after the start of the common red, under a pattern
-- where a direction's red starts: before the common red where the left turn against it lags
abbrev pub start_part : Street → Dir → ℕ → ℕ → ℤ
start_part a d pattern i = pos 0 -ℤ pos (if is_early d pattern then left_against a d i else 0)

abbrev pub end_part : Street → Dir → ℕ → ℕ → ℤ
end_part a d pattern i = start_part a d pattern i +ℤ pos (red_parts a d i)

abbrev pub moment_part : Street → Reference → ℕ → ℕ → ℤ
moment_part a Red pattern i = pos 0
moment_part a GreenOut pattern i = end_part a Outbound pattern i
moment_part a GreenIn pattern i = end_part a Inbound pattern i
moment_part a FirstGreen pattern i = int_min (end_part a Outbound pattern i) (end_part a Inbound pattern i)
moment_part a EndOut pattern i = start_part a Outbound pattern i
moment_part a EndIn pattern i = start_part a Inbound pattern i

-- ---- the first number that is too large
-- A common multiple as it is told: what leaves 127 bits is told as the greatest number of 127 bits.
abbrev pub told : ℕ → ℕ
told n = min n (2 ^ 127 - 1)

-- ---- the least number of ticks a second
module _ (a : Street) (p : Typed) where
  -- the least common multiple of m and of the denominators of the first k of these times
  unfoldable pub common : Times → ℕ → ℕ → ℕ
  common times m zero = m
  common times m (suc k) = lcm (common times m k) (time a p times (suc k)).den

  abbrev pub common_all : Times → ℕ → ℕ
  common_all times m = common times m (how_many a times)

  -- these multiples, of the first, of the first two, and so on, as they are told
  abbrev pub commons : Times → ℕ → List ℕ
  commons times m = numbered (how_many a times) 1 (λ k. told (common times m k))

  unfoldable pub with_part : ℕ
  with_part = common_all Part 1

  unfoldable pub with_offsets : ℕ
  with_offsets = common_all After with_part

  unfoldable pub with_out : ℕ
  with_out = common_all (Run Outbound) with_offsets

  unfoldable pub shared : ℕ
  shared = common_all (Run Inbound) with_out

  unfoldable pub least_grid : ℕ
  least_grid = doubled (unsigned_abs (ticks shared (time a p Part 1))) shared

  abbrev pub size : Times → ℕ → ℕ
  size times i = unsigned_abs (ticks least_grid (time a p times i))

  abbrev pub runs : Dir → List ℕ
  runs d = numbered (count a - 1) 1 (size (Run d))

  abbrev pub least_unit : ℕ
  least_unit = size Part 1

  -- ---- the first number that a timing can't hold
  abbrev pub sizes : List ℕ
  sizes = least_grid ∷ (runs Outbound ++ (runs Inbound ++ (a.head.parts * least_unit ∷ [])))

  abbrev pub all_sizes : List ℕ
  all_sizes = commons Part 1 ++ (commons After with_part ++ (commons (Run Outbound) with_offsets ++ (commons (Run Inbound) with_out ++ sizes)))

  abbrev pub too_fine : Option ℕ
  too_fine = find (λ n. nat_le (2 ^ 80) n) all_sizes

  -- the least grid, and a part on it, whose cycle a timing can hold
  pub record AreLeast (grid unit : ℕ) : Type 0 where
    pub grid_is : grid ≡ least_grid
    pub unit_is : unit ≡ least_unit
    pub grid_small : grid < 2 ^ 80
    pub unit_some : 1 ≤ unit
    pub unit_small : unit < 2 ^ 80
    pub cycle_small : a.head.parts * unit < 2 ^ 80

  -- ---- the base
  -- how many ticks after the start of its common red the moment of signal i comes from which its offset counts
  abbrev pub lead : ℕ → ℤ
  lead i = moment_part a p.reference (slice_index p.patterns (i - 1)) i *ℤ pos least_unit

  -- where the common red of signal i starts, that of signal 1 at 0
  abbrev pub red_tick : ℕ → ℕ
  red_tick i = since (a.head.parts * least_unit) (lead i) (ticks least_grid (after p i) +ℤ lead 1)

  abbrev pub least_base : BaseRecord
  least_base = record {
    grid = least_grid;
    unit = least_unit;
    patterns = p.patterns;
    reds = map pos (numbered (count a) 1 red_tick);
    run_out = runs Outbound;
    run_in = runs Inbound;
  }
