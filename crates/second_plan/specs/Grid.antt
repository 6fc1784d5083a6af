-- The plan's base, on whose grid its offsets, its parts and the timing's runs are whole ticks.
use Rattle.std.specs.Prelude.{ℕ, ◌*◌, ◌^◌, nat_le, List, [], ◌∷◌, ◌++◌, map, find, Option, pos}
use Rattle.progression.specs.Street.{Street}
use Rattle.progression.specs.BaseRecord.{BaseRecord, cycle}

-- how many ticks of the plan a tick of the timing has
abbrev pub fineness : Street → ℕ
fineness a = 2 * a.head.parts

-- the plan's ticks in a second, and in a part of a cycle of k seconds
abbrev pub plan_grid : Street → BaseRecord → ℕ
plan_grid a b = b.grid * fineness a

abbrev pub plan_unit : BaseRecord → ℕ → ℕ
plan_unit b k = 2 * k * b.grid

-- the base on another grid, with these offsets and runs
abbrev pub on_grid : ℕ → ℕ → List ℕ → List ℕ → List ℕ → BaseRecord → BaseRecord
on_grid grid unit offsets run_out run_in b = record {
  grid = grid;
  unit = unit;
  patterns = b.patterns;
  reds = map (λ offset. pos (offset * grid)) offsets;
  run_out = run_out;
  run_in = run_in;
}

-- The base in k seconds with these offsets, its runs as long as they were.
abbrev pub in_seconds : Street → BaseRecord → ℕ → List ℕ → BaseRecord
in_seconds a b k offsets = on_grid (plan_grid a b) (plan_unit b k) offsets (map (λ n. n * fineness a) b.run_out) (map (λ n. n * fineness a) b.run_in) b

-- its grid, its runs, outbound and inbound, and its cycle
abbrev pub sizes : Street → BaseRecord → ℕ → List ℕ
sizes a b k = let plan = in_seconds a b k [] in (plan.grid ∷ []) ++ (plan.run_out ++ (plan.run_in ++ (cycle a plan ∷ [])))

-- the first of these that a timing cannot hold
abbrev pub too_fine : Street → BaseRecord → ℕ → Option ℕ
too_fine a b k = find (λ n. nat_le (2 ^ 80) n) (sizes a b k)
