-- The grid of a plan in whole seconds: its seconds and parts are whole ticks, and so is some run of each link within its limits of speed.
use Rattle.std.specs.Prelude.{◌≡◌, ℕ, zero, suc, ◌-◌, ◌*◌, ◌^◌, ◌≤◌, nat_le, Bool, ◌||◌, is_some, if◌then◌else◌, Option, Some, None, unsigned_abs}
use Rattle.std.specs.List.{list_any}
use Rattle.std.specs.Option.{option_or}
use Rattle.rational_theory.specs.Rational.{◌*ℚ◌}
use Rattle.rational_theory.specs.Gcd.{lcm}
use Rattle.progression.specs.Street.{Street, count}
use Rattle.progression.specs.BaseRecord.{BaseRecord}
use Rattle.progression.specs.Speeds.{number, run_low, run_high}
use Rattle.progression.specs.declared.parts.Link.{Link}
use Rattle.progression.specs.declared.parts.Dir.{Dir}
use Rattle.progression.specs.declared.parts.Dir.TheVariants.{Outbound, Inbound}
use Rattle.band_measure.specs.Cut.{whole_part}
use Rattle.second_plan.specs.Grid.{plan_grid, plan_unit, too_fine}

-- Some link has limits of the change of pace. They tie neighbouring runs, so that there runs stay those of the base.
abbrev pub limits_pace : Street → Bool
limits_pace a = list_any (λ (l : Link). is_some l.change_out || is_some l.change_in) a.links

-- the greatest run on a link, rounded to whole ticks of a grid
abbrev pub most_run : Street → ℕ → Dir → ℕ → ℕ
most_run a grid d i = whole_part (run_high a d i *ℚ number grid)

-- it isn't below the least
abbrev pub has_whole_run : Street → ℕ → Dir → ℕ → Bool
has_whole_run a grid d i = let low = run_low a d i in nat_le (unsigned_abs low.num * grid) (most_run a grid d i * low.den)

-- ---- where runs are free
-- a plan's grid has at least so many ticks in a second for each part of the cycle
abbrev pub least_multiple : ℕ
least_multiple = 1000

-- by how much they have to grow for a link: where no whole tick lies within the limits the least run becomes one
abbrev pub growth : Street → Dir → ℕ → ℕ
growth a d i = if has_whole_run a (a.head.parts * least_multiple) d i then 1 else (run_low a d i).den

abbrev pub is_large : ℕ → Bool
is_large n = nat_le (2 ^ 80) n

-- m, and after the first n links; no more is done once the grid is too large
abbrev pub grown : Street → Dir → ℕ → ℕ → ℕ
grown a d m zero = m
grown a d m (suc n) = let before = grown a d m n in if is_large (a.head.parts * before) then before else lcm before (growth a d (suc n))

abbrev pub multiple : Street → ℕ
multiple a = grown a Inbound (grown a Outbound least_multiple (count a - 1)) (count a - 1)

-- ---- the ticks in a second and in a part of the cycle; where runs are those of the base on its grid, made finer
abbrev pub whole_grid : Street → BaseRecord → ℕ
whole_grid a b = if limits_pace a then plan_grid a b else a.head.parts * multiple a

abbrev pub whole_unit : Street → BaseRecord → ℕ → ℕ
whole_unit a b k = if limits_pace a then plan_unit b k else k * multiple a

-- ---- numbers that no timing holds
abbrev pub large : ℕ → Option ℕ
large n = if is_large n then Some n else None

abbrev pub large_run : Street → Dir → ℕ → ℕ → Option ℕ
large_run a d grid zero = None
large_run a d grid (suc n) = option_or (large_run a d grid n) (large (most_run a grid d (suc n)))

-- the first of the grid, the greatest runs, outbound and inbound, and the cycle
abbrev pub free_large : Street → ℕ → ℕ → Option ℕ
free_large a grid k = let n = count a - 1 in
    option_or (large grid) (option_or (option_or (large_run a Outbound grid n) (large_run a Inbound grid n)) (large (grid * k)))

abbrev pub too_large : Street → BaseRecord → ℕ → Option ℕ
too_large a b k = if limits_pace a then too_fine a b k else free_large a (a.head.parts * multiple a) k

-- the scale of a plan whose numbers timings hold
pub record IsScale (a : Street) (b : BaseRecord) (k grid unit : ℕ) : Type 0 where
  pub some : 1 ≤ k
  pub small : k ≤ 3600
  pub grid_is : grid ≡ whole_grid a b
  pub unit_is : unit ≡ whole_unit a b k
  pub fits : too_large a b k ≡ None
