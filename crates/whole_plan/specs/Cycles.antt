-- Which cycles are tried: of the whole seconds within the artery's limits those that are named, or where none are the hundred nearest to one.
use Rattle.std.specs.Prelude.{ℕ, ◌+◌, ◌*◌, ◌&&◌, ◌||◌, nat_lt, nat_eq, Bool, List, [], ◌∷◌, filter, count_by, Option, None, Some, unsigned_abs}
use Rattle.std.specs.List.{list_any, range_with_len}
use Rattle.progression.specs.Street.{Street}
use Rattle.progression.specs.Speeds.{number}
use Rattle.progression.specs.TimingRecord.{TimingRecord, base}
use Rattle.progression.specs.BaseRecord.{cycle}
use Rattle.progression.specs.declared.parts.Pair.{Pair}
use Rattle.artery_model.specs.Limits.{at_most}
use Rattle.second_plan.specs.Nearest.{apart}
use Rattle.whole_plan.specs.declared.cycles.Seconds.{Seconds}

-- a cycle of so many seconds is within the limits: `IsWholeCycle` of `second_plan` as a test
abbrev pub is_whole_cycle : Street → ℕ → Bool
is_whole_cycle a k = at_most a.head.cycle.least (number k) && at_most (number k) a.head.cycle.most

-- from the least on: no artery has a cycle of more than an hour
unfoldable pub whole_cycles : Street → List ℕ
whole_cycles a = filter (is_whole_cycle a) (range_with_len 1 3600)

-- ---- where none are named
-- halfway between the limits (which are above 0), in seconds num / den
abbrev pub middle : Pair → Seconds
middle p = record {
  num = unsigned_abs p.least.num * p.most.den + unsigned_abs p.most.num * p.least.den;
  den = 2 * (p.least.den * p.most.den);
}

-- the cycle of the given timing, and without one halfway between the limits
abbrev pub centre : Street → Option TimingRecord → Seconds
centre a (Some t) = record { num = cycle a (base t); den = t.grid }
centre a None = middle a.head.cycle

-- j is nearer to it than k, or as near and less
abbrev pub is_nearer : Seconds → ℕ → ℕ → Bool
is_nearer c j k =
    let near = apart (j * c.den) c.num in
    let far = apart (k * c.den) c.num in
    nat_lt near far || nat_eq near far && nat_lt j k

-- fewer than a hundred of them are nearer
abbrev pub is_near : Seconds → List ℕ → ℕ → Bool
is_near c cycles k = nat_lt (count_by (λ j. is_nearer c j k) cycles) 100

-- ---- those that are tried, from the least on
abbrev pub is_named : List ℕ → ℕ → Bool
is_named named k = list_any (λ m. nat_eq m k) named

abbrev pub tried_cycles : Street → Option TimingRecord → List ℕ → List ℕ
tried_cycles a given [] = filter (is_near (centre a given) (whole_cycles a)) (whole_cycles a)
tried_cycles a given (n ∷ named) = filter (is_named (n ∷ named)) (whole_cycles a)
