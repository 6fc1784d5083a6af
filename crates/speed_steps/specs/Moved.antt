-- A street whose limits of speed are moved, inwards or outwards, to speeds whose runs are multiples of a step.
use Rattle.std.specs.Prelude.{ℕ, ◌+◌, List, map, find, sum_by, Bool, ◌&&◌, if◌then◌else◌, Option, None, Some, is_none, unwrap_or}
use Rattle.std.specs.Option.{option_or}
use Rattle.std.specs.Ordering.{is_eq}
use Rattle.rational_theory.specs.Rational.{ℚ, whole}
use Rattle.rational_theory.specs.Compare.{cmp_ℚ}
use Rattle.progression.specs.Street.{Street, distance, speed}
use Rattle.progression.specs.declared.parts.Link.{Link}
use Rattle.progression.specs.declared.parts.Pair.{Pair}
use Rattle.progression.specs.declared.parts.Units.{Units}
use Rattle.progression.specs.declared.parts.Dir.{Dir}
use Rattle.artery_model.specs.Bounds.{least_speed, most_speed}
use Rattle.artery_model.specs.Limits.{within, at_most}
use Rattle.speed_steps.specs.Steps.{steps, faster, slower}
use Rattle.speed_steps.specs.declared.way.Way.{Way}
use Rattle.speed_steps.specs.declared.way.Way.TheVariants.{Inwards, Outwards}

-- a speed that a description may have, and limits that it may have
abbrev pub is_speed : ℚ → Bool
is_speed v = within (whole least_speed) (whole most_speed) v

abbrev pub are_limits : Pair → Bool
are_limits p = is_speed p.least && is_speed p.most && at_most p.least p.most

-- ---- the two limits of a direction of a link
-- both moved by a step
abbrev pub at_step : Way → Units → ℕ → Pair → ℚ → Pair
at_step Inwards units length p step = record { least = faster units length p.least step; most = slower units length p.most step }
at_step Outwards units length p step = record { least = slower units length p.least step; most = faster units length p.most step }

-- by the first step by which both are limits of a description
abbrev pub both_moved : Way → Units → ℕ → Pair → Option Pair
both_moved way units length p = find are_limits (map (at_step way units length p) (steps units))

-- each by itself outwards, one that no step moves to a speed of a description staying
abbrev pub with_moved : Pair → Option ℚ → Option ℚ → Option Pair
with_moved p None None = None
with_moved p least most = Some (record { least = unwrap_or least p.least; most = unwrap_or most p.most })

abbrev pub each_moved : Units → ℕ → Pair → Option Pair
each_moved units length p =
    with_moved p (find is_speed (map (slower units length p.least) (steps units))) (find is_speed (map (faster units length p.most) (steps units)))

-- Where they move to, if at all. Equal limits don't move inwards; outwards each moves by itself where no step serves both.
abbrev pub limits_moved : Way → Units → ℕ → Pair → Option Pair
limits_moved Inwards units length p = if is_eq (cmp_ℚ p.least p.most) then None else both_moved Inwards units length p
limits_moved Outwards units length p = option_or (both_moved Outwards units length p) (each_moved units length p)

abbrev pub moved : Way → Units → ℕ → Pair → Pair
moved way units length p = unwrap_or (limits_moved way units length p) p

-- ---- the street
abbrev pub link_moved : Way → Units → Link → Link
link_moved way units l = record l { speed_out = moved way units l.distance_out l.speed_out; speed_in = moved way units l.distance_in l.speed_in }

abbrev pub street_moved : Way → Street → Street
street_moved way a = record a { links = map (link_moved way a.head.units) a.links }

abbrev pub narrow : Street → Street
narrow a = street_moved Inwards a

abbrev pub widen : Street → Street
widen a = street_moved Outwards a

-- ---- what is told of it
-- none of a direction's limits can be moved
abbrev pub stays : Way → Street → Dir → ℕ → Bool
stays way a d i = is_none (limits_moved way a.head.units (distance a d i) (speed a d i))

-- how many limits differ from what they were
abbrev pub changed : ℚ → ℚ → ℕ
changed v w = if is_eq (cmp_ℚ v w) then 0 else 1

abbrev pub changes : Pair → Pair → ℕ
changes p q = changed p.least q.least + changed p.most q.most

abbrev pub link_changes : Way → Units → Link → ℕ
link_changes way units l = changes l.speed_out (moved way units l.distance_out l.speed_out) + changes l.speed_in (moved way units l.distance_in l.speed_in)

abbrev pub limits_changed : Way → Street → ℕ
limits_changed way a = sum_by (link_changes way a.head.units) a.links
