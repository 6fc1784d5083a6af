-- A link timing as a point of linear programming: the point of its lines, and behind it the halves, outbound and inbound.
use Rattle.std.specs.Prelude.{ℕ, ◌+◌, ◌-◌, ◌*◌, List, ◌++◌, map}
use Rattle.rational_theory.specs.Rational.{ℚ, ◌/ℚ◌}
use Rattle.progression.specs.Street.{Street}
use Rattle.progression.specs.Columns.{point}
use Rattle.progression.specs.declared.parts.Dir.{Dir}
use Rattle.progression.specs.declared.parts.Dir.TheVariants.{Outbound, Inbound}
use Rattle.progression.specs.Speeds.{number}
use Rattle.progression.specs.BaseRecord.{cycle}
use Rattle.link_theory.specs.LinkRecord.{LinkRecord, link_base, lines}

-- how many columns n signals have, and where the half of link i stands, from 0
abbrev pub link_width : ℕ → ℕ
link_width n = 7 * n - 1

abbrev pub half_place : ℕ → Dir → ℕ → ℕ
half_place n Outbound i = 5 * n + i
half_place n Inbound i = 6 * n - 1 + i

-- ticks as fractions of the cycle
abbrev pub shares : Street → LinkRecord → List ℕ → List ℚ
shares a t ks = map (λ k. number k /ℚ number (cycle a (link_base t))) ks

-- the point of a link timing; the bands of its lines, in columns 0 and 1, are 0
abbrev pub link_point : Street → LinkRecord → List ℚ
link_point a t = point a (lines t) ++ (shares a t t.half_out ++ shares a t t.half_in)
