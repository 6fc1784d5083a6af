-- The value of a link timing, and what it means that one is best: no good link timing on any grid has a greater one.
use Rattle.std.specs.List.{sum}
use Rattle.rational_theory.specs.Rational.{ℚ, ◌+ℚ◌, ◌*ℚ◌, ◌/ℚ◌}
use Rattle.progression.specs.Street.{Street}
use Rattle.progression.specs.Speeds.{number}
use Rattle.progression.specs.Objectives.{Objective, BoundedBy, BestOf, NoneOf}
use Rattle.progression.specs.BaseRecord.{cycle}
use Rattle.link_theory.specs.LinkRecord.{LinkRecord, link_base}
use Rattle.link_theory.specs.GoodLinks.{GoodLinks}

-- the widths of all bands, each twice its half, the inbound ones times the ratio, as a fraction of the cycle
abbrev pub link_value : Street → LinkRecord → ℚ
link_value a t = (number 2 *ℚ (number (sum t.half_out) +ℚ a.head.ratio *ℚ number (sum t.half_in))) /ℚ number (cycle a (link_base t))

-- the good link timings of an artery, on any grid, by their values
abbrev pub links_of : Street → Objective LinkRecord
links_of a = record { IsGood = GoodLinks a; worth = link_value a }

abbrev pub BoundedLinks : Street → ℚ → Type 0
BoundedLinks a = BoundedBy (links_of a)

abbrev pub BestLinks : Street → LinkRecord → Type 0
BestLinks a = BestOf (links_of a)

abbrev pub NoLinks : Street → Type 0
NoLinks a = NoneOf (links_of a)
