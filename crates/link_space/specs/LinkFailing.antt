-- What it means that a link failing fails.
use Rattle.progression.specs.Street.{Street, HasLink}
use Rattle.progression.specs.Good.{RatioHolds}
use Rattle.progression.specs.declared.parts.Dir.TheVariants.{Outbound, Inbound}
use Rattle.time_space.specs.Failing.{BaseFails}
use Rattle.link_theory.specs.LinkRecord.{LinkRecord, link_base, half}
use Rattle.link_theory.specs.GoodLinks.{GoodLinks}
use Rattle.link_space.specs.LinkGreens.{IsBlockedEnd}
use Rattle.link_space.specs.declared.failing.LinkFailing.{LinkFailing}
use Rattle.link_space.specs.declared.failing.LinkFailing.TheVariants as failing

-- the rule that a link failing names doesn't hold there; the first of them are the rules of its base
abbrev pub LinkFails : Street → LinkRecord → LinkFailing → Type 0
LinkFails a t (failing.Base f) = BaseFails a (link_base t) f
LinkFails a t (failing.Ratio i) = HasLink a i × (¬ RatioHolds a.head.ratio (half t Outbound i) (half t Inbound i))
LinkFails a t (failing.Outbound i signal tick) = IsBlockedEnd a t Outbound i signal tick
LinkFails a t (failing.Inbound i signal tick) = IsBlockedEnd a t Inbound i signal tick

-- no link timing is good where a rule fails
abbrev pub LinkFailsRulesOut : Type 0
LinkFailsRulesOut = (a : Street) (t : LinkRecord) (f : LinkFailing) → LinkFails a t f → ¬ GoodLinks a t
