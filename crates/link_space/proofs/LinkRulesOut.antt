-- A rule that fails rules out that the link timing is good.
use Rattle.std.proofs.Common.{ℕ}
use Rattle.std.specs.Prelude.{ℤ}
use Rattle.progression.specs.Street.{Street}
use Rattle.progression.specs.declared.parts.Dir.{Dir}
use Rattle.progression.specs.declared.parts.Dir.TheVariants.{Outbound, Inbound}
use Rattle.time_space.proofs.Firsts.{rules_out_base}
use Rattle.link_theory.specs.LinkRecord.{LinkRecord, link_base, half}
use Rattle.link_theory.specs.GoodLinks.{GoodLinks, IsGreenAround}
use Rattle.link_space.specs.LinkGreens.{IsBlockedEnd}
use Rattle.link_space.specs.LinkFailing.{LinkFailsRulesOut}
use Rattle.link_space.specs.declared.failing.LinkFailing.TheVariants as failing
use Rattle.link_space.proofs.Ends.{at_ends, not_both_there}

blocked_rules_out : (a : Street) (t : LinkRecord) (d : Dir) (i s : ℕ) (z : ℤ) → IsBlockedEnd a t d i s z → ¬ GoodLinks a t
blocked_rules_out a t d i s z w g =
    not_both_there a t d i s w.after (at_ends (λ r. IsGreenAround a t d r (half t d i)) i (g.here d i w.has) (g.there d i w.has) s w.end) w.blocked

pub link_rules_out : LinkFailsRulesOut
link_rules_out a t (failing.Base f) w g = rules_out_base a (link_base t) f w g.base
link_rules_out a t (failing.Ratio i) w g = w.1 (g.ratio i w.0)
link_rules_out a t (failing.Outbound i s z) w g = blocked_rules_out a t Outbound i s z w g
link_rules_out a t (failing.Inbound i s z) w g = blocked_rules_out a t Inbound i s z w g
