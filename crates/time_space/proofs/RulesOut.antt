-- A rule that fails rules out that the timing is good, and one of a base that the base keeps its rules.
use Rattle.progression.specs.Street.{Street}
use Rattle.progression.specs.BaseRecord.{BaseRecord}
use Rattle.progression.specs.TimingRecord.{base}
use Rattle.progression.specs.Good.{IsBase}
use Rattle.progression.specs.declared.parts.Dir.TheVariants.{Outbound, Inbound}
use Rattle.time_space.specs.Failing.{FailsRulesOut}
use Rattle.time_space.specs.FirstFailing.{IsFirstBaseFailing}
use Rattle.time_space.specs.declared.failing.Failing.{Failing}
use Rattle.time_space.specs.declared.failing.Failing.TheVariants as failing
use Rattle.time_space.proofs.Firsts.{not_both, rules_out_base}

pub not_base : (a : Street) (b : BaseRecord) (f : Failing) → IsFirstBaseFailing a b f → ¬ IsBase a b
not_base a b f p h = rules_out_base a b f p.fails h

pub rules_out : FailsRulesOut
rules_out a t failing.Ratio w g = w g.ratio
rules_out a t (failing.Least d) w g = w (g.least d)
rules_out a t failing.Equal w g = w g.equal
rules_out a t (failing.Outbound i tick) w g = not_both a t Outbound w.at w.here.after (g.outbound w.at w.on_way) w.here.blocked
rules_out a t (failing.Inbound i tick) w g = not_both a t Inbound w.at w.here.after (g.inbound w.at w.on_way) w.here.blocked
rules_out a t f w g = rules_out_base a (base t) f w g.base
