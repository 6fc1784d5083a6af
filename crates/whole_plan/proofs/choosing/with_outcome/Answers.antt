use Rattle.std.proofs.Common.{subst}
use Rattle.whole_plan.specs.Sets.{IsOutcome}
use Rattle.whole_plan.specs.declared.setting.Outcome.{Outcome}
use Rattle.whole_plan.proofs.choosing.with_outcome.Goals as goal

pub returns-in-OffsetSet : goal.returns-in-OffsetSet
returns-in-OffsetSet c = λ a given h. c.with_offset_set.ensures a given (subst (λ (t : Outcome). IsOutcome a given c.args.seconds t) c.in-OffsetSet.is h)

pub returns-in-Ended : goal.returns-in-Ended
returns-in-Ended c = λ a given h. c.with_end.ensures a given (subst (λ (t : Outcome). IsOutcome a given c.args.seconds t) c.in-Ended.is h)
