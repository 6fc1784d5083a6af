use Rattle.std.proofs.Common.{◌≡◌, ◌∙◌, ap, inr, rules}
use Rattle.whole_plan.specs.Cycles.{tried_cycles}
use Rattle.run_commands.proofs.Wholes.{offsets_long, whole_told, planless, has_no_plan}
use Rattle.run_commands.proofs.whole.plan_from.Goals as goal

pub returns-in-Ok-clause-finds : goal.returns-in-Ok-clause-finds
returns-in-Ok-clause-finds c =
    let same : c.certificate.inside.timing ≡ c.args.certificate.now.timing = search rules in
    whole_told c.args.artery.now c.args.certificate.now c.args.named.now c.args.claim c.args.start.now c.requires.basis c.as_slice.result.now c.in-Ok.plan c.tell_plan.result
    (c.as_slice.ensures.value ∙ c.in_ok-cycles.ensures.tried
    ∙ ap (λ o. tried_cycles c.args.artery.now o c.args.named.now) same)
    c.in-Ok.ensures.plan c.in-Ok.ensures.good c.in-Ok.ensures.best (c.in-Ok.ensures.loss c.requires.basis.bounded) c.tell_plan.ensures

pub returns-in-Err-End-clause-finds : goal.returns-in-Err-End-clause-finds
returns-in-Err-End-clause-finds c =
    let same : c.certificate.inside.timing ≡ c.args.certificate.now.timing = search rules in
    let ends = rw c.in-Err-End.field-0-is at c.in-Err-End.ensures.faults in
    planless c.args.artery.now c.args.certificate.now c.args.named.now c.in-Err-End.end c.unplanned.result
    (inr (has_no_plan c.args.artery.now c.args.certificate.now c.args.named.now c.args.claim c.args.start.now c.requires.basis c.as_slice.result.now c.in-Err-End.end
    (c.as_slice.ensures.value ∙ c.in_ok-cycles.ensures.tried ∙ ap (λ o. tried_cycles c.args.artery.now o c.args.named.now) same) ends))
    c.unplanned.ensures.cause c.unplanned.ensures.lines c.unplanned.ensures.no_put

pub tell_plan-requires-clause-base : goal.tell_plan-requires-clause-base
tell_plan-requires-clause-base c = c.in-Ok.ensures.good.base

pub tell_plan-requires-clause-offsets : goal.tell_plan-requires-clause-offsets
tell_plan-requires-clause-offsets c =
    offsets_long c.args.artery.now c.args.claim c.args.start.now c.as_slice.result.now c.in-Ok.plan c.in-Ok.ensures.plan
