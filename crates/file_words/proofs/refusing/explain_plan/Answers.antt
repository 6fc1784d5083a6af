use Rattle.std.proofs.Common.{ap, subst, ◌∙◌}
use Rattle.description_reader.specs.Described.{RefusesBy}
use Rattle.description_reader.specs.Typed.{plan_fault}
use Rattle.file_words.proofs.Telling.{typed_told, plan_told}
use Rattle.file_words.proofs.refusing.explain_plan.Goals as goal

pub returns-in_ok-plan_lines-in-Ok-clause-told : goal.returns-in_ok-plan_lines-in-Ok-clause-told
returns-in_ok-plan_lines-in-Ok-clause-told c =
    typed_told c.args.bytes.now c.in-Ok.plan c.told.result.cause c.told.result.lines.items c.in-Ok.ensures.plan c.told.ensures.cause
    (ap (λ v. v.items) c.told.ensures.lines ∙ c.in_ok-plan_lines-in-Ok.ensures)

pub returns-in-Err-Refused-clause-told : goal.returns-in-Err-Refused-clause-told
returns-in-Err-Refused-clause-told c =
    plan_told c.args.bytes.now c.in-Err-Refused.refusal c.explain_refused.result (subst
    (λ f. RefusesBy plan_fault c.args.bytes.now f) c.in-Err-Refused.field-0-is c.in-Err-Refused.ensures.refused) c.explain_refused.ensures.cause c.explain_refused.ensures.lines
