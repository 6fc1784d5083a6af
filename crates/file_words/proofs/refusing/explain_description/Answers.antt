use Rattle.std.proofs.Common.{ap, subst, ◌∙◌}
use Rattle.description_reader.specs.Described.{Refuses}
use Rattle.file_words.proofs.Telling.{street_told, description_told}
use Rattle.file_words.proofs.refusing.explain_description.Goals as goal

pub returns-in_ok-street_lines-in-Ok-clause-told : goal.returns-in_ok-street_lines-in-Ok-clause-told
returns-in_ok-street_lines-in-Ok-clause-told c =
    street_told c.args.bytes.now c.in-Ok.artery c.told.result.cause c.told.result.lines.items c.in-Ok.ensures.described c.known_valid.ensures c.told.ensures.cause
    (ap (λ v. v.items) c.told.ensures.lines ∙ c.in_ok-street_lines-in-Ok.ensures)

pub returns-in-Err-Refused-clause-told : goal.returns-in-Err-Refused-clause-told
returns-in-Err-Refused-clause-told c =
    description_told c.args.bytes.now c.in-Err-Refused.refusal c.explain_refused.result (subst
    (λ f. Refuses c.args.bytes.now f) c.in-Err-Refused.field-0-is c.in-Err-Refused.ensures.refused) c.explain_refused.ensures.cause c.explain_refused.ensures.lines
