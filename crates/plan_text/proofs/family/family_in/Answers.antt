use Rattle.std.proofs.Common.{List, ℕ, sym, ap, ◌∙◌}
use Rattle.certificate_model.specs.Words.{is_text}
use Rattle.certificate_model.specs.Families.{table_of, family_in}
use Rattle.plan_text.proofs.FamilyNames.{goes_on, stops}
use Rattle.plan_text.proofs.family.family_in.Goals as goal

pub returns-then-eq : goal.returns-then-eq
returns-then-eq c = stops c.loop-place.place c.args.names.now c.args.word.now _ (family_in (table_of c.args.names.now) c.args.word.now) c.loop-place-test.true
    (ap (λ (w : List ℕ). is_text w c.args.word.now) (sym c.as_bytes.ensures.value) ∙ (sym c.eq.ensures ∙ c.if-eq.true)) c.loop-place.invariant

pub loop-place-preserved : goal.loop-place-preserved
loop-place-preserved c = goes_on c.loop-place.place c.args.names.now c.args.word.now _ (family_in (table_of c.args.names.now) c.args.word.now)
    c.loop-place-test.true (ap (λ (w : List ℕ). is_text w c.args.word.now) (sym c.as_bytes.ensures.value) ∙ (sym c.eq.ensures ∙ c.if-eq.false)) c.loop-place.invariant
