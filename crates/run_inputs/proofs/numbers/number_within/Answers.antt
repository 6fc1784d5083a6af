use Rattle.std.proofs.Common.{◌≡◌, List, ℕ, true, false, sym, subst, arith}
use Rattle.plan_text.specs.Numbers.{is_numeral}
use Rattle.run_inputs.proofs.Spelled.{none_unless, some_within, none_below, none_above, none_huge}
use Rattle.run_inputs.proofs.numbers.number_within.Goals as goal

pub returns-then-not-is_numeral-clause-number : goal.returns-then-not-is_numeral-clause-number
returns-then-not-is_numeral-clause-number c =
    none_unless c.args.least c.args.most c.args.word.now (subst (λ (w : List ℕ). is_numeral w ≡ false) c.as_bytes.ensures.value (sym c.if-not-is_numeral.ensures))

pub returns-in-Ok-clause-number : goal.returns-in-Ok-clause-number
returns-in-Ok-clause-number c =
    some_within c.args.least c.args.most c.args.word.now (subst (λ (w : List ℕ). is_numeral w ≡ true) c.as_bytes.ensures.value (sym c.if-not-is_numeral.ensures)) c.in-Ok.number c.in-Ok.ensures.value.0
    c.if-least-number.true c.if-number-most.true

pub returns-in_default-clause-number : goal.returns-in_default-clause-number
returns-in_default-clause-number c =
    none_above c.args.least c.args.most c.args.word.now (subst (λ (w : List ℕ). is_numeral w ≡ true) c.as_bytes.ensures.value (sym c.if-not-is_numeral.ensures)) c.in-Ok.number c.in-Ok.ensures.value.0
    c.if-number-most.false

pub returns-in_default-2-clause-number : goal.returns-in_default-2-clause-number
returns-in_default-2-clause-number c =
    none_below c.args.least c.args.most c.args.word.now (subst (λ (w : List ℕ). is_numeral w ≡ true) c.as_bytes.ensures.value (sym c.if-not-is_numeral.ensures)) c.in-Ok.number c.in-Ok.ensures.value.0
    c.if-least-number.false

pub returns-in_default-3-clause-number : goal.returns-in_default-3-clause-number
returns-in_default-3-clause-number c =
    none_huge c.args.least c.args.most c.args.word.now (subst (λ (w : List ℕ). is_numeral w ≡ true) c.as_bytes.ensures.value (sym c.if-not-is_numeral.ensures)) (omega arith)
    c.in_default.ensures.value.0
