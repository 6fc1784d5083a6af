use Rattle.rational_theory.specs.Rational.{ℚ}
use Rattle.quantity_text.specs.Exact.{HasParts, SpellsSigned}
use Rattle.quantity_text.proofs.ExactTexts.{none_weaker, parts_agree}
use Rattle.quantity_text.proofs.exact_read.with_sign.Goals as goal

pub returns-in-Some-clause-none : goal.returns-in-Some-clause-none
returns-in-Some-clause-none c =
    let other : ((x : ℚ) → HasParts x c.args.negative c.in-Some.size.top c.in-Some.size.bottom → ⊥) → (x : ℚ) → SpellsSigned c.args.negative c.args.text.now x → ⊥ =
    λ none x s. none x (parts_agree c.args.negative c.args.text.now x c.in-Some.size.top c.in-Some.size.bottom c.in-Some.ensures.some s) in
    none_weaker _ _ _ other c.signed.ensures.none
