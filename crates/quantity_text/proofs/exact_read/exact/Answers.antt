use Rattle.std.proofs.Common.{true, drop, refl}
use Rattle.rational_theory.specs.Rational.{ℚ}
use Rattle.quantity_text.specs.Exact.{SpellsExactly, SpellsSigned}
use Rattle.quantity_text.proofs.ExactTexts.{none_weaker, minus_out, rest_all}
use Rattle.quantity_text.proofs.exact_read.exact.Goals as goal

pub returns-then-has_minus-clause-none : goal.returns-then-has_minus-clause-none
returns-then-has_minus-clause-none c =
    let other : ((x : ℚ) → SpellsSigned true (drop 1 c.args.text.now) x → ⊥) → (x : ℚ) → SpellsExactly c.args.text.now x → ⊥ =
    λ none x s. none x (minus_out c.args.text.now x (c.if-has_minus.ensures.first.0 refl) s) in
    none_weaker _ _ _ other (rw (rest_all 1 c.args.text.now) at c.with_sign.ensures.none)
