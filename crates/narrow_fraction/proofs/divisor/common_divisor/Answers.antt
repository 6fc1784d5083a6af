use Rattle.std.proofs.Common.{◌≡◌, ℕ, ◌∙◌, sym, ◌⊎◌, inl, inr}
use Rattle.rational_theory.proofs.Fractions.{gcd-step, gcd-zero, gcd-one, one-gcd}
use Rattle.rational_theory.specs.laws.Fractions.{gcd_pos}
use Rattle.rational_theory.specs.Gcd.{gcd}
use Rattle.narrow_fraction.proofs.divisor.common_divisor.Goals as goal

one_divides : (a b : ℕ) → (a ≡ 1) ⊎ ((a ≡ 1 → ⊥) × (b ≡ 1)) → 1 ≡ gcd a b
one_divides a b (inl e) = rw e (sym (one-gcd b))
one_divides a b (inr h) = rw h.1 (sym (gcd-one a))

pub returns-then-a-eq1-clause-value : goal.returns-then-a-eq1-clause-value
returns-then-a-eq1-clause-value c = one_divides c.args.a c.args.b c.then-a-eq1.either

pub steps-preserved : goal.steps-preserved
steps-preserved c = sym (gcd-step c.steps.x c.steps.y) ∙ c.steps.invariant

pub returns-then-y-eq0-clause-value : goal.returns-then-y-eq0-clause-value
returns-then-y-eq0-clause-value c = sym (gcd-zero c.steps.x c.steps.y c.if-y-eq0.true) ∙ c.steps.invariant

pub returns-then-y-eq0-clause-positive : goal.returns-then-y-eq0-clause-positive
returns-then-y-eq0-clause-positive c h = rw (sym (gcd-zero c.steps.x c.steps.y c.if-y-eq0.true) ∙ c.steps.invariant) (gcd_pos c.args.a c.args.b h)

pub returns-clause-value : goal.returns-clause-value
returns-clause-value c = (rw c.remainder.ensures at c.word_divisor.ensures.value) ∙ sym (gcd-step c.steps.x c.steps.y) ∙ c.steps.invariant

pub returns-clause-positive : goal.returns-clause-positive
returns-clause-positive c h = rw ((rw c.remainder.ensures at c.word_divisor.ensures.value) ∙ sym (gcd-step c.steps.x c.steps.y) ∙ c.steps.invariant) (gcd_pos c.args.a c.args.b h)
