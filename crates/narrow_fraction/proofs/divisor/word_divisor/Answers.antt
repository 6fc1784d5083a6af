use Rattle.std.proofs.Common.{◌≡◌, ℕ, ◌*◌, ◌%◌, ◌^◌, ◌∙◌, sym, ap, arith, ◌⊎◌, inl, inr}
use Rattle.rational_theory.specs.Gcd.{gcd}
use Rattle.rational_theory.specs.laws.Fractions.{gcd_pos}
use Rattle.rational_theory.proofs.Fractions.{gcd-step, gcd-zero, gcd-one, one-gcd}
use Rattle.narrow_fraction.proofs.Halves.{by_odd_parts}
use Rattle.narrow_fraction.proofs.divisor.word_divisor.Goals as goal

one_divides : (a b : ℕ) → (a ≡ 1) ⊎ ((a ≡ 1 → ⊥) × (b ≡ 1)) → 1 ≡ gcd a b
one_divides a b (inl e) = rw e (sym (one-gcd b))
one_divides a b (inr h) = rw h.1 (sym (gcd-one a))

pub returns-then-a-eq1-clause-value : goal.returns-then-a-eq1-clause-value
returns-then-a-eq1-clause-value c = one_divides c.args.a c.args.b c.then-a-eq1.either

pub returns-then-b-eq0-clause-value : goal.returns-then-b-eq0-clause-value
returns-then-b-eq0-clause-value c = sym (gcd-zero c.args.a c.args.b c.if-b-eq0.true)

pub returns-then-rest-eq0-clause-value : goal.returns-then-rest-eq0-clause-value
returns-then-rest-eq0-clause-value c = sym (gcd-step c.args.a c.args.b ∙ gcd-zero c.args.b _ c.if-rest-eq0.true)

pub returns-then-rest-eq1-clause-value : goal.returns-then-rest-eq1-clause-value
returns-then-rest-eq1-clause-value c = sym (gcd-step c.args.a c.args.b ∙ ap (gcd c.args.b) c.if-rest-eq1.true ∙ gcd-one c.args.b)

pub returns-clause-value : goal.returns-clause-value
returns-clause-value c =
    ap (λ d. d * 2 ^ c.min-twos.result % 18446744073709551616) c.odd_divisor.ensures
    ∙ by_odd_parts c.args.a c.args.b c.odd_part.result c.odd_part-2.result _ _ c.min-twos.result (omega arith) (omega arith) c.odd_part.ensures.power
    c.odd_part-2.ensures.power c.odd_part.ensures.odd c.odd_part-2.ensures.odd c.min-twos.ensures

pub returns-clause-positive : goal.returns-clause-positive
returns-clause-positive c h = rw (returns-clause-value c) (gcd_pos c.args.a c.args.b h)
