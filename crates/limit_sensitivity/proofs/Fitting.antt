-- Gains that fit, and numbers below 0.
use Rattle.std.proofs.Common.{◌≡◌, ℕ, ℤ, pos, ◌≤◌, ◌≤ℤ◌, ◌<ℤ◌, Option, Some, None, refl, sym, ◌∙◌, ap, subst, arith}
use Rattle.std.specs.Prelude.{if◌then◌else◌}
use Rattle.std.proofs.lemmas.Int.{ints}
use Rattle.rational_theory.specs.Rational.{ℚ, neg_ℚ, ◌-ℚ◌, ◌*ℚ◌}
use Rattle.narrow_fraction.specs.Past128.{Fits128, Past128, is_past}
use Rattle.narrow_fraction.specs.declared.wide.Op.TheVariants.{Sub, Mul}
use Rattle.narrow_fraction.proofs.Past128.{within, past}
use Rattle.limit_sensitivity.specs.Gains.{if_short, difference, product}

pub difference_fits : (x y v : ℚ) (r : Option ℚ) → Fits128 Sub x y → v ≡ x -ℚ y → r ≡ if_short v → r ≡ difference x y
difference_fits x y v r h e f = f ∙ ap if_short e ∙ ap (λ b. if b then None else if_short (x -ℚ y)) (sym (within Sub x y h))

pub difference_past : (x y : ℚ) → Past128 Sub x y → None ≡ difference x y
difference_past x y n = ap (λ b. if b then None else if_short (x -ℚ y)) (sym (past Sub x y n))

pub product_fits : (x y v : ℚ) (r : Option ℚ) → Fits128 Mul x y → v ≡ x *ℚ y → r ≡ if_short v → r ≡ product x y
product_fits x y v r h e f = f ∙ ap if_short e ∙ ap (λ b. if b then None else if_short (x *ℚ y)) (sym (within Mul x y h))

pub product_past : (x y : ℚ) → Past128 Mul x y → None ≡ product x y
product_past x y n = ap (λ b. if b then None else if_short (x *ℚ y)) (sym (past Mul x y n))

pub above_zero : (x y : ℚ) → y ≡ neg_ℚ x → x.num <ℤ pos 0 → pos 0 ≤ℤ y.num
unfolding neg_ℚ
above_zero x y e h = subst (λ (q : ℚ). pos 0 ≤ℤ q.num) (sym e) (omega (arith, ints, h))

pub same_den : (x y : ℚ) (n : ℕ) → y ≡ neg_ℚ x → x.den ≤ n → y.den ≤ n
unfolding neg_ℚ
same_den x y n e h = subst (λ (q : ℚ). q.den ≤ n) (sym e) h
