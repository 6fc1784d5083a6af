-- Another row's 0 at a place: nothing is refused there, and the own number stays.
use Rattle.std.proofs.Common.{◌≡◌, pos, None, sym, ◌∙◌, ap, ap₂}
use Rattle.rational_theory.specs.Rational.{ℚ, whole, ◌+ℚ◌, ◌*ℚ◌}
use Rattle.rational_theory.proofs.Arithmetic.{+ℚ-zero, *ℚ-zero}
use Rattle.narrow_fraction.specs.Fraction.{FitsFrac}
use Rattle.narrow_fraction.specs.Attempt.{earlier}
use Rattle.narrow_fraction.proofs.Zeros.{zero_product_passes, zero_sum_passes}
use Rattle.named_row.specs.declared.names.Place.{Place}
use Rattle.named_row.specs.Refusals.{at, place_refusal}

product : (k c : ℚ) → c ≡ whole (pos 0) → k *ℚ c ≡ whole (pos 0)
product k c e = ap (λ t. k *ℚ t) e ∙ *ℚ-zero k

pub zero_passes : (p : Place) (k x c : ℚ) → FitsFrac x → c ≡ whole (pos 0) → place_refusal p k x c ≡ None
unfolding place_refusal
zero_passes p k x c f e =
    let z = product k c e in
    ap₂ earlier (ap (at p) (zero_product_passes k c z)) (ap (at p) (zero_sum_passes x (k *ℚ c) f z))

pub zero_stays : (k x c : ℚ) → c ≡ whole (pos 0) → x ≡ x +ℚ k *ℚ c
zero_stays k x c e = sym (ap (λ t. x +ℚ t) (product k c e) ∙ +ℚ-zero x)
