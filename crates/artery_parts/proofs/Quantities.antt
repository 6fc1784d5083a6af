-- Quantities within whole numbers, and the test of them.
use Rattle.std.proofs.Common.{◌≡◌, ℕ, ℤ, pos, ◌≤◌, ◌≤ℤ◌, ◌*ℤ◌, Bool, true, ◌&&◌, nat_le, IsTrue, ◌↔◌, refl, sym, ◌∙◌, arith}
use Rattle.std.proofs.lemmas.Bool.Decides.{nat_tests}
use Rattle.std.proofs.lemmas.Int.{ints}
use Rattle.rational_theory.specs.Rational.{ℚ, whole, ◌≤ℚ◌}
use Rattle.rational_theory.proofs.Compare.{le_says}
use Rattle.artery_model.specs.Limits.{within, at_most}
use Rattle.artery_model.specs.Valid.{IsQuantity}
use Rattle.artery_model.proofs.Validity.{quantity_of}

-- ---- what makes the test true
both : (b c : Bool) → b ≡ true → c ≡ true → (b && c) ≡ true
both b c p q = rw (p, q) refl

at_most_is : (n m : ℕ) → n ≤ m → nat_le n m ≡ true
at_most_is n m h = grind (arith, nat_tests)

low_is : (low : ℤ) (q : ℚ) → (low *ℤ pos q.den) ≤ℤ q.num → whole low ≤ℚ q
unfolding whole
low_is low q h = record { cross = omega (arith, ints, h) }

high_is : (high : ℤ) (q : ℚ) → q.num ≤ℤ (high *ℤ pos q.den) → q ≤ℚ whole high
unfolding whole
high_is high q h = record { cross = omega (arith, ints, h) }

pub order_is : (x y : ℚ) → x ≤ℚ y → at_most x y ≡ true
order_is x y h = (le_says x y (at_most x y) refl).1 h

pub quantity_is : (low high : ℤ) (q : ℚ) → IsQuantity low high q → within (whole low) (whole high) q ≡ true
quantity_is low high q h =
    both _ _ (both _ _ (both _ _ (at_most_is _ _ h.num) (at_most_is _ _ h.den)) (order_is _ _ (low_is low q h.least))) (order_is _ _ (high_is high q h.most))

-- ---- what the test says
pub quantity_says : (low high : ℤ) (q : ℚ) (b : Bool) → b ≡ within (whole low) (whole high) q → IsTrue b ↔ IsQuantity low high q
quantity_says low high q b e = (λ t. quantity_of low high q (sym e ∙ t), λ h. e ∙ quantity_is low high q h)
