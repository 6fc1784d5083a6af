-- One more, one less and a hundredth less, over one denominator.
use Rattle.std.proofs.Common.{◌≡◌, ℕ, ℤ, pos, zero-lt-suc, ◌+ℤ◌, ◌-ℤ◌, ◌*ℤ◌, neg_ℤ, ◌*◌, ◌∙◌, ap, refl, arith}
use Rattle.std.proofs.lemmas.Int.{ints}
use Rattle.rational_theory.specs.Rational.{ℚ, whole, over, neg_ℚ, ◌+ℚ◌, ◌-ℚ◌}
use Rattle.rational_theory.specs.Gcd.{gcd}
use Rattle.rational_theory.proofs.Lowest.{over-lowest}
use Rattle.street_changes.specs.Changed.{one, hundredth}

same_over : (m n : ℤ) (d e : ℕ) → m ≡ n → d ≡ e → over m d ≡ over n e
same_over m n d e p q = cc

pub one_more_is : (x : ℚ) → over (x.num +ℤ pos x.den) x.den ≡ x +ℚ one
unfolding ◌+ℚ◌ whole
one_more_is x = same_over _ _ _ _ (omega (arith, ints)) (omega arith)

pub one_less_is : (x : ℚ) → over (x.num -ℤ pos x.den) x.den ≡ x -ℚ one
unfolding ◌+ℚ◌ neg_ℚ whole
one_less_is x = same_over _ _ _ _ (omega (arith, ints)) (omega arith)

hundredth_parts : (hundredth.num ≡ pos 1) × (hundredth.den ≡ 100)
unfolding gcd
hundredth_parts = over-lowest (pos 1) 100 (zero-lt-suc 99) refl

own_hundredth : (x : ℚ) → over (pos 100 *ℤ x.num -ℤ pos x.den) (100 * x.den) ≡ x -ℚ hundredth
unfolding ◌+ℚ◌ neg_ℚ
own_hundredth x =
    let h = hundredth_parts in
    same_over _ _ _ _ (rw (h.0, h.1) (omega (arith, ints))) (rw (h.1) (omega arith))

pub less_hundredth_is : (x : ℚ) (m : ℤ) (k : ℕ) → m ≡ pos 100 *ℤ x.num -ℤ pos x.den → k ≡ 100 * x.den → over m k ≡ x -ℚ hundredth
less_hundredth_is x m k p q = same_over _ _ _ _ p q ∙ own_hundredth x
