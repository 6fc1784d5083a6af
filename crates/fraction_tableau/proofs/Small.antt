-- Where all numbers of the rows of a pivot are small, none of its operations is refused.
use Rattle.std.proofs.Common.{◌≡◌, ℕ, zero, suc, ℤ, pos, negsuc, neg_ℤ, zero-lt-suc, Bool, true, false, cond, eqb, Option, None, List, length, get_or}
use Rattle.std.proofs.Common.{refl, sym, ◌∙◌, ap, subst, ◌<◌, ◌^◌, unsigned_abs, arith}
use Rattle.rational_theory.specs.laws.Fractions.{abs-neg_ℤ}
use Rattle.rational_theory.specs.Rational.{ℚ, whole, inverse_ℚ, turned, ◌*ℚ◌}
use Rattle.rational_theory.proofs.Arithmetic.{*ℚ_comm}
use Rattle.rational_theory.proofs.Order.{zero_num, inverse_not_zero, *ℚ_cancel, *ℚ-inverse}
use Rattle.narrow_fraction.specs.Attempt.{earlier, first_below}
use Rattle.narrow_fraction.specs.Fraction.{FitsFrac}
use Rattle.narrow_fraction.proofs.Small.{IsSmall, product_fits, difference_fits, over_small}
use Rattle.narrow_fraction.specs.declared.wide.Op.TheVariants.{Mul, Div, Sub}
use Rattle.fraction_tableau.specs.Refusals.{refused, divide_at, clear_at, divide_refusal, clear_refusal}
use Rattle.fraction_tableau.specs.Scales.{IsScaled}
use Rattle.fraction_tableau.specs.declared.scale.Scale.{Scale}
use Rattle.fraction_tableau.proofs.Refusals.{refused_none}

-- no number of the row has more than 42 bits
pub record AreSmall (row : List ℚ) : Type 0 where
  pub small : (k : ℕ) → IsSmall (2 ^ 42) (get_or row k (whole (pos 0)))

-- every number of a narrow row is
pub scaled_small : (s : Scale) (row : List ℚ) → IsScaled s row → AreSmall row
scaled_small s row h = record {
  small = λ k. let o = h.numbers k in subst (λ (x : ℚ). IsSmall (2 ^ 42) x) o.same (over_small _ s.denominator (2 ^ 42) h.above (omega (arith, o.size, h.short))
      (omega (arith, h.denominator, h.short)));
}

turned_small : (z : ℤ) (d b : ℕ) → (z ≡ pos 0 → ⊥) → unsigned_abs z < b → d < b → IsSmall b (turned z d)
turned_small (pos zero) d b n h k = absurd (n refl)
turned_small (pos (suc a)) d b n h k = over_small (pos d) (suc a) b (zero-lt-suc a) k h
turned_small (negsuc a) d b n h k = over_small (neg_ℤ (pos d)) (suc a) b (zero-lt-suc a) (rw (abs-neg_ℤ (pos d)) k) h

-- a reciprocal has the same two sizes
pub small_inverse : (x : ℚ) (b : ℕ) → (x ≡ whole (pos 0) → ⊥) → IsSmall b x → IsSmall b (inverse_ℚ x)
unfolding inverse_ℚ
small_inverse x b n h = turned_small x.num x.den b (λ e. n (zero_num x e)) h.num_small h.den_small

-- a quotient is not refused
pub quotient_fits : (x y : ℚ) → (y ≡ whole (pos 0) → ⊥) → IsSmall (2 ^ 42) x → IsSmall (2 ^ 42) y → FitsFrac (x *ℚ inverse_ℚ y)
quotient_fits x y n h k = product_fits x (inverse_ℚ y) h (small_inverse y (2 ^ 42) n k)

pub one_small : IsSmall (2 ^ 42) (whole (pos 1))
unfolding whole
one_small = record { num_small = omega arith; den_small = omega arith }

-- ---- refusals
earlier_none : {E : Type 0} (a b : Option E) → a ≡ None → b ≡ None → earlier a b ≡ None
earlier_none a b e f = ap (λ t. earlier t b) e ∙ f

first_none : {E : Type 0} (f : ℕ → Option E) (n : ℕ) → ((k : ℕ) → f k ≡ None) → first_below f n ≡ None
first_none f zero h = refl
first_none f (suc n) h = earlier_none (first_below f n) (f n) (first_none f n h) (h n)

pub other_none : {E : Type 0} (b : Bool) (x : Option E) → x ≡ None → cond b None x ≡ None
other_none true x e = refl
other_none false x e = e

pub quotient_free : (x y : ℚ) (i k : ℕ) → (y ≡ whole (pos 0) → ⊥) → IsSmall (2 ^ 42) x → IsSmall (2 ^ 42) y → refused Div x y i k ≡ None
quotient_free x y i k n h g = refused_none Div x y i k (quotient_fits x y n h g)

pub divide_free : (i j : ℕ) (c : List ℚ) → AreSmall c → (get_or c j (whole (pos 0)) ≡ whole (pos 0) → ⊥) → divide_refusal i j c ≡ None
unfolding divide_refusal
divide_free i j c h n =
    earlier_none _ _ (quotient_free (whole (pos 1)) (get_or c j (whole (pos 0))) i j n one_small (h.small j))
    (first_none (divide_at i j c) (length c) (λ k. other_none (eqb k j) _ (quotient_free (get_or c k (whole (pos 0))) (get_or c j (whole (pos 0))) i k n (h.small k) (h.small j))))

pub clear_free : (i j : ℕ) (e d : List ℚ) (p : ℚ) → AreSmall e → AreSmall d → IsSmall (2 ^ 42) p → (p ≡ whole (pos 0) → ⊥) → clear_refusal i j e d p ≡ None
unfolding clear_refusal
clear_free i j e d p h g s n =
    earlier_none _ _
    (first_none (clear_at i j e d) (length d) (λ k. other_none (eqb k j) _ (earlier_none _ _
    (refused_none Mul (get_or d j (whole (pos 0))) (get_or e k (whole (pos 0))) i k (product_fits _ _ (g.small j) (h.small k)))
    (refused_none Sub (get_or d k (whole (pos 0))) (get_or d j (whole (pos 0)) *ℚ get_or e k (whole (pos 0))) i k (difference_fits _ _ _ (g.small k) (g.small j) (h.small k))))))
    (quotient_free (get_or d j (whole (pos 0))) p i j n (g.small j) s)

inverse_twice : (x : ℚ) → (x ≡ whole (pos 0) → ⊥) → inverse_ℚ (inverse_ℚ x) ≡ x
inverse_twice x n =
    let m = inverse_not_zero x n in
    *ℚ_cancel _ _ (inverse_ℚ x) m (*ℚ_comm _ _ ∙ *ℚ-inverse (inverse_ℚ x) m ∙ sym (*ℚ-inverse x n))

pub inverse_small : (x : ℚ) → (x ≡ whole (pos 0) → ⊥) → IsSmall (2 ^ 42) (inverse_ℚ x) → IsSmall (2 ^ 42) x
inverse_small x n h = subst (λ (y : ℚ). IsSmall (2 ^ 42) y) (inverse_twice x n) (small_inverse (inverse_ℚ x) (2 ^ 42) (inverse_not_zero x n) h)

pub clear_free_own : (i j : ℕ) (e d : List ℚ) (p : ℚ) → AreSmall e → AreSmall d → (p ≡ whole (pos 0) → ⊥) → get_or e j (whole (pos 0)) ≡ inverse_ℚ p → clear_refusal i j e d p ≡ None
clear_free_own i j e d p h g n o = clear_free i j e d p h g (inverse_small p n (subst (λ (y : ℚ). IsSmall (2 ^ 42) y) o (h.small j))) n
