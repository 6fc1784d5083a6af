-- Signs of rational numbers: of a negated number, an inverse and a product.
use Rattle.std.proofs.Common.{◌≡◌, Ordering, Less, Equal, Greater, pos, ◌∷◌, [], ◌⊎◌, inl, inr, refl, sym, ◌∙◌, ap, subst, arith}
use Rattle.rational_theory.specs.Rational.{ℚ, whole, neg_ℚ, inverse_ℚ, ◌*ℚ◌, ◌≤ℚ◌, ◌<ℚ◌}
use Rattle.rational_theory.proofs.Arithmetic.{*ℚ_comm, *ℚ-zero, neg-neg}
use Rattle.rational_theory.proofs.Order.{≤ℚ_refl, ≤ℚ_total, *ℚ-inverse, *ℚ_cancel, <ℚ_not-≤ℚ, <ℚ-≤ℚ, not-≤ℚ, ≤ℤ_whole}
use Rattle.rational_theory.specs.Compare.{cmp_ℚ}
use Rattle.rational_theory.proofs.Compare.{ranked_ℚ}
use Rattle.std.specs.Ordering.{MatchOrdering}
use Rattle.std.proofs.lemmas.Int.{ints}
use Rattle.rational_theory.proofs.Rows.{≤ℚ-left}
use Rattle.rational_theory.proofs.Linear.{linear, product_not_negative}
use Rattle.rational_theory.proofs.Ring.{ring, at, lit, minus, ◌⊗◌}

pub below_or_not : (x y : ℚ) → (x <ℚ y) ⊎ (y ≤ℚ x)
below_or_not x y = pick (cmp_ℚ x y) (ranked_ℚ x y (cmp_ℚ x y) refl)
  where
    pick : (o : Ordering) → MatchOrdering o (x <ℚ y) (x ≡ y) (y <ℚ x) → (x <ℚ y) ⊎ (y ≤ℚ x)
    pick Less h = inl h
    pick Equal h = inr (rw h (≤ℚ_refl y))
    pick Greater h = inr (<ℚ-≤ℚ y x h)

pub <ℚ_not_same : (x y : ℚ) → x <ℚ y → x ≡ y → ⊥
<ℚ_not_same x y h e = <ℚ_not-≤ℚ x y h (subst (λ t. t ≤ℚ x) e (≤ℚ_refl x))

pub neg_positive : (x : ℚ) → x <ℚ whole (pos 0) → whole (pos 0) <ℚ neg_ℚ x
neg_positive x h =
    not-≤ℚ _ _ (λ l. <ℚ_not-≤ℚ x (whole (pos 0)) h
    (linear (record { count = 1; low = minus (at 0); high = lit (pos 0) } ∷ []) 0 (lit (pos 0)) (at 0) (x ∷ []) (l, tt) refl))

pub one_positive : whole (pos 0) ≤ℚ whole (pos 1)
one_positive = linear [] 1 (lit (pos 0)) (lit (pos 1)) [] tt refl

one_not_below : whole (pos 1) ≤ℚ whole (pos 0) → ⊥
one_not_below h = let g = ≤ℤ_whole (pos 1) (pos 0) h in absurd (omega (arith, ints))

-- a quotient by a positive number
pub inverse_positive : (x : ℚ) → whole (pos 0) <ℚ x → whole (pos 0) ≤ℚ inverse_ℚ x
inverse_positive x h = pick (≤ℚ_total (whole (pos 0)) (inverse_ℚ x))
  where
    nonzero : x ≡ whole (pos 0) → ⊥
    nonzero e = <ℚ_not_same _ x h (sym e)

    pick : (whole (pos 0) ≤ℚ inverse_ℚ x) ⊎ (inverse_ℚ x ≤ℚ whole (pos 0)) → whole (pos 0) ≤ℚ inverse_ℚ x
    pick (inl p) = p
    pick (inr p) =
        absurd (one_not_below (subst (λ t. t ≤ℚ whole (pos 0)) (*ℚ-inverse x nonzero) (subst (λ t. (x *ℚ inverse_ℚ x) ≤ℚ t) (*ℚ-zero x) (≤ℚ-left x _ _ (<ℚ-≤ℚ _ x h) p))))

pub inverse_neg : (x : ℚ) → (x ≡ whole (pos 0) → ⊥) → inverse_ℚ (neg_ℚ x) ≡ neg_ℚ (inverse_ℚ x)
inverse_neg x n =
    *ℚ_cancel _ _ (neg_ℚ x) nonzero
    (*ℚ_comm _ _ ∙ *ℚ-inverse (neg_ℚ x) nonzero ∙ sym (*ℚ-inverse x n) ∙ ring (at 0 ⊗ at 1) (minus (at 1) ⊗ minus (at 0)) (x ∷ inverse_ℚ x ∷ []) refl)
  where
    nonzero : neg_ℚ x ≡ whole (pos 0) → ⊥
    nonzero e = n (sym (neg-neg x) ∙ ap neg_ℚ e ∙ ring (minus (lit (pos 0))) (lit (pos 0)) [] refl)

pub negative_nonzero : (x : ℚ) → x <ℚ whole (pos 0) → x ≡ whole (pos 0) → ⊥
negative_nonzero x h e = <ℚ_not_same x _ h e

-- a number that is not negative, times one that is not positive
pub product_not_positive : (a b : ℚ) → whole (pos 0) ≤ℚ a → b ≤ℚ whole (pos 0) → (a *ℚ b) ≤ℚ whole (pos 0)
product_not_positive a b h k = subst (λ t. (a *ℚ b) ≤ℚ t) (*ℚ-zero a) (≤ℚ-left a b (whole (pos 0)) h k)

-- two numbers that are not positive
pub product_of_negatives : (a b : ℚ) → a ≤ℚ whole (pos 0) → b ≤ℚ whole (pos 0) → whole (pos 0) ≤ℚ (a *ℚ b)
product_of_negatives a b h k =
    subst (λ t. whole (pos 0) ≤ℚ t) (ring (minus (at 0) ⊗ minus (at 1)) (at 0 ⊗ at 1) (a ∷ b ∷ []) refl)
    (product_not_negative (neg_ℚ a) (neg_ℚ b)
    (linear (record { count = 1; low = at 0; high = lit (pos 0) } ∷ []) 0 (lit (pos 0)) (minus (at 0)) (a ∷ []) (h, tt) refl)
    (linear (record { count = 1; low = at 0; high = lit (pos 0) } ∷ []) 0 (lit (pos 0)) (minus (at 0)) (b ∷ []) (k, tt) refl))
