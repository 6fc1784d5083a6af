-- Operations with 0 are never refused, and change nothing.
use Rattle.std.proofs.Common.{◌≡◌, ℕ, pos, zero, suc, eqb, Option, None, List, [], length, get_or, ◌<◌, ◌⊎◌, inl, inr, refl, sym, ◌∙◌, ap, ap₂, subst}
use Rattle.std.proofs.lemmas.List.{ext_get_or}
use Rattle.std.proofs.lemmas.Bool.{cases_eq, cond_both}
use Rattle.rational_theory.specs.Rational.{ℚ, whole, neg_ℚ, inverse_ℚ, ◌+ℚ◌, ◌*ℚ◌}
use Rattle.rational_theory.proofs.Arithmetic.{+ℚ-zero}
use Rattle.rational_theory.proofs.Ring.{zero-*ℚ, ring, lit, minus}
use Rattle.narrow_fraction.specs.Fraction.{FitsFrac}
use Rattle.narrow_fraction.specs.Past128.{SumFits}
use Rattle.narrow_fraction.proofs.Zeros.{zero_fits, sum_with_zero}
use Rattle.narrow_fraction.specs.Attempt.{earlier, first_below}
use Rattle.narrow_fraction.specs.declared.wide.Op.TheVariants.{Mul, Div, Sub}
use Rattle.simplex_theory.specs.Lines.{cleared}
use Rattle.simplex_theory.proofs.Lines.{cleared_at, cleared_other, length-cleared}
use Rattle.fraction_tableau.specs.Narrow.{IsNarrow}
use Rattle.fraction_tableau.specs.Refusals.{refused, clear_cell_refusal, clear_at, clear_refusal}
use Rattle.fraction_tableau.proofs.Refusals.{refused_none}

pub negated_zero : neg_ℚ (whole (pos 0)) ≡ whole (pos 0)
negated_zero = ring (minus (lit (pos 0))) (lit (pos 0)) [] refl

pub zero_product : (x y : ℚ) (i k : ℕ) → x *ℚ y ≡ whole (pos 0) → refused Mul x y i k ≡ None
zero_product x y i k e = refused_none Mul x y i k (subst FitsFrac (sym e) zero_fits)

pub zero_quotient : (y : ℚ) (i k : ℕ) → refused Div (whole (pos 0)) y i k ≡ None
zero_quotient y i k = refused_none Div (whole (pos 0)) y i k (subst FitsFrac (sym (zero-*ℚ (inverse_ℚ y))) zero_fits)

pub zero_difference : (x y : ℚ) (i k : ℕ) → FitsFrac x → y ≡ whole (pos 0) → refused Sub x y i k ≡ None
zero_difference x y i k f e = refused_none Sub x y i k (subst (λ t. SumFits x t) (sym (ap neg_ℚ e ∙ negated_zero)) (sum_with_zero x f))

-- ---- one place, where the product is 0
pub zero_cell : (i j : ℕ) (f u : ℚ) (d : List ℚ) (k : ℕ) → IsNarrow d → f *ℚ u ≡ whole (pos 0) → clear_cell_refusal i j f u d k ≡ None
zero_cell i j f u d k n e =
    cond_both (eqb k j) None (earlier (refused Mul f u i k) (refused Sub (get_or d k (whole (pos 0))) (f *ℚ u) i k)) (λ o. o ≡ None)
    (λ _. refl) (λ _. ap₂ earlier (zero_product f u i k e) (zero_difference _ _ i k (n.fits k) e))

-- ---- a whole row, where its cell at the pivot's place is 0
first_none : {E : Type 0} (f : ℕ → Option E) (n : ℕ) → ((k : ℕ) → f k ≡ None) → first_below f n ≡ None
first_none f zero h = refl
first_none f (suc n) h = ap₂ earlier (first_none f n h) (h n)

pub zero_row : (i j : ℕ) (e d : List ℚ) (p : ℚ) → IsNarrow d → get_or d j (whole (pos 0)) ≡ whole (pos 0) → clear_refusal i j e d p ≡ None
unfolding clear_refusal
zero_row i j e d p n z =
    ap₂ earlier
    (first_none (clear_at i j e d) (length d) (λ k. zero_cell i j (get_or d j (whole (pos 0))) (get_or e k (whole (pos 0))) d k n (ap (λ t. t *ℚ get_or e k (whole (pos 0))) z ∙ zero-*ℚ _)))
    (ap (λ t. refused Div t p i j) z ∙ zero_quotient p i j)

pub zero_row_kept : (j : ℕ) (e d : List ℚ) → length d ≡ length e → j < length d → get_or d j (whole (pos 0)) ≡ whole (pos 0) → d ≡ cleared j e d
zero_row_kept j e d l h z =
    ext_get_or (whole (pos 0)) d (cleared j e d) (sym (length-cleared j e d l)) (λ k b. pick k (cases_eq k j))
  where
    part : (u : ℚ) → neg_ℚ (get_or d j (whole (pos 0))) *ℚ u ≡ whole (pos 0)
    part u = ap (λ t. neg_ℚ t *ℚ u) z ∙ ap (λ t. t *ℚ u) negated_zero ∙ zero-*ℚ u

    pick : (k : ℕ) → (k ≡ j) ⊎ (k ≡ j → ⊥) → get_or d k (whole (pos 0)) ≡ get_or (cleared j e d) k (whole (pos 0))
    pick k (inl q) = rw q (z ∙ sym (cleared_at j e d h ∙ part _))
    pick k (inr q) = sym (cleared_other j k e d q ∙ ap (λ t. get_or d k (whole (pos 0)) +ℚ t) (part _) ∙ +ℚ-zero _)
