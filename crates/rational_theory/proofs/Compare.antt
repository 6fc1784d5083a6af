-- Lemmas on the definitions of `Compare`.
use Rattle.std.proofs.Common.{◌≡◌, pos, ◌*ℤ◌, ◌<ℤ◌, Ordering, Less, Equal, Greater, Bool, not, true, false, true≢false, IsTrue, ◌↔◌, refl, sym, ◌∙◌, ap}
use Rattle.std.specs.Cmp.{IsTotalOrder, IsEquivalence, IsPartialEquivalence, IsPartialOrder, int_cmp_is, partial_equiv_from_equiv, partial_order_from_total}
use Rattle.std.specs.Ordering.{is_lt, is_le, is_eq, MatchOrdering, eq_by_cmp, as_partial_cmp}
use Rattle.std.proofs.lemmas.Cmp.{int_ranked, int_cmp_total, eq_by_cmp_equiv}
use Rattle.rational_theory.specs.Rational.{ℚ, ◌<ℚ◌, ◌≤ℚ◌}
use Rattle.rational_theory.proofs.Arithmetic.{same_cross}
use Rattle.rational_theory.proofs.Order.{<ℚ_not-≤ℚ, <ℚ_trans, <ℚ-≤ℚ, ≤ℚ_refl}
use Rattle.rational_theory.specs.Compare.{cmp_ℚ}

-- an order of cross products is one of numbers, and back
at_order : (x y : ℚ) (o : Ordering) → MatchOrdering o ((x.num *ℤ pos y.den) <ℤ (y.num *ℤ pos x.den)) (x.num *ℤ pos y.den ≡ y.num *ℤ pos x.den) ((y.num *ℤ pos x.den) <ℤ (x.num *ℤ pos y.den))
    → MatchOrdering o (x <ℚ y) (x ≡ y) (y <ℚ x)
at_order x y Less h = record { cross = h }
at_order x y Equal h = same_cross x y h
at_order x y Greater h = record { cross = h }

order_at : (x y : ℚ) (o : Ordering) → MatchOrdering o (x <ℚ y) (x ≡ y) (y <ℚ x) → MatchOrdering o ((x.num *ℤ pos y.den) <ℤ (y.num *ℤ pos x.den))
    (x.num *ℤ pos y.den ≡ y.num *ℤ pos x.den) ((y.num *ℤ pos x.den) <ℤ (x.num *ℤ pos y.den))
order_at x y Less h = h.cross
order_at x y Equal h = ap (λ (t : ℚ). t.num *ℤ pos y.den) h ∙ ap (λ (t : ℚ). y.num *ℤ pos t.den) (sym h)
order_at x y Greater h = h.cross

-- what the answer says, and the answer from what it says
pub ranked_ℚ : (x y : ℚ) (o : Ordering) → o ≡ cmp_ℚ x y → MatchOrdering o (x <ℚ y) (x ≡ y) (y <ℚ x)
unfolding cmp_ℚ
ranked_ℚ x y o e = at_order x y o (int_ranked _ _ o e)

pub cmp_ℚ-is : (x y : ℚ) (o : Ordering) → MatchOrdering o (x <ℚ y) (x ≡ y) (y <ℚ x) → o ≡ cmp_ℚ x y
unfolding cmp_ℚ
cmp_ℚ-is x y o h = int_cmp_is _ _ o (order_at x y o h)

less_out : (x y : ℚ) → cmp_ℚ x y ≡ Less → x <ℚ y
less_out x y e = ranked_ℚ x y Less (sym e)

equal_out : (x y : ℚ) → cmp_ℚ x y ≡ Equal → x ≡ y
equal_out x y e = ranked_ℚ x y Equal (sym e)

-- a total order, and the laws of the tests that rest on it
pub cmp_ℚ_total : IsTotalOrder cmp_ℚ
unfolding cmp_ℚ
cmp_ℚ_total = record {
  antisymm = λ x y. int_cmp_total.antisymm (x.num *ℤ pos y.den) (y.num *ℤ pos x.den);
  trans = λ x y z e f. sym (cmp_ℚ-is x z Less (<ℚ_trans x y z (less_out x y e) (less_out y z f)));
  congr = λ x y z e. ap (λ t. cmp_ℚ t z) (equal_out x y e);
}

pub eq_laws : IsEquivalence (eq_by_cmp cmp_ℚ)
eq_laws = eq_by_cmp_equiv cmp_ℚ_total

pub partial_eq_laws : IsPartialEquivalence (eq_by_cmp cmp_ℚ)
partial_eq_laws = partial_equiv_from_equiv eq_laws

pub partial_laws : IsPartialOrder (eq_by_cmp cmp_ℚ) (as_partial_cmp cmp_ℚ)
partial_laws = partial_order_from_total cmp_ℚ_total

-- ---- what a test says
lt_by : (x y : ℚ) (o : Ordering) → MatchOrdering o (x <ℚ y) (x ≡ y) (y <ℚ x) → true ≡ is_lt o → x <ℚ y
lt_by x y Less h e = h
lt_by x y Equal h e = absurd (true≢false e)
lt_by x y Greater h e = absurd (true≢false e)

ge_by : (x y : ℚ) (o : Ordering) → MatchOrdering o (x <ℚ y) (x ≡ y) (y <ℚ x) → false ≡ is_lt o → y ≤ℚ x
ge_by x y Less h e = absurd (true≢false (sym e))
ge_by x y Equal h e = rw h (≤ℚ_refl y)
ge_by x y Greater h e = <ℚ-≤ℚ y x h

pub lt_true : (x y : ℚ) → true ≡ is_lt (cmp_ℚ x y) → x <ℚ y
lt_true x y e = lt_by x y (cmp_ℚ x y) (ranked_ℚ x y (cmp_ℚ x y) refl) e

pub lt_false : (x y : ℚ) → false ≡ is_lt (cmp_ℚ x y) → y ≤ℚ x
lt_false x y e = ge_by x y (cmp_ℚ x y) (ranked_ℚ x y (cmp_ℚ x y) refl) e

-- what makes a test true
lt_of : (x y : ℚ) (o : Ordering) → MatchOrdering o (x <ℚ y) (x ≡ y) (y <ℚ x) → x <ℚ y → is_lt o ≡ true
lt_of x y Less h k = refl
lt_of x y Equal h k = absurd (<ℚ_not-≤ℚ x y k (rw h (≤ℚ_refl y)))
lt_of x y Greater h k = absurd (<ℚ_not-≤ℚ x y k (<ℚ-≤ℚ y x h))

le_of : (x y : ℚ) (o : Ordering) → MatchOrdering o (x <ℚ y) (x ≡ y) (y <ℚ x) → x ≤ℚ y → is_le o ≡ true
le_of x y Less h k = refl
le_of x y Equal h k = refl
le_of x y Greater h k = absurd (<ℚ_not-≤ℚ y x h k)

eq_of : (x y : ℚ) (o : Ordering) → MatchOrdering o (x <ℚ y) (x ≡ y) (y <ℚ x) → x ≡ y → is_eq o ≡ true
eq_of x y Less h k = absurd (<ℚ_not-≤ℚ x y h (rw k (≤ℚ_refl y)))
eq_of x y Equal h k = refl
eq_of x y Greater h k = absurd (<ℚ_not-≤ℚ y x h (rw k (≤ℚ_refl y)))

le_by : (x y : ℚ) (o : Ordering) → MatchOrdering o (x <ℚ y) (x ≡ y) (y <ℚ x) → true ≡ is_le o → x ≤ℚ y
le_by x y Less h e = <ℚ-≤ℚ x y h
le_by x y Equal h e = rw h (≤ℚ_refl y)
le_by x y Greater h e = absurd (true≢false e)

gt_by : (x y : ℚ) (o : Ordering) → MatchOrdering o (x <ℚ y) (x ≡ y) (y <ℚ x) → false ≡ is_le o → y <ℚ x
gt_by x y Less h e = absurd (true≢false (sym e))
gt_by x y Equal h e = absurd (true≢false (sym e))
gt_by x y Greater h e = h

-- `x <= y`, which is also `y >= x`
pub le_true : (x y : ℚ) → true ≡ is_le (cmp_ℚ x y) → x ≤ℚ y
le_true x y e = le_by x y (cmp_ℚ x y) (ranked_ℚ x y (cmp_ℚ x y) refl) e

pub le_false : (x y : ℚ) → false ≡ is_le (cmp_ℚ x y) → y <ℚ x
le_false x y e = gt_by x y (cmp_ℚ x y) (ranked_ℚ x y (cmp_ℚ x y) refl) e

eq_by : (x y : ℚ) (o : Ordering) → MatchOrdering o (x <ℚ y) (x ≡ y) (y <ℚ x) → true ≡ is_eq o → x ≡ y
eq_by x y Less h e = absurd (true≢false e)
eq_by x y Equal h e = h
eq_by x y Greater h e = absurd (true≢false e)

not_out : (b : Bool) → false ≡ not b → true ≡ b
not_out true e = refl
not_out false e = sym e

-- `x == y`, and `x != y` that failed
pub eq_true : (x y : ℚ) → true ≡ eq_by_cmp cmp_ℚ x y → x ≡ y
eq_true x y e = eq_by x y (cmp_ℚ x y) (ranked_ℚ x y (cmp_ℚ x y) refl) e

pub ne_false : (x y : ℚ) → false ≡ not (eq_by_cmp cmp_ℚ x y) → x ≡ y
ne_false x y e = eq_true x y (not_out (eq_by_cmp cmp_ℚ x y) e)

-- `x == y` that failed, and `x != y`
pub eq_false : (x y : ℚ) → false ≡ eq_by_cmp cmp_ℚ x y → x ≡ y → ⊥
eq_false x y e h = true≢false (sym (eq_of x y (cmp_ℚ x y) (ranked_ℚ x y (cmp_ℚ x y) refl) h) ∙ sym e)

pub ne_true : (x y : ℚ) → true ≡ not (eq_by_cmp cmp_ℚ x y) → x ≡ y → ⊥
ne_true x y e h = true≢false (e ∙ ap not (eq_of x y (cmp_ℚ x y) (ranked_ℚ x y (cmp_ℚ x y) refl) h))

-- the same, both ways, for a test's answer b
pub lt_says : (x y : ℚ) (b : Bool) → b ≡ is_lt (cmp_ℚ x y) → IsTrue b ↔ (x <ℚ y)
lt_says x y b e = (λ t. lt_true x y (sym t ∙ e), λ h. e ∙ lt_of x y (cmp_ℚ x y) (ranked_ℚ x y (cmp_ℚ x y) refl) h)

pub le_says : (x y : ℚ) (b : Bool) → b ≡ is_le (cmp_ℚ x y) → IsTrue b ↔ (x ≤ℚ y)
le_says x y b e = (λ t. le_true x y (sym t ∙ e), λ h. e ∙ le_of x y (cmp_ℚ x y) (ranked_ℚ x y (cmp_ℚ x y) refl) h)

pub eq_says : (x y : ℚ) (b : Bool) → b ≡ eq_by_cmp cmp_ℚ x y → IsTrue b ↔ (x ≡ y)
eq_says x y b e = (λ t. eq_true x y (sym t ∙ e), λ h. e ∙ eq_of x y (cmp_ℚ x y) (ranked_ℚ x y (cmp_ℚ x y) refl) h)
