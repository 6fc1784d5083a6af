-- The order of two ratios of numbers over two denominators, and their sizes.
use Rattle.std.proofs.Common.{◌≡◌, ℕ, ℤ, suc, pos, negsuc, unsigned_abs, Ordering, Less, Equal, Greater, ◌*ℤ◌, ◌<ℤ◌, ◌+◌, ◌*◌, ◌<◌, ◌≤◌, ◌^◌, refl}
use Rattle.std.proofs.Common.{sym, ◌∙◌, ap, ap₂, subst, arith, mul-pos, mul-le-mul_right, zero-lt-suc}
use Rattle.std.specs.Ordering.{MatchOrdering, int_cmp}
use Rattle.std.proofs.lemmas.Cmp.{int_ranked}
use Rattle.std.proofs.lemmas.Int.{ints, unsigned_abs-mul}
use borrow.Author.Differences.{up, down}
use Rattle.rational_theory.specs.Rational.{over, whole, neg_ℚ, inverse_ℚ, ◌*ℚ◌, ◌<ℚ◌, ◌≤ℚ◌}
use Rattle.rational_theory.specs.Compare.{cmp_ℚ}
use Rattle.rational_theory.proofs.Compare.{cmp_ℚ-is}
use Rattle.rational_theory.proofs.Arithmetic.{same_ratio, over_ratio, over_terms, product_ratio, neg_ratio, whole_ratio, ≤ℚ_in, ≤ℚ_out, *ℚ_assoc, *ℚ_comm, *ℚ-one}
use Rattle.rational_theory.proofs.Lowest.{num_size, den_size}
use Rattle.rational_theory.proofs.Order.{not-≤ℚ, *ℚ_cancel, *ℚ-inverse}
use Rattle.narrow_fraction.specs.Fraction.{FitsFrac}

-- a/D over r/d, in those terms
quotient_ratio : (a : ℤ) (r e d : ℕ) → 0 < e → 0 < d → over a e *ℚ inverse_ℚ (neg_ℚ (over (negsuc r) d)) ≡ over (a *ℤ pos d) (suc r * e)
quotient_ratio a r e d h k =
    let z = neg_ℚ (over (negsuc r) d) in
    let u = neg_ratio _ _ _ _ (over_ratio (negsuc r) d k) in
    let n : z ≡ whole (pos 0) → ⊥ = λ q. absurd (let f = ≤ℚ_out _ _ _ _ _ _ _ _ u (whole_ratio (pos 0)) (subst (λ t. z ≤ℚ t) q (≤ℚ_in _ _ _ _ _ _ _ _ u u (omega arith))) in omega (arith, f)) in
    *ℚ_cancel _ _ z n
    (*ℚ_assoc (over a e) (inverse_ℚ z) z ∙ ap (λ t. over a e *ℚ t) (*ℚ_comm (inverse_ℚ z) z ∙ *ℚ-inverse z n) ∙ *ℚ-one (over a e)
    ∙ same_ratio _ _ _ _ _ _ _ _ (over_ratio a e h)
    (product_ratio _ _ _ _ _ _ _ _ (over_terms (a *ℤ pos d) (up a * d) (down a * d) (suc r * e) (mul-pos (zero-lt-suc r) h) (omega (arith, ints))) u) (omega arith))

-- a/r below b/s, where a s is below b r, all over e and d
less_ratio : (a b : ℤ) (r s e d : ℕ) → 0 < e → 0 < d → (b *ℤ negsuc r) <ℤ (a *ℤ negsuc s) → over (a *ℤ pos d) (suc r * e) <ℚ over (b *ℤ pos d) (suc s * e)
less_ratio a b r s e d h k l = not-≤ℚ _ _ (λ q.
    let f = ≤ℚ_out _ _ _ _ _ _ _ _
    (over_terms (b *ℤ pos d) (up b * d) (down b * d) (suc s * e) (mul-pos (zero-lt-suc s) h) (omega (arith, ints)))
    (over_terms (a *ℤ pos d) (up a * d) (down a * d) (suc r * e) (mul-pos (zero-lt-suc r) h) (omega (arith, ints))) q in
    let g : up a * suc s + down b * suc r + 1 ≤ up b * suc r + down a * suc s = omega (arith, ints) in
    let m = mul-le-mul_right (d * e) g in
    let p : 0 < d * e = mul-pos k h in
    absurd (omega (arith, f, m, p)))

equal_ratio : (a b : ℤ) (r s e d : ℕ) → 0 < e → b *ℤ negsuc r ≡ a *ℤ negsuc s → over (a *ℤ pos d) (suc r * e) ≡ over (b *ℤ pos d) (suc s * e)
equal_ratio a b r s e d h l =
    let g : up a * suc s + down b * suc r ≡ up b * suc r + down a * suc s = omega (arith, ints) in
    same_ratio _ _ _ _ _ _ _ _
    (over_terms (a *ℤ pos d) (up a * d) (down a * d) (suc r * e) (mul-pos (zero-lt-suc r) h) (omega (arith, ints)))
    (over_terms (b *ℤ pos d) (up b * d) (down b * d) (suc s * e) (mul-pos (zero-lt-suc s) h) (omega (arith, ints)))
    (let m = ap (λ t. t * (d * e)) g in omega (arith, m))

at_order : (a b : ℤ) (r s e d : ℕ) (o : Ordering) → 0 < e → 0 < d
    → MatchOrdering o ((b *ℤ negsuc r) <ℤ (a *ℤ negsuc s)) (b *ℤ negsuc r ≡ a *ℤ negsuc s) ((a *ℤ negsuc s) <ℤ (b *ℤ negsuc r))
    → MatchOrdering o (over (a *ℤ pos d) (suc r * e) <ℚ over (b *ℤ pos d) (suc s * e)) (over (a *ℤ pos d) (suc r * e) ≡ over (b *ℤ pos d) (suc s * e))
    (over (b *ℤ pos d) (suc s * e) <ℚ over (a *ℤ pos d) (suc r * e))
at_order a b r s e d Less h k m = less_ratio a b r s e d h k m
at_order a b r s e d Equal h k m = equal_ratio a b r s e d h m
at_order a b r s e d Greater h k m = less_ratio b a s r e d h k m

pub ratio_order : (a b p q : ℤ) (e d : ℕ) → 0 < e → 0 < d → p <ℤ pos 0 → q <ℤ pos 0
    → int_cmp (b *ℤ p) (a *ℤ q) ≡ cmp_ℚ (over a e *ℚ inverse_ℚ (neg_ℚ (over p d))) (over b e *ℚ inverse_ℚ (neg_ℚ (over q d)))
ratio_order a b (pos r) q e d h k m n = absurd (omega (arith, ints))
ratio_order a b (negsuc r) (pos s) e d h k m n = absurd (omega (arith, ints))
ratio_order a b (negsuc r) (negsuc s) e d h k m n =
    cmp_ℚ-is _ _ _ (at_order a b r s e d (int_cmp (b *ℤ negsuc r) (a *ℤ negsuc s)) h k (int_ranked (b *ℤ negsuc r) (a *ℤ negsuc s) _ refl))
    ∙ ap₂ cmp_ℚ (sym (quotient_ratio a r e d h k)) (sym (quotient_ratio b s e d h k))

-- a ratio of two words to two words fits
word_product : (n m : ℕ) → n ≤ 2 ^ 63 → m < 2 ^ 64 → n * m < 2 ^ 127
word_product n m h k =
    let p = mul-le-mul_right m h in
    omega (arith, p)

pub ratio_fits : (a p : ℤ) (e d : ℕ) → 0 < e → 0 < d → p <ℤ pos 0 → unsigned_abs a ≤ 2 ^ 63 → unsigned_abs p ≤ 2 ^ 63 → e < 2 ^ 64 → d < 2 ^ 64
    → FitsFrac (over a e *ℚ inverse_ℚ (neg_ℚ (over p d)))
ratio_fits a (pos r) e d h k m s t u v = absurd (omega (arith, ints))
ratio_fits a (negsuc r) e d h k m s t u v =
    let z = a *ℤ pos d in
    let w : 0 < suc r * e = mul-pos (zero-lt-suc r) h in
    let f = num_size z (suc r * e) w in
    let g = den_size z (suc r * e) w in
    let i = unsigned_abs-mul a (pos d) in
    let x = word_product (unsigned_abs a) d s v in
    let y = word_product (suc r) e t u in
    subst FitsFrac (sym (quotient_ratio a r e d h k)) (record { num_fits = omega arith; den_fits = omega arith })
