-- Numbers with a denominator in common: what sums and products of them are, and how large they can be. So sums of many of them don't grow
-- but by their numbers of parts.
use Rattle.std.proofs.Common.{◌≡◌, ℕ, ℤ, pos, [], ◌∷◌, ◌+ℤ◌, ◌*ℤ◌, neg_ℤ, ◌+◌, ◌*◌, ◌<◌, ◌≤◌, refl, sym, ◌∙◌, ap, ap₂, subst, arith, unsigned_abs, mul-le-mul_left, mul-le-mul_right}
use Rattle.std.proofs.lemmas.Int.{ints, unsigned_abs-mul}
use Rattle.rational_theory.specs.Rational.{ℚ, whole, over, neg_ℚ, ◌+ℚ◌, ◌*ℚ◌}
use Rattle.rational_theory.specs.laws.Fractions.{abs-neg_ℤ}
use Rattle.rational_theory.proofs.Arithmetic.{*ℚ-one}
use Rattle.rational_theory.proofs.Lowest.{over-own, num_size, den_size}
use Rattle.rational_theory.proofs.Order.{*ℚ_cancel, times_den, whole-+ℤ, whole-*ℤ, whole-neg_ℤ, whole_not_zero}
use Rattle.rational_theory.proofs.Ring.{zero-*ℚ, ring, at, minus, ◌⊕◌, ◌⊗◌}
use Rattle.program_builder.proofs.RowKinds.{IsUpTo}

-- n parts at most, each one over d
pub record IsParts (d n : ℕ) (x : ℚ) : Type 0 where
  pub parts : ℤ
  pub is : x *ℚ whole (pos d) ≡ whole parts
  pub most : unsigned_abs parts ≤ n

is_over : (d : ℕ) (x : ℚ) (z : ℤ) → 0 < d → x *ℚ whole (pos d) ≡ whole z → x ≡ over z d
is_over d x z h e = *ℚ_cancel x (over z d) (whole (pos d)) (whole_not_zero (pos d) (λ q. absurd (omega (arith, ints)))) (e ∙ sym (times_den z d h))

-- so its two numbers are that small
pub parts_up_to : (d n most : ℕ) (x : ℚ) → 0 < d → d ≤ most → n ≤ most → IsParts d n x → IsUpTo most x
parts_up_to d n most x h k l p =
    let s = num_size p.parts d h in
    let t = den_size p.parts d h in
    let m = p.most in
    subst (IsUpTo most) (sym (is_over d x p.parts h p.is)) (record { num = omega arith; den = omega arith })

pub parts_more : (d m n : ℕ) (x : ℚ) → m ≤ n → IsParts d m x → IsParts d n x
parts_more d m n x h p = record { parts = p.parts; is = p.is; most = let k = p.most in omega arith }

pub parts_plus : (d m n : ℕ) (x y : ℚ) → IsParts d m x → IsParts d n y → IsParts d (m + n) (x +ℚ y)
parts_plus d m n x y p q = record {
  parts = p.parts +ℤ q.parts;
  is =
      ring ((at 0 ⊕ at 1) ⊗ at 2) (at 0 ⊗ at 2 ⊕ at 1 ⊗ at 2) (x ∷ y ∷ whole (pos d) ∷ []) refl
      ∙ ap₂ (λ u v. u +ℚ v) p.is q.is ∙ sym (whole-+ℤ p.parts q.parts);
  most = let k = p.most in let l = q.most in let r : unsigned_abs (p.parts +ℤ q.parts) ≤ unsigned_abs p.parts + unsigned_abs q.parts = omega (arith, ints) in omega arith;
}

pub parts_neg : (d n : ℕ) (x : ℚ) → IsParts d n x → IsParts d n (neg_ℚ x)
parts_neg d n x p = record {
  parts = neg_ℤ p.parts;
  is = ring (minus (at 0) ⊗ at 1) (minus (at 0 ⊗ at 1)) (x ∷ whole (pos d) ∷ []) refl ∙ ap neg_ℚ p.is ∙ sym (whole-neg_ℤ p.parts);
  most = rw (abs-neg_ℤ p.parts) p.most;
}

pub parts_times : (d e m n : ℕ) (x y : ℚ) → IsParts d m x → IsParts e n y → IsParts (d * e) (m * n) (x *ℚ y)
parts_times d e m n x y p q = record {
  parts = p.parts *ℤ q.parts;
  is =
      ap (λ u. x *ℚ y *ℚ u) (whole-*ℤ (pos d) (pos e))
      ∙ ring (at 0 ⊗ at 1 ⊗ (at 2 ⊗ at 3)) ((at 0 ⊗ at 2) ⊗ (at 1 ⊗ at 3)) (x ∷ y ∷ whole (pos d) ∷ whole (pos e) ∷ []) refl
      ∙ ap₂ (λ u v. u *ℚ v) p.is q.is ∙ sym (whole-*ℤ p.parts q.parts);
  most =
      let e = unsigned_abs-mul p.parts q.parts in
      let f = mul-le-mul_right (unsigned_abs q.parts) p.most in
      let g = mul-le-mul_left m q.most in
      omega (arith, e, f, g);
}

pub zero_parts : (d n : ℕ) → IsParts d n (whole (pos 0))
zero_parts d n = record { parts = pos 0; is = zero-*ℚ (whole (pos d)); most = omega arith }

pub one_parts : (e : ℕ) → IsParts e e (whole (pos 1))
one_parts e = record { parts = pos e; is = sym (whole-*ℤ (pos 1) (pos e)) ∙ ap whole (omega (arith, ints)); most = omega arith }

-- over its own denominator
pub own_parts : (x : ℚ) → IsParts x.den (unsigned_abs x.num) x
own_parts x = record { parts = x.num; is = ap (λ y. y *ℚ whole (pos x.den)) (sym (over-own x)) ∙ times_den x.num x.den x.positive; most = omega arith }

-- and so many over another
pub over_parts : (n d : ℕ) → 0 < d → IsParts d n (over (pos n) d)
over_parts n d h = record { parts = pos n; is = times_den (pos n) d h; most = omega (arith, ints) }

-- in finer parts
pub parts_finer : (d e n : ℕ) (x : ℚ) → IsParts d n x → IsParts (d * e) (n * e) x
parts_finer d e n x p = subst (IsParts (d * e) (n * e)) (*ℚ-one x) (parts_times d e n e x (whole (pos 1)) p (one_parts e))

-- a number less a product
pub parts_less_times : (d e m n k : ℕ) (x f c : ℚ) → IsParts (d * e) k x → IsParts d m f → IsParts e n c → IsParts (d * e) (k + m * n) (x +ℚ neg_ℚ f *ℚ c)
parts_less_times d e m n k x f c p q r = parts_plus (d * e) k (m * n) x (neg_ℚ f *ℚ c) p (parts_times d e m n (neg_ℚ f) c (parts_neg d m f q) r)
