-- A number less the product of two, over the product of the three denominators.
use Rattle.std.specs.Int.{w64}
use Rattle.std.proofs.Common.{◌≡◌, SFits, sym, ◌∙◌, ap, ℕ, ℤ, pos, neg_ℤ, ◌*ℤ◌, ◌+ℤ◌, ◌+◌, ◌*◌, ◌<◌, ◌^◌, arith, mul-pos, unsigned_abs}
use Rattle.std.proofs.lemmas.Int.{ints, unsigned_abs-mul}
use Rattle.std.proofs.lemmas.Nat.{mul-lt}
use borrow.Author.Differences.{up, down}
use Rattle.rational_theory.specs.Rational.{over, neg_ℚ, ◌+ℚ◌, ◌*ℚ◌}
use Rattle.narrow_fraction.specs.SmallParts.{AreSmallParts}
use Rattle.narrow_fraction.specs.declared.differences.SmallParts.{SmallParts}
use Rattle.narrow_fraction.proofs.Fitting.{fits_i64}
use Rattle.narrow_fraction.proofs.Small.{IsSmall, over_small}
use Rattle.rational_theory.proofs.Arithmetic.{same_ratio, over_ratio, over_terms, product_ratio, neg_ratio, sum_ratio}

product_over : (n a : ℤ) (e d : ℕ) → 0 < e → 0 < d → over n e *ℚ over a d ≡ over (n *ℤ a) (e * d)
product_over n a e d h k = same_ratio _ _ _ _ _ _ _ _
    (product_ratio _ _ _ _ _ _ _ _ (over_ratio n e h) (over_ratio a d k))
    (over_terms (n *ℤ a) (up n * up a + down n * down a) (up n * down a + down n * up a) (e * d) (mul-pos h k) (omega (arith, ints)))
    (omega arith)

less_times : (x q : ℤ) (c b : ℕ) → 0 < c → 0 < b → over (x *ℤ pos b +ℤ neg_ℤ (q *ℤ pos c)) (b * c) ≡ over x c +ℚ neg_ℚ (over q b)
less_times x q c b h k = same_ratio _ _ _ _ _ _ _ _
    (over_terms (x *ℤ pos b +ℤ neg_ℤ (q *ℤ pos c)) (up x * b + down q * c) (down x * b + up q * c) (b * c) (mul-pos k h) (omega (arith, ints)))
    (sum_ratio _ _ _ _ _ _ _ _ (over_ratio x c h) (neg_ratio _ _ _ _ (over_ratio q b k)))
    (omega arith)

pub less_over : (x n a : ℤ) (c e d : ℕ) → 0 < c → 0 < e → 0 < d
    → over (x *ℤ pos (e * d) +ℤ neg_ℤ (n *ℤ a *ℤ pos c)) (e * d * c) ≡ over x c +ℚ neg_ℚ (over n e *ℚ over a d)
less_over x n a c e d h k l = less_times x (n *ℤ a) c (e * d) h (mul-pos k l) ∙ ap (λ t. over x c +ℚ neg_ℚ t) (sym (product_over n a e d k l))

-- six parts of 20 bits: the two products of three have at most 60
pub three_small : (x n a : ℤ) (c e d : ℕ) → unsigned_abs x < 2 ^ 20 → unsigned_abs n < 2 ^ 20 → unsigned_abs a < 2 ^ 20 → c < 2 ^ 20 → e < 2 ^ 20 → d < 2 ^ 20
    → unsigned_abs x * unsigned_abs (pos (e * d)) + unsigned_abs (n *ℤ a) * unsigned_abs (pos c) < 2 ^ 62
three_small x n a c e d h i j k l m =
    let p = mul-lt (unsigned_abs x) (e * d) (2 ^ 20) (2 ^ 40) h (mul-lt e d (2 ^ 20) (2 ^ 20) l m) in
    let q = mul-lt (unsigned_abs n * unsigned_abs a) c (2 ^ 40) (2 ^ 20) (mul-lt (unsigned_abs n) (unsigned_abs a) (2 ^ 20) (2 ^ 20) i j) k in
    rw (unsigned_abs-mul n a) (omega arith)

-- what is made of the parts on the way to them is a word with a sign
pub record AreWords (from factor other : SmallParts) : Type 0 where
  pub top : SFits w64 from.top
  pub factor_top : SFits w64 factor.top
  pub other_top : SFits w64 other.top
  pub part : SFits w64 (factor.top *ℤ other.top)
  pub below : factor.bottom * other.bottom < 2 ^ 63
  pub bottom : from.bottom < 2 ^ 63
  pub under : factor.bottom * other.bottom * from.bottom < 2 ^ 63

pub small_words : (from factor other : SmallParts) → AreSmallParts from → AreSmallParts factor → AreSmallParts other → AreWords from factor other
small_words from factor other f n o =
    let p = mul-lt (unsigned_abs factor.top) (unsigned_abs other.top) (2 ^ 20) (2 ^ 20) n.top o.top in
    let q = mul-lt factor.bottom other.bottom (2 ^ 20) (2 ^ 20) n.bottom o.bottom in
    record {
      top = fits_i64 from.top (omega (arith, f.top));
      factor_top = fits_i64 factor.top (omega (arith, n.top));
      other_top = fits_i64 other.top (omega (arith, o.top));
      part = fits_i64 (factor.top *ℤ other.top) (rw (unsigned_abs-mul factor.top other.top) (omega arith));
      below = omega arith;
      bottom = omega (arith, f.bottom);
      under = omega (arith, mul-lt (factor.bottom * other.bottom) from.bottom (2 ^ 40) (2 ^ 20) q f.bottom);
    }

pub parts_small : (p : SmallParts) → AreSmallParts p → IsSmall (2 ^ 42) (over p.top p.bottom)
parts_small p h = over_small p.top p.bottom (2 ^ 42) h.above (omega (arith, h.top)) (omega (arith, h.bottom))
