-- Sums of parts of the cycle and runs, as one fraction.
use Rattle.std.proofs.Common.{◌≡◌, ℕ, suc, ℤ, pos, negsuc, neg_ℤ, ◌+ℤ◌, ◌*ℤ◌, ◌≤ℤ◌, ◌+◌, ◌*◌, ◌/◌, ◌^◌, ◌<◌, ◌≤◌, refl, sym, ◌∙◌, ap, arith}
use Rattle.std.proofs.Common.{unsigned_abs, mul-pos, mul-le-mul_right, mul-le-mul_left, div-lt_iff_lt-mul}
use Rattle.std.proofs.lemmas.Int.{ints, unsigned_abs-mul}
use Rattle.std.specs.Int.{int_div_euclid}
use borrow.Author.Differences.{up, down}
use Rattle.rational_theory.specs.Rational.{ℚ, whole, over, ◌+ℚ◌, ◌/ℚ◌, ◌<ℚ◌}
use Rattle.rational_theory.specs.Floor.{floor_ℚ, ceil_ℚ}
use Rattle.rational_theory.proofs.Arithmetic.{over_ratio, over_terms, sum_ratio, same_ratio}
use Rattle.progression.specs.Speeds.{number}
use Rattle.linear_theory.proofs.Quotients.{above_ratio, quotient_terms, floor_over, ceil_over}
use Rattle.progression.specs.Street.{Street}
use Rattle.progression.specs.declared.parts.Dir.TheVariants.{Outbound, Inbound}
use Rattle.linear_theory.proofs.Spans.{least_sum_is, greatest_sum_is}
use Rattle.search_box.specs.declared.share.Share.{Share}
use Rattle.search_box.specs.declared.whole_parts.End.{End}
use Rattle.search_box.specs.declared.whole_parts.End.TheVariants.{Least, Greatest}
use Rattle.search_box.specs.Sums.{share_of, top_of, bottom_of, run_at, parts_at, sum_at}

-- a number with a numerator above 0 is above 0
pub above_zero : (x : ℚ) → pos 1 ≤ℤ x.num → number 0 <ℚ x
unfolding whole
above_zero x h = record { cross = omega (arith, ints, h) }

-- a quotient of fractions above 0, by numerators and denominators
pub share_is : (x y : ℚ) (top bottom : ℕ) → pos 1 ≤ℤ x.num → pos 1 ≤ℤ y.num → top ≡ unsigned_abs x.num * y.den → bottom ≡ x.den * unsigned_abs y.num → over (pos top) bottom ≡ x /ℚ y
share_is x y top bottom h k e f =
    let some : 0 < unsigned_abs y.num = omega (arith, ints) in
    let r = quotient_terms x y _ _ _ _ (above_ratio x (above_zero x h)) (above_ratio y (above_zero y k)) some in
    rw (e, f) (same_ratio _ _ _ _ _ _ _ _ (over_ratio (pos (unsigned_abs x.num * y.den)) (x.den * unsigned_abs y.num) (mul-pos x.positive some)) r (omega arith))

-- ---- rounding
-- a quotient by a number above 0 is not above the multiple that the dividend is within
pub quotient_small : (z : ℤ) (b k : ℕ) → 0 < b → unsigned_abs z ≤ k * b → unsigned_abs (int_div_euclid z (pos b)) ≤ k
quotient_small (pos a) b k h l = let m : a / b < suc k = (div-lt_iff_lt-mul h).1 (omega arith) in omega arith
quotient_small (negsuc a) b k h l = let m : a / b < k = (div-lt_iff_lt-mul h).1 (omega arith) in omega arith

pub quotient_within : (z b : ℤ) (k : ℕ) → pos 1 ≤ℤ b → unsigned_abs z ≤ k * unsigned_abs b → unsigned_abs (int_div_euclid z b) ≤ k
quotient_within z (pos b) k h l = quotient_small z b k (omega (arith, ints)) l
quotient_within z (negsuc b) k h l = absurd (omega (arith, ints))

-- so many parts of `whole` and two shares
abbrev pub sum_of : ℤ → ℕ → Share → Share → ℚ
sum_of parts whole first second = over parts whole +ℚ share_of first +ℚ share_of second

module _ (p : ℤ) (n : ℕ) (x y : Share) (h : 1 ≤ n) where
  sum_is : sum_of p n x y ≡ over (top_of p n x y) (bottom_of n x y)
  sum_is =
      same_ratio _ _ _ _ _ _ _ _
      (sum_ratio _ _ _ _ _ _ _ _ (sum_ratio _ _ _ _ _ _ _ _ (over_ratio p n h) (over_ratio (pos x.top) x.bottom x.some)) (over_ratio (pos y.top) y.bottom y.some))
      (over_terms (top_of p n x y) (up p * (x.bottom * y.bottom) + n * (x.top * y.bottom + y.top * x.bottom)) (down p * (x.bottom * y.bottom))
      (bottom_of n x y) (mul-pos h (mul-pos x.some y.some)) (omega (arith, ints)))
      (omega arith)

  pub floor_sum : floor_ℚ (sum_of p n x y) ≡ int_div_euclid (top_of p n x y) (pos (bottom_of n x y))
  floor_sum = ap floor_ℚ sum_is ∙ floor_over (top_of p n x y) (bottom_of n x y) (mul-pos h (mul-pos x.some y.some))

  pub ceil_sum : ceil_ℚ (sum_of p n x y) ≡ neg_ℤ (int_div_euclid (neg_ℤ (top_of p n x y)) (pos (bottom_of n x y)))
  ceil_sum = ap ceil_ℚ sum_is ∙ ceil_over (top_of p n x y) (bottom_of n x y) (mul-pos h (mul-pos x.some y.some))

-- the numerator is within a multiple of the denominator
small : (r n a b c d : ℕ) → r ≤ 2 ^ 16 → a ≤ 2 ^ 39 → c ≤ 2 ^ 39 → 1 ≤ n → 1 ≤ b → 1 ≤ d → r * (b * d) + n * (a * d + c * b) ≤ 2 ^ 41 * (n * (b * d))
small r n a b c d p q s h k l =
    let parts = mul-le-mul_right (b * d) p in
    let once = mul-le-mul_right (b * d) h in
    let first = mul-le-mul_right d q in
    let first_whole = mul-le-mul_right d k in
    let second = mul-le-mul_right b s in
    let second_whole = mul-le-mul_right b l in
    let both : a * d + c * b ≤ 2 ^ 40 * (b * d) = omega arith in
    let all = mul-le-mul_left n both in
    omega (arith, parts, once, all)

pub top_small : (p : ℤ) (n : ℕ) (x y : Share) → 1 ≤ n → unsigned_abs p < 2 ^ 16 → unsigned_abs (top_of p n x y) ≤ 2 ^ 41 * bottom_of n x y
top_small p n x y h q =
    let m = x.bottom * y.bottom in
    let t = n * (x.top * y.bottom + y.top * x.bottom) in
    let s : unsigned_abs (p *ℤ pos m +ℤ pos t) ≤ unsigned_abs (p *ℤ pos m) + t = omega (arith, ints) in
    let e : unsigned_abs (p *ℤ pos m) ≡ unsigned_abs p * m = unsigned_abs-mul p (pos m) in
    let f = small (unsigned_abs p) n x.top x.bottom y.top y.bottom (omega arith) (omega arith) (omega arith) h x.some y.some in
    omega (arith, s, e, f)

-- a block sum at an end is its parts and the two runs there
pub sum_at_is : (a : Street) (h : 0 < a.head.parts) (end : End) (i : ℕ) (x y : Share) → share_of x ≡ run_at a end Outbound i → share_of y ≡ run_at a end Inbound i
    → sum_of (parts_at a end i) a.head.parts x y ≡ sum_at a end i
sum_at_is a h Least i x y e f = rw (e, f) (sym (least_sum_is a h i))
sum_at_is a h Greatest i x y e f = rw (e, f) (sym (greatest_sum_is a h i))
