-- Quotients of natural numbers, and the whole numbers next to them.
use Rattle.std.proofs.Common.{◌≡◌, ℕ, zero, suc, ℤ, pos, negsuc, ◌+◌, ◌-◌, ◌*◌, ◌/◌, ◌<◌, ◌≤◌, ◌≤ℤ◌, sym, ◌∙◌, ap, arith, unsigned_abs, mul-pos, zero-lt-suc, le-div_iff_mul-le, div-lt_iff_lt-mul}
use Rattle.std.proofs.lemmas.Int.{ints}
use borrow.Author.Differences.{up, down}
use Rattle.rational_theory.specs.Rational.{ℚ, whole, over, ◌*ℚ◌, ◌/ℚ◌, ◌≤ℚ◌, inverse_ℚ}
use Rattle.rational_theory.specs.Floor.{floor_ℚ, ceil_ℚ}
use Rattle.rational_theory.proofs.Arithmetic.{IsRatio, own_ratio, same_ratio, over_ratio, product_ratio, whole_ratio, ≤ℚ_in, ≤ℚ_out}
use Rattle.rational_theory.proofs.Floor.{floor_is, ceil_is}
use Rattle.speed_steps.specs.Sizes.{IsStep, IsRun}
use Rattle.speed_steps.specs.Steps.{shorter, longer}
use Rattle.speed_steps.proofs.Speeds.{is_quotient, above_of}
use Rattle.rational_theory.proofs.Order.{above_not_zero}

pub num_is : (x : ℚ) → pos 0 ≤ℤ x.num → x.num ≡ pos (unsigned_abs x.num)
num_is x h = omega (arith, ints, h)

-- a number that isn't below 0 is its numerator's size over its denominator
terms_by : (x : ℚ) (n : ℕ) → x.num ≡ pos n → IsRatio x n 0 x.den
terms_by x n e = record { above = x.positive; ratio = rw e (omega arith) }

own_terms : (x : ℚ) → pos 0 ≤ℤ x.num → IsRatio x (unsigned_abs x.num) 0 x.den
own_terms x h = terms_by x (unsigned_abs x.num) (num_is x h)

-- a quotient of natural numbers isn't below 0
sign_of : (z : ℤ) (n d w : ℕ) → 0 < d → up z * d + 0 * w ≡ down z * d + n * w → pos 0 ≤ℤ z
sign_of (pos k) n d w h e = omega (arith, ints)
sign_of (negsuc k) n d w h e = let p : 0 < suc k * d = mul-pos (zero-lt-suc k) h in absurd (omega (arith, e, p))

pub over_least : (n d : ℕ) → 0 < d → pos 0 ≤ℤ (over (pos n) d).num
over_least n d h = let r = over_ratio (pos n) d h in sign_of (over (pos n) d).num n d (over (pos n) d).den h r.ratio

pub zero_is : (x : ℚ) → unsigned_abs x.num ≡ 0 → x ≡ whole (pos 0)
zero_is x e = same_ratio x _ _ _ _ _ _ _ (own_ratio x) (whole_ratio (pos 0)) (omega (arith, ints, e))

-- ---- quotients
pub quotient_is : (x y : ℚ) → pos 0 ≤ℤ x.num → pos 1 ≤ℤ y.num → over (pos (unsigned_abs x.num * y.den)) (x.den * unsigned_abs y.num) ≡ x /ℚ y
quotient_is x y h k =
    let some : 0 < unsigned_abs y.num = omega (arith, ints, k) in
    let top = own_terms x h in
    let bottom = own_terms y (omega (arith, ints, k)) in
    let q = over_ratio (pos (unsigned_abs x.num * y.den)) (x.den * unsigned_abs y.num) (mul-pos x.positive some) in
    is_quotient x y (over (pos (unsigned_abs x.num * y.den)) (x.den * unsigned_abs y.num)) (above_not_zero y (above_of y k))
    (same_ratio _ _ _ _ _ _ _ _ (product_ratio _ _ _ _ _ _ _ _ q bottom) top (omega arith))

pub times_is : (k : ℕ) (y : ℚ) → pos 0 ≤ℤ y.num → over (pos (k * unsigned_abs y.num)) y.den ≡ whole (pos k) *ℚ y
times_is k y h =
    same_ratio _ _ _ _ _ _ _ _ (over_ratio (pos (k * unsigned_abs y.num)) y.den y.positive) (product_ratio _ _ _ _ _ _ _ _ (whole_ratio (pos k)) (own_terms y h)) (omega arith)

-- ---- the whole numbers next to a quotient
between : (z : ℤ) (n : ℕ) → pos n ≤ℤ z → z ≤ℤ pos n → z ≡ pos n
between z n h k = omega (arith, ints, h, k)

whole_most : (n t b : ℕ) → 0 < b → n * b ≤ t → whole (pos n) ≤ℚ over (pos t) b
whole_most n t b h k = ≤ℚ_in _ _ _ _ _ _ _ _ (whole_ratio (pos n)) (over_ratio (pos t) b h) (omega (arith, k))

whole_least : (n t b : ℕ) → 0 < b → t ≤ n * b → over (pos t) b ≤ℚ whole (pos n)
whole_least n t b h k = ≤ℚ_in _ _ _ _ _ _ _ _ (over_ratio (pos t) b h) (whole_ratio (pos n)) (omega (arith, k))

-- a whole number that is at most a quotient, and one that is at least
most_out : (z : ℤ) (t b : ℕ) → 0 < b → whole z ≤ℚ over (pos t) b → z ≤ℤ pos (t / b)
most_out (pos n) t b h k =
    let l = ≤ℚ_out _ _ _ _ _ _ _ _ (whole_ratio (pos n)) (over_ratio (pos t) b h) k in
    let m : n ≤ t / b = (le-div_iff_mul-le h).1 (omega (arith, l)) in
    omega (arith, ints, m)
most_out (negsuc n) t b h k = omega (arith, ints)

least_out : (z : ℤ) (t b : ℕ) → 0 < b → over (pos t) b ≤ℚ whole z → pos ((t + b - 1) / b) ≤ℤ z
least_out (pos n) t b h k =
    let l = ≤ℚ_out _ _ _ _ _ _ _ _ (over_ratio (pos t) b h) (whole_ratio (pos n)) k in
    let m : (t + b - 1) / b < suc n = (div-lt_iff_lt-mul h).1 (omega (arith, l, h)) in
    omega (arith, ints, m)
least_out (negsuc n) t b h k =
    let l = ≤ℚ_out _ _ _ _ _ _ _ _ (over_ratio (pos t) b h) (whole_ratio (negsuc n)) k in
    let m = mul-pos (h) h in
    absurd (omega (arith, ints, l, h, below n b h))
  where
    below : (n b : ℕ) → 0 < b → b ≤ suc n * b
    below n b h = omega arith

floor_of : (t b : ℕ) → 0 < b → floor_ℚ (over (pos t) b) ≡ pos (t / b)
floor_of t b h =
    let q = over (pos t) b in
    between (floor_ℚ q) (t / b) ((floor_is (pos (t / b)) q).0 (whole_most (t / b) t b h ((le-div_iff_mul-le h).0 (omega arith))))
    (most_out (floor_ℚ q) t b h ((floor_is (floor_ℚ q) q).1 (omega (arith, ints))))

ceil_of : (t b : ℕ) → 0 < b → ceil_ℚ (over (pos t) b) ≡ pos ((t + b - 1) / b)
ceil_of t b h =
    let q = over (pos t) b in
    let n = (t + b - 1) / b in
    let k : t + b - 1 < suc n * b = (div-lt_iff_lt-mul h).0 (omega arith) in
    between (ceil_ℚ q) n (least_out (ceil_ℚ q) t b h ((ceil_is (ceil_ℚ q) q).1 (omega (arith, ints))))
    ((ceil_is (pos n) q).0 (whole_least n t b h (omega (arith, k, h))))

-- ---- the multiples of a step next to a run
module _ (run step : ℚ) (some : pos 0 ≤ℤ run.num) (above : pos 1 ≤ℤ step.num) where
  below_line : 0 < run.den * unsigned_abs step.num
  below_line = mul-pos run.positive (omega (arith, ints, above))

  pub shorter_is : whole (pos (unsigned_abs run.num * step.den / (run.den * unsigned_abs step.num))) *ℚ step ≡ shorter step run
  shorter_is =
      ap (λ z. whole z *ℚ step) (sym (ap floor_ℚ (sym (quotient_is run step some above)) ∙ floor_of (unsigned_abs run.num * step.den) (run.den * unsigned_abs step.num) below_line))

  pub longer_is : whole (pos ((unsigned_abs run.num * step.den + run.den * unsigned_abs step.num - 1) / (run.den * unsigned_abs step.num))) *ℚ step ≡ longer step run
  longer_is =
      ap (λ z. whole z *ℚ step) (sym (ap ceil_ℚ (sym (quotient_is run step some above)) ∙ ceil_of (unsigned_abs run.num * step.den) (run.den * unsigned_abs step.num) below_line))

-- ---- sizes
pub small_step : (x : ℚ) (n d : ℕ) → x ≡ over (pos n) d → pos 1 ≤ℤ (over (pos n) d).num → unsigned_abs x.num ≤ n → x.den ≤ d → n ≤ 18 → d ≤ 44 → IsStep x
small_step x n d e p num den low high = record { least = rw e p; num = omega (arith, num, low); den = omega (arith, den, high) }
