-- Long division, digit by digit.
use Rattle.std.proofs.Common.{◌≡◌, ℕ, ℤ, pos, negsuc, ◌+◌, ◌*◌, ◌/◌, ◌%◌, ◌^◌, ◌<◌, ◌≤◌, ◌≤ℤ◌, List, [], ◌∷◌, ◌++◌, arith, refl, sym, ◌∙◌, ap, ap₂}
use Rattle.std.proofs.Common.{unsigned_abs, append_assoc, add-one, div-lt_iff_lt-mul, le-div_iff_mul-le, lit<}
use Rattle.std.proofs.lemmas.Int.{ints}
use Rattle.std.proofs.Math.Nat.{pow-succ', add-mul-div_right, add-mul-mod_self_right, div-div-eq-div-mul, mul-div-mul_right, one-le-pow}
use Rattle.std.specs.Fmt.{decimal}
use Rattle.rational_theory.specs.Rational.{ℚ, whole, ◌*ℚ◌}
use Rattle.rational_theory.specs.Floor.{floor_ℚ}
use Rattle.rational_theory.proofs.Floor.{floor_is}
use Rattle.rational_theory.proofs.Arithmetic.{IsRatio, whole_ratio, product_ratio, ≤ℚ_in, ≤ℚ_out}
use Rattle.quantity_text.specs.Decimal.{last_digits, scaled, decimal_spelling}

-- ten times as much
times_ten : (n b : ℕ) → 0 < b → n * 10 ≡ n % b * 10 + n / b * 10 * b
times_ten n b h = let split : b * (n / b) + n % b ≡ n = omega (arith, h) in omega (arith, split)

-- the quotient gets one more digit
div_ten : (n b : ℕ) → 0 < b → n * 10 / b ≡ n / b * 10 + n % b * 10 / b
div_ten n b h = ap (λ x. x / b) (times_ten n b h) ∙ add-mul-div_right (n % b * 10) (n / b * 10) h ∙ omega arith

-- and the rest is that of the rest
pub mod_ten : (n b : ℕ) → 0 < b → n * 10 % b ≡ n % b * 10 % b
mod_ten n b h = ap (λ x. x % b) (times_ten n b h) ∙ add-mul-mod_self_right (n % b * 10) (n / b * 10) b

-- the next digit is one
pub digit_below : (rest b : ℕ) → rest < b → rest * 10 / b < 10
digit_below rest b h = let some : 0 < b = omega arith in (div-lt_iff_lt-mul some).1 (omega arith)

-- one more digit at the end
last_digits_more : (k q d : ℕ) → d < 10 → last_digits (k + 1) (q * 10 + d) ≡ last_digits k q ++ (48 + d) ∷ []
last_digits_more k q d h =
    let front : (q * 10 + d) / 10 ≡ q = omega arith in
    let end : (q * 10 + d) % 10 ≡ d = omega arith in
    rw (add-one, front, end) refl

-- one more factor ten
pow_more : (a k : ℕ) → a * 10 ^ (k + 1) ≡ a * 10 ^ k * 10
pow_more a k = rw (add-one, pow-succ' 10 k) (omega arith)

-- one more place
pub place_more : (a b k rest digit : ℕ) (text : List ℕ) → 0 < b → rest ≡ a * 10 ^ k % b → digit ≡ 48 + rest * 10 / b
    → text ≡ decimal (a / b) ++ 46 ∷ last_digits k (a * 10 ^ k / b) → text ++ digit ∷ [] ≡ decimal (a / b) ++ 46 ∷ last_digits (k + 1) (a * 10 ^ (k + 1) / b)
place_more a b k rest digit text h r d e =
    let n = a * 10 ^ k in
    let below : n % b * 10 / b < 10 = digit_below (n % b) b (omega (arith, h)) in
    let longer : last_digits (k + 1) (a * 10 ^ (k + 1) / b) ≡ last_digits k (n / b) ++ (48 + n % b * 10 / b) ∷ [] =
    ap (λ x. last_digits (k + 1) x) (ap (λ x. x / b) (pow_more a k) ∙ div_ten n b h) ∙ last_digits_more k (n / b) (n % b * 10 / b) below in
    ap₂ (λ t c. t ++ c ∷ []) e (d ∙ ap (λ x. 48 + x * 10 / b) r)
    ∙ append_assoc (decimal (a / b)) (46 ∷ last_digits k (n / b)) ((48 + n % b * 10 / b) ∷ [])
    ∙ ap (λ t. decimal (a / b) ++ 46 ∷ t) (sym longer)

-- and what is left then
pub rest_more : (a b k rest : ℕ) → 0 < b → rest ≡ a * 10 ^ k % b → rest * 10 % b ≡ a * 10 ^ (k + 1) % b
rest_more a b k rest h r = ap (λ x. x * 10 % b) r ∙ sym (mod_ten (a * 10 ^ k) b h) ∙ ap (λ x. x % b) (sym (pow_more a k))

-- ---- the floor
-- the quotient is at most the floor
ratio_floor_le : (y : ℚ) (a d : ℕ) → IsRatio y a 0 d → pos (a / d) ≤ℤ floor_ℚ y
ratio_floor_le y a d r =
    let m : a / d * d ≤ a = (le-div_iff_mul-le r.above).0 (omega arith) in
    (floor_is (pos (a / d)) y).0 (≤ℚ_in _ _ _ _ _ _ _ _ (whole_ratio (pos (a / d))) r (omega (arith, m)))

-- and no natural number below the floor is above it
ratio_floor_ge : (y : ℚ) (a d n : ℕ) → IsRatio y a 0 d → pos n ≤ℤ floor_ℚ y → n ≤ a / d
ratio_floor_ge y a d n r h =
    let k = ≤ℚ_out _ _ _ _ _ _ _ _ (whole_ratio (pos n)) r ((floor_is (pos n) y).1 h) in
    (le-div_iff_mul-le r.above).1 (omega (arith, k))

-- the greatest natural number up to z
floor_natural : (z : ℤ) (n : ℕ) → pos n ≤ℤ z → ((m : ℕ) → pos m ≤ℤ z → m ≤ n) → unsigned_abs z ≡ n
floor_natural (pos m) n h f = let g = f m (omega (arith, ints)) in omega (arith, ints, h, g)
floor_natural (negsuc m) n h f = absurd (omega (arith, ints, h))

-- the floor of a ratio of natural numbers
ratio_floor : (y : ℚ) (a d : ℕ) → IsRatio y a 0 d → unsigned_abs (floor_ℚ y) ≡ a / d
ratio_floor y a d r = floor_natural (floor_ℚ y) (a / d) (ratio_floor_le y a d r) (λ m h. ratio_floor_ge y a d m r h)

-- a number of at least 0 as such a ratio
own_positive : (x : ℚ) → pos 0 ≤ℤ x.num → IsRatio x (unsigned_abs x.num) 0 x.den
own_positive x h = let n : x.num ≡ pos (unsigned_abs x.num) = omega (arith, ints, h) in record { above = x.positive; ratio = rw n (omega arith) }

-- what is scaled, by the two numbers
pub scaled_is : (x : ℚ) (places : ℕ) → pos 0 ≤ℤ x.num → scaled x places ≡ unsigned_abs x.num * 10 ^ places / x.den
scaled_is x places h =
    let p = product_ratio x (whole (pos (10 ^ places))) (unsigned_abs x.num) 0 x.den (10 ^ places) 0 1 (own_positive x h) (whole_ratio (pos (10 ^ places))) in
    let r : IsRatio (x *ℚ whole (pos (10 ^ places))) (unsigned_abs x.num * 10 ^ places) 0 x.den = record { above = x.positive; ratio = omega (arith, p.ratio) } in
    ratio_floor (x *ℚ whole (pos (10 ^ places))) (unsigned_abs x.num * 10 ^ places) x.den r

-- what stands before the point is the whole part
cut_whole : (a b p : ℕ) → 0 < p → a * p / b / p ≡ a / b
cut_whole a b p h = div-div-eq-div-mul (a * p) b p ∙ mul-div-mul_right a b h

-- the text of the two numbers is the decimal spelling
pub decimal_is : (x : ℚ) (places : ℕ) → pos 0 ≤ℤ x.num
    → decimal_spelling x places ≡ decimal (unsigned_abs x.num / x.den) ++ 46 ∷ last_digits places (unsigned_abs x.num * 10 ^ places / x.den)
decimal_is x places h =
    let s = scaled_is x places h in
    let p : 0 < 10 ^ places = one-le-pow places 10 (lit< tt) in
    ap (λ n. decimal (n / 10 ^ places) ++ 46 ∷ last_digits places n) s
    ∙ ap (λ n. decimal n ++ 46 ∷ last_digits places (unsigned_abs x.num * 10 ^ places / x.den)) (cut_whole (unsigned_abs x.num) x.den (10 ^ places) p)
