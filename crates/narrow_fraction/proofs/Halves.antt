-- Common divisors by halves and differences: a factor of 2 of one number is no matter where the other is odd.
use Rattle.std.proofs.Common.{◌≡◌, ℕ, zero, suc, ◌+◌, ◌-◌, ◌*◌, ◌/◌, ◌%◌, ◌^◌, ◌<◌, ◌≤◌, ◌⊎◌, inl, inr, refl, sym, ◌∙◌, ap, ap₂, subst, arith, pow-suc, pow-add, pow_pos, min}
use Rattle.std.proofs.lemmas.Nat.Gcd.{IsGcd-from_sub, le_of_dvd, dvd_refl, dvd_trans, dvd_of_mod-eq-zero, mod-eq-zero_of_dvd}
use Rattle.std.proofs.Math.Nat.{mul-dvd-mul_right, mul-div_cancel}
use Prim.Native.Nat.{◌∣◌}
use native.Mathlib.Nat.{dvd-add_iff_right, dvd-mul_right_of_dvd}
use lib.Count.{count_trailing_zeros, under}
use Rattle.rational_theory.specs.Gcd.{gcd}
use Rattle.rational_theory.specs.laws.Coprime.{gcd-IsGcd}
use Rattle.rational_theory.proofs.Coprime.{scaled}
use Rattle.rational_theory.proofs.Fractions.{gcd-is, gcd_comm, gcd-step}

-- ---- zeros at the end
-- n is an odd number times 2 to the power of t, and t is below k
pub record IsOddTimes (k n t : ℕ) : Type 0 where
  pub odd : ℕ
  pub is_odd : odd % 2 ≡ 1
  pub is : n ≡ odd * 2 ^ t
  pub below : t < k

halved : (k n t d : ℕ) → n % 2 ≡ d → 0 < n → (0 < n / 2 → IsOddTimes k (n / 2) t) → IsOddTimes (suc k) n (under d t)
halved k n t (suc d) odd some half = record { odd = n; is_odd = omega arith; is = omega arith; below = omega arith }
halved k n t zero even some half =
    let h = half (omega arith) in
    record { odd = h.odd; is_odd = h.is_odd; is = double h.odd h.is; below = let b = h.below in omega arith }
  where
    double : (m : ℕ) → n / 2 ≡ m * 2 ^ t → n ≡ m * 2 ^ suc t
    double m e = let q = pow-suc 2 t in rw q (omega (arith, e, even))

pub trailing : (k n : ℕ) → 0 < n → n < 2 ^ k → IsOddTimes k n (count_trailing_zeros k n)
unfolding count_trailing_zeros
trailing zero n some fits = absurd (omega arith)
trailing (suc k) n some fits = halved k n (count_trailing_zeros k (n / 2)) (n % 2) refl some (λ rest. trailing k (n / 2) rest (omega (arith, pow-suc 2 k)))

-- ---- odd divisors
-- a divisor of an odd number is odd
odd_divides : (e y : ℕ) → e ∣ y → y % 2 ≡ 1 → e % 2 ≡ 1
odd_divides e y d o = pick (e % 2) refl
  where
    pick : (r : ℕ) → e % 2 ≡ r → e % 2 ≡ 1
    pick zero q = absurd (let z = mod-eq-zero_of_dvd 2 (dvd_trans 2 (dvd_of_mod-eq-zero 2 q) d) in omega arith)
    pick (suc r) q = omega arith

-- an odd divisor of 2 n divides n
divides_half : (e n : ℕ) → e % 2 ≡ 1 → e ∣ n * 2 → e ∣ n
divides_half e n o d =
    let t = e / 2 in
    let many : e ∣ n * 2 * t = dvd-mul_right_of_dvd e d t in
    let whole : n * 2 * t + n ≡ e * n = half_again e n t refl o in
    (dvd-add_iff_right e many).1 (subst (λ m. e ∣ m) (sym whole) (dvd-mul_right_of_dvd e (dvd_refl e) n))
  where
    half_again : (e n t : ℕ) → t ≡ e / 2 → e % 2 ≡ 1 → n * 2 * t + n ≡ e * n
    half_again e n t h o = let q : e ≡ 2 * t + 1 = omega (arith, h, o) in rw q (omega arith)

divides_power : (e n k : ℕ) → e % 2 ≡ 1 → e ∣ n * 2 ^ k → e ∣ n
divides_power e n zero o d = subst (λ m. e ∣ m) (omega arith) d
divides_power e n (suc k) o d = divides_power e n k o (divides_half e (n * 2 ^ k) o (subst (λ m. e ∣ m) (let q = pow-suc 2 k in rw q (omega arith)) d))

-- ---- common divisors
pub strip : (m y k : ℕ) → y % 2 ≡ 1 → gcd (m * 2 ^ k) y ≡ gcd m y
strip m y k o =
    let g = gcd-IsGcd m y in
    gcd-is (m * 2 ^ k) y (gcd m y) (dvd-mul_right_of_dvd (gcd m y) g.0 (2 ^ k), g.1, λ d p q. g.2 d (divides_power d m k (odd_divides d y q o) p) q)

pub differs : (x y : ℕ) → y ≤ x → gcd (x - y) y ≡ gcd x y
differs x y h = sym (gcd-is x y (gcd (x - y) y) (IsGcd-from_sub x y (gcd (x - y) y) h (gcd-IsGcd (x - y) y)))

pub gcd-scaled : (a b c : ℕ) → gcd (a * c) (b * c) ≡ gcd a b * c
unfolding gcd
gcd-scaled a b c = let g = gcd-IsGcd a b in gcd-is (a * c) (b * c) (gcd a b * c) (mul-dvd-mul_right (gcd a b) g.0 c, mul-dvd-mul_right (gcd a b) g.1 c, λ e p q. scaled b a b c e (omega arith) p q)

-- the least power of 2 of the two comes out
pub both_stripped : (m n i j : ℕ) → m % 2 ≡ 1 → n % 2 ≡ 1 → gcd (m * 2 ^ i) (n * 2 ^ j) ≡ gcd m n * 2 ^ min i j
both_stripped m n i j o p = pick (grind arith)
  where
    split : (i j : ℕ) → i ≤ j → (x : ℕ) → x * 2 ^ j ≡ x * 2 ^ (j - i) * 2 ^ i
    split i j h x = let e : j ≡ (j - i) + i = omega arith in let q = pow-add 2 (j - i) i in ap (λ k. x * 2 ^ k) e ∙ ap (λ y. x * y) q ∙ omega arith

    less : (i j : ℕ) → i ≤ j → gcd (m * 2 ^ i) (n * 2 ^ j) ≡ gcd m n * 2 ^ min i j
    less i j h =
        let e : min i j ≡ i = omega arith in
        rw (e, split i j h n) (gcd-scaled m (n * 2 ^ (j - i)) (2 ^ i) ∙ ap (λ g. g * 2 ^ i) (gcd_comm m (n * 2 ^ (j - i)) ∙ strip n m (j - i) o ∙ gcd_comm n m))

    more : (i j : ℕ) → j ≤ i → gcd (m * 2 ^ i) (n * 2 ^ j) ≡ gcd m n * 2 ^ min i j
    more i j h =
        let e : min i j ≡ j = omega arith in
        rw (e, split j i h m) (gcd-scaled (m * 2 ^ (i - j)) n (2 ^ j) ∙ ap (λ g. g * 2 ^ j) (strip m n (i - j) p))

    pick : (i ≤ j) ⊎ (j ≤ i) → gcd (m * 2 ^ i) (n * 2 ^ j) ≡ gcd m n * 2 ^ min i j
    pick (inl h) = less i j h
    pick (inr h) = more i j h

-- the quotient by its power of 2 is its odd factor
pub odd_factor : (k n t : ℕ) → (h : IsOddTimes k n t) → n / 2 ^ t ≡ h.odd
odd_factor k n t h = ap (λ m. m / 2 ^ t) h.is ∙ mul-div_cancel h.odd (pow_pos t)

-- one turn: the difference without its factors of 2, and the lesser
pub turned : (x y d low m k : ℕ) → ((y ≤ x → (d ≡ x - y) × (low ≡ y)) × (x ≤ y → (d ≡ y - x) × (low ≡ x))) → low % 2 ≡ 1 → d ≡ m * 2 ^ k → gcd m low ≡ gcd x y
turned x y d low m k h o e = pick (grind arith)
  where
    stripped : (u : ℕ) → low ≡ u → gcd m low ≡ gcd d u
    stripped u q = sym (ap₂ gcd e (sym q) ∙ strip m low k o)

    pick : (y ≤ x) ⊎ (x ≤ y) → gcd m low ≡ gcd x y
    pick (inl l) = let s = h.0 l in stripped y s.1 ∙ ap (λ n. gcd n y) s.0 ∙ differs x y l
    pick (inr l) = let s = h.1 l in stripped x s.1 ∙ ap (λ n. gcd n x) s.0 ∙ differs y x l ∙ gcd_comm y x

-- the common divisor of a number and a rest of it, by their odd parts, as a word
pub by_odd_parts : (a b m n i j w : ℕ) → 0 < b → b < 2 ^ 64 → b ≡ m * 2 ^ i → a % b ≡ n * 2 ^ j → m % 2 ≡ 1 → n % 2 ≡ 1 → w ≡ min i j → gcd m n * 2 ^ w % 18446744073709551616 ≡ gcd a b
by_odd_parts a b m n i j w some fits e f o p q =
    let whole : gcd m n * 2 ^ w ≡ gcd a b = ap (λ k. gcd m n * 2 ^ k) q ∙ sym (both_stripped m n i j o p) ∙ ap₂ gcd (sym e) (sym f) ∙ sym (gcd-step a b) in
    let most : gcd a b ≤ b = le_of_dvd some (gcd-IsGcd a b).1 in
    omega (arith, whole, most)
