-- Multiples, and the least common one.
use Rattle.std.proofs.Common.{◌≡◌, ℕ, ◌*◌, ◌/◌, ◌<◌, refl, sym, ◌∙◌, ap, subst, arith, mul-pos, mul_comm}
use Prim.Native.Nat.{◌∣◌}
use native.Mathlib.Nat.{mul-div_cancel', dvd_of_mul-dvd-mul_left, mul-dvd-mul_left}
use Rattle.rational_theory.specs.Gcd.{gcd, lcm}
use Rattle.rational_theory.specs.laws.Fractions.{gcd_pos, times_part, parts_reduced}
use Rattle.rational_theory.proofs.Fractions.{first_part_pos, IsGcd-one}
use Rattle.rational_theory.proofs.Coprime.{Coprime-cancel}

-- n is a whole number of times d
pub record IsMultiple (n d : ℕ) : Type 0 where
  pub times : ℕ
  pub is : n ≡ times * d

pub multiple_on : {n m d : ℕ} → IsMultiple n m → IsMultiple m d → IsMultiple n d
multiple_on {n} {m} {d} h k = record { times = h.times * k.times; is = h.is ∙ ap (λ t. h.times * t) k.is ∙ omega arith }

crossed : (g p q m n : ℕ) → g * p ≡ m → g * q ≡ n → p * n ≡ q * m
crossed g p q m n h k = ap (λ t. p * t) (sym k) ∙ omega arith ∙ ap (λ t. q * t) h

-- the least common multiple is a multiple of both numbers, and above 0
pub lcm_first : (m n : ℕ) → 0 < n → IsMultiple (lcm m n) m
lcm_first m n h = let e = times_part m n h in record { times = n / gcd m n; is = crossed (gcd m n) (m / gcd m n) (n / gcd m n) m n e.0 e.1 }

pub lcm_second : (m n : ℕ) → IsMultiple (lcm m n) n
lcm_second m n = record { times = m / gcd m n; is = refl }

pub lcm_above : (m n : ℕ) → 0 < m → 0 < n → 0 < lcm m n
lcm_above m n h k = mul-pos (first_part_pos m n h k) k

-- and every number that both divide is a multiple of it
pub lcm_least : (m n k : ℕ) → 0 < n → m ∣ k → n ∣ k → lcm m n ∣ k
lcm_least m n k h a b =
    let g = gcd m n in
    let t = times_part m n h in
    let whole : n * (k / n) ≡ k = mul-div_cancel' n b in
    let regroup : g * (n / g * (k / n)) ≡ g * (n / g) * (k / n) = omega arith in
    let split : g * (n / g * (k / n)) ≡ k = regroup ∙ ap (λ u. u * (k / n)) t.1 ∙ whole in
    let shared : g * (m / g) ∣ g * (n / g * (k / n)) = subst (λ u. u ∣ g * (n / g * (k / n))) (sym t.0) (subst (λ u. m ∣ u) (sym split) a) in
    let part : m / g ∣ n / g * (k / n) = dvd_of_mul-dvd-mul_left (m / g) (gcd_pos m n h) shared in
    let rest : m / g ∣ k / n = Coprime-cancel (m / g) (n / g) (k / n) (IsGcd-one (m / g) (n / g) (parts_reduced m n h)) part in
    let back : k / n * n ≡ k = omega arith ∙ whole in
    subst (λ u. lcm m n ∣ u) back (subst (λ u. u ∣ k / n * n) (mul_comm n (m / g)) (subst (λ u. n * (m / g) ∣ u) (mul_comm n (k / n)) (mul-dvd-mul_left (m / g) n rest)))
