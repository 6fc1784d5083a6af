-- More lemmas beside those of `Coprime` in `specs/laws`.
use Rattle.std.proofs.Common.{◌≡◌, ℕ, zero, suc, ◌+◌, ◌*◌, ◌/◌, ◌%◌, ◌≤◌, sym, ◌∙◌, ap, subst, arith, mod-lt, div-add-mod', zero-lt-suc, add-mul, one-mul}
use Rattle.std.specs.Int.{IsGcd}
use Rattle.std.proofs.lemmas.Nat.Gcd.{same_from_IsGcd}
use Prim.Native.Nat.{◌∣◌}
use native.Mathlib.Nat.{dvd-add_iff_right, dvd-mul_right, dvd-mul_left_of_dvd}
use Rattle.rational_theory.specs.Gcd.{gcd, gcd_steps}
use Rattle.rational_theory.specs.laws.Coprime.{gcd-IsGcd}

-- a common divisor of a * c and b * c divides gcd a b * c
pub scaled : (k a b c e : ℕ) → b ≤ k → e ∣ a * c → e ∣ b * c → e ∣ gcd_steps k a b * c
scaled zero a b c e h p q = p
scaled (suc k) a zero c e h p q = p
scaled (suc k) a (suc b) c e h p q =
    let split : a / suc b * suc b * c + a % suc b * c ≡ a * c = sym (add-mul (a / suc b * suc b) (a % suc b) c) ∙ ap (λ n. n * c) (div-add-mod' a (suc b)) in
    let turn : a / suc b * (suc b * c) ≡ a / suc b * suc b * c = omega arith in
    let first : e ∣ a / suc b * suc b * c = subst (λ n. e ∣ n) turn (dvd-mul_left_of_dvd e q (a / suc b)) in
    let rest : e ∣ a % suc b * c = (dvd-add_iff_right e first).1 (subst (λ n. e ∣ n) (sym split) p) in
    scaled k (suc b) (a % suc b) c e (omega (arith, mod-lt a (zero-lt-suc b))) q rest

-- Euclid's lemma: what divides a product and shares nothing with one factor divides the other
pub Coprime-cancel : (a b c : ℕ) → IsGcd a b 1 → a ∣ b * c → a ∣ c
unfolding gcd
Coprime-cancel a b c h p =
    let e : gcd_steps b a b ≡ 1 = same_from_IsGcd a b (gcd_steps b a b) 1 (gcd-IsGcd a b) h in
    let q : a ∣ gcd_steps b a b * c = scaled b a b c a (omega arith) (dvd-mul_right a c) p in
    subst (λ n. a ∣ n) (one-mul c) (subst (λ n. a ∣ n * c) e q)
