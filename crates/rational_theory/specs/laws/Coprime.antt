-- Greatest common divisors, and Euclid's lemma.
use Rattle.std.proofs.Common.{ℕ, zero, suc, ◌%◌, ◌≤◌, refl, arith, mod-lt, zero-lt-suc}
use Rattle.std.specs.Int.{IsGcd}
use Rattle.std.proofs.lemmas.Nat.Gcd.{IsGcd-from_zero, IsGcd-from_mod}
use Rattle.rational_theory.specs.Gcd.{gcd, gcd_steps}

-- Euclid's steps find the greatest common divisor
pub gcd_steps-IsGcd : (k a b : ℕ) → b ≤ k → IsGcd a b (gcd_steps k a b)
gcd_steps-IsGcd zero a b h = IsGcd-from_zero a b (omega arith)
gcd_steps-IsGcd (suc k) a zero h = IsGcd-from_zero a 0 refl
gcd_steps-IsGcd (suc k) a (suc b) h =
    IsGcd-from_mod a (suc b) (gcd_steps k (suc b) (a % suc b))
    (gcd_steps-IsGcd k (suc b) (a % suc b) (omega (arith, mod-lt a (zero-lt-suc b))))

-- and so does gcd
pub gcd-IsGcd : (a b : ℕ) → IsGcd a b (gcd a b)
unfolding gcd
gcd-IsGcd a b = gcd_steps-IsGcd b a b (omega arith)
