-- Two numbers of tenths are the same where their wholes and their digits are.
use Rattle.std.proofs.Common.{◌≡◌, ℕ, ◌/◌, ◌%◌, arith}

pub same_tenths : (m n : ℕ) → m / 10 ≡ n / 10 → m % 10 ≡ n % 10 → m ≡ n
same_tenths m n e f = omega (arith, e, f)
