-- The least number below a bound that passes a test.
use Rattle.std.proofs.Common.{ℕ, zero, suc, Bool, cond}

-- the least number below n that passes, and n where none does
unfoldable pub least : (ℕ → Bool) → ℕ → ℕ
least f zero = 0
least f (suc n) = cond (f 0) 0 (suc (least (λ k. f (suc k)) n))
