use Rattle.std.proofs.Common.{◌≤◌, ℕ}
use Rattle.half_integer.specs.Uneven.{IsUneven}
use Rattle.half_integer.proofs.uneven.first_uneven.Given as goal

-- none so far
abbrev pub invariant-loop-place : goal.invariant-loop-place
invariant-loop-place l = (k : ℕ) → 1 ≤ k → k ≤ l.place → ¬ IsUneven l.artery l.timing k
