-- A loop has ended that went from 1 to a number.
use Rattle.std.proofs.Common.{◌≡◌, ℕ, ◌+◌, ◌-◌, ◌≤◌, ap, arith}

last_is : (x y z : ℕ) → (1 ≤ y + 1 → x ≤ y + 1) → y + 1 ≤ x → y ≡ z → x - 1 ≡ z
last_is x y z h k e = let some : 1 ≤ y + 1 = omega arith in let l = h some in omega arith

pub ends_at : {B : Type 0} (g : ℕ → B) (x y z : ℕ) → (1 ≤ y + 1 → x ≤ y + 1) → y + 1 ≤ x → y ≡ z → g (x - 1) ≡ g z
ends_at g x y z h k e = ap g (last_is x y z h k e)
