-- Calls that answer a value unless something is refused, and the first of several refusals.
use Rattle.std.proofs.Common.{ℕ, suc, zero, Bool, true, false, Option, Some, None, Result, Ok, Err}

-- a refusal where a test is true
abbrev pub refusal_if : {E : Type 0} → Bool → E → Option E
refusal_if true e = Some e
refusal_if false e = None

-- the value, where nothing is refused
abbrev pub attempt : {A : Type 0} {E : Type 0} → Option E → A → Result A E
attempt None v = Ok v
attempt (Some e) v = Err e

-- the first of two refusals
abbrev pub earlier : {E : Type 0} → Option E → Option E → Option E
earlier None b = b
earlier (Some e) b = Some e

-- the first of the refusals at 0, 1, .. below n
abbrev pub first_below : {E : Type 0} → (ℕ → Option E) → ℕ → Option E
first_below f zero = None
first_below f (suc n) = earlier (first_below f n) (f n)
