-- Lemmas on the definitions of `Work`.
use Rattle.std.proofs.Common.{◌≡◌, ℕ, false, true≢false, Option, Some, None, eqb, ◌+◌, ◌<◌, ◌≤◌, ◌^◌, sym, ◌∙◌, ap, arith}
use Rattle.std.proofs.lemmas.Bool.{eq-eqb}
use Rattle.work_meter.specs.declared.meter.Meter.{Meter}
use Rattle.work_meter.specs.Work.{capped, metered, IsBelow, IsWithin, is_at_limit}

-- ---- what the test says

different : (n most : ℕ) → eqb n most ≡ false → n ≡ most → ⊥
different n most e q = true≢false (sym (eq-eqb n most q) ∙ e)

less : (n most : ℕ) → eqb n most ≡ false → n ≤ most → n < most
less n most e h = grind (arith, different n most e)

pub below_limit : (n : ℕ) (limit : Option ℕ) → is_at_limit n limit ≡ false → IsWithin n limit → IsBelow n limit
below_limit n None e h = tt
below_limit n (Some most) e h = less n most e h

-- a unit more keeps within a limit that is not reached
pub within_next : (n k : ℕ) (limit : Option ℕ) → IsBelow n limit → k ≡ capped (n + 1) → IsWithin k limit
within_next n k None h e = tt
within_next n k (Some most) h e = omega arith

-- ---- meters
-- no unit
pub metered_none : (m : Meter) → m.spent < 2 ^ 64 → m ≡ metered m 0
metered_none m h = let e : m.spent ≡ capped (m.spent + 0) = omega arith in λ i. record { spent = e i; limit = m.limit }

-- one unit after k
pub metered_next : (m n k : Meter) (i : ℕ) → n ≡ metered m i → k.spent ≡ capped (n.spent + 1) → k.limit ≡ n.limit → k ≡ metered m (i + 1)
metered_next m n k i e f g =
    let a : n.spent ≡ capped (m.spent + i) = ap (λ (x : Meter). x.spent) e in
    let b : k.spent ≡ capped (m.spent + (i + 1)) = omega arith in
    let c : k.limit ≡ m.limit = g ∙ ap (λ (x : Meter). x.limit) e in
    λ j. record { spent = b j; limit = c j }
