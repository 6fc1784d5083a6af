-- Units of work: counts that stay at the greatest number of their type, and limits.
use Rattle.std.proofs.Common.{◌≡◌, ℕ, Bool, false, Option, Some, None, IfSome, eqb, min, ◌+◌, ◌-◌, ◌<◌, ◌≤◌, ◌^◌}
use Rattle.work_meter.specs.declared.meter.Meter.{Meter}

-- a count that stays at the greatest number of its type
abbrev pub capped : ℕ → ℕ
capped n = min n (2 ^ 64 - 1)

-- the meter after k units
abbrev pub metered : Meter → ℕ → Meter
metered m k = record { spent = capped (m.spent + k); limit = m.limit }

-- ---- limits
-- there is no limit, or it is more than the units spent
abbrev pub IsBelow : ℕ → Option ℕ → Type 0
IsBelow spent limit = IfSome limit (λ most. spent < most)

-- there is no limit, or the units spent are at most as many
abbrev pub IsWithin : ℕ → Option ℕ → Type 0
IsWithin spent limit = IfSome limit (λ most. spent ≤ most)

-- a unit may be spent
abbrev pub HasWork : Meter → Type 0
HasWork meter = IsBelow meter.spent meter.limit

-- all units are spent
abbrev pub IsSpent : Meter → Type 0
IsSpent meter = meter.limit ≡ Some meter.spent

-- the same as a test
abbrev pub is_at_limit : ℕ → Option ℕ → Bool
is_at_limit n None = false
is_at_limit n (Some most) = eqb n most

abbrev pub is_out : Meter → Bool
is_out m = is_at_limit m.spent m.limit
