-- A quantity as text: an optional `-`, then 1 to 18 digits, then nothing, or `.` and 1 to 18 digits, or `/` and 1 to
-- 18 digits that aren't all 0. Leading zeros are allowed.
use Rattle.std.specs.Prelude.{ℕ, Bool, ◌+◌, ◌*◌, ◌^◌, ◌==◌, ◌||◌, ◌&&◌, nat_lt, nat_le, pos, List, [], ◌∷◌, length, take, drop, Option, Some, None, option_and_then, if◌then◌else◌}
use Rattle.std.specs.Option.{option_map}
use Rattle.std.specs.List.{position_or_len}
use Rattle.std.specs.Str.{all_ascii_digits}
use Rattle.std.specs.Str.Parse.{digits_value}
use Rattle.rational_theory.specs.Rational.{ℚ, over, neg_ℚ}

-- the number that 1 to 18 digits write
abbrev pub run_of : List ℕ → Option ℕ
run_of ds = if nat_lt 0 (length ds) && (nat_le (length ds) 18 && all_ascii_digits ds) then Some (digits_value 10 ds) else None

-- a point is the byte 46, a slash the byte 47
abbrev pub is_mark : ℕ → Bool
is_mark c = (c == 46) || (c == 47)

-- a whole number and, after a mark, a number of so many digits: a decimal, or a fraction that isn't over 0
abbrev pub marked : ℕ → ℕ → ℕ → ℕ → Option ℚ
marked whole mark places back =
    if mark == 46 then Some (over (pos (whole * 10 ^ places + back)) (10 ^ places))
    else (if back == 0 then None else Some (over (pos whole) back))

abbrev pub with_tail : ℕ → List ℕ → Option ℚ
with_tail whole [] = Some (over (pos whole) 1)
with_tail whole (mark ∷ ds) = option_and_then (marked whole mark (length ds)) (run_of ds)

-- a quantity without a sign: digits up to the first mark, if there is one
abbrev pub size_of : List ℕ → Option ℚ
size_of text =
    option_and_then (λ whole. with_tail whole (drop (position_or_len is_mark text) text)) (run_of (take (position_or_len is_mark text) text))

-- the quantity that a text writes; a minus is the byte 45
abbrev pub quantity_of : List ℕ → Option ℚ
quantity_of [] = None
quantity_of (c ∷ cs) = if c == 45 then option_map neg_ℚ (size_of cs) else size_of (c ∷ cs)
