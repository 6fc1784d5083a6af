-- Whole numbers as text: digits without a leading zero, except `0` alone. So each number has one spelling.
use Rattle.std.specs.Prelude.{ℕ, ◌^◌, nat_lt, ◌&&◌, List, [], ◌∷◌, Bool, true, false, Option, None, Some, if◌then◌else◌}
use Rattle.std.specs.Str.{all_ascii_digits}
use Rattle.std.specs.Str.Parse.{digits_value}

-- a word isn't empty, and no zero comes before another byte
abbrev pub is_plain : List ℕ → Bool
is_plain [] = false
is_plain (b ∷ []) = true
is_plain (b ∷ c ∷ bs) = nat_lt 48 b

abbrev pub is_numeral : List ℕ → Bool
is_numeral w = is_plain w && all_ascii_digits w

-- the number below 2 ^ 80 that a word spells
unfoldable pub number : List ℕ → Option ℕ
number w = if is_numeral w && nat_lt (digits_value 10 w) (2 ^ 80) then Some (digits_value 10 w) else None
