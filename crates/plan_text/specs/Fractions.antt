-- Signed whole numbers and fractions as words of a line: each has one spelling, and only that is read.
use Rattle.std.specs.Prelude.{ℕ, ℤ, pos, neg_ℤ, unsigned_abs, ◌^◌, ◌==◌, nat_lt, nat_le, ◌&&◌, List, [], ◌∷◌, Bool, Option, None, Some, option_and_then, if◌then◌else◌}
use Rattle.std.specs.Str.Parse.{digits_value}
use Rattle.rational_theory.specs.Rational.{ℚ, over}
use Rattle.quantity_text.specs.Exact.{exact_spelling}
use Rattle.certificate_model.specs.Words.{cut, is_text}
use Rattle.plan_text.specs.Numbers.{number}

-- a number of 64 bits, and one below 0
abbrev pub from_zero : ℕ → Option ℤ
from_zero n = if nat_lt n (2 ^ 63) then Some (pos n) else None

abbrev pub below_zero : ℕ → Option ℤ
below_zero n = if nat_le 1 n && nat_le n (2 ^ 63) then Some (neg_ℤ (pos n)) else None

-- the number of 64 bits that a word spells; a minus is the byte 45, and none stands before 0
unfoldable pub integer : List ℕ → Option ℤ
integer [] = None
integer (c ∷ cs) = if c == 45 then option_and_then below_zero (number cs) else option_and_then from_zero (number (c ∷ cs))

-- what digits write, with a minus or without one
abbrev pub signed_value : List ℕ → ℤ
signed_value [] = pos 0
signed_value (c ∷ cs) = if c == 45 then neg_ℤ (pos (digits_value 10 cs)) else pos (digits_value 10 (c ∷ cs))

-- the digits before a slash over those after it, or over 1
abbrev pub quotient_of : List ℕ → Option (List ℕ × List ℕ) → ℚ
quotient_of w None = over (signed_value w) 1
quotient_of w (Some p) = over (signed_value p.0) (digits_value 10 p.1)

-- both numbers fit 128 bits with a sign
abbrev pub is_narrow : ℚ → Bool
is_narrow x = nat_lt (unsigned_abs x.num) (2 ^ 127) && nat_lt x.den (2 ^ 127)

abbrev pub exact_if : List ℕ → ℚ → Option ℚ
exact_if w x = if is_text w (exact_spelling x) && is_narrow x then Some x else None

-- the fraction whose exact spelling a word is; a slash is the byte 47
unfoldable pub exact : List ℕ → Option ℚ
exact w = exact_if w (quotient_of w (cut 47 w))
