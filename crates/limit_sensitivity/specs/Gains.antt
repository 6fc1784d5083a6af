-- What a change gains: exact, and as seconds of a cycle, where no number of it is too wide.
use Rattle.std.specs.Prelude.{ℕ, pos, nat_le, ◌^◌, ◌&&◌, not, Bool, List, [], ◌∷◌, ◌++◌, Option, Some, None, codes, int_lt, if◌then◌else◌}
use Rattle.std.specs.Ordering.{is_lt}
use Rattle.rational_theory.specs.Rational.{ℚ, neg_ℚ, ◌-ℚ◌, ◌*ℚ◌}
use Rattle.rational_theory.specs.Compare.{cmp_ℚ}
use Rattle.narrow_fraction.specs.Past128.{is_past}
use Rattle.narrow_fraction.specs.declared.wide.Op.{Op}
use Rattle.narrow_fraction.specs.declared.wide.Op.TheVariants.{Sub, Mul}
use Rattle.quantity_text.specs.Exact.{exact_spelling}
use Rattle.quantity_text.specs.Decimal.{decimal_spelling}

-- a number whose denominator a decimal can have
abbrev pub if_short : ℚ → Option ℚ
if_short x = if nat_le x.den (2 ^ 120) then Some x else None

-- the difference and the product, where they don't leave 128 bits
abbrev pub difference : ℚ → ℚ → Option ℚ
difference x y = if is_past Sub x y then None else if_short (x -ℚ y)

abbrev pub product : ℚ → ℚ → Option ℚ
product x y = if is_past Mul x y then None else if_short (x *ℚ y)

-- ---- texts
-- with a minus where it is below 0, and cut after so many places
abbrev pub signed_spelling : ℚ → ℕ → List ℕ
signed_spelling x places = if int_lt x.num (pos 0) then codes "-" ++ decimal_spelling (neg_ℚ x) places else decimal_spelling x places

abbrev pub exact_or_wide : Option ℚ → List ℕ
exact_or_wide None = codes "wide"
exact_or_wide (Some x) = exact_spelling x

abbrev pub decimal_or_wide : Option ℚ → ℕ → List ℕ
decimal_or_wide None places = codes "wide"
decimal_or_wide (Some x) places = signed_spelling x places
