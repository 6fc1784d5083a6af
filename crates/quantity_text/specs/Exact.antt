-- The one exact spelling of a rational number: an optional minus, the numerator's digits, and then `/` and the
-- denominator's digits unless that is 1. No number has a leading zero, and 0 has no minus.
use Rattle.std.specs.Prelude.{◌≡◌, ℕ, Bool, true, unsigned_abs, ◌<◌, ◌^◌, List, [], ◌∷◌, ◌++◌, ◌==◌, if◌then◌else◌}
use Rattle.std.specs.Fmt.{decimal, signed_decimal}
use Rattle.rational_theory.specs.Rational.{ℚ}
use Rattle.narrow_fraction.specs.Fraction.{FitsFrac, signed}

-- `/` is the byte 47
abbrev pub denominator_text : ℕ → List ℕ
denominator_text den = if den == 1 then [] else 47 ∷ decimal den

abbrev pub exact_spelling : ℚ → List ℕ
exact_spelling x = signed_decimal x.num ++ denominator_text x.den

-- the text is the spelling of x, whose two numbers fit 128 bits
pub record SpellsExactly (text : List ℕ) (x : ℚ) : Type 0 where
  pub fits : FitsFrac x
  pub spelled : text ≡ exact_spelling x

-- the text without its sign: a numerator over a denominator, which need not be in lowest terms
pub record SpellsSize (size : List ℕ) (top bottom : ℕ) : Type 0 where
  pub top_fits : top < 2 ^ 127
  pub above : 0 < bottom
  pub bottom_fits : bottom < 2 ^ 127
  pub spelled : size ≡ decimal top ++ denominator_text bottom

-- a sign and two numbers are those of x, and no minus stands before 0
pub record HasParts (x : ℚ) (negative : Bool) (top bottom : ℕ) : Type 0 where
  pub num_is : x.num ≡ signed negative top
  pub den_is : x.den ≡ bottom
  pub no_minus_zero : negative ≡ true → 0 < top

-- the text after the sign, or without one, is the spelling of x
pub record SpellsSigned (negative : Bool) (size : List ℕ) (x : ℚ) : Type 0 where
  pub fits : FitsFrac x
  pub parts : HasParts x negative (unsigned_abs x.num) x.den
  pub spelled : size ≡ decimal (unsigned_abs x.num) ++ denominator_text x.den
