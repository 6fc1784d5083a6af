-- Numbers in a description: TOML integers, and texts of the grammar of quantities.
use Rattle.std.specs.Prelude.{Option, None, Some, unwrap_or, ℤ, pos}
use Rattle.toml.specs.Data.{Data, string, integer, as_integer}
use Rattle.rational_theory.specs.Rational.{ℚ, whole}
use Rattle.quantity_text.specs.Quantity.{quantity_of}

-- the number that a quantity writes, none where the value is a text outside the grammar or of another type
abbrev pub quantity_in : Data → Option ℚ
quantity_in (integer z) = Some (whole z)
quantity_in (string text) = quantity_of text
quantity_in _ = None

-- the number of an integer, 0 of any other value
abbrev pub integer_in : Data → ℤ
integer_in d = unwrap_or (as_integer d) (pos 0)

-- the number that a quantity writes, 0 of any other value
abbrev pub number_in : Data → ℚ
number_in d = unwrap_or (quantity_in d) (whole (pos 0))
