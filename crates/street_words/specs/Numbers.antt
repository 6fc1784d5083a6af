-- Numbers as people read them, with one decimal place: to the nearest tenth, as in a timing's sheet, or cut where a warning holds one against its limit.
use Rattle.std.specs.Prelude.{ℕ, pos, unsigned_abs, ◌*◌, List, ◌++◌, codes}
use Rattle.std.specs.Fmt.{decimal}
use Rattle.rational_theory.specs.Rational.{ℚ, over}
use Rattle.progression.specs.Street.{Street}
use Rattle.progression.specs.declared.parts.Units.{Units}
use Rattle.progression.specs.declared.parts.Units.TheVariants.{Metric, English}
use Rattle.quantity_text.specs.Decimal.{decimal_spelling}
use Rattle.timing_words.specs.Numbers.{tenths}

abbrev pub cut_tenths : ℚ → List ℕ
cut_tenths x = decimal_spelling x 1

unfoldable pub span_text : ℚ → ℚ → List ℕ
span_text x y = tenths x ++ (codes " to " ++ tenths y)

-- so many parts of a cycle of so many seconds, in seconds
abbrev pub parts_seconds : Street → ℕ → ℚ → ℚ
parts_seconds a n cycle = over (pos (n * unsigned_abs cycle.num)) (a.head.parts * cycle.den)

-- at the least cycle and at the greatest
unfoldable pub parts_span : Street → ℕ → List ℕ
parts_span a n = span_text (parts_seconds a n a.head.cycle.least) (parts_seconds a n a.head.cycle.most)

-- a length in the other unit: a foot is 381 / 1250 metres
abbrev pub other_length : Units → ℕ → ℚ
other_length Metric n = over (pos (1250 * n)) 381
other_length English n = over (pos (381 * n)) 1250

abbrev pub between_lengths : Units → List ℕ
between_lengths Metric = codes " m = "
between_lengths English = codes " ft = "

abbrev pub after_lengths : Units → List ℕ
after_lengths Metric = codes " ft"
after_lengths English = codes " m"

-- a length as it is typed and in the other unit
unfoldable pub length_text : Units → ℕ → List ℕ
length_text units n = decimal n ++ (between_lengths units ++ (tenths (other_length units n) ++ after_lengths units))
