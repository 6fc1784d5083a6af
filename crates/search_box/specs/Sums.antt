-- A number of parts of the cycle and two fractions of it as one fraction.
use Rattle.std.specs.Prelude.{ℕ, ◌+◌, ◌*◌, ℤ, pos, ◌+ℤ◌, ◌*ℤ◌}
use Rattle.rational_theory.specs.Rational.{ℚ, over}
use Rattle.progression.specs.Street.{Street}
use Rattle.progression.specs.declared.parts.Dir.{Dir}
use Rattle.linear_theory.specs.Boxes.{run_least, run_greatest, least_sum, greatest_sum}
use Rattle.linear_theory.specs.Spans.{least_parts, greatest_parts}
use Rattle.search_box.specs.declared.share.Share.{Share}
use Rattle.search_box.specs.declared.whole_parts.End.{End}
use Rattle.search_box.specs.declared.whole_parts.End.TheVariants.{Least, Greatest}

abbrev pub share_of : Share → ℚ
share_of s = over (pos s.top) s.bottom

-- so many parts of `whole` and two shares, over one denominator
abbrev pub bottom_of : ℕ → Share → Share → ℕ
bottom_of whole first second = whole * (first.bottom * second.bottom)

abbrev pub top_of : ℤ → ℕ → Share → Share → ℤ
top_of parts whole first second = parts *ℤ pos (first.bottom * second.bottom) +ℤ pos (whole * (first.top * second.bottom + second.top * first.bottom))

-- ---- the ends of the range of a block sum
abbrev pub run_at : Street → End → Dir → ℕ → ℚ
run_at a Least d i = run_least a d i
run_at a Greatest d i = run_greatest a d i

abbrev pub parts_at : Street → End → ℕ → ℤ
parts_at a Least i = least_parts a i
parts_at a Greatest i = greatest_parts a i

abbrev pub sum_at : Street → End → ℕ → ℚ
sum_at a Least i = least_sum a i
sum_at a Greatest i = greatest_sum a i
