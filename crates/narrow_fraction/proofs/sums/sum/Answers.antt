use Rattle.std.proofs.Common.{rules, Option, Some, None, SomeIff, ◌∙◌, sym}
use Rattle.rational_theory.specs.Rational.{ℚ, ◌+ℚ◌}
use Rattle.rational_theory.proofs.Arithmetic.{+ℚ_comm}
use Rattle.narrow_fraction.specs.Past128.{SumFits}
use Rattle.narrow_fraction.proofs.OneDenominator.{fits_comm, zero_sum}
use Rattle.narrow_fraction.proofs.Short.{short_fits}
use Rattle.narrow_fraction.proofs.sums.sum.Goals as goal

turned : (r : Option ℚ) (x y : ℚ) → SomeIff r (SumFits y x) (y +ℚ x) → SomeIff r (SumFits x y) (x +ℚ y)
turned (Some z) x y h = (fits_comm y x h.0, h.1 ∙ +ℚ_comm y x)
turned None x y h = λ f. h (fits_comm x y f)

pub returns-then-right-eq0 : goal.returns-then-right-eq0
returns-then-right-eq0 c = zero_sum c.args.x c.args.y c.parts-left.ensures.fits (sym c.parts-right.ensures.top ∙ c.if-right-eq0.true)

pub returns-then-left-eq0 : goal.returns-then-left-eq0
returns-then-left-eq0 c = turned (Some c.args.y) c.args.x c.args.y (zero_sum c.args.y c.args.x c.parts-right.ensures.fits (sym c.parts-left.ensures.top ∙ c.if-left-eq0.true))

pub returns-then-left-eq1 : goal.returns-then-left-eq1
returns-then-left-eq1 c = turned _ c.args.x c.args.y c.sum_with_whole-then-left-eq1.ensures

pub returns-then-is_short-2 : goal.returns-then-is_short-2
returns-then-is_short-2 c = (short_fits c.args.x c.args.y (search rules) (search rules), c.sum_of_short.ensures)
