-- What the calls place: the base of the vertex's timing, and where its two lines cross the first signals of their ways.
use Rattle.std.specs.Prelude.{◌≡◌, List}
use Rattle.rational_theory.specs.Rational.{ℚ}
use Rattle.progression.specs.Street.{Street}
use Rattle.offset_recovery.specs.declared.placed.Lines.{Lines}
use Rattle.offset_recovery.specs.Recovered.{first_out_at, first_in_at}
use Rattle.offset_recovery.specs.Numbers.{base_at}

pub record ArePlaced (a : Street) (x : List ℚ) (lines : Lines) : Type 0 where
  pub base : lines.base ≡ base_at a x
  pub first_out : lines.first_out ≡ first_out_at a x
  pub first_in : lines.first_in ≡ first_in_at a x
