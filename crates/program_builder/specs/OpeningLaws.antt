-- What the opening tableau of a box is: it stands for the box's rows and the weighted band, and it is dual feasible.
use Rattle.std.proofs.Common.{List}
use Rattle.rational_theory.specs.Rational.{ℚ}
use Rattle.progression.specs.Street.{Street}
use Rattle.progression.specs.declared.parts.Dir.{Dir}
use Rattle.linear_theory.specs.Rows as rows
use Rattle.program_builder.specs.Loading.{cells_of}

-- the row of signal 1's wait
abbrev pub wait_row : Street → Dir → List ℚ
wait_row a d = cells_of (rows.line a (rows.wait_form a d 1))
