-- The sum of a leaf over the rows of a box: of the rows that it names, each times its multiplier.
use Rattle.std.specs.Prelude.{List, map}
use Rattle.rational_theory.specs.Rows as maths
use Rattle.progression.specs.Street.{Street}
use Rattle.linear_theory.specs.Boxes.{Area}
use Rattle.linear_theory.specs.Trees.{leaf_sum}
use Rattle.named_row.specs.declared.leaves.Weight.{Weight}
use Rattle.loop_rows.specs.Weights.{named}

abbrev pub sum_of : Street → Area → List Weight → maths.Row
sum_of a box ws = leaf_sum a box (map named ws)
