-- The first tableau of each line of an artery is one that steps may begin from.
use Rattle.progression.specs.Street.{Street, count}
use Rattle.artery_model.specs.Valid.{IsValid}
use Rattle.linear_theory.specs.Places.{width}
use Rattle.program_builder.specs.Opening.{box_rows, goal_of}
use Rattle.program_builder.specs.First.{first_of}
use Rattle.program_builder.proofs.First.{first_is}
use Rattle.branch_and_bound.specs.Lines.{BoxLine}
use Rattle.box_search.specs.Program.{IsFirst}

pub artery_first : (a : Street) → IsValid a → (line : BoxLine) → IsFirst (box_rows a line.area) (goal_of a) (width (count a)) (first_of a line.area line.above)
artery_first a v line = let f = first_is a line.area line.above v in record { columns_are = f.columns; dual = f.dual; stands = f.stands }
