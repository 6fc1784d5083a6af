-- An artery as a program over boxes: its rows and the weighted band, with the entry of each line's box as its first tableau.
use Rattle.progression.specs.Street.{Street, count}
use Rattle.progression.specs.TimingRecord.{TimingRecord}
use Rattle.artery_model.specs.Valid.{IsValid}
use Rattle.linear_theory.specs.Places.{width}
use Rattle.loop_rows.specs.Weights.{leaf_fault}
use Rattle.offset_recovery.specs.Recovered.{recovered}
use Rattle.program_builder.specs.BoxRows.{rows_of}
use Rattle.program_builder.specs.Opening.{row_for, goal_of}
use Rattle.program_builder.specs.First.{first_of}
use Rattle.box_search.specs.declared.site.SitePart.{SitePart}
use Rattle.box_search.specs.declared.site.SitePart.TheVariants.{Ratio, Cell, LeafSum}
use Rattle.box_search.specs.Program.{Program}
use Rattle.branch_tree.specs.laws.Firsts.{artery_first}
use Rattle.box_search.specs.VertexOutcomes.{outcome_of}

abbrev pub program_of : Street → Program TimingRecord SitePart
program_of a = record {
  IsSound = IsValid a;
  names = rows_of a;
  row = row_for a;
  goal = goal_of a;
  columns = width (count a);
  first = λ line. first_of a line.area line.above;
  leaf_fault = leaf_fault a;
  outcome = λ box x. outcome_of (recovered a box x);
  ratio_part = Ratio;
  pivot_part = Cell;
  sum_part = LeafSum;
  first_is = artery_first a;
}
