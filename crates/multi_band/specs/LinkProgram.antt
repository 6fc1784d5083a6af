-- The links of an artery as a program over boxes: their rows and their value, each line's steps beginning from the opening of its own box.
use Rattle.progression.specs.Street.{Street, count}
use Rattle.artery_model.specs.Valid.{IsValid}
use Rattle.loop_rows.specs.Weights.{fault_of}
use Rattle.link_theory.specs.LinkRecord.{LinkRecord}
use Rattle.link_theory.specs.LinkColumns.{link_width}
use Rattle.link_theory.specs.LinkRows.{link_goal}
use Rattle.link_space.specs.LinkWeights.{link_rows}
use Rattle.box_search.specs.declared.site.SitePart.{SitePart}
use Rattle.box_search.specs.declared.site.SitePart.TheVariants.{Ratio, Cell, LeafSum}
use Rattle.box_search.specs.Program.{Program}
use Rattle.box_search.specs.VertexOutcomes.{outcome_of}
use Rattle.multi_band.specs.LinkRecovered.{link_recovered}
use Rattle.multi_band.specs.LinkTables.{names_of_links, link_row_for}
use Rattle.multi_band.specs.LinkOpening.{link_opening}
use Rattle.multi_band.specs.laws.LinkFirsts.{links_first}

abbrev pub link_program : Street → Program LinkRecord SitePart
link_program a = record {
  IsSound = IsValid a;
  names = names_of_links a;
  row = link_row_for a;
  goal = link_goal a;
  columns = link_width (count a);
  first = λ line. link_opening a line.area;
  leaf_fault = λ box. fault_of (link_rows a box);
  outcome = λ box x. outcome_of (link_recovered a box x);
  ratio_part = Ratio;
  pivot_part = Cell;
  sum_part = LeafSum;
  first_is = links_first a;
}
