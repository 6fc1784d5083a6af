-- Where a run left 128 bits: the site of the operation and its two operands, on an artery with so many signals. The rows of a leaf have their names in a table of
-- families.
use Rattle.std.specs.Prelude.{ℕ, List, ◌++◌, codes}
use Rattle.std.specs.Fmt.{decimal}
use Rattle.narrow_fraction.specs.declared.wide.Op.{Op}
use Rattle.narrow_fraction.specs.declared.wide.Op.TheVariants.{Add, Sub, Mul, Div}
use Rattle.narrow_fraction.specs.declared.wide.Wide.{Wide}
use Rattle.named_row.specs.declared.names.RowId.{RowId}
use Rattle.named_row.specs.declared.names.Place.{Place}
use Rattle.quantity_text.specs.Exact.{exact_spelling}
use Rattle.fraction_tableau.specs.declared.wide_cell.WideCell.{WideCell}
use Rattle.offset_recovery.specs.declared.outcome.WideTiming.{WideTiming}
use Rattle.offset_recovery.specs.declared.outcome.WideTiming.TheVariants as timing
use Rattle.box_search.specs.declared.site.SitePart.{SitePart}
use Rattle.box_search.specs.declared.site.SitePart.TheVariants as part
use Rattle.certificate_model.specs.Families.{Table}
use Rattle.diagram_print.specs.Names.{row_text_in, column_text, place_text}

-- ---- the site
-- a row and a place of the tableau, by their numbers
abbrev pub cell_line : List ℕ → WideCell → List ℕ
cell_line kind cell = codes "site " ++ (kind ++ (codes " " ++ (decimal cell.row ++ (codes " " ++ (decimal cell.col ++ codes "\n")))))

-- a place of a leaf's sum, at which this row was added
abbrev pub leaf_line : Table → ℕ → RowId → Place → List ℕ
leaf_line table signals row place = codes "site leaf " ++ (row_text_in table row ++ (codes " " ++ (place_text signals place ++ codes "\n")))

abbrev pub product_line : ℕ → ℕ → List ℕ
product_line signals column = codes "site product " ++ (column_text signals column ++ codes "\n")

abbrev pub number_line : ℕ → ℕ → List ℕ
number_line signals column = codes "site number " ++ (column_text signals column ++ codes "\n")

abbrev pub timing_line : ℕ → WideTiming → List ℕ
timing_line signals (timing.Sum link refused) = codes "site sum " ++ (decimal link ++ codes "\n")
timing_line signals (timing.Product column refused) = product_line signals column
timing_line signals (timing.Unit left right) = codes "site unit\n"
timing_line signals (timing.Number column ticks) = number_line signals column

abbrev pub site_line : Table → ℕ → SitePart → List ℕ
site_line table signals (part.Ratio cell) = cell_line (codes "ratio") cell
site_line table signals (part.Cell cell) = cell_line (codes "cell") cell
site_line table signals (part.LeafSum row at) = leaf_line table signals row at.place
site_line table signals (part.Timing refused) = timing_line signals refused

-- ---- the operands
abbrev pub op_name : Op → List ℕ
op_name Add = codes "add"
op_name Sub = codes "sub"
op_name Mul = codes "mul"
op_name Div = codes "div"

abbrev pub wide_line : Wide → List ℕ
wide_line refused = codes "operands " ++ (op_name refused.op ++ (codes " " ++ (exact_spelling refused.left ++ (codes " " ++ (exact_spelling refused.right ++ codes "\n")))))

abbrev pub lcm_line : ℕ → ℕ → List ℕ
lcm_line left right = codes "operands lcm " ++ (decimal left ++ (codes " " ++ (decimal right ++ codes "\n")))

abbrev pub ticks_line : ℕ → List ℕ
ticks_line ticks = codes "operands ticks " ++ (decimal ticks ++ codes "\n")

abbrev pub timing_operands : WideTiming → List ℕ
timing_operands (timing.Sum link refused) = wide_line refused
timing_operands (timing.Product column refused) = wide_line refused
timing_operands (timing.Unit left right) = lcm_line left right
timing_operands (timing.Number column ticks) = ticks_line ticks

abbrev pub operands_line : SitePart → List ℕ
operands_line (part.Ratio cell) = wide_line cell.wide
operands_line (part.Cell cell) = wide_line cell.wide
operands_line (part.LeafSum row at) = wide_line at.wide
operands_line (part.Timing refused) = timing_operands refused
