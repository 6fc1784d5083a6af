-- What a tree of sums of rows must be to bound every good link timing, or to leave none.
use Rattle.std.specs.Prelude.{List, ◌⊎◌}
use Rattle.rational_theory.specs.Rational.{ℚ}
use Rattle.rational_theory.specs.Rows as maths
use Rattle.progression.specs.Street.{Street, count}
use Rattle.linear_theory.specs.Boxes.{Area}
use Rattle.linear_theory.specs.Covering.{CoversColumns, RefutesColumns}
use Rattle.linear_theory.specs.Trees.{BoxTree, sum_of_rows, AreMultipliers}
use Rattle.link_theory.specs.LinkColumns.{link_width}
use Rattle.link_theory.specs.LinkRows.{link_goal}
use Rattle.link_theory.specs.LinkNames.{LinkName, HasLinkRow, link_row}

-- a multiplier, and the row that it is for
abbrev pub LinkWeight : Type 0
LinkWeight = ℚ × LinkName

abbrev pub LinkTree : Type 0
LinkTree = BoxTree (List LinkWeight)

-- the sum of a leaf's rows, each times its multiplier
abbrev pub link_sum : Street → Area → List LinkWeight → maths.Row
link_sum a box ws = sum_of_rows (link_row a box) ws

-- the rows are there, and no multiplier is negative
abbrev pub AreLinkWeights : Street → List LinkWeight → Type 0
AreLinkWeights a ws = AreMultipliers (HasLinkRow a) ws

-- a row covers the goal of links with the value, or no point of at least 0 meets it
abbrev pub CoversLinks : Street → ℚ → maths.Row → Type 0
CoversLinks a value r = CoversColumns (link_width (count a)) (link_goal a) value r

abbrev pub RefutesLinks : Street → maths.Row → Type 0
RefutesLinks a r = RefutesColumns (link_width (count a)) r

-- a leaf's sum refutes, or covers the goal with the value
abbrev pub RefutingLeaf : Street → Area → List LinkWeight → Type 0
RefutingLeaf a box ws = AreLinkWeights a ws × RefutesLinks a (link_sum a box ws)

abbrev pub CoveringLeaf : Street → ℚ → Area → List LinkWeight → Type 0
CoveringLeaf a value box ws = AreLinkWeights a ws × (CoversLinks a value (link_sum a box ws) ⊎ RefutesLinks a (link_sum a box ws))
