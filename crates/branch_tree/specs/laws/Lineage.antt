-- Along a line of splits of an artery every box is one of it.
use Rattle.progression.specs.Street.{Street}
use Rattle.linear_theory.specs.Boxes.{IsBoxOf, root_box}
use Rattle.search_box.proofs.Parts.{parts_of}
use Rattle.branch_and_bound.specs.Lines.{BoxLine}
use Rattle.branch_and_bound.specs.Lineages.{IsLineage}
use Rattle.branch_tree.specs.laws.BoxLaws.{cuts_inside}
use Rattle.box_search.specs.Searchable.{IsSearchable}
use Rattle.branch_tree.specs.Lineage.{line_ending}
use Rattle.box_search.specs.laws.Lineage.{sound_along, boxed_along}

-- the lines that a search of the artery can meet
abbrev pub IsLineOf : Street → BoxLine → Type 0
IsLineOf a line = IsLineage (IsSearchable a) (root_box a) (line_ending a) line

pub searchable : (a : Street) (line : BoxLine) → IsLineOf a line → IsSearchable a
searchable a line l = sound_along (IsSearchable a) (root_box a) (line_ending a) line l

pub boxed : (a : Street) (line : BoxLine) → IsLineOf a line → IsBoxOf a line.area
boxed a line l =
    boxed_along (IsSearchable a) (root_box a) (line_ending a) (IsBoxOf a) (λ s. s.root)
    (λ at place s b e. let p = parts_of a at.area place b (cuts_inside a at s.valid b place e) in (p.low_box, p.high_box)) line l
