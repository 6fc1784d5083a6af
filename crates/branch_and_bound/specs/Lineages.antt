-- How the steps of a box end, and the lines that a search can meet.
use Rattle.std.specs.Prelude.{◌≡◌}
use Rattle.linear_theory.specs.Boxes.{Area}
use Rattle.search_box.specs.declared.span.At.{At}
use Rattle.branch_and_bound.specs.Lines.{BoxLine, top_line, low_line, high_line}

pub data Ending : Type 0 where
  -- no end is known
  NoEnd : Ending
  -- the box has no point
  Empty : Ending
  -- the vertex gives a timing
  Reads : Ending
  -- the vertex shows where the box is split
  Cuts : At → Ending
  -- an operation of the vertex's reading is refused
  Stuck : Ending

-- there is a last vertex
abbrev pub IsOptimal : Ending → Type 0
IsOptimal NoEnd = ⊥
IsOptimal Empty = ⊥
IsOptimal Reads = Unit {0}
IsOptimal (Cuts place) = Unit {0}
IsOptimal Stuck = Unit {0}

-- the box was read to its end: it is empty, or its vertex gave a timing or the place of a split
abbrev pub WasRead : Ending → Type 0
WasRead NoEnd = ⊥
WasRead Empty = Unit {0}
WasRead Reads = Unit {0}
WasRead (Cuts place) = Unit {0}
WasRead Stuck = ⊥

-- the root box on top, and the parts of a line's box at the place that the line's end shows; all of it of a sound problem
pub data IsLineage (Sound : Type 0) (root : Area) (ending : BoxLine → Ending) : BoxLine → Type 0 where
  at_top : Sound → IsLineage Sound root ending (top_line root)
  at_low : (line : BoxLine) (place : At) → IsLineage Sound root ending line → ending line ≡ Cuts place → IsLineage Sound root ending (low_line place line)
  at_high : (line : BoxLine) (place : At) → IsLineage Sound root ending line → ending line ≡ Cuts place → IsLineage Sound root ending (high_line place line)
