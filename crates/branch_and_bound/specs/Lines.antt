-- Trees of boxes as lists of nodes in preorder, and the line of boxes that leads to each node.
use Rattle.std.specs.Prelude.{ℕ, ◌+◌, ◌⊎◌, List, [], ◌∷◌, Option, Some, None}
use Rattle.linear_theory.specs.Boxes.{Area}
use Rattle.search_box.specs.declared.span.At.{At}
use Rattle.search_box.specs.Places.{low_part, high_part}

-- a box with the boxes above it, the nearest first
pub record BoxLine : Type 0 where
  pub area : Area
  pub above : List Area

-- the box at the top, and the two parts of a line's box
abbrev pub top_line : Area → BoxLine
top_line area = record { area = area; above = [] }

abbrev pub low_line : At → BoxLine → BoxLine
low_line place line = record { area = low_part line.area place; above = line.area ∷ line.above }

abbrev pub high_line : At → BoxLine → BoxLine
high_line place line = record { area = high_part line.area place; above = line.area ∷ line.above }

-- the lines that want a tree after a node: its two parts first, where it is split
abbrev pub owed : Option At → BoxLine → List BoxLine → List BoxLine
owed None line lines = lines
owed (Some place) line lines = low_line place line ∷ high_line place line ∷ lines

abbrev pub AreNone : List BoxLine → Type 0
AreNone [] = Unit {0}
AreNone (line ∷ lines) = ⊥

-- the nodes, read in their order, are whole trees for the lines that want one, and each node with its line is as P says
abbrev pub Fills : {N : Type 0} → (N → Option At) → (BoxLine → N → Type 0) → List BoxLine → List N → Type 0
Fills cut P lines [] = AreNone lines
Fills cut P [] (node ∷ nodes) = ⊥
Fills cut P (line ∷ lines) (node ∷ nodes) = P line node × Fills cut P (owed (cut node) line lines) nodes

-- some node with its line is as P says
abbrev pub Finds : {N : Type 0} → (N → Option At) → (BoxLine → N → Type 0) → List BoxLine → List N → Type 0
Finds cut P lines [] = ⊥
Finds cut P [] (node ∷ nodes) = ⊥
Finds cut P (line ∷ lines) (node ∷ nodes) = P line node ⊎ Finds cut P (owed (cut node) line lines) nodes

-- the sum over all nodes of what each line costs
abbrev pub total : {N : Type 0} → (N → Option At) → (BoxLine → ℕ) → List BoxLine → List N → ℕ
total cut cost lines [] = 0
total cut cost [] (node ∷ nodes) = 0
total cut cost (line ∷ lines) (node ∷ nodes) = cost line + total cut cost (owed (cut node) line lines) nodes

-- what stands for a line past the end of a tree
abbrev pub no_line : BoxLine
no_line = top_line (record { loops = []; turns = [] })

-- the line of the node that follows these nodes
abbrev pub line_after : {N : Type 0} → (N → Option At) → List BoxLine → List N → BoxLine
line_after cut [] nodes = no_line
line_after cut (line ∷ lines) [] = line
line_after cut (line ∷ lines) (node ∷ nodes) = line_after cut (owed (cut node) line lines) nodes
