-- What is read off a tree by its boxes alone, as a checker of certificates does it.
use Rattle.std.proofs.Common.{◌≡◌, List, [], ◌∷◌, Option, Some, None, refl}
use Rattle.linear_theory.specs.Boxes.{Area}
use Rattle.search_box.specs.declared.span.At.{At}
use Rattle.search_box.specs.Places.{low_part, high_part}
use Rattle.branch_and_bound.specs.Lines.{BoxLine, owed, Fills}

-- the boxes of lines
abbrev pub boxes_of : List BoxLine → List Area
boxes_of [] = []
boxes_of (line ∷ lines) = line.area ∷ boxes_of lines

-- Q holds of no boxes and no nodes, of a leaf's box and what follows, and of a split's box where it holds of its two parts and what follows
pub record ReadsTrees {N : Type 0} (cut : N → Option At) (P : BoxLine → N → Type 0) (Q : List Area → List N → Type 0) : Type 0 where
  pub none : Q [] []
  pub leaf : (line : BoxLine) (boxes : List Area) (node : N) (nodes : List N) → cut node ≡ None → P line node → Q boxes nodes → Q (line.area ∷ boxes) (node ∷ nodes)
  pub split : (line : BoxLine) (boxes : List Area) (place : At) (node : N) (nodes : List N) → cut node ≡ Some place → P line node
      → Q (low_part line.area place ∷ high_part line.area place ∷ boxes) nodes → Q (line.area ∷ boxes) (node ∷ nodes)

one_node : {N : Type 0} (cut : N → Option At) (P : BoxLine → N → Type 0) (Q : List Area → List N → Type 0) → ReadsTrees cut P Q
    → (line : BoxLine) (lines : List BoxLine) (node : N) (nodes : List N) (c : Option At) → cut node ≡ c → P line node → Q (boxes_of (owed c line lines)) nodes
    → Q (line.area ∷ boxes_of lines) (node ∷ nodes)
one_node cut P Q r line lines node nodes None e p q = r.leaf line (boxes_of lines) node nodes e p q
one_node cut P Q r line lines node nodes (Some place) e p q = r.split line (boxes_of lines) place node nodes e p q

-- then it holds of the boxes and nodes of whole trees
pub Fills-read : {N : Type 0} (cut : N → Option At) (P : BoxLine → N → Type 0) (Q : List Area → List N → Type 0) → ReadsTrees cut P Q
    → (lines : List BoxLine) (nodes : List N) → Fills cut P lines nodes → Q (boxes_of lines) nodes
Fills-read cut P Q r [] [] h = r.none
Fills-read cut P Q r (line ∷ lines) [] h = absurd h
Fills-read cut P Q r [] (node ∷ nodes) h = absurd h
Fills-read cut P Q r (line ∷ lines) (node ∷ nodes) h =
    one_node cut P Q r line lines node nodes (cut node) refl h.0 (Fills-read cut P Q r (owed (cut node) line lines) nodes h.1)
