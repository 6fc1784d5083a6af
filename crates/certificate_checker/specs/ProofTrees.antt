-- The nodes of an accepted certificate as a tree of the linear model, in place of a list that is read with the boxes that want a tree.
use Rattle.std.specs.Prelude.{◌≡◌, ◌↔◌, List, [], ◌∷◌, ◌++◌, map, Option}
use Rattle.rational_theory.specs.Rational.{ℚ}
use Rattle.progression.specs.Street.{Street, count}
use Rattle.linear_theory.specs.Places.{width}
use Rattle.linear_theory.specs.Boxes.{Area}
use Rattle.linear_theory.specs.Trees as trees
use Rattle.named_row.specs.Sheets.{blank}
use Rattle.named_row.specs.declared.leaves.Weight.{Weight}
use Rattle.loop_rows.specs.Weights.{named}
use Rattle.search_box.specs.declared.span.At.{At}
use Rattle.search_box.specs.declared.span.At.TheVariants.{Loop, Turn}
use Rattle.search_box.specs.Places.{low_part, high_part}
use Rattle.certificate_model.specs.Warrants.{Node, SplitAt, LeafOf}
use Rattle.certificate_checker.specs.Accepted.{Shows, FitsAlong, AreProofs}

-- a leaf, or a split at a place with its low and its high part
pub data ProofTree : Type 0 where
  Leaf : List Weight → ProofTree
  Split : At → ProofTree → ProofTree → ProofTree

-- a node comes before those of its low part, and these before those of its high part
abbrev pub preorder : ProofTree → List Node
preorder (Leaf ws) = LeafOf ws ∷ []
preorder (Split at low high) = SplitAt at ∷ preorder low ++ preorder high

-- the same tree with the names that the linear model has for rows
abbrev pub tree_of : ProofTree → trees.Tree
tree_of (Leaf ws) = trees.LeafOf (map named ws)
tree_of (Split (Loop i at) low high) = trees.LoopSplit i at (tree_of low) (tree_of high)
tree_of (Split (Turn i rank) low high) = trees.TurnSplit i rank (tree_of low) (tree_of high)

-- no operation of a leaf's sum leaves 128 bits
abbrev pub SumsFit : Street → Area → ProofTree → Type 0
SumsFit a box (Leaf ws) = FitsAlong a box (blank (width (count a))) ws
SumsFit a box (Split at low high) = SumsFit a (low_part box at) low × SumsFit a (high_part box at) high

-- a list of nodes proves a claim for a box exactly where it is the preorder of a tree that the linear model accepts there
abbrev pub ProofsAreTrees : Type 0
ProofsAreTrees =
    (a : Street) (limit : Option ℚ) (box : Area) (ns : List Node)
    → AreProofs a limit (box ∷ []) ns ↔ ((t : ProofTree) × (ns ≡ preorder t) × trees.Accepted (Shows a limit) a box (tree_of t) × SumsFit a box t)
