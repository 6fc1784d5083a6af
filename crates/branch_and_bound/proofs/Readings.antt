-- What reads an accepted tree by its boxes alone, as a checker of certificates does it.
use Rattle.std.proofs.Common.{◌≡◌, List, [], ◌∷◌, Option, Some, None, subst, sym}
use Rattle.rational_theory.specs.Rational.{ℚ}
use Rattle.linear_theory.specs.Boxes.{Area}
use Rattle.search_box.specs.declared.span.At.{At}
use Rattle.search_box.specs.Places.{IsPlace, low_part, high_part}
use Rattle.named_row.specs.declared.leaves.Leaf.{Leaf}
use Rattle.named_row.specs.declared.leaves.Point.{Point}
use Rattle.branch_and_bound.specs.Lines.{BoxLine}
use Rattle.branch_and_bound.proofs.BoxReadings.{Fills-read}
use Rattle.branch_and_bound.specs.Rules.{Rules}
use Rattle.branch_and_bound.specs.Answer.{cut_of, lines_of, IsProof, IsAcceptedNode, IsAccepted}
use Rattle.branch_and_bound.specs.declared.node.TreeNode.{TreeNode}
use Rattle.branch_and_bound.specs.declared.node.TreeNode.TheVariants.{Split, Closed, Waiting}

-- Q of boxes that want a tree and nodes is what a checker says: of a split where its place lies in the box, and of a leaf where it is a proof
pub record ReadsAnswers {T K W : Type 0} (r : Rules T K W) (claim : Option ℚ) (Q : List Area → List TreeNode → Type 0) : Type 0 where
  pub none : Q [] []
  pub split : (box : Area) (boxes : List Area) (place : At) (point : Point) (nodes : List TreeNode) → IsPlace box place → Q (low_part box place ∷ high_part box place ∷ boxes) nodes
      → Q (box ∷ boxes) (Split place point ∷ nodes)
  pub closed : (box : Area) (boxes : List Area) (leaf : Leaf) (nodes : List TreeNode) → IsProof r claim box leaf → Q boxes nodes → Q (box ∷ boxes) (Closed leaf ∷ nodes)
  pub waiting : (box : Area) (boxes : List Area) (leaf : Leaf) (nodes : List TreeNode) → IsProof r claim box leaf → Q boxes nodes → Q (box ∷ boxes) (Waiting leaf ∷ nodes)

read_leaf : {T K W : Type 0} (r : Rules T K W) (claim : Option ℚ) (Q : List Area → List TreeNode → Type 0) → ReadsAnswers r claim Q
    → (line : BoxLine) (boxes : List Area) (node : TreeNode) (nodes : List TreeNode) → cut_of node ≡ None → IsAcceptedNode r claim line node → Q boxes nodes → Q (line.area ∷ boxes) (node ∷ nodes)
read_leaf r claim Q h line boxes (Split place point) nodes e p q = cc
read_leaf r claim Q h line boxes (Closed leaf) nodes e p q = h.closed line.area boxes leaf nodes p q
read_leaf r claim Q h line boxes (Waiting leaf) nodes e p q = h.waiting line.area boxes leaf nodes p q

read_split : {T K W : Type 0} (r : Rules T K W) (claim : Option ℚ) (Q : List Area → List TreeNode → Type 0) → ReadsAnswers r claim Q
    → (line : BoxLine) (boxes : List Area) (place : At) (node : TreeNode) (nodes : List TreeNode) → cut_of node ≡ Some place → IsAcceptedNode r claim line node
    → Q (low_part line.area place ∷ high_part line.area place ∷ boxes) nodes → Q (line.area ∷ boxes) (node ∷ nodes)
read_split r claim Q h line boxes place (Split at point) nodes e p q =
    let same : at ≡ place = cc in
    h.split line.area boxes at point nodes p (subst (λ x. Q (low_part line.area x ∷ high_part line.area x ∷ boxes) nodes) (sym same) q)
read_split r claim Q h line boxes place (Closed leaf) nodes e p q = cc
read_split r claim Q h line boxes place (Waiting leaf) nodes e p q = cc

-- then an accepted tree is accepted there
pub accepted_read : {T K W : Type 0} (r : Rules T K W) (claim : Option ℚ) (Q : List Area → List TreeNode → Type 0) → ReadsAnswers r claim Q
    → (nodes : List TreeNode) → IsAccepted r claim nodes → Q (r.root ∷ []) nodes
accepted_read r claim Q h nodes a =
    Fills-read cut_of (IsAcceptedNode r claim) Q (record { none = h.none; leaf = read_leaf r claim Q h; split = read_split r claim Q h }) (lines_of r) nodes a
