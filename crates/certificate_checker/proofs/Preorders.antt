-- Nodes that prove a claim for a box are the preorder of a tree that does, and the other way round.
use Rattle.std.proofs.Common.{◌≡◌, List, [], ◌∷◌, ◌++◌, Option, refl, sym, subst, ap, ◌∙◌, append_assoc, append-nil}
use Rattle.rational_theory.specs.Rational.{ℚ}
use Rattle.progression.specs.Street.{Street}
use Rattle.linear_theory.specs.Boxes.{Area}
use Rattle.linear_theory.specs.Trees as trees
use Rattle.search_box.specs.declared.span.At.TheVariants.{Loop, Turn}
use Rattle.search_box.specs.declared.span.At.{At}
use Rattle.search_box.specs.Places.{IsPlace, low_part, high_part}
use Rattle.certificate_model.specs.Warrants.{Node, SplitAt, LeafOf}
use Rattle.certificate_checker.specs.Accepted.{Shows, IsProof, AreProofs}
use Rattle.certificate_checker.specs.ProofTrees.{ProofTree, Leaf, Split, preorder, tree_of, SumsFit, ProofsAreTrees}

module _ (a : Street) (limit : Option ℚ) where
  -- each split's place lies in its box, and each leaf is a proof for its box
  abbrev Proves : Area → ProofTree → Type 0
  Proves box (Leaf ws) = IsProof a limit box ws
  Proves box (Split at low high) = IsPlace box at × Proves (low_part box at) low × Proves (high_part box at) high

  -- which is what the linear model accepts, with sums that fit
  abbrev IsGoodTree : Area → ProofTree → Type 0
  IsGoodTree box t = trees.Accepted (Shows a limit) a box (tree_of t) × SumsFit a box t

  accepted_of : (box : Area) (t : ProofTree) → Proves box t → IsGoodTree box t
  accepted_of box (Leaf ws) p = ((p.rows, p.shows), p.fits)
  accepted_of box (Split (Loop i at) low high) p =
      let l = accepted_of (low_part box (Loop i at)) low p.1 in let h = accepted_of (high_part box (Loop i at)) high p.2 in
      ((p.0, l.0, h.0), (l.1, h.1))
  accepted_of box (Split (Turn i rank) low high) p =
      let l = accepted_of (low_part box (Turn i rank)) low p.1 in let h = accepted_of (high_part box (Turn i rank)) high p.2 in
      ((p.0, l.0, h.0), (l.1, h.1))

  proves_of : (box : Area) (t : ProofTree) → IsGoodTree box t → Proves box t
  proves_of box (Leaf ws) p = record { rows = p.0.0; fits = p.1; shows = p.0.1 }
  proves_of box (Split (Loop i at) low high) p = (p.0.0, proves_of (low_part box (Loop i at)) low (p.0.1, p.1.0), proves_of (high_part box (Loop i at)) high (p.0.2, p.1.1))
  proves_of box (Split (Turn i rank) low high) p = (p.0.0, proves_of (low_part box (Turn i rank)) low (p.0.1, p.1.0), proves_of (high_part box (Turn i rank)) high (p.0.2, p.1.1))

  -- a tree before the nodes of others
  put_tree : (box : Area) (boxes : List Area) (t : ProofTree) (rest : List Node) → Proves box t → AreProofs a limit boxes rest → AreProofs a limit (box ∷ boxes) (preorder t ++ rest)
  put_tree box boxes (Leaf ws) rest p k = (p, k)
  put_tree box boxes (Split at low high) rest p k =
      let right = put_tree (high_part box at) boxes high rest p.2 k in
      let both = put_tree (low_part box at) (high_part box at ∷ boxes) low (preorder high ++ rest) p.1 right in
      (p.0, subst (λ ns. AreProofs a limit (low_part box at ∷ high_part box at ∷ boxes) ns) (sym (append_assoc (preorder low) (preorder high) rest)) both)

  -- trees, one for each box
  abbrev preorders : List ProofTree → List Node
  preorders [] = []
  preorders (t ∷ ts) = preorder t ++ preorders ts

  abbrev AllProve : List Area → List ProofTree → Type 0
  AllProve [] [] = Unit {0}
  AllProve [] (t ∷ ts) = ⊥
  AllProve (box ∷ boxes) [] = ⊥
  AllProve (box ∷ boxes) (t ∷ ts) = Proves box t × AllProve boxes ts

  record IsForest (boxes : List Area) (ns : List Node) : Type 0 where
    trees : List ProofTree
    nodes_are : ns ≡ preorders trees
    prove : AllProve boxes trees

  with_split : (box : Area) (boxes : List Area) (at : At) (ns : List Node) → IsPlace box at → (ts : List ProofTree) → ns ≡ preorders ts
      → AllProve (low_part box at ∷ high_part box at ∷ boxes) ts → IsForest (box ∷ boxes) (SplitAt at ∷ ns)
  with_split box boxes at ns i [] e p = absurd p
  with_split box boxes at ns i (low ∷ []) e p = absurd p.1
  with_split box boxes at ns i (low ∷ high ∷ ts) e p = record {
    trees = Split at low high ∷ ts;
    nodes_are = ap (λ ms. SplitAt at ∷ ms) (e ∙ sym (append_assoc (preorder low) (preorder high) (preorders ts)));
    prove = ((i, p.0, p.1.0), p.1.1);
  }

  forest_of : (boxes : List Area) (ns : List Node) → AreProofs a limit boxes ns → IsForest boxes ns
  forest_of [] [] h = record { trees = []; nodes_are = refl; prove = tt }
  forest_of [] (n ∷ ns) h = absurd h
  forest_of (box ∷ boxes) [] h = absurd h
  forest_of (box ∷ boxes) (SplitAt at ∷ ns) h =
      let f = forest_of (low_part box at ∷ high_part box at ∷ boxes) ns h.1 in
      with_split box boxes at ns h.0 f.trees f.nodes_are f.prove
  forest_of (box ∷ boxes) (LeafOf ws ∷ ns) h =
      let f = forest_of boxes ns h.1 in
      record { trees = Leaf ws ∷ f.trees; nodes_are = ap (λ ms. LeafOf ws ∷ ms) f.nodes_are; prove = (h.0, f.prove) }

  -- one tree
  abbrev IsTree : Area → List Node → Type 0
  IsTree box ns = (t : ProofTree) × (ns ≡ preorder t) × trees.Accepted (Shows a limit) a box (tree_of t) × SumsFit a box t

  one_tree : (box : Area) (ns : List Node) (ts : List ProofTree) → ns ≡ preorders ts → AllProve (box ∷ []) ts → IsTree box ns
  one_tree box ns [] e p = absurd p
  one_tree box ns (t ∷ []) e p = let g = accepted_of box t p.0 in (t, e ∙ append-nil (preorder t), g.0, g.1)
  one_tree box ns (t ∷ u ∷ ts) e p = absurd p.1

  tree_from : (box : Area) (ns : List Node) → AreProofs a limit (box ∷ []) ns → IsTree box ns
  tree_from box ns h = let f = forest_of (box ∷ []) ns h in one_tree box ns f.trees f.nodes_are f.prove

  proofs_from : (box : Area) (ns : List Node) → IsTree box ns → AreProofs a limit (box ∷ []) ns
  proofs_from box ns k =
      let all = put_tree box [] k.0 [] (proves_of box k.0 (k.2, k.3)) tt in
      subst (λ ms. AreProofs a limit (box ∷ []) ms) (append-nil (preorder k.0) ∙ sym k.1) all

pub proofs_are_trees : ProofsAreTrees
proofs_are_trees a limit box ns = (tree_from a limit box ns, proofs_from a limit box ns)
