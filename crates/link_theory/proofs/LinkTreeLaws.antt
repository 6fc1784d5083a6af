-- What a tree proves of every good link timing, on any grid.
use Rattle.std.proofs.Common.{inl, inr, List, subst}
use Rattle.rational_theory.specs.Rational.{ℚ, ◌≤ℚ◌}
use Rattle.rational_theory.specs.Rows.{IsMet}
use Rattle.progression.specs.Street.{Street, count}
use Rattle.linear_theory.specs.Boxes.{Area, InBox, IsBoxOf, IsRoot}
use Rattle.linear_theory.specs.Counts.{IsStreet}
use Rattle.linear_theory.specs.Trees.{BoxTree, AcceptedBy}
use Rattle.linear_theory.proofs.Bounds.{covered, refuted}
use Rattle.linear_theory.proofs.Roots.{root_law, shift_there}
use Rattle.linear_theory.proofs.RootBoxes.{root_boxed}
use Rattle.linear_theory.proofs.TreeLaws.{tree_law, sum_met}
use Rattle.link_theory.specs.LinkRecord.{LinkRecord, lines}
use Rattle.link_theory.specs.GoodLinks.{GoodLinks}
use Rattle.link_theory.specs.BestLinks.{link_value, BoundedLinks, NoLinks}
use Rattle.link_theory.specs.Plain.{plain}
use Rattle.link_theory.specs.LinkColumns.{link_width, link_point}
use Rattle.link_theory.specs.LinkRows.{link_goal}
use Rattle.link_theory.specs.LinkNames.{HasLinkRow, link_row}
use Rattle.link_theory.specs.LinkCounts.{LinkCounts}
use Rattle.link_theory.specs.LinkTrees.{LinkWeight, LinkTree, link_sum, AreLinkWeights, CoversLinks, RefutesLinks, RefutingLeaf, CoveringLeaf}
use Rattle.link_theory.proofs.PlainStreets.{plain_street, plain_root, from_plain_box, from_plain_inside}
use Rattle.link_theory.proofs.LinesAreGood.{good_lines}
use Rattle.link_theory.proofs.LinkPoints.{link_point_width}
use Rattle.link_theory.proofs.LinkGoals.{link_point_not_negative, link_goal_value}
use Rattle.link_theory.proofs.NamedLinkRows.{link_row_law}

-- ---- leaves
module _ (a : Street) (box : Area) (t : LinkRecord) (c : LinkCounts a box t) (ws : List LinkWeight) (w : AreLinkWeights a ws) where
  -- the point of a good link timing of the box meets a leaf's sum
  pub link_leaf_met : IsMet (link_point a t) (link_sum a box ws)
  link_leaf_met = sum_met (link_row a box) (HasLinkRow a) (link_point a t) (link_row_law a box t c) ws w

  -- which bounds the value
  pub link_leaf_covers : (value : ℚ) → CoversLinks a value (link_sum a box ws) → link_value a t ≤ℚ value
  link_leaf_covers value m =
      subst (λ z. z ≤ℚ value) (link_goal_value a t c.street c.good)
      (covered (link_width (count a)) (link_point a t) (link_point_width a t c.good.formed c.good.base.shape c.street.signals) (link_point_not_negative a t c.street c.good)
      (link_goal a) value (link_sum a box ws) link_leaf_met m)

  -- or leaves no such timing
  pub link_leaf_refutes : RefutesLinks a (link_sum a box ws) → ⊥
  link_leaf_refutes m =
      refuted (link_width (count a)) (link_point a t) (link_point_width a t c.good.formed c.good.base.shape c.street.signals) (link_point_not_negative a t c.street c.good)
      (link_sum a box ws) link_leaf_met m

-- ---- trees
module _ (a : Street) (t : LinkRecord) (h : IsStreet a) (g : GoodLinks a t) where
  -- the lines lie in the root box
  pub lines_in_root : (root : Area) → IsRoot a root → InBox a root (lines t)
  lines_in_root root r = from_plain_inside a root (lines t) (root_law (plain a) (lines t) (plain_street a h) (good_lines a t h g) root (plain_root a root r))

  -- which is a box of the artery
  pub lines_root_boxed : (root : Area) → IsRoot a root → IsBoxOf a root
  lines_root_boxed root r =
      from_plain_box a root (root_boxed (plain a) root (shift_there (plain a) (lines t) (plain_street a h) (good_lines a t h g)) (plain_root a root r))

  -- so what each leaf proves of a good link timing of its box, a tree at the root proves of each good link timing
  module _ {L : Type 0} (P : Area → L → Type 0) (Q : Type 0) (leaf : (box : Area) → LinkCounts a box t → (l : L) → P box l → Q) where
    pub link_tree_law : (tree : BoxTree L) (box : Area) → IsBoxOf a box → InBox a box (lines t) → AcceptedBy P box tree → Q
    link_tree_law tree box b i c = tree_law a (lines t) P Q (λ at bb ii l p. leaf at (record { street = h; good = g; boxed = bb; inside = ii }) l p) tree box b i c

    pub link_root_law : (tree : BoxTree L) (root : Area) → IsRoot a root → AcceptedBy P root tree → Q
    link_root_law tree root r c = link_tree_law tree root (lines_root_boxed root r) (lines_in_root root r) c

-- where every leaf covers the goal with the value, or refutes, no good link timing has a greater value
pub bounded : (a : Street) (root : Area) (tree : LinkTree) (value : ℚ) → IsStreet a → IsRoot a root → AcceptedBy (CoveringLeaf a value) root tree → BoundedLinks a value
bounded a root tree value h r c = λ t g.
    link_root_law a t h g (CoveringLeaf a value) (link_value a t ≤ℚ value)
    (λ box k ws l. elim l.1 [
      | inl m ↦ link_leaf_covers a box t k ws l.0 value m
      | inr m ↦ absurd (link_leaf_refutes a box t k ws l.0 m)
    ])
    tree root r c

-- where every leaf refutes, no link timing is good
pub no_timing : (a : Street) (root : Area) (tree : LinkTree) → IsStreet a → IsRoot a root → AcceptedBy (RefutingLeaf a) root tree → NoLinks a
no_timing a root tree h r c = λ t g.
    link_root_law a t h g (RefutingLeaf a) ⊥ (λ box k ws l. link_leaf_refutes a box t k ws l.0 l.1) tree root r c
