-- What is known of the answered nodes.
use Rattle.std.proofs.Common.{◌≡◌, ℕ, ◌+◌, ◌⊎◌, inl, inr, List, Option, Some, None, refl, sym, subst, ap, ◌∙◌, take, drop}
use Rattle.std.specs.Prelude.{IfSome}
use Rattle.std.specs.List.{slice_get}
use Rattle.rational_theory.specs.Rational.{ℚ, ◌≤ℚ◌}
use Rattle.rational_theory.proofs.Order.{≤ℚ_trans, <ℚ-≤ℚ, <ℚ_not-≤ℚ}
use Rattle.search_box.specs.declared.span.At.{At}
use Rattle.named_row.specs.declared.leaves.Leaf.{Leaf}
use Rattle.branch_and_bound.specs.Lines.{BoxLine, Fills, line_after}
use Rattle.branch_and_bound.proofs.Walks.{Fills-at}
use Rattle.branch_and_bound.specs.Lineages.{Cuts}
use Rattle.branch_and_bound.specs.Rules.{Rules, IsMet}
use Rattle.branch_and_bound.specs.Incumbents.{IsReached, IsUnder, IsBeaten}
use Rattle.branch_and_bound.specs.Greatest.{bound_of}
use Rattle.branch_and_bound.specs.Answer.{cut_of, IsNeededNode, IsBestLeaf, IsOver}
use Rattle.branch_and_bound.specs.State.{place_of, IsNode, IsSplit, IsRefuted, IsRead, IsShown}
use Rattle.branch_and_bound.specs.declared.incumbent.Incumbent.{Incumbent}
use Rattle.branch_and_bound.specs.declared.node.Node.{Node}
use Rattle.branch_and_bound.specs.declared.node.Node.TheVariants.{Split, Closed, Waiting}
use Rattle.branch_and_bound.specs.declared.node.TreeNode.{TreeNode}
use Rattle.branch_and_bound.specs.declared.node.TreeNode.TheVariants as tree
use Rattle.branch_and_bound.proofs.Splicing.{cut_here}

-- ---- values
pub beaten_under : {T : Type 0} (best : Option (Incumbent T)) (v : ℚ) → IsBeaten best v → IsUnder best v
beaten_under None v h = tt
beaten_under (Some best) v h = <ℚ-≤ℚ best.value v h

pub reached_under : {T : Type 0} (best : Option (Incumbent T)) (v w : ℚ) → IsReached v best → IsUnder best w → v ≤ℚ w
reached_under None v w h k = absurd h
reached_under (Some best) v w h k = ≤ℚ_trans v best.value w h k

pub beaten_not : {T : Type 0} (best : Option (Incumbent T)) (v : ℚ) → IsReached v best → IsBeaten best v → ⊥
beaten_not None v h k = h
beaten_not (Some best) v h k = <ℚ_not-≤ℚ best.value v k h

under_trans : {T : Type 0} (best : Option (Incumbent T)) (low v : ℚ) → IsUnder best low → low ≤ℚ v → IfSome best (λ b. b.value ≤ℚ v)
under_trans None low v h k = tt
under_trans (Some best) low v h k = ≤ℚ_trans best.value low v h k

-- ---- nodes
-- the node at an index, with its line
pub there : {N : Type 0} (cut : N → Option At) (P : BoxLine → N → Type 0) (lines : List BoxLine) (nodes : List N) (index : ℕ) (node : N)
    → Fills cut P lines nodes → slice_get nodes index ≡ Some node → P (line_after cut lines (take index nodes)) node
there cut P lines nodes index node h e =
    Fills-at cut P lines (take index nodes) node (drop (index + 1) nodes) (subst (λ ns. Fills cut P lines ns) (sym (cut_here nodes index node e)) h)

-- a waiting leaf that was closed, since the best value is at least its bound
pub record IsPassed {T K W : Type 0} (r : Rules T K W) (new : Option (Incumbent T)) (low : ℚ) (line : BoxLine) (leaf : Leaf) : Type 0 where
  pub place : At
  pub end : r.ending line ≡ Cuts place
  pub covers : r.Covers line.area leaf (r.bound line)
  pub reached : IsReached (r.bound line) new
  pub under : r.bound line ≤ℚ low

-- a closed leaf, under the best timing before the last parts and after them
pub record IsDone {T K W : Type 0} (r : Rules T K W) (old new : Option (Incumbent T)) (low : ℚ) (line : BoxLine) (leaf : Leaf) : Type 0 where
  pub lineage : IsMet r line
  pub leaf_is : r.IsLeaf line leaf
  pub shows : IsRefuted r line leaf ⊎ (IsRead r old line leaf ⊎ IsPassed r new low line leaf)

pub record StillWaits {T K W : Type 0} (r : Rules T K W) (low : ℚ) (line : BoxLine) (leaf : Leaf) : Type 0 where
  pub lineage : IsMet r line
  pub leaf_is : r.IsLeaf line leaf
  pub place : At
  pub end : r.ending line ≡ Cuts place
  pub covers : r.Covers line.area leaf (r.bound line)
  pub under : r.bound line ≤ℚ low

abbrev pub IsTreeNode : {T K W : Type 0} → Rules T K W → Option (Incumbent T) → Option (Incumbent T) → ℚ → BoxLine → TreeNode → Type 0
IsTreeNode r old new low line (tree.Split place point) = IsSplit r low line place point
IsTreeNode r old new low line (tree.Closed leaf) = IsDone r old new low line leaf
IsTreeNode r old new low line (tree.Waiting leaf) = StillWaits r low line leaf

pub shown_cut : {T K : Type 0} (new : Option (Incumbent T)) (spared : Option ℕ) (i : ℕ) (node : Node K) (other : TreeNode) → IsShown new spared i node other → cut_of other ≡ place_of node
shown_cut new spared i (Split place point) (tree.Split at vertex) s = ap Some s.0
shown_cut new spared i (Split place point) (tree.Closed shown) s = absurd s
shown_cut new spared i (Split place point) (tree.Waiting shown) s = absurd s
shown_cut new spared i (Closed leaf) (tree.Split at vertex) s = absurd s
shown_cut new spared i (Closed leaf) (tree.Closed shown) s = refl
shown_cut new spared i (Closed leaf) (tree.Waiting shown) s = absurd s
shown_cut new spared i (Waiting area leaf bound place point kept) (tree.Split at vertex) s = absurd s
shown_cut new spared i (Waiting area leaf bound place point kept) (tree.Closed shown) s = refl
shown_cut new spared i (Waiting area leaf bound place point kept) (tree.Waiting shown) s = refl

-- a node as it is answered
pub node_shown : {T K W : Type 0} (r : Rules T K W) (old new : Option (Incumbent T)) (top low : ℚ) (spared : Option ℕ) → low ≤ℚ top
    → (i : ℕ) (line : BoxLine) (node : Node K) (other : TreeNode) → IsShown new spared i node other
    → IsNode r old top line node × ((bound : ℚ) → bound_of node ≡ Some bound → bound ≤ℚ low) → IsTreeNode r old new low line other
node_shown r old new top low spared l i line (Split place point) (tree.Split at vertex) s (h, b) = record {
  lineage = h.lineage;
  end = h.end ∙ ap Cuts (sym s.0);
  vertex_is = subst (λ p. r.IsVertex line p) (sym s.1) h.vertex_is;
  over = ≤ℚ_trans low top (r.bound line) l h.over;
}
node_shown r old new top low spared l i line (Split place point) (tree.Closed shown) s h = absurd s
node_shown r old new top low spared l i line (Split place point) (tree.Waiting shown) s h = absurd s
node_shown r old new top low spared l i line (Closed leaf) (tree.Split at vertex) s h = absurd s
node_shown r old new top low spared l i line (Closed leaf) (tree.Closed shown) s (h, b) =
    let here : IsDone r old new low line leaf = record {
      lineage = h.lineage;
      leaf_is = h.leaf_is;
      shows = elim (h.shows) [ inl k ↦ inl k | inr k ↦ inr (inl k) ];
    } in subst (λ m. IsDone r old new low line m) (sym s) here
node_shown r old new top low spared l i line (Closed leaf) (tree.Waiting shown) s h = absurd s
node_shown r old new top low spared l i line (Waiting area leaf bound place point kept) (tree.Split at vertex) s h = absurd s
node_shown r old new top low spared l i line (Waiting area leaf bound place point kept) (tree.Closed shown) s (h, b) =
    let here : IsDone r old new low line leaf = record {
      lineage = h.lineage;
      leaf_is = h.bounds.leaf_is;
      shows = inr (inr (record {
        place = place;
        end = h.end;
        covers = subst (λ q. r.Covers line.area leaf q) h.bounds.bound_is h.bounds.covers;
        reached = subst (λ q. IsReached q new) h.bounds.bound_is s.1;
        under = subst (λ q. q ≤ℚ low) h.bounds.bound_is (b bound refl);
      }));
    } in subst (λ m. IsDone r old new low line m) (sym s.0) here
node_shown r old new top low spared l i line (Waiting area leaf bound place point kept) (tree.Waiting shown) s (h, b) =
    let here : StillWaits r low line leaf = record {
      lineage = h.lineage;
      leaf_is = h.bounds.leaf_is;
      place = place;
      end = h.end;
      covers = subst (λ q. r.Covers line.area leaf q) h.bounds.bound_is h.bounds.covers;
      under = subst (λ q. q ≤ℚ low) h.bounds.bound_is (b bound refl);
    } in subst (λ m. StillWaits r low line m) (sym s.0) here

pub best_shown : {T K W : Type 0} (r : Rules T K W) (new : Option (Incumbent T)) (spared : Option ℕ) (value : ℚ) (i : ℕ) (line : BoxLine) (node : Node K) (other : TreeNode)
    → IsShown new spared i node other → IsBestLeaf r value line (place_of node) → IsBestLeaf r value line (cut_of other)
best_shown r new spared value i line node other s h = subst (λ c. IsBestLeaf r value line c) (sym (shown_cut new spared i node other s)) h

-- ---- what the nodes of an answer must be
-- a split falls where its end shows, and a leaf is that of its end
pub needed_node : {T K W : Type 0} (r : Rules T K W) (old new : Option (Incumbent T)) (low : ℚ) → ((v : ℚ) → IsReached v old → IsReached v new) → IsUnder new low
    → (line : BoxLine) (node : TreeNode) → IsTreeNode r old new low line node → IsNeededNode r new line node
needed_node r old new low f under line (tree.Split place point) h = record { end = h.end; vertex_is = h.vertex_is; worth = under_trans new low (r.bound line) under h.over }
needed_node r old new low f under line (tree.Closed leaf) h = record {
  leaf_is = h.leaf_is;
  reached = λ reads. elim (h.shows) [
    | inl k ↦ let e = k.end in cc
    | inr k ↦ elim k [ inl m ↦ f (r.bound line) m.reached | inr m ↦ m.reached ]
  ];
}
needed_node r old new low f under line (tree.Waiting leaf) h = record { leaf_is = h.leaf_is; reached = λ reads. let e = h.end in cc }

-- a closed leaf is over
pub closed_over : {T K W : Type 0} (r : Rules T K W) (old new : Option (Incumbent T)) (low : ℚ) (line : BoxLine) (leaf : Leaf) → IsDone r old new low line leaf → IsOver r new line
closed_over r old new low line leaf h = elim (h.shows) [
  | inl k ↦ inl k.end
  | inr k ↦ elim k [ inl m ↦ inr (inl m.end) | inr m ↦ inr (inr m.reached) ]
]
