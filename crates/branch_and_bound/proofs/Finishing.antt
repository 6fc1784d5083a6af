-- A search that ends with no node left to split.
use Rattle.std.proofs.Common.{◌≡◌, ℕ, ◌⊎◌, inl, inr, List, Option, Some, None, refl, sym, subst, ap, ◌∙◌}
use Rattle.std.specs.Prelude.{All, IfSome}
use Rattle.std.specs.List.{slice_get}
use Rattle.rational_theory.specs.Rational.{ℚ, ◌≤ℚ◌}
use Rattle.rational_theory.proofs.Order.{≤ℚ_refl}
use Rattle.progression.specs.Speeds.{number}
use Rattle.linear_theory.specs.Boxes.{Area}
use Rattle.named_row.specs.declared.leaves.Leaf.{Leaf}
use Rattle.branch_and_bound.specs.Lines.{BoxLine, Fills, Finds}
use Rattle.branch_and_bound.proofs.Walks.{Fills-map, Fills-each}
use Rattle.branch_and_bound.specs.Matchings.{Matches}
use Rattle.branch_and_bound.proofs.Matchings.{Fills-match, Finds-match, total-match}
use Rattle.branch_and_bound.specs.Rules.{Rules}
use Rattle.work_meter.specs.Work.{capped, IsWithin}
use Rattle.branch_and_bound.specs.Incumbents.{IsReached}
use Rattle.branch_and_bound.specs.Greatest.{IsSettled, bound_of}
use Rattle.branch_and_bound.specs.Answer.{cut_of, lines_of, cost_of, IsProof, IsAcceptedNode, GivesValue, IsPartValue, IsBestLeaf, IsFinished, IsBestAnswer, IsNoneAnswer}
use Rattle.branch_and_bound.specs.State.{place_of, IsNode, IsShown, IsSearchState}
use Rattle.branch_and_bound.specs.declared.incumbent.Incumbent.{Incumbent}
use Rattle.branch_and_bound.specs.declared.node.Node.{Node}
use Rattle.branch_and_bound.specs.declared.node.Node.TheVariants.{Split, Closed, Waiting}
use Rattle.branch_and_bound.specs.declared.node.TreeNode.{TreeNode}
use Rattle.branch_and_bound.specs.declared.node.TreeNode.TheVariants as tree
use Rattle.branch_and_bound.proofs.Answering.{IsTreeNode, beaten_not, there, shown_cut, node_shown, best_shown, needed_node, closed_over}

-- ---- no leaf waits
abbrev IsNotWaiting : TreeNode → Type 0
IsNotWaiting (tree.Split place point) = Unit {0}
IsNotWaiting (tree.Closed leaf) = Unit {0}
IsNotWaiting (tree.Waiting leaf) = ⊥

settled_not : {T K : Type 0} (best : Option (Incumbent T)) (i : ℕ) (node : Node K) (other : TreeNode) → IsShown best None i node other → IsSettled best (bound_of node) → IsNotWaiting other
settled_not best i node (tree.Split at vertex) s h = tt
settled_not best i node (tree.Closed shown) s h = tt
settled_not best i (Split place point) (tree.Waiting shown) s h = s
settled_not best i (Closed leaf) (tree.Waiting shown) s h = s
settled_not best i (Waiting area leaf bound place point kept) (tree.Waiting shown) s h = elim (s.1) [
  | inl k ↦ beaten_not best bound h k
  | inr k ↦ cc
]

own_bounds : {T K W : Type 0} (r : Rules T K W) (best : Option (Incumbent T)) (top : ℚ) (line : BoxLine) (node : Node K) → IsNode r best top line node
    → (bound : ℚ) → bound_of node ≡ Some bound → bound ≤ℚ top
own_bounds r best top line (Split place point) h bound e = cc
own_bounds r best top line (Closed leaf) h bound e = cc
own_bounds r best top line (Waiting area leaf b place point kept) h bound e =
    let same : b ≡ bound = cc in
    let under : b ≤ℚ top = subst (λ q. q ≤ℚ top) (sym h.bounds.bound_is) h.under in
    subst (λ q. q ≤ℚ top) same under

-- ---- proofs
abbrev value_of : {T : Type 0} → Option (Incumbent T) → Option ℚ
value_of None = None
value_of (Some best) = Some best.value

covered : {T K W : Type 0} (r : Rules T K W) (best : Option (Incumbent T)) (area : Area) (leaf : Leaf) (v : ℚ) → r.Covers area leaf v → IsReached v best → IsProof r (value_of best) area leaf
covered r None area leaf v h k = absurd k
covered r (Some best) area leaf v h k = inr (r.laws.covers_more area leaf v best.value h k)

refuted : {T K W : Type 0} (r : Rules T K W) (best : Option (Incumbent T)) (area : Area) (leaf : Leaf) → r.Refutes area leaf → IsProof r (value_of best) area leaf
refuted r None area leaf h = h
refuted r (Some best) area leaf h = inl h

accepted_node : {T K W : Type 0} (r : Rules T K W) (best : Option (Incumbent T)) (top : ℚ) (line : BoxLine) (node : TreeNode) → IsTreeNode r best best top line node
    × IsNotWaiting node → IsAcceptedNode r (value_of best) line node
accepted_node r best top line (tree.Split place point) (h, n) = r.laws.inside line place h.lineage h.end
accepted_node r best top line (tree.Closed leaf) (h, n) = elim (h.shows) [
  | inl k ↦ refuted r best line.area leaf k.refutes
  | inr k ↦ elim k [ inl m ↦ covered r best line.area leaf (r.bound line) m.covers m.reached | inr m ↦ covered r best line.area leaf (r.bound line) m.covers m.reached ]
]
accepted_node r best top line (tree.Waiting leaf) (h, n) = absurd n

left_some : {X : Type 0} (P Q : X → Type 0) (o : Option X) → IfSome o P → IfSome o (λ x. P x ⊎ Q x)
left_some P Q None h = tt
left_some P Q (Some x) h = inl h

pub found_shown : {T K W : Type 0} (r : Rules T K W) (nodes : List (Node K)) (shown : List TreeNode) (new : Option (Incumbent T)) (spared : Option ℕ) (best : Option (Incumbent T))
    → Matches (IsShown new spared) 0 nodes shown
    → IfSome best (λ b. Finds place_of (λ line node. IsBestLeaf r b.value line (place_of node)) (lines_of r) nodes) → IfSome best (λ b. GivesValue r shown b.value)
found_shown r nodes shown new spared None m h = tt
found_shown r nodes shown new spared (Some b) m h =
    Finds-match place_of cut_of (IsShown new spared) (shown_cut new spared) (λ line node. IsBestLeaf r b.value line (place_of node)) (λ line node. IsBestLeaf r b.value line (cut_of node))
    (best_shown r new spared b.value) 0 (lines_of r) nodes shown m h

-- ---- the answers
finished : {T K W : Type 0} (r : Rules T K W) (limit : Option ℕ) (nodes : List (Node K)) (shown : List TreeNode) (best : Option (Incumbent T)) (top : ℚ) (spent : ℕ)
    → IsWithin spent limit → IsSearchState r nodes best top spent → All (λ node. IsSettled best (bound_of node)) nodes → Matches (IsShown best None) 0 nodes shown
    → IsFinished r limit shown best (value_of best) spent
finished r limit nodes shown best top spent within h all m =
    let lines = lines_of r in
    let whole : Fills cut_of (λ line other. IsTreeNode r best best top line other × IsNotWaiting other) lines shown =
    Fills-match place_of cut_of (IsShown best None) (shown_cut best None)
    (λ line node. IsNode r best top line node × IsSettled best (bound_of node)) (λ line other. IsTreeNode r best best top line other × IsNotWaiting other)
    (λ i line node other s k. (node_shown r best best top top None (≤ℚ_refl top) i line node other s (k.0, own_bounds r best top line node k.0), settled_not best i node other s k.1))
    0 lines nodes shown m (Fills-each place_of (IsNode r best top) (λ node. IsSettled best (bound_of node)) lines nodes all h.tree) in
    let none : (index : ℕ) (leaf : Leaf) → slice_get shown index ≡ Some (tree.Waiting leaf) → ⊥ =
    λ index leaf e. (there cut_of (λ line other. IsTreeNode r best best top line other × IsNotWaiting other) lines shown index (tree.Waiting leaf) whole e).1 in
    record {
      accepted = Fills-map cut_of (λ line other. IsTreeNode r best best top line other × IsNotWaiting other) (IsAcceptedNode r (value_of best)) (accepted_node r best top) lines shown whole;
      needed = record {
        tree = Fills-map cut_of (λ line other. IsTreeNode r best best top line other × IsNotWaiting other) _ (λ line other k. needed_node r best best top (λ v k. k) h.under line other k.0)
            lines shown whole;
        part_reached = tt;
        found = left_some (λ b. GivesValue r shown b.value) (λ b. IsPartValue r b.value None) best (found_shown r nodes shown best None best m h.found);
      };
      sorted = record {
        closed = λ index leaf e. closed_over r best best top _ leaf (there cut_of (λ line other. IsTreeNode r best best top line other × IsNotWaiting other)
            lines shown index (tree.Closed leaf) whole e).0;
        waits = λ index leaf e. absurd (none index leaf e);
      };
      none_waits = none;
      units = h.units ∙ ap capped (total-match place_of cut_of (IsShown best None) (shown_cut best None) (cost_of r) 0 lines nodes shown m);
      within = within;
    }

pub best_answer : {T K W : Type 0} (r : Rules T K W) (limit : Option ℕ) (nodes : List (Node K)) (shown : List TreeNode) (best : Incumbent T) (top : ℚ) (spent : ℕ)
    → IsWithin spent limit → IsSearchState r nodes (Some best) top spent → All (λ node. IsSettled (Some best) (bound_of node)) nodes
    → Matches (IsShown (Some best) None) 0 nodes shown → IsBestAnswer r limit shown (Some best) best.value spent
best_answer r limit nodes shown best top spent within h all m = record {
  timing = best.timing;
  best_is = refl;
  good = h.good;
  finished =
      finished r limit nodes shown (Some best) top spent within h all m;
}

pub none_answer : {T K W : Type 0} (r : Rules T K W) (limit : Option ℕ) (nodes : List (Node K)) (shown : List TreeNode) (top bound : ℚ) (spent : ℕ)
    → IsWithin spent limit → IsSearchState r nodes None top spent → All (λ node. IsSettled {T = T} None (bound_of node)) nodes
    → Matches (IsShown {T = T} None None) 0 nodes shown → bound ≡ number 0 → IsNoneAnswer r limit shown None bound spent
none_answer r limit nodes shown top bound spent within h all m e = record { best_is = refl; bound_is = e; finished = finished r limit nodes shown None top spent within h all m }
