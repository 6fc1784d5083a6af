-- A search that stops while two parts are opened.
use Rattle.std.proofs.Common.{◌≡◌, ℕ, ◌+◌, ◌⊎◌, inl, inr, List, ◌∷◌, ◌++◌, Option, Some, None, refl, sym, subst, ap, ◌∙◌, take, drop, arith, Ordering, Less, Equal, Greater}
use Rattle.std.specs.Prelude.{All, IfSome}
use Rattle.std.specs.List.{slice_get}
use Rattle.std.specs.Ordering.{MatchOrdering}
use Rattle.rational_theory.specs.Compare.{cmp_ℚ}
use Rattle.rational_theory.proofs.Compare.{ranked_ℚ}
use Rattle.rational_theory.specs.Rational.{ℚ, ◌≤ℚ◌, ◌<ℚ◌}
use Rattle.rational_theory.proofs.Order.{≤ℚ_refl, <ℚ_not-≤ℚ}
use Rattle.linear_theory.specs.Boxes.{Area}
use Rattle.search_box.specs.declared.span.At.{At}
use Rattle.named_row.specs.declared.leaves.Leaf.{Leaf}
use Rattle.named_row.specs.declared.leaves.Point.{Point}
use Rattle.branch_and_bound.specs.Lines.{BoxLine, Fills, Finds}
use Rattle.branch_and_bound.proofs.Walks.{Fills-map, Fills-each, Finds-at, Finds-none}
use Rattle.branch_and_bound.specs.Matchings.{Matches}
use Rattle.branch_and_bound.proofs.Matchings.{HasMatch, HasOther, Matches-at, Matches-back, Fills-match, line_after-match}
use Rattle.branch_and_bound.specs.Lineages.{Cuts, IsOptimal}
use Rattle.branch_and_bound.specs.Rules.{Rules}
use Rattle.branch_and_bound.specs.Incumbents.{IsReached, IsUnder, IsBeaten}
use Rattle.branch_and_bound.specs.Greatest.{IsOverBound, bound_of}
use Rattle.branch_and_bound.specs.Answer.{cut_of, lines_of, line_at, IsAcceptedNode, IsAccepted, IsSorted, Spot, IsSpot, IsNodeUnder, IsNeededNode}
use Rattle.branch_and_bound.specs.Answer.{IsNeeded, IsBestLeaf, GivesValue, IsReachedPart, IsPartValue, IsPartAlone, IsOpenNode, IsOpenBound}
use Rattle.branch_and_bound.specs.State.{place_of, line_there, IsNode, IsWaiting, IsShown, IsBetter, IsSearchState}
use Rattle.branch_and_bound.specs.declared.incumbent.Incumbent.{Incumbent}
use Rattle.branch_and_bound.specs.declared.node.Node.{Node}
use Rattle.branch_and_bound.specs.declared.node.Node.TheVariants.{Split, Closed, Waiting}
use Rattle.branch_and_bound.specs.declared.node.TreeNode.{TreeNode}
use Rattle.branch_and_bound.specs.declared.node.TreeNode.TheVariants as tree
use Rattle.branch_and_bound.specs.declared.greatest.Greatest.{Greatest}
use Rattle.branch_and_bound.proofs.Growing.{reached_still, good_still, under_still, optimal_reads}
use Rattle.branch_and_bound.proofs.Splicing.{node_at, cut_here}
use Rattle.branch_and_bound.proofs.Answering.{beaten_under, reached_under, beaten_not, there, IsTreeNode, StillWaits, shown_cut, node_shown, needed_node, closed_over}
use Rattle.branch_and_bound.proofs.Finishing.{found_shown}

-- ---- the part of an undone split that was finished
-- how it changed the best timing
abbrev pub IsBetterPart : {T K W : Type 0} → Rules T K W → Option BoxLine → Option (Incumbent T) → Option (Incumbent T) → Type 0
IsBetterPart r None old new = new ≡ old
IsBetterPart r (Some line) old new = IsBetter r line old new

abbrev pub IsPartUnder : {T K W : Type 0} → Rules T K W → Option BoxLine → ℚ → Type 0
IsPartUnder r None bound = Unit {0}
IsPartUnder r (Some line) bound = IsOptimal (r.ending line) → r.bound line ≤ℚ bound

part_still : {T K W : Type 0} (r : Rules T K W) (part : Option BoxLine) (old new : Option (Incumbent T)) (v : ℚ) → IsBetterPart r part old new → IsReached v old → IsReached v new
part_still r None old new v h k = subst (λ (b : Option (Incumbent _)). IsReached v b) (sym h) k
part_still r (Some line) old new v h k = reached_still r line old new v h k

part_good : {T K W : Type 0} (r : Rules T K W) (part : Option BoxLine) (old new : Option (Incumbent T)) → IsBetterPart r part old new
    → IfSome old (λ b. r.IsGood b.timing b.value) → IfSome new (λ b. r.IsGood b.timing b.value)
part_good r None old new h k = subst (λ b. IfSome b (λ b. r.IsGood b.timing b.value)) (sym h) k
part_good r (Some line) old new h k = good_still r line old new h k

part_under : {T K W : Type 0} (r : Rules T K W) (part : Option BoxLine) (old new : Option (Incumbent T)) (bound : ℚ) → IsBetterPart r part old new
    → IsPartUnder r part bound → IsUnder old bound → IsUnder new bound
part_under r None old new bound h p k = subst (λ (b : Option (Incumbent _)). IsUnder b bound) (sym h) k
part_under r (Some line) old new bound h p k = under_still r line old new bound h (λ e. p (optimal_reads r line e)) k

part_reached : {T K W : Type 0} (r : Rules T K W) (part : Option BoxLine) (old new : Option (Incumbent T)) → IsBetterPart r part old new → IsReachedPart r new part
part_reached r None old new h = tt
part_reached r (Some line) old new (inl h) = λ e. subst (λ (b : Option (Incumbent _)). IsReached (r.bound line) b) (sym h.same) (h.reached e)
part_reached r (Some line) old new (inr h) = λ e. subst (λ (b : Option (Incumbent _)). IsReached (r.bound line) b) (sym h.new_is)
    (subst (λ v. r.bound line ≤ℚ v) (sym h.value) (≤ℚ_refl (r.bound line)))

left_some : {X : Type 0} (P Q : X → Type 0) (o : Option X) → IfSome o P → IfSome o (λ x. P x ⊎ Q x)
left_some P Q None h = tt
left_some P Q (Some x) h = inl h

part_found : {T K W : Type 0} (r : Rules T K W) (nodes : List TreeNode) (part : Option BoxLine) (old new : Option (Incumbent T)) → IsBetterPart r part old new
    → IfSome old (λ b. GivesValue r nodes b.value)
    → IfSome new (λ b. GivesValue r nodes b.value ⊎ IsPartValue r b.value part)
part_found r nodes None old new h k =
    subst (λ o. IfSome o (λ b. GivesValue r nodes b.value ⊎ IsPartValue r b.value None)) (sym h) (left_some (λ b. GivesValue r nodes b.value) (λ b. IsPartValue r b.value None) old k)
part_found r nodes (Some line) old new (inr h) k =
    let here : GivesValue r nodes h.best.value ⊎ IsPartValue r h.best.value (Some line) = inr (h.end, sym h.value) in
    subst (λ o. IfSome o (λ b. GivesValue r nodes b.value ⊎ IsPartValue r b.value (Some line))) (sym h.new_is) here
part_found r nodes (Some line) old new (inl h) k =
    subst (λ o. IfSome o (λ b. GivesValue r nodes b.value ⊎ IsPartValue r b.value (Some line))) (sym h.same)
    (left_some (λ b. GivesValue r nodes b.value) (λ b. IsPartValue r b.value (Some line)) old k)

less_or_same : (x y : ℚ) → x ≤ℚ y → (x <ℚ y) ⊎ (x ≡ y)
less_or_same x y h = by_order x y (cmp_ℚ x y) h (ranked_ℚ x y (cmp_ℚ x y) refl)
  where
    by_order : (x y : ℚ) (o : Ordering) → x ≤ℚ y → MatchOrdering o (x <ℚ y) (x ≡ y) (y <ℚ x) → (x <ℚ y) ⊎ (x ≡ y)
    by_order x y Less h k = inl k
    by_order x y Equal h k = inr k
    by_order x y Greater h k = absurd (<ℚ_not-≤ℚ y x k h)

-- the bound is more than the value, or only the part has the value
abbrev IsMore : {T K W : Type 0} → Rules T K W → List TreeNode → ℚ → Option BoxLine → Option (Incumbent T) → Type 0
IsMore r nodes bound part best = IfSome best (λ b. (b.value <ℚ bound) ⊎ IsPartAlone r nodes b.value bound part)

more_still : {T K W : Type 0} (r : Rules T K W) (nodes : List TreeNode) (bound : ℚ) (part : Option BoxLine) (best : Option (Incumbent T)) → IsBeaten best bound → IsMore r nodes bound part best
more_still r nodes bound part None h = tt
more_still r nodes bound part (Some b) h = inl h

part_more : {T K W : Type 0} (r : Rules T K W) (nodes : List TreeNode) (part : Option BoxLine) (old new : Option (Incumbent T)) (bound : ℚ)
    → IsBetterPart r part old new → IsPartUnder r part bound → IsBeaten old bound → (GivesValue r nodes bound → ⊥) → IsMore r nodes bound part new
part_more r nodes None old new bound h p beaten none = subst (λ o. IsMore r nodes bound None o) (sym h) (more_still r nodes bound None old beaten)
part_more r nodes (Some line) old new bound (inl h) p beaten none = subst (λ o. IsMore r nodes bound (Some line) o) (sym h.same) (more_still r nodes bound (Some line) old beaten)
part_more r nodes (Some line) old new bound (inr h) p beaten none =
    let most : h.best.value ≤ℚ bound = subst (λ v. v ≤ℚ bound) (sym h.value) (p (optimal_reads r line h.end)) in
    let here : (h.best.value <ℚ bound) ⊎ IsPartAlone r nodes h.best.value bound (Some line) =
    elim (less_or_same h.best.value bound most) [
      | inl k ↦ inl k
      | inr k ↦ inr (record { same = k; gives = (h.end, sym h.value); alone = λ f. none (subst (λ v. GivesValue r nodes v) k f) })
    ] in
    subst (λ o. IsMore r nodes bound (Some line) o) (sym h.new_is) here

both_good : {T : Type 0} (P : T → ℚ → Type 0) (best : Option (Incumbent T)) (bound : ℚ) → IfSome best (λ b. P b.timing b.value) → IsUnder best bound
    → IfSome best (λ b. P b.timing b.value × (b.value ≤ℚ bound))
both_good P None bound h k = tt
both_good P (Some b) bound h k = (h, k)

-- ---- the nodes
-- the bound is at least that of each leaf that doesn't refute
leaf_under : {T K W : Type 0} (r : Rules T K W) (old new : Option (Incumbent T)) (bound : ℚ) → IsUnder old bound
    → (line : BoxLine) (node : TreeNode) → IsTreeNode r old new bound line node → IsNodeUnder r bound line node
leaf_under r old new bound under line (tree.Split place point) h = tt
leaf_under r old new bound under line (tree.Closed leaf) h = λ no. elim (h.shows) [
  | inl k ↦ absurd (no k.refutes)
  | inr k ↦ elim k [ inl m ↦ reached_under old (r.bound line) bound m.reached under | inr m ↦ m.under ]
]
leaf_under r old new bound under line (tree.Waiting leaf) h = λ no. h.under

-- each leaf is a proof with the bound
stop_accepted : {T K W : Type 0} (r : Rules T K W) (old new : Option (Incumbent T)) (bound : ℚ) → IsUnder old bound
    → (line : BoxLine) (node : TreeNode) → IsTreeNode r old new bound line node → IsAcceptedNode r (Some bound) line node
stop_accepted r old new bound under line (tree.Split place point) h = r.laws.inside line place h.lineage h.end
stop_accepted r old new bound under line (tree.Closed leaf) h = elim (h.shows) [
  | inl k ↦ inl k.refutes
  | inr k ↦ elim k [
    | inl m ↦ inr (r.laws.covers_more line.area leaf (r.bound line) bound m.covers (reached_under old (r.bound line) bound m.reached under))
    | inr m ↦ inr (r.laws.covers_more line.area leaf (r.bound line) bound m.covers m.under)
  ]
]
stop_accepted r old new bound under line (tree.Waiting leaf) h = inr (r.laws.covers_more line.area leaf (r.bound line) bound h.covers h.under)

-- no leaf has the bound as its timing's value
none_gives : {T K W : Type 0} (r : Rules T K W) (old new : Option (Incumbent T)) (low v : ℚ) → IsBeaten old v
    → (line : BoxLine) (node : TreeNode) → IsTreeNode r old new low line node → IsBestLeaf r v line (cut_of node) → ⊥
none_gives r old new low v beaten line (tree.Split place point) h k = let e = k.whole in cc
none_gives r old new low v beaten line (tree.Closed leaf) h k = elim (h.shows) [
  | inl m ↦ let e = m.end in let f = k.end in cc
  | inr m ↦ elim m [
    | inl n ↦ beaten_not old v (subst (λ q. IsReached q old) k.value_is n.reached) beaten
    | inr n ↦ let e = n.end in let f = k.end in cc
  ]
]
none_gives r old new low v beaten line (tree.Waiting leaf) h k = let e = h.end in let f = k.end in cc

over_bound : (g : Greatest) (other : Option ℚ) (bound : ℚ) → other ≡ Some bound → IsOverBound (Some g) other → bound ≤ℚ g.bound
over_bound g other bound e h = subst (λ o. IsOverBound (Some g) o) e h

-- the undone node waits in the answer
pub record WaitsAgain (shown : List TreeNode) (index : ℕ) : Type 0 where
  pub leaf : Leaf
  pub at : slice_get shown index ≡ Some (tree.Waiting leaf)

waits_again : {T K : Type 0} (new : Option (Incumbent T)) (index : ℕ) (shown : List TreeNode) (area : Area) (leaf : Leaf) (bound : ℚ) (place : At) (point : Point) (kept : K) (other : TreeNode)
    → slice_get shown index ≡ Some other → IsShown new (Some index) (0 + index) (Waiting area leaf bound place point kept) other → WaitsAgain shown index
waits_again new index shown area leaf bound place point kept (tree.Split at vertex) e s = absurd s
waits_again new index shown area leaf bound place point kept (tree.Closed other) e s = let same : index ≡ 0 + index = omega arith in absurd (s.2 (ap Some same))
waits_again new index shown area leaf bound place point kept (tree.Waiting other) e s = record { leaf = other; at = e }

-- a node that waits in the answer has a bound of more than the best value, or its split was undone
still_open : {T K W : Type 0} (r : Rules T K W) (old new : Option (Incumbent T)) (top : ℚ) (spared : Option ℕ) (i : ℕ) (line : BoxLine) (node : Node K) (leaf : Leaf)
    → IsShown new spared i node (tree.Waiting leaf) → IsNode r old top line node → IsBeaten new (r.bound line) ⊎ (spared ≡ Some i)
still_open r old new top spared i line (Split place point) leaf s h = absurd s
still_open r old new top spared i line (Closed other) leaf s h = absurd s
still_open r old new top spared i line (Waiting area other bound place point kept) leaf s h = elim (s.1) [
  | inl k ↦ inl (subst (λ q. IsBeaten new q) h.bounds.bound_is k)
  | inr k ↦ inr k
]

-- ---- all nodes
pub record IsHalt {T K W : Type 0} (r : Rules T K W) (nodes : List TreeNode) (new : Option (Incumbent T)) (bound : ℚ) (spot : Spot) (part : Option BoxLine) : Type 0 where
  pub accepted : IsAccepted r (Some bound) nodes
  pub good : IfSome new (λ b. r.IsGood b.timing b.value × (b.value ≤ℚ bound))
  pub spot_is : IsSpot r nodes spot
  pub needed : IsNeeded r nodes new part
  pub open_bound : IsOpenBound r nodes new bound part
  pub sorted : IsSorted r nodes new (Some spot.index)

-- the nodes as they are answered, with the best timing that the finished part may have changed
pub stopped : {T K W : Type 0} (r : Rules T K W) (nodes : List (Node K)) (shown : List TreeNode) (g : Greatest) (node : Node K) (old new : Option (Incumbent T))
    (top : ℚ) (spent : ℕ) (part : Option BoxLine) (place : At)
    → IsSearchState r nodes old top spent
    → Matches (IsShown new (Some g.index)) 0 nodes shown
    → slice_get nodes g.index ≡ Some node → bound_of node ≡ Some g.bound
    → r.ending (line_at r shown g.index) ≡ Cuts place
    → All (λ n. IsOverBound (Some g) (bound_of n)) nodes
    → IsBeaten old g.bound → IsBetterPart r part old new → IsPartUnder r part g.bound
    → IsHalt r shown new g.bound (record { index = g.index; place = place }) part
stopped r nodes shown g (Split p q) old new top spent part place h m at bound_is end over beaten better under = cc
stopped r nodes shown g (Closed leaf) old new top spent part place h m at bound_is end over beaten better under = cc
stopped r nodes shown g (Waiting area leaf b p point kept) old new top spent part place h m at bound_is end over beaten better under =
    let node = Waiting area leaf b p point kept in
    let lines = lines_of r in
    let line = line_at r shown g.index in
    let lines_same : line_there r nodes g.index ≡ line = line_after-match place_of cut_of (IsShown new (Some g.index)) (shown_cut new (Some g.index)) 0 g.index lines nodes shown m in
    let w : IsWaiting r top (line_there r nodes g.index) area leaf b p point kept = node_at r nodes old top g.index node h.tree at in
    let same : b ≡ g.bound = cc in
    let bound_line : r.bound line ≡ g.bound = ap r.bound (sym lines_same) ∙ sym w.bounds.bound_is ∙ same in
    let bound_top : g.bound ≤ℚ top = subst (λ q. q ≤ℚ top) (ap r.bound lines_same ∙ bound_line) w.under in
    let old_under : IsUnder old g.bound = beaten_under old g.bound beaten in
    let new_under : IsUnder new g.bound = part_under r part old new g.bound better under old_under in
    let nodes_are : Fills cut_of (IsTreeNode r old new g.bound) lines shown =
    Fills-match place_of cut_of (IsShown new (Some g.index)) (shown_cut new (Some g.index))
    (λ l n. IsNode r old top l n × IsOverBound (Some g) (bound_of n)) (IsTreeNode r old new g.bound)
    (λ i l n other s k. node_shown r old new top g.bound (Some g.index) bound_top i l n other s (k.0, λ q e. over_bound g (bound_of n) q e k.1))
    0 lines nodes shown m (Fills-each place_of (IsNode r old top) (λ n. IsOverBound (Some g) (bound_of n)) lines nodes over h.tree) in
    let back : HasOther (IsShown new (Some g.index)) 0 shown g.index node = Matches-back (IsShown new (Some g.index)) 0 nodes shown g.index node m at in
    let again : WaitsAgain shown g.index = waits_again new g.index shown area leaf b p point kept back.node back.at back.is in
    let waiting : StillWaits r g.bound line again.leaf = there cut_of (IsTreeNode r old new g.bound) lines shown g.index (tree.Waiting again.leaf) nodes_are again.at in
    let stays : r.Refutes line.area again.leaf → ⊥ = r.laws.not_refuted line again.leaf waiting.lineage (subst IsOptimal (sym end) tt) waiting.leaf_is in
    let leaves : Fills cut_of (IsNodeUnder r g.bound) lines shown = Fills-map cut_of (IsTreeNode r old new g.bound) (IsNodeUnder r g.bound)
    (leaf_under r old new g.bound old_under) lines shown nodes_are in
    let whole = cut_here shown g.index (tree.Waiting again.leaf) again.at in
    let parted : Fills cut_of (IsTreeNode r old new g.bound) lines (take g.index shown ++ tree.Waiting again.leaf ∷ drop (g.index + 1) shown) =
    subst (λ ns. Fills cut_of (IsTreeNode r old new g.bound) lines ns) (sym whole) nodes_are in
    let found : Finds cut_of (IsOpenNode r g.bound) lines shown =
    subst (λ ns. Finds cut_of (IsOpenNode r g.bound) lines ns) whole
    (Finds-at cut_of (IsOpenNode r g.bound) (IsTreeNode r old new g.bound) lines (take g.index shown) (tree.Waiting again.leaf) (drop (g.index + 1) shown)
    parted (record { not_refuted = stays; bound_is = bound_line })) in
    let none : GivesValue r shown g.bound → ⊥ =
    Finds-none cut_of (IsTreeNode r old new g.bound) (λ l n. IsBestLeaf r g.bound l (cut_of n)) (none_gives r old new g.bound g.bound beaten) lines shown nodes_are in
    record {
      accepted = Fills-map cut_of (IsTreeNode r old new g.bound) (IsAcceptedNode r (Some g.bound)) (stop_accepted r old new g.bound old_under) lines shown nodes_are;
      good = both_good r.IsGood new g.bound (part_good r part old new better h.good) new_under;
      spot_is = record {
        leaf = again.leaf;
        at = again.at;
        end = end;
        not_refuted = stays;
        greatest = subst (λ q. Fills cut_of (IsNodeUnder r q) lines shown) (sym bound_line) leaves;
      };
      needed = record {
        tree = Fills-map cut_of (IsTreeNode r old new g.bound) (IsNeededNode r new) (needed_node r old new g.bound (λ v k. part_still r part old new v better k) new_under) lines shown nodes_are;
        part_reached = part_reached r part old new better;
        found = part_found r shown part old new better (found_shown r nodes shown new (Some g.index) old m h.found);
      };
      open_bound = record { over = leaves; found = found; more = part_more r shown part old new g.bound better under beaten none };
      sorted = record {
        closed = λ index l e. closed_over r old new g.bound _ l (there cut_of (IsTreeNode r old new g.bound) lines shown index (tree.Closed l) nodes_are e);
        waits = λ index l e. open_at index l e;
      };
    }
  where
    open_at : (index : ℕ) (l : Leaf) → slice_get shown index ≡ Some (tree.Waiting l) → IsBeaten new (r.bound (line_at r shown index)) ⊎ (Some g.index ≡ Some index)
    open_at index l e =
        let match : HasMatch (IsShown new (Some g.index)) 0 nodes index (tree.Waiting l) = Matches-at (IsShown new (Some g.index)) 0 nodes shown index (tree.Waiting l) m e in
        let here = node_at r nodes old top index match.node h.tree match.at in
        let lines_same = line_after-match place_of cut_of (IsShown new (Some g.index)) (shown_cut new (Some g.index)) 0 index (lines_of r) nodes shown m in
        let i : 0 + index ≡ index = omega arith in
        elim (still_open r old new top (Some g.index) (0 + index) (line_there r nodes index) match.node l match.is here) [
          | inl k ↦ inl (subst (λ x. IsBeaten new (r.bound x)) lines_same k)
          | inr k ↦ inr (k ∙ ap Some i)
        ]
