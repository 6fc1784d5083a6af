-- The node at an index, and the nodes after its split.
use Rattle.std.proofs.Common.{◌≡◌, ℕ, zero, suc, ◌+◌, ◌-◌, ◌*◌, ◌<◌, ◌≤◌, List, [], ◌∷◌, ◌++◌, Option, Some, refl, sym, subst, ap, ◌∙◌, take, drop, set, length, get_or, arith, add-one}
use Rattle.std.specs.Prelude.{All}
use Rattle.std.specs.List.{slice_get, insert}
use Rattle.std.proofs.lemmas.Option.{slice_get_read, slice_get_within}
use Rattle.rational_theory.specs.Rational.{ℚ, ◌≤ℚ◌}
use Rattle.linear_theory.specs.Boxes.{Area}
use Rattle.search_box.specs.declared.span.At.{At}
use Rattle.search_box.specs.Places.{IsPlace}
use Rattle.named_row.specs.declared.leaves.Leaf.{Leaf}
use Rattle.named_row.specs.declared.leaves.Point.{Point}
use Rattle.branch_and_bound.specs.Lines.{BoxLine, low_line, high_line, Fills}
use Rattle.branch_and_bound.proofs.Walks.{Fills-at}
use Rattle.branch_and_bound.specs.Volumes.{volume}
use Rattle.branch_and_bound.proofs.Volumes.{volume_split, volume_positive}
use Rattle.branch_and_bound.specs.Lineages.{at_low, at_high}
use Rattle.branch_and_bound.specs.Rules.{Rules}
use Rattle.branch_and_bound.specs.Incumbents.{IsUnder}
use Rattle.branch_and_bound.specs.Greatest.{IsOverBound, bound_of, Waits}
use Rattle.branch_and_bound.specs.Answer.{lines_of}
use Rattle.branch_and_bound.specs.State.{place_of, IsNode, IsWaiting, IsCut, IsBoth, IsSearchState, IsGrown, line_there, spliced, split_from, weight, weights}
use Rattle.branch_and_bound.specs.declared.progress.Progress.{Progress}
use Rattle.branch_and_bound.specs.declared.incumbent.Incumbent.{Incumbent}
use Rattle.branch_and_bound.specs.declared.node.Node.{Node}
use Rattle.branch_and_bound.specs.declared.node.Node.TheVariants.{Split, Closed, Waiting}
use Rattle.branch_and_bound.proofs.Growing.{grown}

-- ---- the node at an index
cut_at : {X : Type 0} (xs : List X) (i : ℕ) (x : X) → slice_get xs i ≡ Some x → take i xs ++ x ∷ drop (suc i) xs ≡ xs
cut_at [] i x h = cc
cut_at (y ∷ xs) zero x h = let e : y ≡ x = cc in ap (λ z. z ∷ xs) (sym e)
cut_at (y ∷ xs) (suc i) x h = ap (λ z. y ∷ z) (cut_at xs i x h)

pub cut_here : {X : Type 0} (xs : List X) (i : ℕ) (x : X) → slice_get xs i ≡ Some x → take i xs ++ x ∷ drop (i + 1) xs ≡ xs
cut_here xs i x h = rw add-one (cut_at xs i x h)

-- the waiting node at an index
pub waiting_node : {K : Type 0} (nodes : List (Node K)) (index : ℕ) (bound : ℚ) (node : Node K) (area : Area) (leaf : Leaf) (b : ℚ) (place : At) (point : Point) (kept : K)
    → Waits nodes index bound → node ≡ get_or nodes index node → node ≡ Waiting area leaf b place point kept
    → (slice_get nodes index ≡ Some (Waiting area leaf b place point kept)) × (b ≡ bound)
waiting_node nodes index bound node area leaf b place point kept h e f =
    let here : slice_get nodes index ≡ Some node = slice_get_read nodes (length nodes) index node refl (slice_get_within nodes index h.node h.at) e in
    let same : h.node ≡ Waiting area leaf b place point kept = cc in
    let bounds : bound_of h.node ≡ Some b = ap bound_of same in
    (here ∙ ap Some f, cc)

-- what is known of a node
pub node_at : {T K W : Type 0} (r : Rules T K W) (nodes : List (Node K)) (best : Option (Incumbent T)) (top : ℚ) (index : ℕ) (node : Node K)
    → Fills place_of (IsNode r best top) (lines_of r) nodes → slice_get nodes index ≡ Some node → IsNode r best top (line_there r nodes index) node
node_at r nodes best top index node h e =
    Fills-at place_of (IsNode r best top) (lines_of r) (take index nodes) node (drop (index + 1) nodes)
    (subst (λ ns. Fills place_of (IsNode r best top) (lines_of r) ns) (sym (cut_here nodes index node e)) h)

pub is_cut : {T K W : Type 0} (r : Rules T K W) (top : ℚ) (line : BoxLine) (area : Area) (leaf : Leaf) (bound : ℚ) (place : At) (point : Point) (kept : K)
    → IsWaiting r top line area leaf bound place point kept → IsCut r line area place kept
is_cut r top line area leaf bound place point kept h = record { lineage = h.lineage; area_is = h.area_is; end = h.end; kept_is = h.kept_is }

pub is_inside : {T K W : Type 0} (r : Rules T K W) (line : BoxLine) (area : Area) (place : At) (kept : K) → IsCut r line area place kept → IsPlace area place
is_inside r line area place kept h = subst (λ a. IsPlace a place) (sym h.area_is) (r.laws.inside line place h.lineage h.end)

-- the node that waits is no other
pub not_other : {K : Type 0} (nodes : List (Node K)) (index : ℕ) (bound : ℚ) (node : Node K)
    → Waits nodes index bound → node ≡ get_or nodes index node
    → ((area : Area) (leaf : Leaf) (b : ℚ) (place : At) (point : Point) (kept : K) → node ≡ Waiting area leaf b place point kept → ⊥) → ⊥
not_other nodes index bound node h e f =
    let here : slice_get nodes index ≡ Some node = slice_get_read nodes (length nodes) index node refl (slice_get_within nodes index h.node h.at) e in
    let same : h.node ≡ node = cc in
    by_node node (subst (λ n. bound_of n ≡ Some bound) same h.waits) f
  where
    by_node : {K : Type 0} {bound : ℚ} (node : Node K) → bound_of node ≡ Some bound → ((area : Area) (leaf : Leaf) (b : ℚ) (place : At) (point : Point) (kept : K)
        → node ≡ Waiting area leaf b place point kept → ⊥) → ⊥
    by_node (Split place point) e f = cc
    by_node (Closed leaf) e f = cc
    by_node (Waiting area leaf b place point kept) e f = f area leaf b place point kept refl

-- ---- weights
weights_append : {K : Type 0} (xs ys : List (Node K)) → weights (xs ++ ys) ≡ weights xs + weights ys
weights_append [] ys = omega arith
weights_append (x ∷ xs) ys = omega (arith, weights_append xs ys)

-- a node that was taken as the one with the greatest bound, and waits
pub record IsTaken {T K W : Type 0} (r : Rules T K W) (nodes : List (Node K)) (index : ℕ) (bound top : ℚ) (area : Area) (leaf : Leaf) (b : ℚ) (place : At) (point : Point) (kept : K) : Type 0 where
  pub at : slice_get nodes index ≡ Some (Waiting area leaf b place point kept)
  pub same : b ≡ bound
  pub waits : IsWaiting r top (line_there r nodes index) area leaf b place point kept

pub taken : {T K W : Type 0} (r : Rules T K W) (nodes : List (Node K)) (index : ℕ) (bound : ℚ) (best : Option (Incumbent T)) (top : ℚ) (spent : ℕ)
    (node : Node K) (area : Area) (leaf : Leaf) (b : ℚ) (place : At) (point : Point) (kept : K)
    → IsSearchState r nodes best top spent → Waits nodes index bound → node ≡ get_or nodes index node → node ≡ Waiting area leaf b place point kept
    → IsTaken r nodes index bound top area leaf b place point kept
taken r nodes index bound best top spent node area leaf b place point kept h waits read is =
    let w = waiting_node nodes index bound node area leaf b place point kept waits read is in
    record { at = w.0; same = w.1; waits = node_at r nodes best top index (Waiting area leaf b place point kept) h.tree w.0 }

weight_of : {T K W : Type 0} (r : Rules T K W) (best : Option (Incumbent T)) (top : ℚ) (line : BoxLine) (node : Node K) → IsNode r best top line node → weight node ≤ 2 * volume line.area - 1
weight_of r best top line (Split place point) h = omega arith
weight_of r best top line (Closed leaf) h = omega arith
weight_of r best top line (Waiting area leaf bound place point kept) h = omega (arith, ap volume h.area_is)

lighter_by : (a b p : ℕ) → a + b ≡ p → 0 < a → 0 < b → (2 * a - 1) + (2 * b - 1) < 2 * p - 1
lighter_by a b p e h k = omega arith

-- ---- the split
is_grown : {T K W : Type 0} (r : Rules T K W) (nodes : List (Node K)) (index : ℕ) (area : Area) (leaf : Leaf) (bound : ℚ) (place : At) (point : Point) (kept : K)
    (old new : Progress T) (top : ℚ) (low high : Node K)
    → IsSearchState r nodes old.incumbent top old.meter.spent
    → slice_get nodes index ≡ Some (Waiting area leaf bound place point kept)
    → All (λ node. IsOverBound (Some (record { index = index; bound = bound })) (bound_of node)) nodes
    → IsUnder old.incumbent bound
    → IsBoth r (line_there r nodes index) place old new low high
    → IsGrown r nodes (spliced nodes index place point low high) new
is_grown r nodes index area leaf bound place point kept old new top low high h e over under both =
    let node = Waiting area leaf bound place point kept in
    let whole = cut_here nodes index node e in
    let line = line_there r nodes index in
    let w : IsWaiting r top line area leaf bound place point kept = node_at r nodes old.incumbent top index node h.tree e in
    let again : IsSearchState r (take index nodes ++ node ∷ drop (index + 1) nodes) old.incumbent top old.meter.spent =
    subst (λ ns. IsSearchState r ns old.incumbent top old.meter.spent) (sym whole) h in
    let over_again : All (λ n. IsOverBound (Some (record { index = index; bound = bound })) (bound_of n)) (take index nodes ++ node ∷ drop (index + 1) nodes) =
    subst (λ ns. All (λ n. IsOverBound (Some (record { index = index; bound = bound })) (bound_of n)) ns) (sym whole) over in
    let low_weight = weight_of r both.middle.incumbent bound (low_line place line) low (both.low_is.is bound (at_low line place w.lineage w.end)
    (λ o. subst (λ b. r.bound (low_line place line) ≤ℚ b) (sym w.bounds.bound_is) (r.laws.low_falls line place w.lineage w.end o))) in
    let high_weight = weight_of r new.incumbent bound (high_line place line) high (both.high_is.is bound (at_high line place w.lineage w.end)
    (λ o. subst (λ b. r.bound (high_line place line) ≤ℚ b) (sym w.bounds.bound_is) (r.laws.high_falls line place w.lineage w.end o))) in
    let parts = lighter_by _ _ _ (volume_split line.area place (r.laws.inside line place w.lineage w.end)) (volume_positive (low_line place line).area) (volume_positive (high_line place line).area) in
    record {
      top = bound;
      holds = grown r (take index nodes) (drop (index + 1) nodes) area leaf bound place point kept index old new top low high again over_again under both;
      within = both.high_cost.within;
      lighter = omega (
        arith,
        weights_append (take index nodes) (Split place point ∷ low ∷ high ∷ drop (index + 1) nodes),
        weights_append (take index nodes) (node ∷ drop (index + 1) nodes),
        ap weights whole,
        low_weight,
        high_weight,
        parts,
        ap volume w.area_is,
      );
    }

-- the nodes after the code's splice, with the greatest bound as it was found
pub now_grown : {T K W : Type 0} (r : Rules T K W) (nodes new_nodes : List (Node K)) (index : ℕ) (area : Area) (leaf : Leaf) (b bound : ℚ) (place : At) (point : Point) (kept : K)
    (old new : Progress T) (top : ℚ) (low high : Node K)
    → IsSearchState r nodes old.incumbent top old.meter.spent
    → slice_get nodes index ≡ Some (Waiting area leaf b place point kept) → b ≡ bound
    → All (λ node. IsOverBound (Some (record { index = index; bound = bound })) (bound_of node)) nodes
    → IsUnder old.incumbent bound
    → IsBoth r (line_there r nodes index) place old new low high
    → new_nodes ≡ spliced nodes index place point low high
    → IsGrown r nodes new_nodes new
now_grown r nodes new_nodes index area leaf b bound place point kept old new top low high h e f over under both same =
    let over_b = subst (λ q. All (λ node. IsOverBound (Some (record { index = index; bound = q })) (bound_of node)) nodes) (sym f) over in
    let under_b = subst (λ q. IsUnder old.incumbent q) (sym f) under in
    subst (λ ns. IsGrown r nodes ns new) (sym same) (is_grown r nodes index area leaf b place point kept old new top low high h e over_b under_b both)

-- ---- the code's splice
inserted : {X : Type 0} (xs : List X) (i : ℕ) (split low high : X) → i < length xs
    → insert (insert (set xs i low) i split) (suc (suc i)) high ≡ take i xs ++ split ∷ low ∷ high ∷ drop (suc i) xs
inserted [] i split low high h = absurd (omega arith)
inserted (x ∷ xs) zero split low high h = refl
inserted (x ∷ xs) (suc i) split low high h = ap (λ ys. x ∷ ys) (inserted xs i split low high (omega arith))

pub spliced_is : {K : Type 0} (nodes one two : List (Node K)) (index : ℕ) (node split low high : Node K) (area : Area) (leaf : Leaf) (bound : ℚ) (place : At) (point : Point) (kept : K)
    → slice_get nodes index ≡ Some (Waiting area leaf bound place point kept) → node ≡ get_or nodes index node → split ≡ split_from node
    → one ≡ insert (set nodes index low) index split → two ≡ insert one (index + 2) high
    → two ≡ spliced nodes index place point low high
spliced_is nodes one two index node split low high area leaf bound place point kept at e f g h =
    let within = slice_get_within nodes index (Waiting area leaf bound place point kept) at in
    let here : slice_get nodes index ≡ Some node = slice_get_read nodes (length nodes) index node refl within e in
    let same : node ≡ Waiting area leaf bound place point kept = cc in
    let split_is : split ≡ Split place point = f ∙ ap split_from same in
    let two_more : index + 2 ≡ suc (suc index) = omega arith in
    let one_more : index + 1 ≡ suc index = omega arith in
    h ∙ ap (λ ns. insert ns (index + 2) high) g ∙ ap (λ i. insert (insert (set nodes index low) index split) i high) two_more
    ∙ inserted nodes index split low high within
    ∙ ap (λ s. take index nodes ++ s ∷ low ∷ high ∷ drop (suc index) nodes) split_is
    ∙ ap (λ i. take index nodes ++ Split place point ∷ low ∷ high ∷ drop i nodes) (sym one_more)
