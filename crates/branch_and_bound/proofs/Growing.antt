-- A waiting leaf becomes a split with two leaves.
use Rattle.std.proofs.Common.{◌≡◌, ℕ, inl, inr, List, ◌∷◌, ◌++◌, Option, Some, None, refl, sym, subst, ◌∙◌, arith}
use Rattle.std.specs.Prelude.{All, IfSome}
use Rattle.rational_theory.specs.Rational.{ℚ, ◌≤ℚ◌}
use Rattle.rational_theory.proofs.Order.{≤ℚ_refl, ≤ℚ_trans, <ℚ-≤ℚ}
use Rattle.linear_theory.specs.Boxes.{Area}
use Rattle.search_box.specs.declared.span.At.{At}
use Rattle.named_row.specs.declared.leaves.Leaf.{Leaf}
use Rattle.named_row.specs.declared.leaves.Point.{Point}
use Rattle.branch_and_bound.specs.Lines.{BoxLine, low_line, high_line, line_after, Fills, Finds}
use Rattle.branch_and_bound.proofs.Walks.{Fills-map, Fills-at, Fills-split, Fills-each, Finds-split, Finds-new, total-split}
use Rattle.branch_and_bound.specs.Lineages.{Reads, Cuts, IsOptimal, at_low, at_high}
use Rattle.branch_and_bound.specs.Rules.{Rules}
use Rattle.branch_and_bound.specs.Incumbents.{IsReached, IsUnder}
use Rattle.branch_and_bound.specs.Greatest.{IsOverBound, bound_of}
use Rattle.branch_and_bound.specs.Answer.{lines_of, cost_of, IsBestLeaf}
use Rattle.branch_and_bound.specs.State.{place_of, IsNode, IsClosed, IsSplit, IsWaiting, IsBetter, IsBoth, IsSearchState}
use Rattle.branch_and_bound.specs.declared.progress.Progress.{Progress}
use Rattle.branch_and_bound.specs.declared.incumbent.Incumbent.{Incumbent}
use Rattle.branch_and_bound.specs.declared.node.Node.{Node}
use Rattle.branch_and_bound.specs.declared.node.Node.TheVariants.{Split, Closed, Waiting}
use Rattle.branch_and_bound.specs.declared.greatest.Greatest.{Greatest}

-- ---- a better timing
-- what is reached stays so
pub reached_still : {T K W : Type 0} (r : Rules T K W) (line : BoxLine) (old new : Option (Incumbent T)) (v : ℚ) → IsBetter r line old new → IsReached v old → IsReached v new
reached_still r line old new v (inl h) k = subst (λ (b : Option (Incumbent _)). IsReached v b) (sym h.same) k
reached_still r line None new v (inr h) k = absurd k
reached_still r line (Some b) new v (inr h) k = subst (λ (b : Option (Incumbent _)). IsReached v b) (sym h.new_is) (≤ℚ_trans v b.value h.best.value k (<ℚ-≤ℚ b.value h.best.value h.more))

pub good_still : {T K W : Type 0} (r : Rules T K W) (line : BoxLine) (old new : Option (Incumbent T)) → IsBetter r line old new
    → IfSome old (λ b. r.IsGood b.timing b.value) → IfSome new (λ b. r.IsGood b.timing b.value)
good_still r line old new (inl h) k = subst (λ b. IfSome b (λ b. r.IsGood b.timing b.value)) (sym h.same) k
good_still r line old new (inr h) k = subst (λ b. IfSome b (λ b. r.IsGood b.timing b.value)) (sym h.new_is) h.good

pub under_still : {T K W : Type 0} (r : Rules T K W) (line : BoxLine) (old new : Option (Incumbent T)) (top : ℚ) → IsBetter r line old new
    → (r.ending line ≡ Reads → r.bound line ≤ℚ top) → IsUnder old top → IsUnder new top
under_still r line old new top (inl h) f k = subst (λ (b : Option (Incumbent _)). IsUnder b top) (sym h.same) k
under_still r line old new top (inr h) f k =
    let e : h.best.value ≤ℚ top = subst (λ v. v ≤ℚ top) (sym h.value) (f h.end) in
    subst (λ (b : Option (Incumbent _)). IsUnder b top) (sym h.new_is) e

-- ---- the other nodes
closed_still : {T K W : Type 0} (r : Rules T K W) (old new : Option (Incumbent T)) → ((v : ℚ) → IsReached v old → IsReached v new)
    → (line : BoxLine) (leaf : Leaf) → IsClosed r old line leaf → IsClosed r new line leaf
closed_still r old new f line leaf h = record {
  lineage = h.lineage;
  leaf_is = h.leaf_is;
  shows = elim (h.shows) [ inl k ↦ inl k | inr k ↦ inr (record { end = k.end; covers = k.covers; reached = f (r.bound line) k.reached }) ];
}

-- a node under a better timing, where `top` falls no lower than the bounds that wait
node_still : {T K W : Type 0} (r : Rules T K W) (old new : Option (Incumbent T)) (top low : ℚ)
    → ((v : ℚ) → IsReached v old → IsReached v new) → low ≤ℚ top
    → (line : BoxLine) (node : Node K) → IsNode r old top line node → ((bound : ℚ) → bound_of node ≡ Some bound → bound ≤ℚ low) → IsNode r new low line node
node_still r old new top low f g line (Split place point) h b =
    record { lineage = h.lineage; end = h.end; vertex_is = h.vertex_is; over = ≤ℚ_trans low top (r.bound line) g h.over }
node_still r old new top low f g line (Closed leaf) h b = closed_still r old new f line leaf h
node_still r old new top low f g line (Waiting area leaf bound place point kept) h b = record {
  lineage = h.lineage;
  area_is = h.area_is;
  end = h.end;
  bounds = h.bounds;
  vertex_is = h.vertex_is;
  kept_is = h.kept_is;
  under = subst (λ q. q ≤ℚ low) h.bounds.bound_is (b bound refl);
}

over_bound : (g : Greatest) (other : Option ℚ) (bound : ℚ) → other ≡ Some bound → IsOverBound (Some g) other → bound ≤ℚ g.bound
over_bound g other bound e h = subst (λ o. IsOverBound (Some g) o) e h

pub optimal_reads : {T K W : Type 0} (r : Rules T K W) (line : BoxLine) → r.ending line ≡ Reads → IsOptimal (r.ending line)
optimal_reads r line e = subst IsOptimal (sym e) tt

reads_not_cuts : {T K W : Type 0} (r : Rules T K W) (line : BoxLine) (place : At) → r.ending line ≡ Cuts place → r.ending line ≡ Reads → ⊥
reads_not_cuts r line place e f = cc

-- ---- the best timing's leaf
-- a leaf of this value, with its line
abbrev Gives : {T K W : Type 0} → Rules T K W → ℚ → BoxLine → Node K → Type 0
Gives r value line node = IsBestLeaf r value line (place_of node)

-- it is in the new tree
found_still : {T K W : Type 0} (r : Rules T K W) (best middle new : Option (Incumbent T)) (top : ℚ) (place : At) (point : Point) (leaf low high : Node K) (front rest : List (Node K))
    → place_of leaf ≡ None → place_of low ≡ None → place_of high ≡ None
    → r.ending (line_after place_of (lines_of r) front) ≡ Cuts place
    → Fills place_of (IsNode r best top) (lines_of r) (front ++ leaf ∷ rest)
    → IsBetter r (low_line place (line_after place_of (lines_of r) front)) best middle
    → IsBetter r (high_line place (line_after place_of (lines_of r) front)) middle new
    → IfSome best (λ b. Finds place_of (Gives r b.value) (lines_of r) (front ++ leaf ∷ rest))
    → IfSome new (λ b. Finds place_of (Gives r b.value) (lines_of r) (front ++ Split place point ∷ low ∷ high ∷ rest))
found_still r best middle new top place point leaf low high front rest e g h end tree p (inr q) k =
    let here : Finds place_of (Gives r q.best.value) (lines_of r) (front ++ Split place point ∷ low ∷ high ∷ rest) =
    Finds-new place_of (Gives r q.best.value) (IsNode r best top) place leaf (Split place point) low high (lines_of r) front rest refl g tree
    (inr (record { whole = h; end = q.end; value_is = sym q.value })) in
    subst (λ (n : Option (Incumbent _)). IfSome n (λ b. Finds place_of (Gives r b.value) (lines_of r) (front ++ Split place point ∷ low ∷ high ∷ rest))) (sym q.new_is) here
found_still r best middle new top place point leaf low high front rest e g h end tree (inr p) (inl q) k =
    let here : Finds place_of (Gives r p.best.value) (lines_of r) (front ++ Split place point ∷ low ∷ high ∷ rest) =
    Finds-new place_of (Gives r p.best.value) (IsNode r best top) place leaf (Split place point) low high (lines_of r) front rest refl g tree
    (inl (record { whole = g; end = p.end; value_is = sym p.value })) in
    subst (λ (n : Option (Incumbent _)). IfSome n (λ b. Finds place_of (Gives r b.value) (lines_of r) (front ++ Split place point ∷ low ∷ high ∷ rest))) (sym (q.same ∙ p.new_is)) here
found_still r None middle new top place point leaf low high front rest e g h end tree (inl p) (inl q) k =
    subst (λ (n : Option (Incumbent _)). IfSome n (λ b. Finds place_of (Gives r b.value) (lines_of r) (front ++ Split place point ∷ low ∷ high ∷ rest))) (sym (q.same ∙ p.same)) tt
found_still r (Some b) middle new top place point leaf low high front rest e g h end tree (inl p) (inl q) k =
    let here : Finds place_of (Gives r b.value) (lines_of r) (front ++ Split place point ∷ low ∷ high ∷ rest) =
    Finds-split place_of (Gives r b.value) place leaf (Split place point) low high (lines_of r) front rest e refl g h
    (λ no_leaf. reads_not_cuts r (line_after place_of (lines_of r) front) place end no_leaf.end) k in
    subst (λ (n : Option (Incumbent _)). IfSome n (λ b. Finds place_of (Gives r b.value) (lines_of r) (front ++ Split place point ∷ low ∷ high ∷ rest))) (sym (q.same ∙ p.same)) here

-- ---- all nodes
pub grown : {T K W : Type 0} (r : Rules T K W) (front rest : List (Node K)) (area : Area) (leaf : Leaf) (bound : ℚ) (place : At) (point : Point) (kept : K) (index : ℕ)
    (old new : Progress T) (top : ℚ) (low high : Node K)
    → IsSearchState r (front ++ Waiting area leaf bound place point kept ∷ rest) old.incumbent top old.meter.spent
    → All (λ node. IsOverBound (Some (record { index = index; bound = bound })) (bound_of node)) (front ++ Waiting area leaf bound place point kept ∷ rest)
    → IsUnder old.incumbent bound
    → IsBoth r (line_after place_of (lines_of r) front) place old new low high
    → IsSearchState r (front ++ Split place point ∷ low ∷ high ∷ rest) new.incumbent bound new.meter.spent
grown r front rest area leaf bound place point kept index old new top low high h over best_under both =
    let node = Waiting area leaf bound place point kept in
    let lines = lines_of r in
    let line = line_after place_of lines front in
    let w : IsWaiting r top line area leaf bound place point kept = Fills-at place_of (IsNode r old.incumbent top) lines front node rest h.tree in
    let bound_top : bound ≤ℚ top = subst (λ b. b ≤ℚ top) (sym w.bounds.bound_is) w.under in
    let low_under : IsOptimal (r.ending (low_line place line)) → r.bound (low_line place line) ≤ℚ bound =
    λ optimal. subst (λ b. r.bound (low_line place line) ≤ℚ b) (sym w.bounds.bound_is) (r.laws.low_falls line place w.lineage w.end optimal) in
    let high_under : IsOptimal (r.ending (high_line place line)) → r.bound (high_line place line) ≤ℚ bound =
    λ optimal. subst (λ b. r.bound (high_line place line) ≤ℚ b) (sym w.bounds.bound_is) (r.laws.high_falls line place w.lineage w.end optimal) in
    let f : (v : ℚ) → IsReached v both.middle.incumbent → IsReached v new.incumbent = λ v k. reached_still r (high_line place line) both.middle.incumbent new.incumbent v both.high_is.better k in
    let g : (v : ℚ) → IsReached v old.incumbent → IsReached v new.incumbent = λ v k. f v (reached_still r (low_line place line) old.incumbent both.middle.incumbent v both.low_is.better k) in
    let old_nodes : Fills place_of (IsNode r new.incumbent bound) lines (front ++ node ∷ rest) =
    Fills-map place_of (λ l n. IsNode r old.incumbent top l n × IsOverBound (Some (record { index = index; bound = bound })) (bound_of n)) (IsNode r new.incumbent bound)
    (λ l n k. node_still r old.incumbent new.incumbent top bound g bound_top l n k.0 (λ b e. over_bound (record { index = index; bound = bound }) (bound_of n) b e k.1))
    lines (front ++ node ∷ rest) (Fills-each place_of (IsNode r old.incumbent top) (λ n. IsOverBound (Some (record { index = index; bound = bound })) (bound_of n))
    lines (front ++ node ∷ rest) over h.tree) in
    let split_is : IsSplit r bound line place point = record { lineage = w.lineage; end = w.end; vertex_is = w.vertex_is; over = subst (λ b. bound ≤ℚ b) w.bounds.bound_is (≤ℚ_refl bound) } in
    let low_is : IsNode r new.incumbent bound (low_line place line) low = low_now r both.middle.incumbent new.incumbent bound (low_line place line) low
    f (both.low_is.is bound (at_low line place w.lineage w.end) low_under) in
    let high_is : IsNode r new.incumbent bound (high_line place line) high = both.high_is.is bound (at_high line place w.lineage w.end) high_under in
    let units = total-split place_of (cost_of r) (IsNode r old.incumbent top) place node (Split place point) low high lines front rest refl refl both.low_is.whole both.high_is.whole h.tree in
    record {
      tree = Fills-split place_of (IsNode r new.incumbent bound) place node (Split place point) low high lines front rest refl refl both.low_is.whole
          both.high_is.whole split_is low_is high_is old_nodes;
      good = good_still r (high_line place line) both.middle.incumbent new.incumbent both.high_is.better
          (good_still r (low_line place line) old.incumbent both.middle.incumbent both.low_is.better h.good);
      under = under_still r (high_line place line) both.middle.incumbent new.incumbent bound both.high_is.better (λ e. high_under (optimal_reads r (high_line place line) e))
          (under_still r (low_line place line) old.incumbent both.middle.incumbent bound both.low_is.better (λ e. low_under (optimal_reads r (low_line place line) e)) best_under);
      found = found_still r old.incumbent both.middle.incumbent new.incumbent top place point node low high front rest refl both.low_is.whole
          both.high_is.whole w.end h.tree both.low_is.better both.high_is.better h.found;
      units = omega (arith, h.units, both.low_cost.spent, both.high_cost.spent, units);
    }
  where
    low_now : {T K W : Type 0} (r : Rules T K W) (old new : Option (Incumbent T)) (top : ℚ) (line : BoxLine) (node : Node K) → ((v : ℚ) → IsReached v old → IsReached v new)
        → IsNode r old top line node → IsNode r new top line node
    low_now r old new top line (Split place point) f h = h
    low_now r old new top line (Closed leaf) f h = closed_still r old new f line leaf h
    low_now r old new top line (Waiting area leaf bound place point kept) f h = h
