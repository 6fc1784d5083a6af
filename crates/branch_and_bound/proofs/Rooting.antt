-- The box at the top.
use Rattle.std.proofs.Common.{◌≡◌, ℕ, zero, suc, ◌+◌, inl, inr, [], ◌∷◌, Option, Some, None, refl, sym, subst, ◌∙◌, arith}
use Rattle.std.specs.Prelude.{IfSome}
use Rattle.std.specs.List.{slice_get}
use Rattle.rational_theory.specs.Rational.{ℚ, ◌≤ℚ◌}
use Rattle.rational_theory.proofs.Order.{≤ℚ_refl}
use Rattle.named_row.specs.declared.leaves.Leaf.{Leaf}
use Rattle.branch_and_bound.specs.Lines.{BoxLine, top_line, owed, Fills, Finds, total}
use Rattle.branch_and_bound.specs.Lineages.{IsOptimal, at_top}
use Rattle.branch_and_bound.specs.Rules.{Rules}
use Rattle.work_meter.specs.Work.{IsWithin}
use Rattle.branch_and_bound.specs.OpenedNodes.{Finishes}
use Rattle.branch_and_bound.specs.Answer.{lines_of, cost_of, IsBestLeaf, IsSorted, RootLeft, RootUnread, IsStoppedAnswer}
use Rattle.branch_and_bound.specs.State.{place_of, IsNode, IsBetter, IsLeafNow, IsStuck, IsLeftBy, IsSearchState}
use Rattle.work_meter.specs.declared.meter.Meter.{Meter}
use Rattle.branch_and_bound.specs.declared.incumbent.Incumbent.{Incumbent}
use Rattle.branch_and_bound.specs.declared.node.Node.{Node}
use Rattle.branch_and_bound.specs.declared.node.Node.TheVariants.{Split, Closed, Waiting}
use Rattle.branch_and_bound.specs.declared.node.TreeNode.TheVariants as tree
use Rattle.branch_and_bound.specs.declared.found.Site.{Site}
use Rattle.branch_and_bound.specs.declared.found.Stop.{Stop}
use Rattle.branch_and_bound.specs.declared.found.Stop.TheVariants.{Work, Wide}
use Rattle.branch_and_bound.proofs.Growing.{good_still, under_still}

-- ---- a root that was finished
root_found : {T K W : Type 0} (r : Rules T K W) (new : Option (Incumbent T)) (node : Node K) → place_of node ≡ None → IsBetter r (top_line r.root) None new
    → IfSome new (λ b. Finds place_of (λ line node. IsBestLeaf r b.value line (place_of node)) (lines_of r) (node ∷ []))
root_found r new node e (inl h) = subst (λ (o : Option (Incumbent _)). IfSome o (λ b. Finds place_of (λ line node. IsBestLeaf r b.value line (place_of node)) (lines_of r) (node ∷ []))) (sym h.same) tt
root_found r new node e (inr h) =
    let here : Finds place_of (λ line node. IsBestLeaf r h.best.value line (place_of node)) (lines_of r) (node ∷ []) = inl (record { whole = e; end = h.end; value_is = sym h.value }) in
    subst (λ (o : Option (Incumbent _)). IfSome o (λ b. Finds place_of (λ line node. IsBestLeaf r b.value line (place_of node)) (lines_of r) (node ∷ []))) (sym h.new_is) here

-- a tree of the root alone
one_node : {T K W : Type 0} (r : Rules T K W) (P : BoxLine → Node K → Type 0) (node : Node K) → place_of node ≡ None → P (top_line r.root) node → Fills place_of P (lines_of r) (node ∷ [])
one_node r P node e p = (p, nothing_owed r P node e)
  where
    nothing_owed : {T K W : Type 0} (r : Rules T K W) (P : BoxLine → Node K → Type 0) (node : Node K) → place_of node ≡ None → Fills place_of P (owed (place_of node) (top_line r.root) []) []
    nothing_owed r P (Split place point) e = cc
    nothing_owed r P (Closed leaf) e = tt
    nothing_owed r P (Waiting area leaf bound place point kept) e = tt

one_cost : {T K W : Type 0} (r : Rules T K W) (node : Node K) → total place_of (cost_of r) (lines_of r) (node ∷ []) ≡ 1 + r.steps (top_line r.root)
one_cost r node = omega arith

pub root_holds : {T K W : Type 0} (r : Rules T K W) (new : Option (Incumbent T)) (before after : Meter) (node : Node K)
    → r.IsSound → before.spent ≡ 0 → IsLeafNow r (top_line r.root) None new node → Finishes r (top_line r.root) before after
    → IsSearchState r (node ∷ []) new (r.bound (top_line r.root)) after.spent
root_holds r new before after node sound e h k = record {
  tree = one_node r (IsNode r new (r.bound (top_line r.root))) node h.whole (h.is (r.bound (top_line r.root)) (at_top sound) (λ o. ≤ℚ_refl (r.bound (top_line r.root))));
  good = good_still r (top_line r.root) None new h.better tt;
  under = under_still r (top_line r.root) None new (r.bound (top_line r.root)) h.better (λ q. ≤ℚ_refl (r.bound (top_line r.root))) tt;
  found = root_found r new node h.whole h.better;
  units = omega (arith, k.spent, one_cost r node);
}

-- ---- a root that wasn't
-- its only node waits
one_waits : {T K W : Type 0} (r : Rules T K W) (leaf : Leaf) (spared : Option ℕ) → IsSorted r (tree.Waiting leaf ∷ []) None spared
one_waits r leaf spared = record { closed = λ index l e. absurd (never leaf l index e); waits = λ index l e. inl tt }
  where
    never : (leaf l : Leaf) (index : ℕ) → slice_get (tree.Waiting leaf ∷ []) index ≡ Some (tree.Closed l) → ⊥
    never leaf l zero e = cc
    never leaf l (suc index) e = cc

pub root_stuck : {T K W : Type 0} (r : Rules T K W) (limit : Option ℕ) (new : Option (Incumbent T)) (before after : Meter) (leaf : Leaf) (bound : ℚ) (site : Site W)
    → r.IsSound → before.spent ≡ 0 → after.limit ≡ limit → new ≡ None → IsStuck r (top_line r.root) before after leaf bound site
    → IsStoppedAnswer r limit (tree.Waiting leaf ∷ []) new bound after.spent (Wide site)
root_stuck r limit (Some best) before after leaf bound site sound e l f h = cc
root_stuck r limit None before after leaf bound site sound e l f h =
    let line = top_line r.root in
    let optimal : IsOptimal (r.ending line) = subst IsOptimal (sym h.opens.end) tt in
    let stays : r.Refutes line.area leaf → ⊥ = r.laws.not_refuted line leaf (at_top sound) optimal h.opens.bounds.leaf_is in
    record {
      case = RootUnread;
      accepted = (inr h.opens.bounds.covers, tt);
      good = tt;
      spot = h.opens.end;
      left = tt;
      read = tt;
      needed = (
        record {
          tree = (record { leaf_is = h.opens.bounds.leaf_is; reached = λ reads. let t = h.opens.end in cc }, tt);
          part_reached = tt;
          found = tt;
        },
        record {
          over = ((λ no. subst (λ b. r.bound line ≤ℚ b) (sym h.opens.bounds.bound_is) (≤ℚ_refl (r.bound line))), tt);
          found = inl (record { not_refuted = stays; bound_is = sym h.opens.bounds.bound_is });
          more = tt;
        },
      );
      sorted = one_waits r leaf None;
      units = let s = h.cost.spent in let t = e in omega (arith, s, t);
      within = subst (IsWithin after.spent) l h.cost.within;
      cause = record { area_is = h.area_is; pivots_is = h.opens.pivots_is; part_is = h.opens.part_is };
    }

pub root_left : {T K W : Type 0} (r : Rules T K W) (limit : Option ℕ) (new : Option (Incumbent T)) (before after : Meter) (leaf : Leaf) (bound : ℚ) (stop : Stop W)
    → before.spent ≡ 0 → after.limit ≡ limit → new ≡ None
    → r.IsStart leaf → bound ≡ r.start_bound → r.Covers r.root leaf bound
    → IsLeftBy r (top_line r.root) before after stop
    → IsStoppedAnswer r limit (tree.Waiting leaf ∷ []) new bound after.spent stop
root_left r limit (Some best) before after leaf bound stop e l f start bound_is covers h = cc
root_left r limit None before after leaf bound (Work units) e l f start bound_is covers (same, k, unfinished, out) = record {
  case = RootLeft k;
  accepted = (inr covers, tt);
  good = tt;
  spot = unfinished;
  left = tt;
  read = tt;
  needed = record { leaf = leaf; nodes_are = refl; leaf_is = start; bound_is = bound_is; best_is = refl };
  sorted = one_waits r leaf None;
  units = let s = out.leaves.spent in omega (arith, s, e);
  within = subst (IsWithin after.spent) l out.leaves.within;
  cause = (same, sym l ∙ out.spent, out.due);
}
root_left r limit None before after leaf bound (Wide site) e l f start bound_is covers h = record {
  case = RootLeft h.0;
  accepted = (inr covers, tt);
  good = tt;
  spot = h.1;
  left = tt;
  read = tt;
  needed = record { leaf = leaf; nodes_are = refl; leaf_is = start; bound_is = bound_is; best_is = refl };
  sorted = one_waits r leaf None;
  units = let s = h.2.leaves.spent in omega (arith, s, e);
  within = subst (IsWithin after.spent) l h.2.leaves.within;
  cause = h.2.is;
}
