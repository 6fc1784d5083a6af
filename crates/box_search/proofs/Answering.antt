-- What the engine's answer tells of a search, of any rules: its timing, its tree and its site.
use Rattle.std.proofs.Common.{◌≡◌, ℕ, zero, suc, ◌⊎◌, inl, inr, List, [], ◌∷◌, map, take, All, Option, Some, None, IfSome, refl, sym, ap, subst}
use Rattle.std.specs.List.{slice_get}
use Rattle.std.proofs.lemmas.List.Elements.{All-nil, All-cons, All-map}
use Rattle.rational_theory.specs.Rational.{ℚ}
use Rattle.linear_theory.specs.Boxes.{Area}
use Rattle.search_box.specs.declared.span.At.{At}
use Rattle.search_box.specs.declared.span.At.TheVariants.{Loop, Turn}
use Rattle.search_box.specs.Places.{IsPlace}
use Rattle.named_row.specs.declared.leaves.Leaf.{Leaf}
use Rattle.branch_and_bound.specs.Lines.{BoxLine, top_line, low_line, high_line, owed, Fills, line_after}
use Rattle.branch_and_bound.proofs.Walks.{Fills-both}
use Rattle.certificate_model.specs.Families.{Table}
use Rattle.certificate_model.specs.Warrants.{IsNodeIn, SplitAt, LeafOf}
use Rattle.branch_and_bound.specs.Lineages.{at_top, at_low, at_high}
use Rattle.branch_and_bound.specs.Rules.{Rules, IsMet}
use Rattle.branch_and_bound.specs.declared.incumbent.Incumbent.{Incumbent}
use Rattle.branch_and_bound.specs.declared.node.TreeNode.{TreeNode}
use Rattle.branch_and_bound.specs.declared.node.TreeNode.TheVariants.{Split, Closed, Waiting}
use Rattle.branch_and_bound.specs.declared.found.Site.{Site}
use Rattle.branch_and_bound.specs.declared.found.Stop.TheVariants.{Work, Wide}
use Rattle.branch_and_bound.specs.declared.found.Found as engine
use Rattle.branch_and_bound.specs.declared.found.Verdict.{Verdict}
use Rattle.branch_and_bound.specs.declared.found.Verdict.TheVariants.{Best, NoTiming, Stopped}
use Rattle.branch_and_bound.specs.Answer.{IsAnswer, IsFound, timing_of, cut_of, lines_of, line_at, IsAcceptedNode, IsNeededNode, IsStart}
use Rattle.branch_and_bound.specs.Answer.{IsNeededStop, StopCase, RootLeft, RootUnread, BeforeLow, InLow, BeforeHigh, InHigh, Spot, IsSpot, HasSpot}
use Rattle.branch_and_bound.specs.Answer.{IsSite, IsWideStop}
use Rattle.box_search.specs.Trees.{node_of}
use Rattle.box_search.specs.Told.{valued, TellsOf, IsTimed}
use Rattle.box_search.specs.SiteNames.{EndsAt}

-- ---- the timing
some_value : {T : Type 0} (x y : Incumbent T) → Some x ≡ Some y → x.value ≡ y.value
some_value x y e = cc

-- of rules whose good timings have a value of their own
module _ {T K W : Type 0} (r : Rules T K W) (value : T → ℚ) (own : (t : T) (v : ℚ) → r.IsGood t v → value t ≡ v) where
  known : (best : Option (Incumbent T)) → IfSome best (λ b. r.IsGood b.timing b.value) → best ≡ valued value (timing_of best)
  known None h = refl
  known (Some b) h = ap (λ v. Some (record { value = v; timing = b.timing })) (sym (own b.timing b.value h))

  module _ (limit : Option ℕ) (nodes : List TreeNode) (bound : ℚ) (spent : ℕ) where
    -- the timing of an answer is good, and has its value
    pub best_good : (best : Option (Incumbent T)) (verdict : Verdict W) → IsAnswer r limit nodes best bound spent verdict → IfSome best (λ b. r.IsGood b.timing b.value)
    best_good best Best h = subst (λ o. IfSome o (λ b. r.IsGood b.timing b.value)) (sym h.best_is) h.good
    best_good best NoTiming h = subst (λ o. IfSome o (λ b. r.IsGood b.timing b.value)) (sym h.best_is) tt
    best_good None (Stopped stop) h = tt
    best_good (Some b) (Stopped stop) h = h.good.0

    -- so the value need not be told
    pub answer_valued : (best : Option (Incumbent T)) (verdict : Verdict W) → IsAnswer r limit nodes best bound spent verdict
        → IsAnswer r limit nodes (valued value (timing_of best)) bound spent verdict
    answer_valued best verdict h = subst (λ b. IsAnswer r limit nodes b bound spent verdict) (known best (best_good best verdict h)) h

    pub timing_good : (timing : Option T) (verdict : Verdict W) → IsAnswer r limit nodes (valued value timing) bound spent verdict → IfSome timing (λ t. r.IsGood t (value t))
    timing_good None verdict h = tt
    timing_good (Some t) verdict h = best_good (Some (record { value = value t; timing = t })) verdict h

    pub tells : (timing : Option T) (verdict : Verdict W) → IsAnswer r limit nodes (valued value timing) bound spent verdict → TellsOf value timing bound verdict
    tells None Best h = absurd (let e = h.best_is in cc)
    tells (Some t) Best h = some_value _ _ h.best_is
    tells None NoTiming h = refl
    tells (Some t) NoTiming h = absurd (let e = h.best_is in cc)
    tells None (Stopped stop) h = tt
    tells (Some t) (Stopped stop) h = h.good.1

-- and of what an engine's search found
pub found_valued : {T K W : Type 0} (r : Rules T K W) (value : T → ℚ) → ((t : T) (v : ℚ) → r.IsGood t v → value t ≡ v) → (limit : Option ℕ) (found : engine.Found T W)
    → IsFound r limit found → IsAnswer r limit found.nodes.items (valued value found.timing) found.bound found.spent found.verdict
found_valued r value own limit found h =
    subst (λ t. IsAnswer r limit found.nodes.items (valued value t) found.bound found.spent found.verdict) (sym h.timing)
    (answer_valued r value own limit found.nodes.items found.bound found.spent h.best found.verdict h.answer)

pub timed : {T W : Type 0} (value : T → ℚ) (timing : Option T) (bound : ℚ) (verdict : Verdict W) → TellsOf value timing bound verdict → IsTimed timing verdict
timed value None bound Best h = absurd h
timed value (Some t) bound Best h = refl
timed value timing bound NoTiming h = h
timed value timing bound (Stopped stop) h = tt

-- ---- the tree
-- of any rules whose ends and whose start have leaves that a certificate keeps, by the names of a table
module _ {T K W : Type 0} (r : Rules T K W) (table : Table) (ends : (line : BoxLine) (leaf : Leaf) → r.IsLeaf line leaf → IsNodeIn table (LeafOf leaf.multipliers.items))
    (starts : (leaf : Leaf) → r.IsStart leaf → IsNodeIn table (LeafOf leaf.multipliers.items)) where
  place_kept : (box : Area) (place : At) → IsPlace box place → IsNodeIn table (SplitAt place)
  place_kept box (Loop link at) h = h.0
  place_kept box (Turn signal rank) h = h.0

  module _ (claim : Option ℚ) (best : Option (Incumbent T)) where
    node_kept : (line : BoxLine) (node : TreeNode) → IsAcceptedNode r claim line node × IsNeededNode r best line node → IsNodeIn table (node_of node)
    node_kept line (Split place point) h = place_kept line.area place h.0
    node_kept line (Closed leaf) h = ends line leaf h.1.leaf_is
    node_kept line (Waiting leaf) h = ends line leaf h.1.leaf_is

    nodes_kept : (lines : List BoxLine) (nodes : List TreeNode) → Fills cut_of (λ line node. IsAcceptedNode r claim line node × IsNeededNode r best line node) lines nodes
        → All (λ node. IsNodeIn table (node_of node)) nodes
    nodes_kept lines [] h = All-nil (λ node. IsNodeIn table (node_of node))
    nodes_kept [] (node ∷ nodes) h = absurd h
    nodes_kept (line ∷ lines) (node ∷ nodes) h = All-cons (λ n. IsNodeIn table (node_of n)) node nodes (node_kept line node h.0) (nodes_kept (owed (cut_of node) line lines) nodes h.1)

    tree_kept : (nodes : List TreeNode) → Fills cut_of (IsAcceptedNode r claim) (lines_of r) nodes → Fills cut_of (IsNeededNode r best) (lines_of r) nodes → All (IsNodeIn table) (map node_of nodes)
    tree_kept nodes h k = All-map (IsNodeIn table) node_of nodes (nodes_kept (lines_of r) nodes (Fills-both cut_of (IsAcceptedNode r claim) (IsNeededNode r best) (lines_of r) nodes h k))

  start_tree : (nodes : List TreeNode) (best : Option (Incumbent T)) (bound : ℚ) → IsStart r nodes best bound → All (IsNodeIn table) (map node_of nodes)
  start_tree nodes best bound h = subst (λ ns. All (IsNodeIn table) (map node_of ns)) (sym h.nodes_are) (All-cons (IsNodeIn table) _ [] (starts h.leaf h.leaf_is) (All-nil (IsNodeIn table)))

  -- the tree of a stopped search, unless the root wasn't finished
  needed_tree : (nodes : List TreeNode) (best : Option (Incumbent T)) (bound : ℚ) (case : StopCase) → IsNeededStop r nodes best bound case
      → IsStart r nodes best bound ⊎ Fills cut_of (IsNeededNode r best) (lines_of r) nodes
  needed_tree nodes best bound (RootLeft k) h = inl h
  needed_tree nodes best bound RootUnread h = inr h.0.tree
  needed_tree nodes best bound (BeforeLow spot) h = inr h.0.tree
  needed_tree nodes best bound (InLow spot k) h = inr h.0.tree
  needed_tree nodes best bound (BeforeHigh spot) h = inr h.0.tree
  needed_tree nodes best bound (InHigh spot k) h = inr h.0.tree

  pub answer_kept : (limit : Option ℕ) (nodes : List TreeNode) (bound : ℚ) (spent : ℕ) (best : Option (Incumbent T)) (verdict : Verdict W)
      → IsAnswer r limit nodes best bound spent verdict → All (IsNodeIn table) (map node_of nodes)
  answer_kept limit nodes bound spent best Best h = tree_kept (Some bound) best nodes h.finished.accepted h.finished.needed.tree
  answer_kept limit nodes bound spent best NoTiming h = tree_kept None best nodes h.finished.accepted h.finished.needed.tree
  answer_kept limit nodes bound spent best (Stopped stop) h = pick (needed_tree nodes best bound h.case h.needed)
    where
      pick : IsStart r nodes best bound ⊎ Fills cut_of (IsNeededNode r best) (lines_of r) nodes → All (IsNodeIn table) (map node_of nodes)
      pick (inl s) = start_tree nodes best bound s
      pick (inr t) = tree_kept (Some bound) best nodes h.accepted t

-- ---- the site
-- of any rules: what is true of each site on a line that a search can meet
module _ {T K W : Type 0} (r : Rules T K W) (sound : r.IsSound) (Named : Site W → Type 0) (site_on : (line : BoxLine) (k : ℕ) (site : Site W) → IsMet r line → IsSite r line k site → Named site) where
  abbrev AreMet : List BoxLine → Type 0
  AreMet [] = Unit {0}
  AreMet (line ∷ lines) = IsMet r line × AreMet lines

  owed_met : (best : Option (Incumbent T)) (line : BoxLine) (lines : List BoxLine) (node : TreeNode) → IsMet r line → AreMet lines → IsNeededNode r best line node
      → AreMet (owed (cut_of node) line lines)
  owed_met best line lines (Split place point) l m h = (at_low line place l h.end, (at_high line place l h.end, m))
  owed_met best line lines (Closed leaf) l m h = m
  owed_met best line lines (Waiting leaf) l m h = m

  -- the line of a node of a needed tree is one that a search can meet
  line_met : (best : Option (Incumbent T)) (index : ℕ) (lines : List BoxLine) (nodes : List TreeNode) (node : TreeNode) → AreMet lines → Fills cut_of (IsNeededNode r best) lines nodes
      → slice_get nodes index ≡ Some node → IsMet r (line_after cut_of lines (take index nodes))
  line_met best index lines [] node m h e = absurd (let f = e in cc)
  line_met best index [] (n ∷ nodes) node m h e = absurd h
  line_met best zero (line ∷ lines) (n ∷ nodes) node m h e = m.0
  line_met best (suc index) (line ∷ lines) (n ∷ nodes) node m h e = line_met best index (owed (cut_of n) line lines) nodes node (owed_met best line lines n m.0 m.1 h.0) h.1 e

  module _ (best : Option (Incumbent T)) (nodes : List TreeNode) (spot : Spot) (s : IsSpot r nodes spot) (t : Fills cut_of (IsNeededNode r best) (lines_of r) nodes) where
    spot_met : IsMet r (line_at r nodes spot.index)
    spot_met = line_met best spot.index (lines_of r) nodes (Waiting s.leaf) (at_top sound, tt) t s.at

    low_met : IsMet r (low_line spot.place (line_at r nodes spot.index))
    low_met = at_low (line_at r nodes spot.index) spot.place spot_met s.end

    high_met : IsMet r (high_line spot.place (line_at r nodes spot.index))
    high_met = at_high (line_at r nodes spot.index) spot.place spot_met s.end

  site_by : (nodes : List TreeNode) (best : Option (Incumbent T)) (bound : ℚ) (site : Site W) (case : StopCase) → HasSpot r nodes case
      → IsNeededStop r nodes best bound case → IsWideStop r nodes case site → Named site
  site_by nodes best bound site (RootLeft k) s h w = site_on (top_line r.root) k site (at_top sound) w
  site_by nodes best bound site RootUnread s h w = site_on (top_line r.root) _ site (at_top sound) w
  site_by nodes best bound site (BeforeLow spot) s h w = absurd w
  site_by nodes best bound site (InLow spot k) s h w = site_on _ k site (low_met best nodes spot s h.0.tree) w
  site_by nodes best bound site (BeforeHigh spot) s h w = absurd w
  site_by nodes best bound site (InHigh spot k) s h w = site_on _ k site (high_met best nodes spot s h.0.tree) w

  pub sited_by : (limit : Option ℕ) (nodes : List TreeNode) (bound : ℚ) (spent : ℕ) (best : Option (Incumbent T)) (verdict : Verdict W)
      → IsAnswer r limit nodes best bound spent verdict → EndsAt Named verdict
  sited_by limit nodes bound spent best Best h = tt
  sited_by limit nodes bound spent best NoTiming h = tt
  sited_by limit nodes bound spent best (Stopped (Work units)) h = tt
  sited_by limit nodes bound spent best (Stopped (Wide site)) h = site_by nodes best bound site h.case h.spot h.needed h.cause
