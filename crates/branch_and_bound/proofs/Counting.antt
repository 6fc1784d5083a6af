-- How many units a tree can cost.
use Rattle.std.proofs.Common.{◌≡◌, ℕ, ◌+◌, ◌-◌, ◌*◌, ◌<◌, ◌≤◌, zero, suc, max, List, [], ◌∷◌, ◌++◌, Option, Some, None, refl, sym, subst, ap, ◌∙◌, arith, take, drop}
use Rattle.std.specs.Prelude.{IfSome}
use Rattle.std.specs.List.{slice_get}
use Rattle.std.proofs.Math.Nat.{le-max_left, max-eq_right}
use native.Mathlib.Nat.{mul-le-mul_right}
use Rattle.rational_theory.specs.Rational.{ℚ}
use Rattle.search_box.specs.declared.span.At.{At}
use Rattle.search_box.specs.Places.{IsPlace}
use Rattle.named_row.specs.declared.leaves.Leaf.{Leaf}
use Rattle.branch_and_bound.specs.Lines.{BoxLine, top_line, low_line, high_line, Fills, total, line_after}
use Rattle.branch_and_bound.specs.Volumes.{volume}
use Rattle.branch_and_bound.specs.Choices.{choices}
use Rattle.branch_and_bound.proofs.Volumes.{volume_split, volume_positive, volume_same}
use Rattle.branch_and_bound.proofs.Walks.{Fills-split, total-split}
use Rattle.branch_and_bound.specs.Matchings.{Matches}
use Rattle.branch_and_bound.proofs.Matchings.{Matches-back, HasOther, Fills-match, total-match, line_after-match}
use Rattle.branch_and_bound.specs.Lineages.{Cuts, at_top, at_low, at_high}
use Rattle.branch_and_bound.specs.Rules.{Rules, IsMet}
use Rattle.branch_and_bound.specs.Answer.{cut_of, lines_of, line_at, cost_of, units_of, StopCase, RootLeft, RootUnread, BeforeLow, InLow, BeforeHigh}
use Rattle.branch_and_bound.specs.Answer.{InHigh, Spot, IsSpot, IsNeeded, IsNeededNode, HasSpot, IsNeededStop, IsWorkStop, spends, low_of, high_of}
use Rattle.branch_and_bound.specs.Enough.{IsShort, IsEnough}
use Rattle.branch_and_bound.specs.declared.incumbent.Incumbent.{Incumbent}
use Rattle.branch_and_bound.specs.declared.node.TreeNode.{TreeNode}
use Rattle.branch_and_bound.specs.declared.node.TreeNode.TheVariants.{Split, Closed, Waiting}
use Rattle.branch_and_bound.proofs.Splicing.{cut_here}
use Rattle.branch_and_bound.proofs.Answering.{there}

-- ---- trees by their cuts alone
abbrev own : Option At → Option At
own cut = cut

abbrev cuts : List TreeNode → List (Option At)
cuts [] = []
cuts (node ∷ nodes) = cut_of node ∷ cuts nodes

abbrev IsCutOf : ℕ → TreeNode → Option At → Type 0
IsCutOf i node cut = cut ≡ cut_of node

cuts_match : (i : ℕ) (nodes : List TreeNode) → Matches IsCutOf i nodes (cuts nodes)
cuts_match i [] = tt
cuts_match i (node ∷ nodes) = (refl, cuts_match _ nodes)

-- the nodes that trees of these lines can have
abbrev room : List BoxLine → ℕ
room [] = 0
room (line ∷ lines) = (2 * volume line.area - 1) + room lines

-- what is asked of a node to count it
record IsCounted {T K W : Type 0} (r : Rules T K W) (most : ℕ) (line : BoxLine) (cut : Option At) : Type 0 where
  cost : 1 + r.steps line ≤ most
  inside : (place : At) → cut ≡ Some place → IsPlace line.area place

under_room : (c t p l h q most : ℕ) → c ≤ most → l + h ≡ p → 0 < l → 0 < h → t ≤ ((2 * l - 1) + ((2 * h - 1) + q)) * most → c + t ≤ ((2 * p - 1) + q) * most
under_room c t p l h q most a e k m b =
    let f : 1 + ((2 * l - 1) + ((2 * h - 1) + q)) ≤ (2 * p - 1) + q = omega arith in
    omega (arith, mul-le-mul_right most f)

one_room : (c t p q most : ℕ) → c ≤ most → 0 < p → t ≤ q * most → c + t ≤ ((2 * p - 1) + q) * most
one_room c t p q most a e b =
    let f : 1 + q ≤ (2 * p - 1) + q = omega arith in
    omega (arith, mul-le-mul_right most f)

total_under : {T K W : Type 0} (r : Rules T K W) (most : ℕ) (lines : List BoxLine) (cs : List (Option At)) → Fills own (IsCounted r most) lines cs → total own (cost_of r) lines cs ≤ room lines * most
total_under r most lines [] h = omega arith
total_under r most [] (c ∷ cs) h = omega arith
total_under r most (line ∷ lines) (Some place ∷ cs) h =
    let inside = h.0.inside place refl in
    under_room (1 + r.steps line) (total own (cost_of r) (low_line place line ∷ high_line place line ∷ lines) cs) (volume line.area)
    (volume (low_line place line).area) (volume (high_line place line).area) (room lines) most
    h.0.cost (volume_split line.area place inside) (volume_positive (low_line place line).area) (volume_positive (high_line place line).area)
    (total_under r most (low_line place line ∷ high_line place line ∷ lines) cs h.1)
total_under r most (line ∷ lines) (None ∷ cs) h =
    one_room (1 + r.steps line) (total own (cost_of r) lines cs) (volume line.area) (room lines) most h.0.cost (volume_positive line.area) (total_under r most lines cs h.1)

-- ---- the lines of a needed tree are met
abbrev AllMet : {T K W : Type 0} → Rules T K W → List BoxLine → Type 0
AllMet r [] = Unit {0}
AllMet r (line ∷ lines) = IsMet r line × AllMet r lines

abbrev IsMetNode : {T K W : Type 0} → Rules T K W → Option (Incumbent T) → BoxLine → TreeNode → Type 0
IsMetNode r best line node = IsNeededNode r best line node × IsMet r line

lineages : {T K W : Type 0} (r : Rules T K W) (best : Option (Incumbent T)) (lines : List BoxLine) (nodes : List TreeNode) → AllMet r lines
    → Fills cut_of (IsNeededNode r best) lines nodes → Fills cut_of (IsMetNode r best) lines nodes
lineages r best lines [] a h = h
lineages r best [] (node ∷ nodes) a h = h
lineages r best (line ∷ lines) (Split place point ∷ nodes) a h =
    ((h.0, a.0), lineages r best (low_line place line ∷ high_line place line ∷ lines) nodes (at_low line place a.0 h.0.end, (at_high line place a.0 h.0.end, a.1)) h.1)
lineages r best (line ∷ lines) (Closed leaf ∷ nodes) a h = ((h.0, a.0), lineages r best lines nodes a.1 h.1)
lineages r best (line ∷ lines) (Waiting leaf ∷ nodes) a h = ((h.0, a.0), lineages r best lines nodes a.1 h.1)

counted : {T K W : Type 0} (r : Rules T K W) (best : Option (Incumbent T)) (most : ℕ) → IsShort r most → (i : ℕ) (line : BoxLine) (node : TreeNode) (cut : Option At)
    → cut ≡ cut_of node → IsMetNode r best line node → IsCounted r most line cut
counted r best most s i line (Split p point) cut e h =
    record { cost = s.cost line h.1; inside = λ place f. let q : p ≡ place = cc in subst (λ x. IsPlace line.area x) q (r.laws.inside line p h.1 h.0.end) }
counted r best most s i line (Closed leaf) cut e h = record { cost = s.cost line h.1; inside = λ place f. cc }
counted r best most s i line (Waiting leaf) cut e h = record { cost = s.cost line h.1; inside = λ place f. cc }

-- ---- with the undone split made
-- the nodes of the greatest tree
abbrev greatest : {T K W : Type 0} → Rules T K W → ℕ
greatest r = 2 * max 1 (choices r.root) - 1

-- where a split was undone the root is split, or was to be
record IsRootCut {T K W : Type 0} (r : Rules T K W) : Type 0 where
  place : At
  end : r.ending (top_line r.root) ≡ Cuts place

root_cut : {T K W : Type 0} (r : Rules T K W) (best : Option (Incumbent T)) (nodes : List TreeNode) (index : ℕ) (leaf : Leaf) (place : At)
    → Fills cut_of (IsNeededNode r best) (lines_of r) nodes → slice_get nodes index ≡ Some (Waiting leaf) → r.ending (line_at r nodes index) ≡ Cuts place → IsRootCut r
root_cut r best [] index leaf place h at end = absurd h
root_cut r best (Split p point ∷ nodes) index leaf place h at end = record { place = p; end = h.0.end }
root_cut r best (Closed other ∷ nodes) zero leaf place h at end = cc
root_cut r best (Closed other ∷ []) (suc index) leaf place h at end = cc
root_cut r best (Closed other ∷ node ∷ nodes) (suc index) leaf place h at end = absurd h.1
root_cut r best (Waiting other ∷ nodes) zero leaf place h at end = record { place = place; end = end }
root_cut r best (Waiting other ∷ []) (suc index) leaf place h at end = cc
root_cut r best (Waiting other ∷ node ∷ nodes) (suc index) leaf place h at end = absurd h.1

-- so the measure of its box counts its choices
root_room : {T K W : Type 0} (r : Rules T K W) → r.IsSound → IsRootCut r → room (lines_of r) ≡ greatest r
root_room r sound cut =
    let same = volume_same r.root (r.laws.has_numbers (top_line r.root) cut.place (at_top sound) cut.end) in
    let some = volume_positive r.root in
    let most : max 1 (choices r.root) ≡ choices r.root = max-eq_right (omega (arith, same)) in
    omega (arith, same, most)

record IsRoomy {T K W : Type 0} (r : Rules T K W) (nodes : List TreeNode) (spot : Spot) (most : ℕ) : Type 0 where
  units : units_of r nodes + (cost_of r (low_of r nodes spot) + cost_of r (high_of r nodes spot)) ≤ greatest r * most
  low : IsMet r (low_of r nodes spot)
  high : IsMet r (high_of r nodes spot)

undone_under : {T K W : Type 0} (r : Rules T K W) → r.IsSound → (best : Option (Incumbent T)) (nodes : List TreeNode) (part : Option BoxLine) (spot : Spot) (most : ℕ)
    → IsNeeded r nodes best part → IsSpot r nodes spot → IsShort r most → IsRoomy r nodes spot most
undone_under r sound best nodes part spot most h s short =
    let lines = lines_of r in
    let line = line_at r nodes spot.index in
    let all : Fills cut_of (IsMetNode r best) lines nodes = lineages r best lines nodes (at_top sound, tt) h.tree in
    let here : IsMetNode r best line (Waiting s.leaf) = there cut_of (IsMetNode r best) lines nodes spot.index (Waiting s.leaf) all s.at in
    let low = at_low line spot.place here.1 s.end in
    let high = at_high line spot.place here.1 s.end in
    let cs = cuts nodes in
    let m = cuts_match 0 nodes in
    let same : (i : ℕ) (node : TreeNode) (cut : Option At) → IsCutOf i node cut → own cut ≡ cut_of node = λ i node cut e. e in
    let back : HasOther IsCutOf 0 cs spot.index (Waiting s.leaf) = Matches-back IsCutOf 0 nodes cs spot.index (Waiting s.leaf) m s.at in
    let none : back.node ≡ None = back.is in
    let at : slice_get cs spot.index ≡ Some None = back.at ∙ ap Some none in
    let front = take spot.index cs in
    let rest = drop (spot.index + 1) cs in
    let whole = cut_here cs spot.index None at in
    let counts : Fills own (IsCounted r most) lines (front ++ None ∷ rest) =
    subst (λ ns. Fills own (IsCounted r most) lines ns) (sym whole) (Fills-match cut_of own IsCutOf same (IsMetNode r best) (IsCounted r most) (counted r best most short) 0 lines nodes cs m all) in
    let lines_same : line ≡ line_after own lines front = line_after-match cut_of own IsCutOf same 0 spot.index lines nodes cs m in
    let split_is : IsCounted r most (line_after own lines front) (Some spot.place) =
    subst (λ l. IsCounted r most l (Some spot.place)) lines_same (record {
      cost = short.cost line here.1;
      inside = λ place e. let q : spot.place ≡ place =
          cc in subst (λ p. IsPlace line.area p) q (r.laws.inside line spot.place here.1 s.end);
    }) in
    let low_is : IsCounted r most (low_line spot.place (line_after own lines front)) None =
    subst (λ l. IsCounted r most (low_line spot.place l) None) lines_same (record { cost = short.cost (low_line spot.place line) low; inside = λ place e. cc }) in
    let high_is : IsCounted r most (high_line spot.place (line_after own lines front)) None =
    subst (λ l. IsCounted r most (high_line spot.place l) None) lines_same (record { cost = short.cost (high_line spot.place line) high; inside = λ place e. cc }) in
    let after : Fills own (IsCounted r most) lines (front ++ Some spot.place ∷ None ∷ None ∷ rest) =
    Fills-split own (IsCounted r most) spot.place None (Some spot.place) None None lines front rest refl refl refl refl split_is low_is high_is counts in
    let bound = total_under r most lines (front ++ Some spot.place ∷ None ∷ None ∷ rest) after in
    let grows = total-split own (cost_of r) (IsCounted r most) spot.place None (Some spot.place) None None lines front rest refl refl refl refl counts in
    let low_cost = ap (λ l. cost_of r (low_line spot.place l)) lines_same in
    let high_cost = ap (λ l. cost_of r (high_line spot.place l)) lines_same in
    let units_same = total-match cut_of own IsCutOf same (cost_of r) 0 lines nodes cs m in
    let roomy : units_of r nodes + (cost_of r (low_of r nodes spot) + cost_of r (high_of r nodes spot)) ≤ room lines * most =
    omega (arith, bound, grows, units_same, low_cost, high_cost, ap (λ ns. total own (cost_of r) lines ns) whole) in
    record {
      units = subst (λ n. units_of r nodes + (cost_of r (low_of r nodes spot) + cost_of r (high_of r nodes spot)) ≤ n * most)
          (root_room r sound (root_cut r best nodes spot.index s.leaf spot.place h.tree s.at s.end)) roomy;
      low = low;
      high = high;
    }

root_under : {T K W : Type 0} (r : Rules T K W) (most k : ℕ) → r.IsSound → IsShort r most → r.IsDue (top_line r.root) k → 1 + k < greatest r * most
root_under r most k sound s due =
    let a = s.cost (top_line r.root) (at_top sound) in
    let b = s.due (top_line r.root) k (at_top sound) due in
    let c : 1 ≤ greatest r = omega (arith, le-max_left 1 (choices r.root)) in
    omega (arith, a, b, mul-le-mul_right most c)

spends_under : {T K W : Type 0} (r : Rules T K W) → r.IsSound → (nodes : List TreeNode) (best : Option (Incumbent T)) (bound : ℚ) (most : ℕ) (case : StopCase)
    → IsShort r most → HasSpot r nodes case → IsNeededStop r nodes best bound case → IsWorkStop r nodes case → spends r nodes case < greatest r * most
spends_under r sound nodes best bound most (RootLeft k) s spot needed work = root_under r most k sound s work
spends_under r sound nodes best bound most RootUnread s spot needed work = absurd work
spends_under r sound nodes best bound most (BeforeLow spot) s is needed work =
    let u = (undone_under r sound best nodes None spot most needed.0 is s).units in omega (arith, u)
spends_under r sound nodes best bound most (InLow spot k) s is needed work =
    let u = undone_under r sound best nodes None spot most needed.0 is s in
    omega (arith, u.units, s.due (low_of r nodes spot) k u.low work)
spends_under r sound nodes best bound most (BeforeHigh spot) s is needed work =
    let u = (undone_under r sound best nodes (Some (low_of r nodes spot)) spot most needed.0 is s).units in omega (arith, u)
spends_under r sound nodes best bound most (InHigh spot k) s is needed work =
    let u = undone_under r sound best nodes (Some (low_of r nodes spot)) spot most needed.0 is s in
    omega (arith, u.units, s.due (high_of r nodes spot) k u.high work)

pub enough : {T K W : Type 0} (r : Rules T K W) → IsEnough r
enough r sound limit nodes best bound spent units most answer s =
    let below = spends_under r sound nodes best bound most answer.case s answer.spot answer.needed answer.cause.2 in
    let units_are = answer.units in
    subst (λ o. IfSome o (λ n. n < greatest r * most)) (sym answer.cause.1) (omega (arith, below, units_are))
