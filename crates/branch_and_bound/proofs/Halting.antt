-- The answer of a search that stops: one case for each place at which it can.
use Rattle.std.proofs.Common.{◌≡◌, ℕ, ◌+◌, ◌⊎◌, inl, inr, List, Option, Some, None, sym, subst, ap, ◌∙◌, arith, length}
use Rattle.rational_theory.specs.Rational.{ℚ, ◌≤ℚ◌}
use Rattle.search_box.specs.declared.span.At.{At}
use Rattle.branch_and_bound.specs.Lines.{BoxLine, low_line}
use Rattle.branch_and_bound.specs.Matchings.{Matches}
use Rattle.branch_and_bound.proofs.Matchings.{line_after-match, total-match}
use Rattle.branch_and_bound.specs.Lineages.{WasRead, Cuts}
use Rattle.branch_and_bound.specs.Rules.{Rules, IsMet}
use Rattle.work_meter.specs.Work.{capped, IsWithin}
use Rattle.branch_and_bound.specs.Incumbents.{IsBeaten}
use Rattle.branch_and_bound.specs.Greatest.{IsGreatest, bound_of}
use Rattle.branch_and_bound.specs.Answer.{cut_of, lines_of, line_at, cost_of, units_of, StopCase, BeforeLow, InLow, BeforeHigh, InHigh, HasSpot}
use Rattle.branch_and_bound.specs.Answer.{HasLeft, IsReadPart, finished_part, IsNeededStop, IsSorted, undone_of, spends, IsStop, IsStoppedAnswer}
use Rattle.branch_and_bound.specs.Answer.{Spot, low_of, high_of}
use Rattle.branch_and_bound.specs.State.{place_of, line_there, IsNode, IsShown, IsUnopened, Stops, IsLowHalted, IsHighHalted, IsSearchState, IsUndone}
use Rattle.work_meter.specs.declared.meter.Meter.{Meter}
use Rattle.branch_and_bound.specs.declared.incumbent.Incumbent.{Incumbent}
use Rattle.branch_and_bound.specs.declared.node.Node.{Node}
use Rattle.branch_and_bound.specs.declared.node.Node.TheVariants.{Split, Closed, Waiting}
use Rattle.branch_and_bound.specs.declared.node.TreeNode.{TreeNode}
use Rattle.branch_and_bound.specs.declared.found.Stop.{Stop}
use Rattle.branch_and_bound.specs.declared.found.Stop.TheVariants.{Work, Wide}
use Rattle.branch_and_bound.specs.declared.progress.Progress.{Progress}
use Rattle.branch_and_bound.specs.declared.greatest.Greatest.{Greatest}
use Rattle.branch_and_bound.proofs.Waiting.{over_all}
use Rattle.branch_and_bound.proofs.Splicing.{node_at}
use Rattle.branch_and_bound.proofs.Answering.{shown_cut}
use Rattle.branch_and_bound.proofs.Stopping.{stopped, IsHalt, IsPartUnder}

-- a node that waits was met, and has the bound that was found
record WaitsThere {T K W : Type 0} (r : Rules T K W) (line : BoxLine) (bound : ℚ) : Type 0 where
  lineage : IsMet r line
  bound_is : r.bound line ≡ bound

waits_there : {T K W : Type 0} (r : Rules T K W) (line : BoxLine) (g : Greatest) (node : Node K) (old : Option (Incumbent T)) (top : ℚ)
    → IsNode r old top line node → bound_of node ≡ Some g.bound → WaitsThere r line g.bound
waits_there r line g (Split place point) old top h e = cc
waits_there r line g (Closed leaf) old top h e = cc
waits_there r line g (Waiting area leaf b place point kept) old top h e = let same : b ≡ g.bound = cc in record { lineage = h.lineage; bound_is = sym h.bounds.bound_is ∙ same }

-- all units of the limit are within it
spent_within : (after : Meter) (limit : Option ℕ) → limit ≡ Some after.spent → IsWithin after.spent limit
spent_within after limit e = subst (IsWithin after.spent) (sym e) (let n = after.spent in omega arith)

-- where no unit was left, the limit is what was spent
unopened_limit : (before after : Meter) (limit : Option ℕ) → IsUnopened before after → after.limit ≡ limit → limit ≡ Some after.spent
unopened_limit before after limit s e = sym e ∙ ap (λ (m : Meter). m.limit) s.same ∙ s.spent ∙ ap (λ (m : Meter). Some m.spent) (sym s.same)

-- the answer that stopped at a place
answer_at : {T K W : Type 0} (r : Rules T K W) (limit : Option ℕ) (shown : List TreeNode) (bound : ℚ) (new : Option (Incumbent T)) (spent : ℕ) (spot : Spot)
    (part : Option BoxLine) (stop : Stop W) (case : StopCase)
    → IsHalt r shown new bound spot part → HasSpot r shown case → HasLeft r shown case → IsReadPart r (finished_part r shown case) → IsNeededStop r shown new bound case
    → IsSorted r shown new (undone_of case)
    → spent ≡ capped (spends r shown case) → IsWithin spent limit → IsStop r shown case limit spent stop → IsStoppedAnswer r limit shown new bound spent stop
answer_at r limit shown bound new spent spot part stop case k spot_is left read needed sorted units within cause = record {
  case = case;
  accepted = k.accepted;
  good = k.good;
  spot = spot_is;
  left = left;
  read = read;
  needed = needed;
  sorted = sorted;
  units = units;
  within = within;
  cause = cause;
}

low_cases : {T K W : Type 0} (r : Rules T K W) (limit : Option ℕ) (shown : List TreeNode) (bound : ℚ) (new : Option (Incumbent T)) (before after : Meter) (spot : Spot) (stop : Stop W)
    → before.spent ≡ capped (units_of r shown) → IsHalt r shown new bound spot None → Stops r (low_of r shown spot) before after stop → after.limit ≡ limit
    → IsStoppedAnswer r limit shown new bound after.spent stop
low_cases r limit shown bound new before after spot (Work n) units k (same, inl s) e =
    let out = unopened_limit before after limit s e in
    answer_at r limit shown bound new after.spent spot None (Work n) (BeforeLow spot) k k.spot_is tt tt (k.needed, k.open_bound) k.sorted
    (ap (λ (m : Meter). m.spent) s.same ∙ units) (spent_within after limit out) (same, out, tt)
low_cases r limit shown bound new before after spot (Work n) units k (same, inr s) e =
    let t = s.2.leaves.spent in
    answer_at r limit shown bound new after.spent spot None (Work n) (InLow spot s.0) k k.spot_is s.1 tt (k.needed, k.open_bound) k.sorted
    (omega (arith, t, units)) (subst (IsWithin after.spent) e s.2.leaves.within) (same, sym e ∙ s.2.spent, s.2.due)
low_cases r limit shown bound new before after spot (Wide site) units k s e =
    let t = s.2.leaves.spent in
    answer_at r limit shown bound new after.spent spot None (Wide site) (InLow spot s.0) k k.spot_is s.1 tt (k.needed, k.open_bound) k.sorted
    (omega (arith, t, units)) (subst (IsWithin after.spent) e s.2.leaves.within) s.2.is

high_cases : {T K W : Type 0} (r : Rules T K W) (limit : Option ℕ) (shown : List TreeNode) (bound : ℚ) (new : Option (Incumbent T)) (before between after : Meter) (spot : Spot) (stop : Stop W)
    → before.spent ≡ capped (units_of r shown) → IsHalt r shown new bound spot (Some (low_of r shown spot)) → between.spent ≡ capped (before.spent + (1 + r.steps (low_of r shown spot)))
    → Stops r (high_of r shown spot) between after stop → WasRead (r.ending (low_of r shown spot)) → after.limit ≡ limit
    → IsStoppedAnswer r limit shown new bound after.spent stop
high_cases r limit shown bound new before between after spot (Work n) units k low (same, inl s) read e =
    let out = unopened_limit between after limit s e in
    let t = ap (λ (m : Meter). m.spent) s.same in
    answer_at r limit shown bound new after.spent spot (Some (low_of r shown spot)) (Work n) (BeforeHigh spot) k k.spot_is tt read (k.needed, k.open_bound) k.sorted
    (omega (arith, t, low, units)) (spent_within after limit out) (same, out, tt)
high_cases r limit shown bound new before between after spot (Work n) units k low (same, inr s) read e =
    let t = s.2.leaves.spent in
    answer_at r limit shown bound new after.spent spot (Some (low_of r shown spot)) (Work n) (InHigh spot s.0) k k.spot_is s.1 read (k.needed, k.open_bound) k.sorted
    (omega (arith, t, low, units)) (subst (IsWithin after.spent) e s.2.leaves.within) (same, sym e ∙ s.2.spent, s.2.due)
high_cases r limit shown bound new before between after spot (Wide site) units k low s read e =
    let t = s.2.leaves.spent in
    answer_at r limit shown bound new after.spent spot (Some (low_of r shown spot)) (Wide site) (InHigh spot s.0) k k.spot_is s.1 read (k.needed, k.open_bound) k.sorted
    (omega (arith, t, low, units)) (subst (IsWithin after.spent) e s.2.leaves.within) s.2.is

by_part : {T K W : Type 0} (r : Rules T K W) (limit : Option ℕ) (nodes : List (Node K)) (shown : List TreeNode) (g : Greatest) (old new : Progress T) (top : ℚ) (stop : Stop W) (place : At)
    → IsSearchState r nodes old.incumbent top old.meter.spent → IsGreatest nodes (length nodes) (Some g) → IsBeaten old.incumbent g.bound
    → Matches (IsShown new.incumbent (Some g.index)) 0 nodes shown
    → WaitsThere r (line_at r shown g.index) g.bound → old.meter.spent ≡ capped (units_of r shown)
    → r.ending (line_at r shown g.index) ≡ Cuts place
    → IsLowHalted r (line_at r shown g.index) place old new stop ⊎ IsHighHalted r (line_at r shown g.index) place old new stop → new.meter.limit ≡ limit
    → IsStoppedAnswer r limit shown new.incumbent g.bound new.meter.spent stop
by_part r limit nodes shown g old new top stop place h greatest beaten m w units end (inl halts) e =
    let k = stopped r nodes shown g greatest.waits.node old.incumbent new.incumbent top old.meter.spent None place h m greatest.waits.at greatest.waits.waits
    end (over_all nodes (Some g) greatest) beaten halts.same tt in
    low_cases r limit shown g.bound new.incumbent old.meter new.meter (record { index = g.index; place = place }) stop units k halts.stops e
by_part r limit nodes shown g old new top stop place h greatest beaten m w units end (inr halts) e =
    let line = line_at r shown g.index in
    let under : IsPartUnder r (Some (low_line place line)) g.bound = λ optimal. subst (λ b. r.bound (low_line place line) ≤ℚ b) w.bound_is (r.laws.low_falls line place w.lineage end optimal) in
    let k = stopped r nodes shown g greatest.waits.node old.incumbent new.incumbent top old.meter.spent (Some (low_line place line)) place h m
    greatest.waits.at greatest.waits.waits end (over_all nodes (Some g) greatest) beaten halts.better under in
    high_cases r limit shown g.bound new.incumbent old.meter halts.between new.meter (record { index = g.index; place = place }) stop units k halts.low_cost.spent halts.stops halts.read e

pub undone_answer : {T K W : Type 0} (r : Rules T K W) (limit : Option ℕ) (nodes new_nodes : List (Node K)) (shown : List TreeNode) (g : Greatest) (old new : Progress T) (top : ℚ) (stop : Stop W)
    → IsSearchState r nodes old.incumbent top old.meter.spent → IsGreatest nodes (length nodes) (Some g) → IsBeaten old.incumbent g.bound
    → Matches (IsShown new.incumbent (Some g.index)) 0 nodes shown
    → IsUndone r nodes new_nodes g.index old new stop → new.meter.limit ≡ limit
    → IsStoppedAnswer r limit shown new.incumbent g.bound new.meter.spent stop
undone_answer r limit nodes new_nodes shown g old new top stop h greatest beaten m u e =
    let lines_same = line_after-match place_of cut_of (IsShown new.incumbent (Some g.index)) (shown_cut new.incumbent (Some g.index)) 0 g.index (lines_of r) nodes shown m in
    let at = node_at r nodes old.incumbent top g.index greatest.waits.node h.tree greatest.waits.at in
    let w = subst (λ l. WaitsThere r l g.bound) lines_same (waits_there r (line_there r nodes g.index) g greatest.waits.node old.incumbent top at greatest.waits.waits) in
    let units = h.units ∙ ap capped (total-match place_of cut_of (IsShown new.incumbent (Some g.index)) (shown_cut new.incumbent (Some g.index)) (cost_of r) 0 (lines_of r) nodes shown m) in
    by_part r limit nodes shown g old new top stop u.place h greatest beaten m w units (subst (λ l. r.ending l ≡ Cuts u.place) lines_same u.end)
    (subst (λ l. IsLowHalted r l u.place old new stop ⊎ IsHighHalted r l u.place old new stop) lines_same u.halts) e
