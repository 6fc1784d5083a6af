-- What becomes of one box.
use Rattle.std.proofs.Common.{◌≡◌, ℕ, ◌⊎◌, inl, inr, List, Option, Some, Err, refl, sym, subst, ap, ◌∙◌}
use Rattle.linear_theory.specs.Boxes.{Area}
use Rattle.rational_theory.specs.Rational.{ℚ}
use Rattle.rational_theory.proofs.Order.{≤ℚ_refl}
use Rattle.search_box.specs.declared.span.At.{At}
use Rattle.search_box.specs.Places.{low_part, high_part}
use Rattle.named_row.specs.declared.leaves.Leaf.{Leaf}
use Rattle.branch_and_bound.specs.Lines.{BoxLine, low_line, high_line}
use Rattle.narrow_fraction.proofs.Attempt.{some_not_none}
use Rattle.branch_and_bound.specs.Lineages.{Cuts, WasRead}
use Rattle.branch_and_bound.specs.Rules.{Rules, IsMet}
use Rattle.branch_and_bound.specs.OpenedNodes.{OpensTimed, IsPart, Finishes}
use Rattle.branch_and_bound.specs.Incumbents.{IsReached, IsBeaten}
use Rattle.branch_and_bound.specs.State.{IsStuck, Stops, IsLeftBy, Settles, Ends, ended, IsCut, IsBetter, EndsBoth, Grows, line_there, IsLeafNow, IsRefuted, IsRead}
use Rattle.work_meter.specs.declared.meter.Meter.{Meter}
use Rattle.branch_and_bound.specs.declared.incumbent.Incumbent.{Incumbent}
use Rattle.branch_and_bound.specs.declared.node.Node.{Node}
use Rattle.branch_and_bound.specs.declared.node.Node.TheVariants.{Split, Closed, Waiting}
use Rattle.branch_and_bound.specs.declared.found.Site.{Site}
use Rattle.branch_and_bound.specs.declared.found.Stop.{Stop}
use Rattle.branch_and_bound.specs.declared.found.Stop.TheVariants.{Work, Wide}
use Rattle.branch_and_bound.specs.declared.open.Halt.{Halt}
use Rattle.branch_and_bound.specs.declared.open.Halt.TheVariants.{Stopped, Memory}
use Rattle.branch_and_bound.specs.declared.progress.Progress.{Progress}
use Rattle.branch_and_bound.specs.declared.settle.Settled.{Settled}
use Rattle.branch_and_bound.specs.declared.settle.Settled.TheVariants.{Done, Stuck, Left}

-- a box whose vertex is a timing
pub timed_settles : {T K W : Type 0} (r : Rules T K W) (line : BoxLine) (old new : Option (Incumbent T)) (leaf : Leaf) (bound : ℚ) (timing : T)
    → OpensTimed r line leaf bound timing
    → ((new ≡ old) × IsReached bound old) ⊎ ((new ≡ Some (record { value = bound; timing = timing })) × IsBeaten old bound)
    → IsLeafNow r line old new (Closed leaf)
timed_settles r line old new leaf bound timing h (inl k) =
    let at_old : IsReached (r.bound line) old = subst (λ b. IsReached b old) h.bounds.bound_is k.1 in
    let covers : r.Covers line.area leaf (r.bound line) = subst (λ b. r.Covers line.area leaf b) h.bounds.bound_is h.bounds.covers in
    record {
      whole = refl;
      is = λ top met under. record {
        lineage = met;
        leaf_is = h.bounds.leaf_is;
        shows = inr (record { end = h.end; covers = covers; reached = subst (λ (b : Option (Incumbent _)). IsReached (r.bound line) b) (sym k.0) at_old });
      };
      better = inl (record { same = k.0; reached = λ end. at_old });
    }
timed_settles r line old new leaf bound timing h (inr k) =
    let covers : r.Covers line.area leaf (r.bound line) = subst (λ b. r.Covers line.area leaf b) h.bounds.bound_is h.bounds.covers in
    let at_new : IsReached bound new = subst (λ b. IsReached bound b) (sym k.0) (≤ℚ_refl bound) in
    record {
      whole = refl;
      is = λ top met under. record {
        lineage = met;
        leaf_is = h.bounds.leaf_is;
        shows = inr (record { end = h.end; covers = covers; reached = subst (λ b. IsReached b new) h.bounds.bound_is at_new });
      };
      better = inr (record { best = record { value = bound; timing = timing }; new_is = k.0; end = h.end; value = h.bounds.bound_is; good = h.good; more = k.1 });
    }

-- a box that is a leaf was read to its end
pub leaf_read : {T K W : Type 0} (r : Rules T K W) (line : BoxLine) (old new : Option (Incumbent T)) (node : Node K) → IsMet r line → IsLeafNow r line old new node → WasRead (r.ending line)
leaf_read r line old new (Split place point) met l = some_not_none l.whole
leaf_read r line old new (Closed leaf) met l = by_case (l.is (r.bound line) met (λ _. ≤ℚ_refl (r.bound line))).shows
  where
    by_case : IsRefuted r line leaf ⊎ IsRead r new line leaf → WasRead (r.ending line)
    by_case (inl h) = subst WasRead (sym h.end) tt
    by_case (inr h) = subst WasRead (sym h.end) tt
leaf_read r line old new (Waiting area leaf bound place point kept) met l =
    subst WasRead (sym (l.is (r.bound line) met (λ _. ≤ℚ_refl (r.bound line))).end) tt

-- the parts of a box that waits
pub low_is : {T K W : Type 0} (r : Rules T K W) (line : BoxLine) (area part : Area) (place : At) (kept : K)
    → IsCut r line area place kept → part ≡ low_part area place → IsPart r line place (low_line place line) kept part
low_is r line area part place kept h e =
    record { lineage = h.lineage; cut = h.end; kept_is = h.kept_is; side = inl refl; area_is = e ∙ ap (λ a. low_part a place) h.area_is }

pub high_is : {T K W : Type 0} (r : Rules T K W) (line : BoxLine) (area part : Area) (place : At) (kept : K)
    → IsCut r line area place kept → part ≡ high_part area place → IsPart r line place (high_line place line) kept part
high_is r line area part place kept h e =
    record { lineage = h.lineage; cut = h.end; kept_is = h.kept_is; side = inr refl; area_is = e ∙ ap (λ a. high_part a place) h.area_is }

-- where a vertex couldn't be read, its pivots were made
stuck_stops : {T K W : Type 0} (r : Rules T K W) (line : BoxLine) (before after : Meter) (leaf : Leaf) (bound : ℚ) (site : Site W)
    → IsStuck r line before after leaf bound site → Stops r line before after (Wide site)
stuck_stops r line before after leaf bound site h = (
  r.steps line,
  inr (refl, h.opens.end),
  record {
    is = record { area_is = h.area_is; pivots_is = h.opens.pivots_is; part_is = h.opens.part_is };
    leaves = record { spent = h.cost.spent; within = h.cost.within };
  },
)

-- and where the box wasn't finished, so many of them
left_stops : {T K W : Type 0} (r : Rules T K W) (line : BoxLine) (before after : Meter) (stop : Stop W) → IsLeftBy r line before after stop → Stops r line before after stop
left_stops r line before after (Work units) (same, k, unfinished, out) = (same, inr (k, inl unfinished, out))
left_stops r line before after (Wide site) (k, unfinished, refused) = (k, inl unfinished, refused)

pub ends : {T K W : Type 0} (r : Rules T K W) (line : BoxLine) (old new : Progress T) (settled : Settled K W)
    → Settles r line old.incumbent new.incumbent old.meter new.meter settled → Ends r line old new (ended settled)
ends r line old new (Done node) h = h
ends r line old new (Stuck leaf bound site) h = (h.0, stuck_stops r line old.meter new.meter leaf bound site h.1)
ends r line old new (Left stop) h = (h.0, left_stops r line old.meter new.meter stop h.1)

-- ---- two parts
pub low_halted : {T K W : Type 0} (r : Rules T K W) (line : BoxLine) (place : At) (old new : Progress T) (halt : Halt W)
    → Ends {K = K} r (low_line place line) old new (Err halt) → EndsBoth {K = K} r line place old new (Err halt)
low_halted r line place old new (Stopped stop) h = inl (record { same = h.0; stops = h.1 })
low_halted r line place old new Memory h = tt

pub high_halted : {T K W : Type 0} (r : Rules T K W) (line : BoxLine) (place : At) (old middle new : Progress T) (low : Node K) (halt : Halt W) → IsMet r (low_line place line)
    → IsLeafNow r (low_line place line) old.incumbent middle.incumbent low → Finishes r (low_line place line) old.meter middle.meter
    → Ends {K = K} r (high_line place line) middle new (Err halt) → EndsBoth {K = K} r line place old new (Err halt)
high_halted r line place old middle new low (Stopped stop) met is cost h = inr (record {
  between = middle.meter;
  better = subst (λ b. IsBetter r (low_line place line) old.incumbent b) (sym h.0) is.better;
  read = leaf_read r (low_line place line) old.incumbent middle.incumbent low met is;
  low_cost = cost;
  stops = h.1;
})
high_halted r line place old middle new low Memory met is cost h = tt

-- and the nodes are as before
pub still_waits : {T K W : Type 0} (r : Rules T K W) (nodes : List (Node K)) (index : ℕ) (place : At) (old new : Progress T) (halt : Halt W)
    → r.ending (line_there r nodes index) ≡ Cuts place → EndsBoth {K = K} r (line_there r nodes index) place old new (Err halt) → Grows r nodes nodes index old new (Err halt)
still_waits r nodes index place old new (Stopped stop) end h = record { place = place; same = refl; end = end; halts = h }
still_waits r nodes index place old new Memory end h = tt
