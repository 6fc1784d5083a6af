-- Good timings of a street and of the street with its limits moved.
use Rattle.std.proofs.Common.{◌≡◌, ℕ, ◌+◌, ◌-◌, ◌<◌, ◌≤◌, pos, List, length, Option, Bool, true, ◌&&◌, refl, sym, ap, ap₂, subst, arith, slice_index_or}
use Rattle.std.specs.Prelude.{IfSome, option_map}
use Rattle.std.proofs.lemmas.List.{get_or-map}
use Rattle.std.proofs.lemmas.Int.{ints}
use Rattle.rational_theory.specs.Rational.{ℚ, whole, ◌*ℚ◌, ◌-ℚ◌, ◌/ℚ◌, ◌≤ℚ◌}
use Rattle.rational_theory.proofs.Order.{≤ℚ_trans, ≤ℚ-*ℚ, whole-≤ℤ}
use Rattle.progression.specs.Street.{Street, count, HasLink, link_of, no_link, distance, speed, change_given}
use Rattle.progression.specs.Speeds.{number, seconds, run_low, run_high, unit_length, change}
use Rattle.progression.specs.TimingRecord.{TimingRecord, base}
use Rattle.progression.specs.BaseRecord.{run}
use Rattle.progression.specs.Good.{Good, IsBase, pace_change}
use Rattle.progression.specs.declared.parts.Head.{Head}
use Rattle.progression.specs.declared.parts.Signal.{Signal}
use Rattle.progression.specs.declared.parts.Link.{Link}
use Rattle.progression.specs.declared.parts.Pair.{Pair}
use Rattle.progression.specs.declared.parts.Dir.{Dir}
use Rattle.progression.specs.declared.parts.Dir.TheVariants.{Outbound, Inbound}
use Rattle.artery_model.specs.Limits.{at_most}
use Rattle.artery_model.specs.Valid.{IsValid, IsLink, IsSpeeds}
use Rattle.artery_model.proofs.Validity.{valid_of}
use Rattle.artery_parts.proofs.Quantities.{quantity_is, order_is}
use Rattle.speed_steps.specs.Moved.{is_speed, are_limits, moved, link_moved, street_moved, narrow, widen}
use Rattle.speed_steps.specs.Laws.{NarrowIsWithin, WidenHoldsAll, AreNear, RunsStayNear}
use Rattle.speed_steps.specs.declared.way.Way.{Way}
use Rattle.speed_steps.specs.declared.way.Way.TheVariants.{Inwards, Outwards}
use Rattle.speed_steps.proofs.Tests.{both_is}
use Rattle.speed_steps.proofs.Validity.{stays_valid}
use Rattle.speed_steps.proofs.Moves.{Moves, IsSlower, IsFaster, IsMoved, moved_is}

-- ---- a street that has looser limits and else the same links
record IsLooser (a b : Street) : Type 0 where
  pub distances : (d : Dir) (i : ℕ) → HasLink a i → distance a d i ≡ distance b d i
  pub changes : (d : Dir) (i : ℕ) → HasLink a i → change_given a d i ≡ change_given b d i
  pub low : (d : Dir) (i : ℕ) → HasLink a i → run_low b d i ≤ℚ run_low a d i
  pub high : (d : Dir) (i : ℕ) → HasLink a i → run_high a d i ≤ℚ run_high b d i

module _ (h : Head) (s : List Signal) (l m : List Link) (t : TimingRecord) where
  abbrev tight : Street
  tight = record { head = h; signals = s; links = l }

  abbrev loose : Street
  loose = record { head = h; signals = s; links = m }

  grid_least : whole (pos 0) ≤ℚ number t.grid
  grid_least = whole-≤ℤ (pos 0) (pos t.grid) (omega (arith, ints))

  pace_same : IsLooser tight loose → (d : Dir) (i : ℕ) → HasLink tight i → HasLink tight (i + 1) → pace_change tight (base t) d i ≡ pace_change loose (base t) d i
  pace_same k d i at next =
      ap₂ (λ x y. number (run (base t) d (i + 1)) /ℚ number x -ℚ number (run (base t) d i) /ℚ number y) (k.distances d (i + 1) next) (k.distances d i at)

  change_same : IsLooser tight loose → (d : Dir) (i : ℕ) → HasLink tight i → change tight d i ≡ change loose d i
  change_same k d i at =
      ap (λ o. option_map (λ (p : Pair). record { least = p.least /ℚ number (unit_length h.units); most = p.most /ℚ number (unit_length h.units) }) o) (k.changes d i at)

  base_along : IsLooser tight loose → IsBase tight (base t) → IsBase loose (base t)
  base_along k b = record {
    formed = b.formed;
    shape = b.shape;
    patterns = b.patterns;
    cycle_least = b.cycle_least;
    cycle_most = b.cycle_most;
    fast = λ d i at. ≤ℚ_trans (run_low loose d i *ℚ number t.grid) (run_low tight d i *ℚ number t.grid) (number (run (base t) d i))
        (≤ℚ-*ℚ (run_low loose d i) (run_low tight d i) (number t.grid) (k.low d i at) grid_least) (b.fast d i at);
    slow = λ d i at. ≤ℚ_trans (number (run (base t) d i)) (run_high tight d i *ℚ number t.grid) (run_high loose d i *ℚ number t.grid) (b.slow d i at)
        (≤ℚ-*ℚ (run_high tight d i) (run_high loose d i) (number t.grid) (k.high d i at) grid_least);
    rise = λ d i at next.
        subst (λ o. IfSome o (λ (c : Pair). pace_change loose (base t) d i ≤ℚ (c.most *ℚ number t.grid))) (change_same k d i at)
        (subst (λ x. IfSome (change tight d i) (λ (c : Pair). x ≤ℚ (c.most *ℚ number t.grid))) (pace_same k d i at next) (b.rise d i at next));
    drop = λ d i at next.
        subst (λ o. IfSome o (λ (c : Pair). (c.least *ℚ number t.grid) ≤ℚ pace_change loose (base t) d i)) (change_same k d i at)
        (subst (λ x. IfSome (change tight d i) (λ (c : Pair). (c.least *ℚ number t.grid) ≤ℚ x)) (pace_same k d i at next) (b.drop d i at next));
  }

  good_along : IsLooser tight loose → Good tight t → Good loose t
  good_along k g = record {
    base = base_along k g.base;
    ratio = g.ratio;
    least = g.least;
    equal = g.equal;
    outbound = g.outbound;
    inbound = g.inbound;
  }

-- ---- one link of the moved street
limits_valid : (p : Pair) → IsSpeeds p → are_limits p ≡ true
limits_valid p v =
    both_is (is_speed p.least && is_speed p.most) (at_most p.least p.most)
    (both_is (is_speed p.least) (is_speed p.most) (quantity_is (pos 1) (pos 300) p.least v.least) (quantity_is (pos 1) (pos 300) p.most v.most)) (order_is p.least p.most v.order)

module _ (way : Way) (a : Street) (valid : IsValid a) (i : ℕ) (at : HasLink a i) where
  place : i - 1 < length a.links
  place = omega (arith, valid.one_fewer, at.0, at.1)

  link_is : link_of (street_moved way a) i ≡ link_moved way a.head.units (link_of a i)
  link_is = get_or-map (link_moved way a.head.units) a.links (i - 1) no_link no_link place

  link_valid : IsLink (link_of a i)
  link_valid = valid.each_link (i - 1) no_link place

  distance_is : (d : Dir) → distance (street_moved way a) d i ≡ distance a d i
  distance_is Outbound = ap (λ (l : Link). l.distance_out) link_is
  distance_is Inbound = ap (λ (l : Link). l.distance_in) link_is

  change_is : (d : Dir) → change_given (street_moved way a) d i ≡ change_given a d i
  change_is Outbound = ap (λ (l : Link). l.change_out) link_is
  change_is Inbound = ap (λ (l : Link). l.change_in) link_is

  speed_is : (d : Dir) → speed (street_moved way a) d i ≡ moved way a.head.units (distance a d i) (speed a d i)
  speed_is Outbound = ap (λ (l : Link). l.speed_out) link_is
  speed_is Inbound = ap (λ (l : Link). l.speed_in) link_is

  moves_out : (d : Dir) → Moves way a.head.units (distance a d i) (speed a d i) (moved way a.head.units (distance a d i) (speed a d i))
  moves_out Outbound =
      (moved_is a.head.units (link_of a i).distance_out link_valid.least_out way (link_of a i).speed_out (limits_valid (link_of a i).speed_out link_valid.speed_out)).moves
  moves_out Inbound =
      (moved_is a.head.units (link_of a i).distance_in link_valid.least_in way (link_of a i).speed_in (limits_valid (link_of a i).speed_in link_valid.speed_in)).moves

  -- the runs of the moved street
  low_is : (d : Dir) → seconds a.head.units (distance a d i) (moved way a.head.units (distance a d i) (speed a d i)).most ≡ run_low (street_moved way a) d i
  low_is d = ap₂ (λ n (p : Pair). seconds a.head.units n p.most) (sym (distance_is d)) (sym (speed_is d))

  high_is : (d : Dir) → seconds a.head.units (distance a d i) (moved way a.head.units (distance a d i) (speed a d i)).least ≡ run_high (street_moved way a) d i
  high_is d = ap₂ (λ n (p : Pair). seconds a.head.units n p.least) (sym (distance_is d)) (sym (speed_is d))

near_by : (way : Way) (a : Street) (valid : IsValid a) (d : Dir) (i : ℕ) (at : HasLink a i)
    → Moves way a.head.units (distance a d i) (speed a d i) (moved way a.head.units (distance a d i) (speed a d i))
    → AreNear a.head.units (run_low a d i) (run_low (street_moved way a) d i) × AreNear a.head.units (run_high a d i) (run_high (street_moved way a) d i)
near_by Inwards a valid d i at m =
    (subst (AreNear a.head.units (run_low a d i)) (low_is Inwards a valid i at d) m.1.near, subst (AreNear a.head.units (run_high a d i)) (high_is Inwards a valid i at d) m.0.near)
near_by Outwards a valid d i at m =
    (subst (AreNear a.head.units (run_low a d i)) (low_is Outwards a valid i at d) m.1.near, subst (AreNear a.head.units (run_high a d i)) (high_is Outwards a valid i at d) m.0.near)

-- ---- the laws
pub runs_stay_near : RunsStayNear
runs_stay_near way a valid d i at = near_by way a valid d i at (moves_out way a valid i at d)

narrow_looser : (a : Street) → IsValid a → IsLooser (narrow a) a
narrow_looser a valid = record {
  distances = λ d i at. distance_is Inwards a valid i at d;
  changes = λ d i at. change_is Inwards a valid i at d;
  low = λ d i at. subst (λ r. run_low a d i ≤ℚ r) (low_is Inwards a valid i at d) (moves_out Inwards a valid i at d).1.order;
  high = λ d i at. subst (λ r. r ≤ℚ run_high a d i) (high_is Inwards a valid i at d) (moves_out Inwards a valid i at d).0.order;
}

widen_looser : (a : Street) → IsValid a → IsLooser a (widen a)
widen_looser a valid = record {
  distances = λ d i at. sym (distance_is Outwards a valid i at d);
  changes = λ d i at. sym (change_is Outwards a valid i at d);
  low = λ d i at. subst (λ r. r ≤ℚ run_low a d i) (low_is Outwards a valid i at d) (moves_out Outwards a valid i at d).1.order;
  high = λ d i at. subst (λ r. run_high a d i ≤ℚ r) (high_is Outwards a valid i at d) (moves_out Outwards a valid i at d).0.order;
}

pub narrow_is_within : NarrowIsWithin
narrow_is_within a t valid g = good_along a.head a.signals (narrow a).links a.links t (narrow_looser a valid) g

pub widen_holds_all : WidenHoldsAll
widen_holds_all a t valid g = good_along a.head a.signals a.links (widen a).links t (widen_looser a valid) g

-- the moved street is valid too
pub moved_valid : (way : Way) (a : Street) → IsValid a → IsValid (street_moved way a)
moved_valid way a valid = valid_of (street_moved way a) (stays_valid way a valid.no_fault)
