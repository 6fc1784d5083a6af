-- The tests that the numbers and names of an artery without a fault have passed.
use Rattle.std.proofs.Common.{◌≡◌, ℕ, ◌-◌, ◌==◌, ◌||◌, ℤ, List, [], ◌∷◌, length, refl, Bool, true, false, not, Option, None, Some, nat_lt, sym}
use Rattle.std.specs.Prelude.{codes}
use Rattle.rational_theory.specs.Rational.{whole}
use Rattle.progression.specs.Street.{Street, count}
use Rattle.progression.specs.declared.parts.Head.{Head}
use Rattle.progression.specs.declared.parts.Signal.{Signal}
use Rattle.progression.specs.declared.parts.Link.{Link}
use Rattle.progression.specs.declared.parts.Pair.{Pair}
use Rattle.artery_model.specs.Bounds.{first_version, second_version, least_signals, most_signals_in, least_share, most_share_in, least_parts}
use Rattle.artery_model.specs.Bounds.{most_parts, least_distance, most_distance, least_speed, most_speed, least_cycle, most_cycle, least_change}
use Rattle.artery_model.specs.Bounds.{most_change, least_ratio, most_ratio}
use Rattle.artery_model.specs.Faults.{first_fault, each_numbered, artery_place, link_place}
use Rattle.artery_model.specs.Limits.{within, in_range, is_name, is_name_if_there, pair_ranges, head_ranges, signal_tests, signal_ranges}
use Rattle.artery_model.specs.Limits.{change_ranges, link_tests, link_ranges, range_tests, rule_tests, artery_fault}
use Rattle.artery_model.proofs.Validity.{each_none, passes_of}

-- both limits lie within theirs
pub record AreWithin (low high : ℤ) (p : Pair) : Type 0 where
  pub least : within (whole low) (whole high) p.least ≡ true
  pub most : within (whole low) (whole high) p.most ≡ true

are_within : (low high : ℤ) (p : Pair) (place : List ℕ) → first_fault (pair_ranges (whole low) (whole high) p place) ≡ None → AreWithin low high p
are_within low high p place e =
    let tests = each_none (pair_ranges (whole low) (whole high) p place) e in
    record { least = passes_of _ _ _ tests.0; most = passes_of _ _ _ tests.1.0 }

-- limits of a change lie within theirs where they are given, and aren't given on the last link
abbrev pub IsChangeWithin : Bool → Option Pair → Type 0
IsChangeWithin is_last None = Unit {0}
IsChangeWithin is_last (Some p) = (is_last ≡ false) × AreWithin least_change most_change p

not_out : (b : Bool) → not b ≡ true → b ≡ false
not_out true e = sym e
not_out false e = refl

change_within : (is_last : Bool) (o : Option Pair) (place : List ℕ) → first_fault (change_ranges is_last o place) ≡ None → IsChangeWithin is_last o
change_within is_last None place e = tt
change_within is_last (Some p) place e =
    let tests = each_none (change_ranges is_last (Some p) place) e in
    (not_out is_last (passes_of _ _ _ tests.0), are_within least_change most_change p place tests.1.0)

pub record HeadFits (h : Head) : Type 0 where
  pub name : is_name_if_there h.name ≡ true
  pub parts : in_range least_parts most_parts h.parts ≡ true
  pub cycle : AreWithin least_cycle most_cycle h.cycle
  pub ratio : within (whole least_ratio) (whole most_ratio) h.ratio ≡ true
  pub least_out : within (whole least_share) (whole (most_share_in h.version)) h.least_out ≡ true
  pub least_in : within (whole least_share) (whole (most_share_in h.version)) h.least_in ≡ true
  pub equal : (not h.equal || h.version == second_version) ≡ true

head_fits : (h : Head) → first_fault (head_ranges h) ≡ None → HeadFits h
head_fits h e =
    let tests = each_none (head_ranges h) e in
    record {
      name = passes_of _ _ _ tests.0;
      parts = passes_of _ _ _ tests.1.0;
      cycle = are_within least_cycle most_cycle h.cycle (artery_place (codes "cycle")) tests.1.1.0;
      ratio = passes_of _ _ _ tests.1.1.1.0;
      least_out = passes_of _ _ _ tests.1.1.1.1.0;
      least_in = passes_of _ _ _ tests.1.1.1.1.1.0;
      equal = passes_of _ _ _ tests.1.1.1.1.1.1.0;
    }

pub record SignalFits (parts : ℕ) (s : Signal) : Type 0 where
  pub name : is_name s.name ≡ true
  pub red : in_range 1 (parts - 1) s.red ≡ true
  pub left_out : nat_lt s.left_out parts ≡ true
  pub left_in : nat_lt s.left_in parts ≡ true
  pub clear_out : nat_lt s.clear_out parts ≡ true
  pub clear_in : nat_lt s.clear_in parts ≡ true

pub signal_fits : (parts i : ℕ) (s : Signal) → signal_ranges parts i s ≡ None → SignalFits parts s
signal_fits parts i s e =
    let tests = each_none (signal_tests parts i s) e in
    record {
      name = passes_of _ _ _ tests.0;
      red = passes_of _ _ _ tests.1.0;
      left_out = passes_of _ _ _ tests.1.1.0;
      left_in = passes_of _ _ _ tests.1.1.1.0;
      clear_out = passes_of _ _ _ tests.1.1.1.1.0;
      clear_in = passes_of _ _ _ tests.1.1.1.1.1.0;
    }

pub record LinkFits (is_last : Bool) (l : Link) : Type 0 where
  pub distance_out : in_range least_distance most_distance l.distance_out ≡ true
  pub distance_in : in_range least_distance most_distance l.distance_in ≡ true
  pub speed_out : AreWithin least_speed most_speed l.speed_out
  pub speed_in : AreWithin least_speed most_speed l.speed_in
  pub change_out : IsChangeWithin is_last l.change_out
  pub change_in : IsChangeWithin is_last l.change_in

pub link_fits : (n i : ℕ) (l : Link) → link_ranges n i l ≡ None → LinkFits (i == n) l
link_fits n i l e =
    let tests = each_none (link_tests n i l) e in
    record {
      distance_out = passes_of _ _ _ tests.0;
      distance_in = passes_of _ _ _ tests.1.0;
      speed_out = are_within least_speed most_speed l.speed_out (link_place i (codes "speed_out")) tests.1.1.0;
      speed_in = are_within least_speed most_speed l.speed_in (link_place i (codes "speed_in")) tests.1.1.1.0;
      change_out = change_within (i == n) l.change_out (link_place i (codes "change_out")) tests.1.1.1.1.0;
      change_in = change_within (i == n) l.change_in (link_place i (codes "change_in")) tests.1.1.1.1.1.0;
    }

pub record StreetFits (a : Street) : Type 0 where
  pub version : in_range first_version second_version a.head.version ≡ true
  pub count : in_range least_signals (most_signals_in a.head.version) (count a) ≡ true
  pub head : HeadFits a.head
  pub signals : first_fault (each_numbered (signal_ranges a.head.parts) 1 a.signals) ≡ None
  pub links : first_fault (each_numbered (link_ranges (length a.links)) 1 a.links) ≡ None

pub street_fits : (a : Street) → artery_fault a ≡ None → StreetFits a
street_fits a e =
    let tests = each_none (first_fault (range_tests a) ∷ first_fault (rule_tests a) ∷ []) e in
    let ranges = each_none (range_tests a) tests.0 in
    record { version = passes_of _ _ _ ranges.0; count = passes_of _ _ _ ranges.1.0; head = head_fits a.head ranges.1.1.0; signals = ranges.1.1.1.0; links = ranges.1.1.1.1.0 }
