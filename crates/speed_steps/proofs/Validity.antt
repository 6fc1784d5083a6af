-- A valid street stays valid when its limits are moved.
use Rattle.std.proofs.Common.{◌≡◌, ℕ, ◌+◌, ◌≤◌, ◌==◌, pos, List, [], ◌∷◌, map, length, Option, None, Bool, true, ◌&&◌, refl, sym, subst, arith, nat_le}
use Rattle.std.specs.Prelude.{codes}
use Rattle.std.proofs.lemmas.Bool.Decides.{nat_tests}
use Rattle.std.proofs.lemmas.List.{length-map}
use Rattle.rational_theory.specs.Rational.{whole}
use Rattle.progression.specs.Street.{Street, count}
use Rattle.progression.specs.declared.parts.Head.{Head}
use Rattle.progression.specs.declared.parts.Signal.{Signal}
use Rattle.progression.specs.declared.parts.Link.{Link}
use Rattle.progression.specs.declared.parts.Pair.{Pair}
use Rattle.progression.specs.declared.parts.Units.{Units}
use Rattle.artery_model.specs.Faults.{Fault, first_fault, unless, each_numbered, link_place}
use Rattle.artery_model.specs.Limits.{in_range, at_most, pair_ranges, link_tests, link_ranges, in_order, limit_tests, link_limits, range_tests, rule_tests, artery_fault}
use Rattle.artery_model.specs.Valid.{IsValid}
use Rattle.artery_model.specs.declared.kind.Kind.{Kind}
use Rattle.artery_model.specs.declared.kind.Kind.TheVariants as kind
use Rattle.artery_model.proofs.Validity.{AllNone, each_none, passes_of}
use Rattle.speed_steps.specs.Moved.{is_speed, are_limits, moved, link_moved, street_moved}
use Rattle.speed_steps.specs.declared.way.Way.{Way}
use Rattle.speed_steps.proofs.Tests.{both_of, both_is}
use Rattle.speed_steps.proofs.Moves.{moved_is}

-- ---- lists of tests
none_of : (tests : List (Option Fault)) → AllNone tests → first_fault tests ≡ None
none_of [] all = refl
none_of (f ∷ tests) all = rw all.0 (none_of tests all.1)

passes : (b : Bool) (k : Kind) (place : List ℕ) → b ≡ true → unless b k place ≡ None
passes b k place e = rw e refl

first_none : (f : Option Fault) (tests : List (Option Fault)) → first_fault (f ∷ tests) ≡ None → (f ≡ None) × (first_fault tests ≡ None)
first_none f tests e = let all = each_none (f ∷ tests) e in (all.0, none_of tests all.1)

then : (f : Option Fault) (tests : List (Option Fault)) → f ≡ None → first_fault tests ≡ None → first_fault (f ∷ tests) ≡ None
then f tests e rest = rw e rest

-- ---- limits
limits_of : (p : Pair) (place other : List ℕ) → first_fault (pair_ranges (whole (pos 1)) (whole (pos 300)) p place) ≡ None → in_order p other ≡ None → are_limits p ≡ true
limits_of p place other e f =
    let all = each_none (pair_ranges (whole (pos 1)) (whole (pos 300)) p place) e in
    both_is (is_speed p.least && is_speed p.most) (at_most p.least p.most)
    (both_is (is_speed p.least) (is_speed p.most) (passes_of _ _ _ all.0) (passes_of _ _ _ all.1.0)) (passes_of _ _ _ f)

ranges_pass : (p : Pair) (place : List ℕ) → are_limits p ≡ true → first_fault (pair_ranges (whole (pos 1)) (whole (pos 300)) p place) ≡ None
ranges_pass p place h =
    let s = both_of (is_speed p.least) (is_speed p.most) (both_of _ _ h).0 in
    none_of (pair_ranges (whole (pos 1)) (whole (pos 300)) p place) (passes _ _ _ s.0, (passes _ _ _ s.1, tt))

order_passes : (p : Pair) (place : List ℕ) → are_limits p ≡ true → in_order p place ≡ None
order_passes p place h = passes (at_most p.least p.most) kind.LimitsCrossed place (both_of (is_speed p.least && is_speed p.most) (at_most p.least p.most) h).1

long : (n : ℕ) → in_range 1 30000 n ≡ true → 1 ≤ n
long n e = let p = both_of (nat_le 1 n) (nat_le n 30000) e in grind (arith, nat_tests, p.0)

-- ---- one link
module _ (way : Way) (units : Units) where
  limits_pass : (n : ℕ) (p : Pair) (place other : List ℕ) → in_range 1 30000 n ≡ true → first_fault (pair_ranges (whole (pos 1)) (whole (pos 300)) p place) ≡ None
      → in_order p other ≡ None → are_limits (moved way units n p) ≡ true
  limits_pass n p place other l e f = (moved_is units n (long n l) way p (limits_of p place other e f)).limits

  link_passes : (n i : ℕ) (l : Link) → link_ranges n i l ≡ None → link_limits i l ≡ None
      → (link_ranges n i (link_moved way units l) ≡ None) × (link_limits i (link_moved way units l) ≡ None)
  link_passes n i l e f =
      let a = each_none (link_tests n i l) e in
      let b = each_none (limit_tests i l) f in
      let out = limits_pass l.distance_out l.speed_out (link_place i (codes "speed_out")) (link_place i (codes "speed_out")) (passes_of _ _ _ a.0) a.1.1.0 b.0 in
      let back = limits_pass l.distance_in l.speed_in (link_place i (codes "speed_in")) (link_place i (codes "speed_in")) (passes_of _ _ _ a.1.0) a.1.1.1.0 b.1.0 in
      let m = link_moved way units l in (
        none_of (link_tests n i m) (a.0, (a.1.0, (ranges_pass m.speed_out (link_place i (codes "speed_out")) out, (ranges_pass m.speed_in (link_place i (codes "speed_in")) back, a.1.1.1.1)))),
        none_of (limit_tests i m) (order_passes m.speed_out (link_place i (codes "speed_out")) out, (order_passes m.speed_in (link_place i (codes "speed_in")) back, b.1.1)),
      )

  links_pass : (n i : ℕ) (ls : List Link) → first_fault (each_numbered (link_ranges n) i ls) ≡ None → first_fault (each_numbered link_limits i ls) ≡ None
      → (first_fault (each_numbered (link_ranges n) i (map (link_moved way units) ls)) ≡ None) × (first_fault (each_numbered link_limits i (map (link_moved way units) ls)) ≡ None)
  links_pass n i [] e f = (refl, refl)
  links_pass n i (l ∷ ls) e f =
      let a = first_none (link_ranges n i l) (each_numbered (link_ranges n) (i + 1) ls) e in
      let b = first_none (link_limits i l) (each_numbered link_limits (i + 1) ls) f in
      let here = link_passes n i l a.0 b.0 in
      let rest = links_pass n (i + 1) ls a.1 b.1 in
      (then _ _ here.0 rest.0, then _ _ here.1 rest.1)

-- ---- the street
pub stays_valid : (way : Way) (a : Street) → artery_fault a ≡ None → artery_fault (street_moved way a) ≡ None
stays_valid way a h =
    let all = each_none (first_fault (range_tests a) ∷ first_fault (rule_tests a) ∷ []) h in
    let ranges = each_none (range_tests a) all.0 in
    let rules = each_none (rule_tests a) all.1.0 in
    let links = links_pass way a.head.units (length a.links) 1 a.links ranges.1.1.1.1.0 rules.1.1.1.1.1.0 in
    let same : length a.links ≡ length (street_moved way a).links = sym (length-map a.links (link_moved way a.head.units)) in
    let counted = subst (λ n. unless (n + 1 == count a) kind.CountMismatch (codes "link") ≡ None) same rules.0 in
    let ranged = subst (λ n. first_fault (each_numbered (link_ranges n) 1 (street_moved way a).links) ≡ None) same links.0 in
    none_of (first_fault (range_tests (street_moved way a)) ∷ first_fault (rule_tests (street_moved way a)) ∷ []) (
      none_of (range_tests (street_moved way a)) (ranges.0, (ranges.1.0, (ranges.1.1.0, (ranges.1.1.1.0, (ranged, tt))))),
      (none_of (rule_tests (street_moved way a)) (counted, (rules.1.0, (rules.1.1.0, (rules.1.1.1.0, (rules.1.1.1.1.0, (links.1, tt)))))), tt),
    )

-- of any parts that are those of the moved street
pub passes_moved : (way : Way) (a : Street) (head : Head) (signals : List Signal) (links : List Link) → head ≡ a.head → signals ≡ a.signals → links ≡ map (link_moved way a.head.units) a.links
    → IsValid a → artery_fault (record { head = head; signals = signals; links = links }) ≡ None
passes_moved way a head signals links h s l valid = rw (h, s, l) (stays_valid way a valid.no_fault)
