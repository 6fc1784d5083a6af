-- An artery with no fault is valid.
use Rattle.std.proofs.Common.{◌≡◌, ℕ, zero, suc, ℤ, pos, negsuc, ◌+◌, ◌-◌, ◌<◌, ◌≤◌, ◌==◌, ◌≤ℤ◌, ◌*ℤ◌, List, [], ◌∷◌, length, slice_index_or, Option}
use Rattle.std.proofs.Common.{None, Some, Bool, true, false, true≢false, ◌&&◌, ◌||◌, not, if◌then◌else◌, nat_le, nat_lt, refl, sym, arith, not, subst}
use Rattle.std.specs.Prelude.{codes}
use Rattle.std.proofs.lemmas.Bool.Decides.{nat_tests}
use Rattle.std.proofs.lemmas.Int.{ints}
use Rattle.std.proofs.lemmas.Option.{none-some}
use Rattle.rational_theory.specs.Rational.{ℚ, whole, ◌≤ℚ◌}
use Rattle.rational_theory.proofs.Compare.{le_true}
use Rattle.rational_theory.proofs.Order.{≤ℚ_antisymm}
use Rattle.progression.specs.Street.{Street, count}
use Rattle.progression.specs.declared.parts.Signal.{Signal}
use Rattle.progression.specs.declared.parts.Link.{Link}
use Rattle.progression.specs.declared.parts.Pair.{Pair}
use Rattle.artery_model.specs.Bounds.{most_signals_in, most_share_in}
use Rattle.artery_model.specs.Faults.{Fault, first_fault, unless, each_numbered, artery_place, link_place}
use Rattle.artery_model.specs.Limits.{within, in_range, pair_ranges, head_ranges, signal_tests, signal_ranges, change_ranges, link_tests, link_ranges}
use Rattle.artery_model.specs.Limits.{in_order, in_order_if_there, green_tests, has_green, limit_tests, link_limits, range_tests, rule_tests}
use Rattle.artery_model.specs.Limits.{artery_fault}
use Rattle.artery_model.specs.Valid.{IsQuantity, IsPair, IsChange, IsSignal, IsLink, IsOfFirst, IsValid}
use Rattle.artery_model.specs.declared.kind.Kind.{Kind}

-- ---- tests that all passed
none_some : (f : Fault) → Some f ≡ None → ⊥
none_some f e = none-some f (sym e)

-- every test passed
abbrev pub AllNone : List (Option Fault) → Type 0
AllNone [] = Unit {0}
AllNone (f ∷ tests) = (f ≡ None) × AllNone tests

pub each_none : (tests : List (Option Fault)) → first_fault tests ≡ None → AllNone tests
each_none [] e = tt
each_none (None ∷ tests) e = (refl, each_none tests e)
each_none (Some f ∷ tests) e = absurd (none_some f e)

pub passes_of : (b : Bool) (k : Kind) (p : List ℕ) → unless b k p ≡ None → b ≡ true
passes_of true k p e = refl
passes_of false k p e = absurd (none_some _ e)

both_of : (a b : Bool) → (a && b) ≡ true → (a ≡ true) × (b ≡ true)
both_of true true e = (refl, refl)
both_of true false e = absurd (true≢false (sym e))
both_of false b e = absurd (true≢false (sym e))

range_of : (low high n : ℕ) → in_range low high n ≡ true → (low ≤ n) × (n ≤ high)
range_of low high n e =
    let p = both_of (nat_le low n) (nat_le n high) e in
    (grind (arith, nat_tests, p.0), grind (arith, nat_tests, p.1))

below_of : (n m : ℕ) → nat_lt n m ≡ true → n < m
below_of n m e = grind (arith, nat_tests)

at_most_of : (n m : ℕ) → nat_le n m ≡ true → n ≤ m
at_most_of n m e = grind (arith, nat_tests)

-- ---- quantities
low_of : (low : ℤ) (q : ℚ) → whole low ≤ℚ q → (low *ℤ pos q.den) ≤ℤ q.num
unfolding whole
low_of low q h = omega (arith, ints, h.cross)

high_of : (high : ℤ) (q : ℚ) → q ≤ℚ whole high → q.num ≤ℤ (high *ℤ pos q.den)
unfolding whole
high_of high q h = omega (arith, ints, h.cross)

pub quantity_of : (low high : ℤ) (q : ℚ) → within (whole low) (whole high) q ≡ true → IsQuantity low high q
quantity_of low high q e =
    let p = both_of _ _ e in
    let r = both_of _ _ p.0 in
    let s = both_of _ _ r.0 in
    record {
      num = at_most_of _ _ s.0;
      den = at_most_of _ _ s.1;
      least = low_of low q (le_true (whole low) q (sym r.1));
      most = high_of high q (le_true q (whole high) (sym p.1));
    }

pair_of : (low high : ℤ) (p : Pair) (place : List ℕ) → first_fault (pair_ranges (whole low) (whole high) p place) ≡ None → p.least ≤ℚ p.most → IsPair low high p
pair_of low high p place e order =
    let a = each_none (pair_ranges (whole low) (whole high) p place) e in
    record {
      least = quantity_of low high p.least (passes_of _ _ _ a.0);
      most = quantity_of low high p.most (passes_of _ _ _ a.1.0);
      order = order;
    }

order_of : (p : Pair) (place : List ℕ) → in_order p place ≡ None → p.least ≤ℚ p.most
order_of p place e = le_true p.least p.most (sym (passes_of _ _ _ e))

change_of : (last : Bool) (c : Option Pair) (place : List ℕ) → first_fault (change_ranges last c place) ≡ None → in_order_if_there c place ≡ None → IsChange c
change_of last None place e f = tt
change_of last (Some p) place e f =
    let a = each_none (change_ranges last (Some p) place) e in
    pair_of (negsuc 999) (pos 1000) p place a.1.0 (order_of p place f)

-- ---- signals and links
signal_of : (parts i : ℕ) (s : Signal) → signal_ranges parts i s ≡ None → has_green parts i s ≡ None → IsSignal parts s
signal_of parts i s e g =
    let a = each_none (signal_tests parts i s) e in
    let b = each_none (green_tests parts i s) g in
    record {
      red = (range_of 1 (parts - 1) s.red (passes_of _ _ _ a.1.0)).0;
      green_out = below_of (s.red + s.left_in) parts (passes_of _ _ _ b.1.0);
      green_in = below_of (s.red + s.left_out) parts (passes_of _ _ _ b.0);
      clear_out = below_of s.clear_out parts (passes_of _ _ _ a.1.1.1.1.0);
      clear_in = below_of s.clear_in parts (passes_of _ _ _ a.1.1.1.1.1.0);
    }

link_of : (n i : ℕ) (l : Link) → link_ranges n i l ≡ None → link_limits i l ≡ None → IsLink l
link_of n i l e g =
    let a = each_none (link_tests n i l) e in
    let b = each_none (limit_tests i l) g in
    let length_out = range_of 1 30000 l.distance_out (passes_of _ _ _ a.0) in
    let length_in = range_of 1 30000 l.distance_in (passes_of _ _ _ a.1.0) in
    record {
      least_out = length_out.0;
      most_out = length_out.1;
      least_in = length_in.0;
      most_in = length_in.1;
      speed_out = pair_of (pos 1) (pos 300) l.speed_out (link_place i (codes "speed_out")) a.1.1.0 (order_of l.speed_out (link_place i (codes "speed_out")) b.0);
      speed_in = pair_of (pos 1) (pos 300) l.speed_in (link_place i (codes "speed_in")) a.1.1.1.0 (order_of l.speed_in (link_place i (codes "speed_in")) b.1.0);
      change_out = change_of (i == n) l.change_out (link_place i (codes "change_out")) a.1.1.1.1.0 b.1.1.0;
      change_in = change_of (i == n) l.change_in (link_place i (codes "change_in")) a.1.1.1.1.1.0 b.1.1.1.0;
    }

rest_none : (f : Option Fault) (tests : List (Option Fault)) → first_fault (f ∷ tests) ≡ None → first_fault tests ≡ None
rest_none None tests e = e
rest_none (Some f) tests e = absurd (none_some f e)

-- two tests of each item
each_both : {X : Type 0} (one other : ℕ → X → Option Fault) (P : X → Type 0) → ((i : ℕ) (x : X) → one i x ≡ None → other i x ≡ None → P x)
    → (i : ℕ) (xs : List X) → first_fault (each_numbered one i xs) ≡ None → first_fault (each_numbered other i xs) ≡ None → (k : ℕ) (d : X) → k < length xs → P (slice_index_or xs k d)
each_both one other P h i [] e f k d lt = absurd (omega arith)
each_both one other P h i (x ∷ xs) e f zero d lt =
    h i x (each_none (each_numbered one i (x ∷ xs)) e).0 (each_none (each_numbered other i (x ∷ xs)) f).0
each_both one other P h i (x ∷ xs) e f (suc k) d lt =
    each_both one other P h (i + 1) xs (rest_none (one i x) (each_numbered one (i + 1) xs) e) (rest_none (other i x) (each_numbered other (i + 1) xs) f) k d (omega arith)

same_of : (n m : ℕ) → (n == m) ≡ true → n ≡ m
same_of n m e = grind (arith, nat_tests)

-- ---- versions
-- a least band of either version
share_by : (second : Bool) (q : ℚ) → within (whole (pos 0)) (whole (if second then pos 1 else pos 0)) q ≡ true → IsQuantity (pos 0) (pos 1) q
share_by true q e = quantity_of (pos 0) (pos 1) q e
share_by false q e =
    let s = quantity_of (pos 0) (pos 0) q e in
    record { num = s.num; den = s.den; least = s.least; most = omega (arith, ints, s.most) }

-- and one of the first
no_share : (q : ℚ) → within (whole (pos 0)) (whole (pos 0)) q ≡ true → q ≡ whole (pos 0)
no_share q e =
    let p = both_of _ _ e in
    ≤ℚ_antisymm q (whole (pos 0)) (le_true q (whole (pos 0)) (sym p.1)) (le_true (whole (pos 0)) q (sym (both_of _ _ p.0).1))

count_by : (second : Bool) (n : ℕ) → in_range 2 (if second then 24 else 16) n ≡ true → (2 ≤ n) × (n ≤ 24)
count_by true n e = range_of 2 24 n e
count_by false n e = let r = range_of 2 16 n e in (r.0, omega (arith, r.1))

not_equal : (equal : Bool) → (not equal || false) ≡ true → equal ≡ false
not_equal false e = refl
not_equal true e = absurd (true≢false (sym e))

of_first : (a : Street) → in_range 2 (most_signals_in a.head.version) (count a) ≡ true
    → within (whole (pos 0)) (whole (most_share_in a.head.version)) a.head.least_out ≡ true → within (whole (pos 0)) (whole (most_share_in a.head.version)) a.head.least_in ≡ true
    → (not a.head.equal || a.head.version == 2) ≡ true → a.head.version ≡ 1 → IsOfFirst a
of_first a n o i q e = record {
  many = (range_of 2 16 (count a) (subst (λ v. in_range 2 (most_signals_in v) (count a) ≡ true) e n)).1;
  least_out = no_share a.head.least_out (subst (λ v. within (whole (pos 0)) (whole (most_share_in v)) a.head.least_out ≡ true) e o);
  least_in = no_share a.head.least_in (subst (λ v. within (whole (pos 0)) (whole (most_share_in v)) a.head.least_in ≡ true) e i);
  equal = not_equal a.head.equal (subst (λ v. (not a.head.equal || v == 2) ≡ true) e q);
}

-- ---- the whole artery
pub valid_of : (a : Street) → artery_fault a ≡ None → IsValid a
valid_of a e =
    let all = each_none (first_fault (range_tests a) ∷ first_fault (rule_tests a) ∷ []) e in
    let ranges = each_none (range_tests a) all.0 in
    let rules = each_none (rule_tests a) all.1.0 in
    let head = each_none (head_ranges a.head) ranges.1.1.0 in
    let version = range_of 1 2 a.head.version (passes_of _ _ _ ranges.0) in
    let signals = passes_of _ _ _ ranges.1.0 in
    let count_range = count_by (a.head.version == 2) (length a.signals) signals in
    let out = passes_of _ _ _ head.1.1.1.1.0 in
    let back = passes_of _ _ _ head.1.1.1.1.1.0 in
    let parts_range = range_of 2 3600 a.head.parts (passes_of _ _ _ head.1.0) in
    let cycle = artery_place (codes "cycle") in
    record {
      least_parts = parts_range.0;
      most_parts = parts_range.1;
      version_least = version.0;
      version_most = version.1;
      few = count_range.0;
      many = count_range.1;
      one_fewer = same_of (length a.links + 1) (length a.signals) (passes_of _ _ _ rules.0);
      each_signal = each_both (signal_ranges a.head.parts) (has_green a.head.parts) (IsSignal a.head.parts) (signal_of a.head.parts) 1 a.signals ranges.1.1.1.0 rules.1.1.1.0;
      each_link = each_both (link_ranges (length a.links)) link_limits IsLink (link_of (length a.links)) 1 a.links ranges.1.1.1.1.0 rules.1.1.1.1.1.0;
      cycle = pair_of (pos 1) (pos 3600) a.head.cycle cycle head.1.1.0 (order_of a.head.cycle cycle rules.1.1.1.1.0);
      ratio = quantity_of (pos 0) (pos 100) a.head.ratio (passes_of _ _ _ head.1.1.1.0);
      least_out = share_by (a.head.version == 2) a.head.least_out out;
      least_in = share_by (a.head.version == 2) a.head.least_in back;
      first = of_first a signals out back (passes_of _ _ _ head.1.1.1.1.1.1.0);
      no_fault = e;
    }
