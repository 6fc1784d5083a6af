-- Each family's law: the point of a good timing of the box meets the row. Here the families of signals and links, cycle and bands.
use Rattle.std.proofs.Common.{◌≡◌, ◌≢◌, ℕ, ◌+◌, List, [], ◌∷◌, refl, arith, subst, true, false}
use Rattle.std.specs.Prelude.{if◌then◌else◌, Option, Some, IfSome}
use Rattle.std.specs.Ordering.{is_lt}
use Rattle.rational_theory.specs.Rational.{ℚ, inverse_ℚ, ◌<ℚ◌, ◌≤ℚ◌}
use Rattle.rational_theory.proofs.Order.{≤ℚ_antisymm, not-≤ℚ, ≤ℚ_refl}
use Rattle.rational_theory.specs.Compare.{cmp_ℚ}
use Rattle.rational_theory.proofs.Compare.{lt_true, lt_false}
use Rattle.rational_theory.proofs.Ring.{at, minus, Term, ◌⊕◌, ◌⊗◌}
use Rattle.rational_theory.proofs.Linear.{linear}
use Rattle.rational_theory.specs.Rows.{IsMet}
use Rattle.progression.specs.Street.{Street, distance, HasSignal, HasLink}
use Rattle.progression.specs.Speeds.{number, run_low, run_high, change}
use Rattle.progression.specs.TimingRecord.{TimingRecord, base}
use Rattle.progression.specs.BaseRecord.{cycle, run}
use Rattle.progression.specs.Good.{Good}
use Rattle.progression.specs.Columns.{wait, point}
use Rattle.progression.specs.declared.parts.Pair.{Pair}
use Rattle.progression.specs.declared.parts.Dir.{Dir}
use Rattle.progression.specs.declared.parts.Dir.TheVariants.{Outbound, Inbound}
use Rattle.linear_theory.specs.Blocks.{green_part}
use Rattle.linear_theory.specs.Rows.{line, wait_form, fast_form, slow_form, rise_form, drop_form, cycle_low_form, cycle_high_form, ratio_form}
use Rattle.linear_theory.specs.Rows.{ratio_below_form, ratio_above_form, least_form, equal_low_form, equal_high_form}
use Rattle.linear_theory.proofs.Terms.{one, less_one, zero_term, fact}
use Rattle.linear_theory.specs.Counts.{IsStreet}
use Rattle.linear_theory.proofs.Points.{share}
use Rattle.linear_theory.proofs.SparseSums.{line_met}
use Rattle.linear_theory.proofs.Ranges.{some_signal, wait_and_band}
use Rattle.linear_theory.proofs.Divided.{divided, frequency_least, frequency_most, fast_share, slow_share, share_least}
use Rattle.linear_theory.proofs.Ratios.{ratio_below, ratio_above}

-- what an option that is there holds of
some_holds : {X : Type 0} (P : X → Type 0) (o : Option X) (x : X) → o ≡ Some x → IfSome o P → P x
some_holds P o x e h = subst (λ o. IfSome o P) e h

module _ (a : Street) (t : TimingRecord) (h : IsStreet a) (g : Good a t) where
  -- a wait and its band fit into the green
  pub wait_law : (d : Dir) (i : ℕ) → HasSignal a i → IsMet (point a t) (line a (wait_form a d i))
  wait_law Outbound i s =
      line_met a t (wait_form a Outbound i) (some_signal a h) (omega arith, tt, (omega arith, s, tt))
      (linear (record { count = 1; low = at 0 ⊕ at 1; high = at 2 } ∷ []) 0 (one ⊗ at 1 ⊕ (one ⊗ at 0 ⊕ zero_term)) (at 2)
      (share a t (wait a t Outbound i) ∷ share a t t.band_out ∷ green_part a Outbound i ∷ []) (wait_and_band a t h g Outbound i s, tt) refl)
  wait_law Inbound i s =
      line_met a t (wait_form a Inbound i) (some_signal a h) (omega arith, tt, (omega arith, s, tt))
      (linear (record { count = 1; low = at 0 ⊕ at 1; high = at 2 } ∷ []) 0 (one ⊗ at 1 ⊕ (one ⊗ at 0 ⊕ zero_term)) (at 2)
      (share a t (wait a t Inbound i) ∷ share a t t.band_in ∷ green_part a Inbound i ∷ []) (wait_and_band a t h g Inbound i s, tt) refl)

  -- no run is faster than the greatest speed
  pub fast_law : (d : Dir) (i : ℕ) → HasLink a i → IsMet (point a t) (line a (fast_form a d i))
  fast_law Outbound i s =
      line_met a t (fast_form a Outbound i) (some_signal a h) (omega arith, tt, (omega arith, s, tt))
      (linear (record { count = 1; low = at 0 ⊗ at 1; high = at 2 } ∷ []) 0 (at 0 ⊗ at 1 ⊕ (less_one ⊗ at 2 ⊕ zero_term)) zero_term
      (run_low a Outbound i ∷ share a t t.grid ∷ share a t (run (base t) Outbound i) ∷ []) (fast_share a t h g Outbound i s, tt) refl)
  fast_law Inbound i s =
      line_met a t (fast_form a Inbound i) (some_signal a h) (omega arith, tt, (omega arith, s, tt))
      (linear (record { count = 1; low = at 0 ⊗ at 1; high = at 2 } ∷ []) 0 (at 0 ⊗ at 1 ⊕ (less_one ⊗ at 2 ⊕ zero_term)) zero_term
      (run_low a Inbound i ∷ share a t t.grid ∷ share a t (run (base t) Inbound i) ∷ []) (fast_share a t h g Inbound i s, tt) refl)

  -- and none slower than the least
  pub slow_law : (d : Dir) (i : ℕ) → HasLink a i → IsMet (point a t) (line a (slow_form a d i))
  slow_law Outbound i s =
      line_met a t (slow_form a Outbound i) (some_signal a h) (omega arith, tt, (omega arith, s, tt))
      (linear (record { count = 1; low = at 2; high = at 0 ⊗ at 1 } ∷ []) 0 (minus (at 0) ⊗ at 1 ⊕ (one ⊗ at 2 ⊕ zero_term)) zero_term
      (run_high a Outbound i ∷ share a t t.grid ∷ share a t (run (base t) Outbound i) ∷ []) (slow_share a t h g Outbound i s, tt) refl)
  slow_law Inbound i s =
      line_met a t (slow_form a Inbound i) (some_signal a h) (omega arith, tt, (omega arith, s, tt))
      (linear (record { count = 1; low = at 2; high = at 0 ⊗ at 1 } ∷ []) 0 (minus (at 0) ⊗ at 1 ⊕ (one ⊗ at 2 ⊕ zero_term)) zero_term
      (run_high a Inbound i ∷ share a t t.grid ∷ share a t (run (base t) Inbound i) ∷ []) (slow_share a t h g Inbound i s, tt) refl)

  module _ (i : ℕ) (k : HasLink a i) (l : HasLink a (i + 1)) (c : Pair) where
    -- the limit, the frequency's ticks, each run and one over its distance, one over the cycle
    abbrev pace_values : Dir → ℚ → List ℚ
    pace_values d limit =
        limit ∷ number t.grid ∷ number (run (base t) d i) ∷ inverse_ℚ (number (distance a d i)) ∷ number (run (base t) d (i + 1)) ∷ inverse_ℚ (number (distance a d (i + 1)))
        ∷ inverse_ℚ (number (cycle a (base t))) ∷ []

    -- the change of pace and its limit, over the cycle
    abbrev change_term : Term
    change_term = (at 4 ⊗ at 5 ⊕ minus (at 2 ⊗ at 3)) ⊗ at 6

    abbrev limit_term : Term
    limit_term = at 0 ⊗ at 1 ⊗ at 6

    -- the pace rises no more than the limit
    pub rise_law : (d : Dir) → change a d i ≡ Some c → IsMet (point a t) (line a (rise_form a d i c))
    rise_law Outbound e =
        line_met a t (rise_form a Outbound i c) (some_signal a h) (omega arith, tt, (omega arith, k, (omega arith, l, tt)))
        (linear (record { count = 1; low = change_term; high = limit_term } ∷ []) 0
        (minus (at 0) ⊗ (at 1 ⊗ at 6) ⊕ (minus (one ⊗ at 3) ⊗ (at 2 ⊗ at 6) ⊕ ((one ⊗ at 5) ⊗ (at 4 ⊗ at 6) ⊕ zero_term))) zero_term
        (pace_values Outbound c.most) (divided a t h g _ _ (some_holds _ (change a Outbound i) c e (g.base.rise Outbound i k l)), tt) refl)
    rise_law Inbound e =
        line_met a t (rise_form a Inbound i c) (some_signal a h) (omega arith, tt, (omega arith, k, (omega arith, l, tt)))
        (linear (record { count = 1; low = change_term; high = limit_term } ∷ []) 0
        (minus (at 0) ⊗ (at 1 ⊗ at 6) ⊕ (minus (one ⊗ at 3) ⊗ (at 2 ⊗ at 6) ⊕ ((one ⊗ at 5) ⊗ (at 4 ⊗ at 6) ⊕ zero_term))) zero_term
        (pace_values Inbound c.most) (divided a t h g _ _ (some_holds _ (change a Inbound i) c e (g.base.rise Inbound i k l)), tt) refl)

    -- and drops no more
    pub drop_law : (d : Dir) → change a d i ≡ Some c → IsMet (point a t) (line a (drop_form a d i c))
    drop_law Outbound e =
        line_met a t (drop_form a Outbound i c) (some_signal a h) (omega arith, tt, (omega arith, k, (omega arith, l, tt)))
        (linear (record { count = 1; low = limit_term; high = change_term } ∷ []) 0
        (at 0 ⊗ (at 1 ⊗ at 6) ⊕ ((one ⊗ at 3) ⊗ (at 2 ⊗ at 6) ⊕ (minus (one ⊗ at 5) ⊗ (at 4 ⊗ at 6) ⊕ zero_term))) zero_term
        (pace_values Outbound c.least) (divided a t h g _ _ (some_holds _ (change a Outbound i) c e (g.base.drop Outbound i k l)), tt) refl)
    drop_law Inbound e =
        line_met a t (drop_form a Inbound i c) (some_signal a h) (omega arith, tt, (omega arith, k, (omega arith, l, tt)))
        (linear (record { count = 1; low = limit_term; high = change_term } ∷ []) 0
        (at 0 ⊗ (at 1 ⊗ at 6) ⊕ ((one ⊗ at 3) ⊗ (at 2 ⊗ at 6) ⊕ (minus (one ⊗ at 5) ⊗ (at 4 ⊗ at 6) ⊕ zero_term))) zero_term
        (pace_values Inbound c.least) (divided a t h g _ _ (some_holds _ (change a Inbound i) c e (g.base.drop Inbound i k l)), tt) refl)

  -- the cycle is no longer than its limit
  pub cycle_low_law : IsMet (point a t) (line a (cycle_low_form a))
  cycle_low_law =
      line_met a t (cycle_low_form a) (some_signal a h) (omega arith, tt, tt)
      (linear (fact 0 1 ∷ []) 0 (less_one ⊗ at 1 ⊕ zero_term) (minus (at 0))
      (inverse_ℚ a.head.cycle.most ∷ share a t t.grid ∷ []) (frequency_least a t h g, tt) refl)

  -- and no shorter
  pub cycle_high_law : IsMet (point a t) (line a (cycle_high_form a))
  cycle_high_law =
      line_met a t (cycle_high_form a) (some_signal a h) (omega arith, tt, tt)
      (linear (fact 1 0 ∷ []) 0 (one ⊗ at 1 ⊕ zero_term) (at 0)
      (inverse_ℚ a.head.cycle.least ∷ share a t t.grid ∷ []) (frequency_most a t h g, tt) refl)

  -- ---- the ratio of the bands
  -- below 1
  ratio_below_law : a.head.ratio <ℚ number 1 → IsMet (point a t) (line a (ratio_below_form a))
  ratio_below_law w =
      line_met a t (ratio_below_form a) (some_signal a h) (omega arith, tt, (omega arith, tt, tt))
      (linear (record { count = 1; low = at 0 ⊗ at 1; high = at 2 } ∷ []) 0 (at 0 ⊗ at 1 ⊕ (less_one ⊗ at 2 ⊕ zero_term)) zero_term
      (a.head.ratio ∷ share a t t.band_out ∷ share a t t.band_in ∷ []) (ratio_below a t h g w, tt) refl)

  -- above 1
  ratio_above_law : number 1 <ℚ a.head.ratio → IsMet (point a t) (line a (ratio_above_form a))
  ratio_above_law w =
      line_met a t (ratio_above_form a) (some_signal a h) (omega arith, tt, (omega arith, tt, tt))
      (linear (record { count = 1; low = at 2; high = at 0 ⊗ at 1 } ∷ []) 0 (minus (at 0) ⊗ at 1 ⊕ (one ⊗ at 2 ⊕ zero_term)) zero_term
      (a.head.ratio ∷ share a t t.band_out ∷ share a t t.band_in ∷ []) (ratio_above a t h g w, tt) refl)

  -- in both cases
  pub ratio_law : a.head.ratio ≢ number 1 → IsMet (point a t) (line a (ratio_form a))
  ratio_law n =
      elim (is_lt (cmp_ℚ a.head.ratio (number 1))) as (λ b. b ≡ is_lt (cmp_ℚ a.head.ratio (number 1)) → IsMet (point a t) (line a (if b then ratio_below_form a else ratio_above_form a))) [
        | true ↦ λ e. ratio_below_law (lt_true a.head.ratio (number 1) e)
        | false ↦ λ e. ratio_above_law (not-≤ℚ _ _ (λ l. n (≤ℚ_antisymm _ _ l (lt_false a.head.ratio (number 1) e))))
      ] refl

  -- ---- the least bands, and equal bands
  pub least_law : (d : Dir) → IsMet (point a t) (line a (least_form a d))
  least_law Outbound =
      line_met a t (least_form a Outbound) (some_signal a h) (omega arith, tt, tt)
      (linear (fact 0 1 ∷ []) 0 (less_one ⊗ at 1 ⊕ zero_term) (minus (at 0))
      (a.head.least_out ∷ share a t t.band_out ∷ []) (share_least a t h g a.head.least_out t.band_out (g.least Outbound), tt) refl)
  least_law Inbound =
      line_met a t (least_form a Inbound) (some_signal a h) (omega arith, tt, tt)
      (linear (fact 0 1 ∷ []) 0 (less_one ⊗ at 1 ⊕ zero_term) (minus (at 0))
      (a.head.least_in ∷ share a t t.band_in ∷ []) (share_least a t h g a.head.least_in t.band_in (g.least Inbound), tt) refl)

  pub equal_low_law : a.head.equal ≡ true → IsMet (point a t) (line a equal_low_form)
  equal_low_law e =
      line_met a t equal_low_form (some_signal a h) (omega arith, tt, (omega arith, tt, tt))
      (linear (fact 0 1 ∷ []) 0 (one ⊗ at 0 ⊕ (less_one ⊗ at 1 ⊕ zero_term)) zero_term
      (share a t t.band_out ∷ share a t t.band_in ∷ []) (subst (λ n. share a t t.band_out ≤ℚ share a t n) (g.equal e) (≤ℚ_refl (share a t t.band_out)), tt) refl)

  pub equal_high_law : a.head.equal ≡ true → IsMet (point a t) (line a equal_high_form)
  equal_high_law e =
      line_met a t equal_high_form (some_signal a h) (omega arith, tt, (omega arith, tt, tt))
      (linear (fact 1 0 ∷ []) 0 (less_one ⊗ at 0 ⊕ (one ⊗ at 1 ⊕ zero_term)) zero_term
      (share a t t.band_out ∷ share a t t.band_in ∷ []) (subst (λ n. share a t n ≤ℚ share a t t.band_out) (g.equal e) (≤ℚ_refl (share a t t.band_out)), tt) refl)
