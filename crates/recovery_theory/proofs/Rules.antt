-- The timing of a vertex whose block sums are whole and whose shifts are the signals' is good, and has the vertex's weighted band.
use Rattle.std.proofs.Common.{◌≡◌, ℕ, pos, ◌+◌, ◌-◌, ◌*◌, ◌<◌, ◌≤◌, List, [], ◌∷◌, refl, sym, ◌∙◌, ap, subst, arith, Ordering, Less, Equal, Greater, true, false, IsTrue}
use Rattle.std.proofs.lemmas.Int.{ints}
use Rattle.std.specs.Prelude.{Option, None, Some, IfSome, is_some, if◌then◌else◌}
use Rattle.std.specs.Ordering.{is_lt, MatchOrdering}
use Rattle.rational_theory.specs.Rational.{ℚ, neg_ℚ, inverse_ℚ, ◌-ℚ◌, ◌*ℚ◌, ◌/ℚ◌, ◌≤ℚ◌, ◌<ℚ◌}
use Rattle.rational_theory.proofs.Arithmetic.{*ℚ_assoc, *ℚ-zero}
use Rattle.rational_theory.proofs.Order.{≤ℚ_refl, <ℚ-≤ℚ, <ℚ_not-≤ℚ, *ℚ-inverse, above_not_zero, inverse_not_zero, ≤ℤ_whole}
use Rattle.rational_theory.specs.Compare.{cmp_ℚ}
use Rattle.rational_theory.proofs.Compare.{ranked_ℚ, cmp_ℚ-is}
use Rattle.rational_theory.proofs.Ring.{ring, at, lit, minus, Term, ◌⊕◌, ◌⊗◌, zero-*ℚ}
use Rattle.rational_theory.proofs.Linear.{Fact, AllHold, linear, gap_not_negative}
use Rattle.rational_theory.specs.Rows.{IsMet}
use Rattle.rational_theory.proofs.Rows.{≤ℚ-left}
use Rattle.rational_theory.proofs.Shares.{≤ℚ_cancel}
use Rattle.progression.specs.Street.{Street, count, red_parts, distance, HasSignal, HasLink, least_band}
use Rattle.progression.specs.Speeds.{number, run_low, run_high, change}
use Rattle.progression.specs.TimingRecord.{TimingRecord, base, band}
use Rattle.progression.specs.BaseRecord.{cycle, run}
use Rattle.progression.specs.Green.{BandIsGreen, red_start, red_ticks}
use Rattle.progression.specs.Lines.{crossing, line_at, IsGreenWay}
use Rattle.progression.specs.Good.{Good, RatioHolds, pace_change, HasEqualBands, HasLeastBand}
use Rattle.progression.specs.Best.{weighted_band}
use Rattle.progression.specs.Columns.{Frequency, RunOf}
use Rattle.progression.specs.declared.parts.Pair.{Pair}
use Rattle.progression.specs.declared.parts.Dir.{Dir}
use Rattle.progression.specs.declared.parts.Dir.TheVariants.{Outbound, Inbound}
use Rattle.linear_theory.proofs.Ranges.{some_signal}
use Rattle.linear_theory.specs.Boxes.{Area}
use Rattle.linear_theory.specs.Rows.{Form, minus_one, one_over, line, fast_form, slow_form, rise_form, drop_form, cycle_low_form, cycle_high_form}
use Rattle.linear_theory.specs.Rows.{ratio_below_form, ratio_above_form, goal_form, least_form, equal_low_form, equal_high_form}
use Rattle.linear_theory.specs.Names.{FastRow, SlowRow, RiseRow, DropRow, CycleLowRow, CycleHighRow, RatioRow, LeastRow, EqualLowRow, EqualHighRow, limits_form}
use Rattle.linear_theory.proofs.Terms.{one, less_one, zero_term}
use Rattle.linear_theory.proofs.SparseSums.{InOrder}
use Rattle.linear_theory.specs.Counts.{IsStreet}
use Rattle.linear_theory.proofs.Points.{share, length-numbered}
use Rattle.linear_theory.proofs.Divided.{number_above, inverse_not_negative, number_not_negative}
use Rattle.linear_theory.proofs.Windows.{window_after, window_before}
use Rattle.recovery_theory.specs.Ticks.{unit_of, ticks_of}
use Rattle.recovery_theory.specs.Placing.{pattern_at, timing_of}
use Rattle.recovery_theory.specs.Vertices.{IsLongVertex, IsWhole, goal_at}
use Rattle.recovery_theory.proofs.Multiples.{unit_least}
use Rattle.recovery_theory.proofs.Placed.{is_base}
use Rattle.recovery_theory.proofs.Ticked.{some_cycle, wait_ticks}
use Rattle.recovery_theory.proofs.Shown.{allowed, wait_is, sum_shown, row_shown}

not_none : (n : ℕ) → (n ≡ 0 → ⊥) → 1 ≤ n
not_none n f = grind (arith, f)

product_least : (r u : ℕ) → 1 ≤ r → 2 ≤ u → 2 ≤ r * u
product_least r u h k = grind arith

product_below : (r p u : ℕ) → r < p → 2 ≤ u → r * u < p * u
product_below r p u h k = grind arith

module _ (a : Street) (box : Area) (x : List ℚ) (h : IsStreet a) (v : IsLongVertex a box x) (w : IsWhole a x) where
  abbrev timing : TimingRecord
  timing = timing_of a x

  -- one over the cycle
  abbrev per_cycle : ℚ
  per_cycle = inverse_ℚ (number (cycle a (base timing)))

  cycle_some : number 0 <ℚ number (cycle a (base timing))
  cycle_some = number_above (cycle a (base timing)) (some_cycle a box x h v)

  per_cycle_some : per_cycle ≡ number 0 → ⊥
  per_cycle_some = inverse_not_zero (number (cycle a (base timing))) (above_not_zero _ cycle_some)

  -- an inequality over the cycle, times the cycle
  undivided : (y z : ℚ) → (y /ℚ number (cycle a (base timing))) ≤ℚ (z /ℚ number (cycle a (base timing))) → y ≤ℚ z
  undivided y z l = ≤ℚ_cancel y z per_cycle (inverse_not_negative _ cycle_some) per_cycle_some l

  cycle_over : number (cycle a (base timing)) /ℚ number (cycle a (base timing)) ≡ number 1
  cycle_over = *ℚ-inverse (number (cycle a (base timing))) (above_not_zero _ cycle_some)

  -- ---- the cycle
  pub cycle_least : (a.head.cycle.least *ℚ number timing.grid) ≤ℚ number (cycle a (base timing))
  cycle_least =
      let least = a.head.cycle.least in
      let n = above_not_zero least h.cycle_least in
      let row = row_shown a box x h v w (cycle_high_form a) (omega arith, tt, tt) (v.rows (CycleHighRow 0) refl) in
      let some : share a timing timing.grid ≤ℚ inverse_ℚ least =
      linear (record { count = 1; low = one ⊗ at 0 ⊕ zero_term; high = at 1 } ∷ []) 0 (at 0) (at 1) (share a timing timing.grid ∷ inverse_ℚ least ∷ []) (row, tt) refl in
      let times = ≤ℚ-left least _ _ (<ℚ-≤ℚ _ _ h.cycle_least) some in
      undivided _ _ (rw (cycle_over, *ℚ_assoc least (number timing.grid) per_cycle)
      (subst (λ y. (least *ℚ share a timing timing.grid) ≤ℚ y) (*ℚ-inverse least n) times))

  most_some : inverse_ℚ a.head.cycle.most ≤ℚ share a timing timing.grid
  most_some =
      let row = row_shown a box x h v w (cycle_low_form a) (omega arith, tt, tt) (v.rows (CycleLowRow 0) refl) in
      linear (record { count = 1; low = less_one ⊗ at 0 ⊕ zero_term; high = minus (at 1) } ∷ []) 0 (at 1) (at 0) (share a timing timing.grid ∷ inverse_ℚ a.head.cycle.most ∷ []) (row, tt) refl

  cycle_most : number (cycle a (base timing)) ≤ℚ (a.head.cycle.most *ℚ number timing.grid)
  cycle_most =
      let most = a.head.cycle.most in
      let n = above_not_zero most h.cycle_most in
      let times = ≤ℚ-left most _ _ (<ℚ-≤ℚ _ _ h.cycle_most) most_some in
      undivided _ _ (rw (cycle_over, *ℚ_assoc most (number timing.grid) per_cycle)
      (subst (λ y. y ≤ℚ (most *ℚ share a timing timing.grid)) (*ℚ-inverse most n) times))

  -- so there is a tick in a second
  grid_some : 1 ≤ timing.grid
  grid_some = not_none timing.grid (λ e.
      let c = some_cycle a box x h v in
      let l : number (cycle a (base timing)) ≤ℚ number 0 = subst (λ y. number (cycle a (base timing)) ≤ℚ y) (ap (λ g. a.head.cycle.most *ℚ number g) e ∙ *ℚ-zero a.head.cycle.most) cycle_most in
      let m = ≤ℤ_whole (pos (cycle a (base timing))) (pos 0) l in
      absurd (omega (arith, ints)))

  -- ---- runs
  -- the columns of a run's row stand in order
  run_in_order : (d : Dir) (i : ℕ) → HasLink a i → (f p : ℚ) → InOrder (count a) 0 ((Frequency, f) ∷ (RunOf d i, p) ∷ [])
  run_in_order Outbound i k f p = (omega arith, tt, (omega arith, k, tt))
  run_in_order Inbound i k f p = (omega arith, tt, (omega arith, k, tt))

  fast : (d : Dir) (i : ℕ) → HasLink a i → (run_low a d i *ℚ number timing.grid) ≤ℚ number (run (base timing) d i)
  fast d i s =
      let row = row_shown a box x h v w (fast_form a d i) (run_in_order d i s (run_low a d i) minus_one) (v.rows (FastRow d i) s) in
      undivided _ _ (linear (record { count = 1; low = at 0 ⊗ (at 1 ⊗ at 3) ⊕ (less_one ⊗ (at 2 ⊗ at 3) ⊕ zero_term); high = zero_term } ∷ []) 0
      (at 0 ⊗ at 1 ⊗ at 3) (at 2 ⊗ at 3) (run_low a d i ∷ number timing.grid ∷ number (run (base timing) d i) ∷ per_cycle ∷ []) (row, tt) refl)

  pub slow : (d : Dir) (i : ℕ) → HasLink a i → number (run (base timing) d i) ≤ℚ (run_high a d i *ℚ number timing.grid)
  slow d i s =
      let row = row_shown a box x h v w (slow_form a d i) (run_in_order d i s (neg_ℚ (run_high a d i)) (number 1)) (v.rows (SlowRow d i) s) in
      undivided _ _ (linear (record { count = 1; low = minus (at 0) ⊗ (at 1 ⊗ at 3) ⊕ (one ⊗ (at 2 ⊗ at 3) ⊕ zero_term); high = zero_term } ∷ []) 0
      (at 2 ⊗ at 3) (at 0 ⊗ at 1 ⊗ at 3) (run_high a d i ∷ number timing.grid ∷ number (run (base timing) d i) ∷ per_cycle ∷ []) (row, tt) refl)

  -- ---- changes of pace
  abbrev pace_values : Dir → ℕ → ℚ → List ℚ
  pace_values d i limit =
      limit ∷ number timing.grid ∷ number (run (base timing) d i) ∷ inverse_ℚ (number (distance a d i)) ∷ number (run (base timing) d (i + 1)) ∷ inverse_ℚ (number (distance a d (i + 1)))
      ∷ per_cycle ∷ []

  abbrev change_term : Term
  change_term = (at 4 ⊗ at 5 ⊕ minus (at 2 ⊗ at 3)) ⊗ at 6

  abbrev limit_term : Term
  limit_term = at 0 ⊗ at 1 ⊗ at 6

  abbrev rise_term : Term
  rise_term = minus (at 0) ⊗ (at 1 ⊗ at 6) ⊕ (minus (one ⊗ at 3) ⊗ (at 2 ⊗ at 6) ⊕ ((one ⊗ at 5) ⊗ (at 4 ⊗ at 6) ⊕ zero_term))

  abbrev drop_term : Term
  drop_term = at 0 ⊗ (at 1 ⊗ at 6) ⊕ ((one ⊗ at 3) ⊗ (at 2 ⊗ at 6) ⊕ (minus (one ⊗ at 5) ⊗ (at 4 ⊗ at 6) ⊕ zero_term))

  -- the columns of a change of pace stand in order
  pace_in_order : (d : Dir) (i : ℕ) → HasLink a i → HasLink a (i + 1) → (f p q : ℚ) → InOrder (count a) 0 ((Frequency, f) ∷ (RunOf d i, p) ∷ (RunOf d (i + 1), q) ∷ [])
  pace_in_order Outbound i k l f p q = (omega arith, tt, (omega arith, k, (omega arith, l, tt)))
  pace_in_order Inbound i k l f p q = (omega arith, tt, (omega arith, k, (omega arith, l, tt)))

  module _ (i : ℕ) (k : HasLink a i) (l : HasLink a (i + 1)) (c : Pair) where
    rise_holds : (d : Dir) → IsMet x (line a (rise_form a d i c)) → pace_change a (base timing) d i ≤ℚ (c.most *ℚ number timing.grid)
    rise_holds d m =
        let row = row_shown a box x h v w (rise_form a d i c) (pace_in_order d i k l (neg_ℚ c.most) (neg_ℚ (one_over a d i)) (one_over a d (i + 1))) m in
        undivided _ _ (linear (record { count = 1; low = rise_term; high = zero_term } ∷ []) 0 change_term limit_term (pace_values d i c.most) (row, tt) refl)

    drop_holds : (d : Dir) → IsMet x (line a (drop_form a d i c)) → (c.least *ℚ number timing.grid) ≤ℚ pace_change a (base timing) d i
    drop_holds d m =
        let row = row_shown a box x h v w (drop_form a d i c) (pace_in_order d i k l c.least (one_over a d i) (neg_ℚ (one_over a d (i + 1)))) m in
        undivided _ _ (linear (record { count = 1; low = drop_term; high = zero_term } ∷ []) 0 limit_term change_term (pace_values d i c.least) (row, tt) refl)

  -- where limits are given
  where_given : (P : Pair → Type 0) (f : Pair → Form) (o : Option Pair) → ((c : Pair) → IsMet x (line a (f c)) → P c) → (IsTrue (is_some o) → IsMet x (line a (limits_form f o))) → IfSome o P
  where_given P f None g m = tt
  where_given P f (Some c) g m = g c (m refl)

  rise : (d : Dir) (i : ℕ) → HasLink a i → HasLink a (i + 1) → IfSome (change a d i) (λ (c : Pair). pace_change a (base timing) d i ≤ℚ (c.most *ℚ number timing.grid))
  rise d i k l = where_given (λ (c : Pair). pace_change a (base timing) d i ≤ℚ (c.most *ℚ number timing.grid)) (rise_form a d i) (change a d i)
      (λ c m. rise_holds i k l c d m) (λ e. v.rows (RiseRow d i) (k, l, e))

  drop : (d : Dir) (i : ℕ) → HasLink a i → HasLink a (i + 1) → IfSome (change a d i) (λ (c : Pair). (c.least *ℚ number timing.grid) ≤ℚ pace_change a (base timing) d i)
  drop d i k l = where_given (λ (c : Pair). (c.least *ℚ number timing.grid) ≤ℚ pace_change a (base timing) d i) (drop_form a d i) (change a d i)
      (λ c m. drop_holds i k l c d m) (λ e. v.rows (DropRow d i) (k, l, e))

  -- ---- the ratio of the bands
  ratio_by : (k : ℚ) (out in_band : ℚ) (o : Ordering) → MatchOrdering o (k <ℚ number 1) (k ≡ number 1) (number 1 <ℚ k)
      → (k <ℚ number 1 → (k *ℚ out) ≤ℚ in_band) → (number 1 <ℚ k → in_band ≤ℚ (k *ℚ out)) → ((number 1 -ℚ k) *ℚ (k *ℚ out)) ≤ℚ ((number 1 -ℚ k) *ℚ in_band)
  ratio_by k out in_band Less l below above = ≤ℚ-left (number 1 -ℚ k) _ _ (gap_not_negative k (number 1) (<ℚ-≤ℚ _ _ l)) (below l)
  ratio_by k out in_band Equal e below above = rw e (linear [] 0 ((lit (pos 1) ⊕ minus (lit (pos 1))) ⊗ (lit (pos 1) ⊗ at 0)) ((lit (pos 1) ⊕ minus (lit (pos 1))) ⊗ at 1) (out ∷ in_band ∷ []) tt refl)
  ratio_by k out in_band Greater l below above =
      linear (record { count = 1; low = (at 0 ⊕ minus (lit (pos 1))) ⊗ at 2; high = (at 0 ⊕ minus (lit (pos 1))) ⊗ (at 0 ⊗ at 1) } ∷ []) 0
      ((lit (pos 1) ⊕ minus (at 0)) ⊗ (at 0 ⊗ at 1)) ((lit (pos 1) ⊕ minus (at 0)) ⊗ at 2) (k ∷ out ∷ in_band ∷ [])
      (≤ℚ-left (k -ℚ number 1) _ _ (gap_not_negative (number 1) k (<ℚ-≤ℚ _ _ l)) (above l), tt) refl

  ratio_below : a.head.ratio <ℚ number 1 → (a.head.ratio *ℚ number timing.band_out) ≤ℚ number timing.band_in
  ratio_below l =
      let e : is_lt (cmp_ℚ a.head.ratio (number 1)) ≡ true = ap is_lt (sym (cmp_ℚ-is a.head.ratio (number 1) Less l)) in
      let m : IsMet x (line a (ratio_below_form a)) = subst (λ b. IsMet x (line a (if b then ratio_below_form a else ratio_above_form a))) e
      (v.rows (RatioRow 0) (refl, λ q. <ℚ_not-≤ℚ _ _ l (rw q (≤ℚ_refl (number 1))))) in
      let row = row_shown a box x h v w (ratio_below_form a) (omega arith, tt, (omega arith, tt, tt)) m in
      undivided _ _ (linear (record { count = 1; low = at 0 ⊗ (at 1 ⊗ at 3) ⊕ (less_one ⊗ (at 2 ⊗ at 3) ⊕ zero_term); high = zero_term } ∷ []) 0
      (at 0 ⊗ at 1 ⊗ at 3) (at 2 ⊗ at 3) (a.head.ratio ∷ number timing.band_out ∷ number timing.band_in ∷ per_cycle ∷ []) (row, tt) refl)

  ratio_above : number 1 <ℚ a.head.ratio → number timing.band_in ≤ℚ (a.head.ratio *ℚ number timing.band_out)
  ratio_above l =
      let e : is_lt (cmp_ℚ a.head.ratio (number 1)) ≡ false = ap is_lt (sym (cmp_ℚ-is a.head.ratio (number 1) Greater l)) in
      let m : IsMet x (line a (ratio_above_form a)) = subst (λ b. IsMet x (line a (if b then ratio_below_form a else ratio_above_form a))) e
      (v.rows (RatioRow 0) (refl, λ q. <ℚ_not-≤ℚ _ _ l (rw q (≤ℚ_refl (number 1))))) in
      let row = row_shown a box x h v w (ratio_above_form a) (omega arith, tt, (omega arith, tt, tt)) m in
      undivided _ _ (linear (record { count = 1; low = minus (at 0) ⊗ (at 1 ⊗ at 3) ⊕ (one ⊗ (at 2 ⊗ at 3) ⊕ zero_term); high = zero_term } ∷ []) 0
      (at 2 ⊗ at 3) (at 0 ⊗ at 1 ⊗ at 3) (a.head.ratio ∷ number timing.band_out ∷ number timing.band_in ∷ per_cycle ∷ []) (row, tt) refl)

  ratio : RatioHolds a.head.ratio timing.band_out timing.band_in
  ratio = ratio_by a.head.ratio (number timing.band_out) (number timing.band_in) (cmp_ℚ a.head.ratio (number 1)) (ranked_ℚ a.head.ratio (number 1) (cmp_ℚ a.head.ratio (number 1)) refl)
      ratio_below ratio_above

  -- ---- least bands
  -- a band, as a share of the cycle, is at least the least one
  abbrev least_fact : Fact
  least_fact = record { count = 1; low = less_one ⊗ at 1 ⊕ zero_term; high = minus (at 0) }

  least_shown : (least : ℚ) (ticks : ℕ) → AllHold (least_fact ∷ []) (least ∷ share a timing ticks ∷ []) → (least *ℚ number (cycle a (base timing))) ≤ℚ number ticks
  least_shown least ticks row =
      undivided _ _ (subst (λ y. y ≤ℚ share a timing ticks)
      (sym (*ℚ_assoc least (number (cycle a (base timing))) per_cycle ∙ ap (λ y. least *ℚ y) cycle_over ∙ ring (at 0 ⊗ lit (pos 1)) (at 0) (least ∷ []) refl))
      (linear (least_fact ∷ []) 0 (at 0) (at 1) (least ∷ share a timing ticks ∷ []) row refl))

  least_from : (d : Dir) → (least_band a d ≡ number 0 → ⊥) → HasLeastBand a timing d
  least_from Outbound n = least_shown a.head.least_out timing.band_out (row_shown a box x h v w (least_form a Outbound) (omega arith, tt, tt) (v.rows (LeastRow Outbound 0) (refl, n)), tt)
  least_from Inbound n = least_shown a.head.least_in timing.band_in (row_shown a box x h v w (least_form a Inbound) (omega arith, tt, tt) (v.rows (LeastRow Inbound 0) (refl, n)), tt)

  -- where there is none, each band is wide enough
  least_none : (d : Dir) → least_band a d ≡ number 0 → HasLeastBand a timing d
  least_none d e = rw (e, zero-*ℚ (number (cycle a (base timing)))) (number_not_negative (band timing d))

  least_by : (d : Dir) (o : Ordering) → MatchOrdering o (least_band a d <ℚ number 0) (least_band a d ≡ number 0) (number 0 <ℚ least_band a d) → HasLeastBand a timing d
  least_by d Less l = least_from d (λ q. <ℚ_not-≤ℚ _ _ l (rw q (≤ℚ_refl (number 0))))
  least_by d Equal e = least_none d e
  least_by d Greater l = least_from d (λ q. <ℚ_not-≤ℚ _ _ l (rw q (≤ℚ_refl (number 0))))

  least : (d : Dir) → HasLeastBand a timing d
  least d = least_by d (cmp_ℚ (least_band a d) (number 0)) (ranked_ℚ (least_band a d) (number 0) (cmp_ℚ (least_band a d) (number 0)) refl)

  -- ---- equal bands
  equal : HasEqualBands a timing
  equal e =
      let low = row_shown a box x h v w equal_low_form (omega arith, tt, (omega arith, tt, tt)) (v.rows (EqualLowRow 0) (refl, e)) in
      let high = row_shown a box x h v w equal_high_form (omega arith, tt, (omega arith, tt, tt)) (v.rows (EqualHighRow 0) (refl, e)) in
      let l = ≤ℤ_whole (pos timing.band_out) (pos timing.band_in) (undivided _ _ (linear (record { count = 1; low = one ⊗ at 0 ⊕ (less_one ⊗ at 1 ⊕ zero_term); high = zero_term } ∷ []) 0
      (at 0) (at 1) (share a timing timing.band_out ∷ share a timing timing.band_in ∷ []) (low, tt) refl)) in
      let m = ≤ℤ_whole (pos timing.band_in) (pos timing.band_out) (undivided _ _ (linear (record { count = 1; low = less_one ⊗ at 0 ⊕ (one ⊗ at 1 ⊕ zero_term); high = zero_term } ∷ []) 0
      (at 1) (at 0) (share a timing timing.band_out ∷ share a timing timing.band_in ∷ []) (high, tt) refl)) in
      omega (arith, ints, l, m)

  -- ---- greens
  -- each red is two ticks long or more, and shorter than the cycle
  red_some : (d : Dir) (i : ℕ) → HasSignal a i → 2 ≤ red_ticks a (base timing) d i
  red_some d i s = product_least (red_parts a d i) (unit_of a x) (h.red d i s) (unit_least a x)

  red_less : (d : Dir) (i : ℕ) → HasSignal a i → red_ticks a (base timing) d i < cycle a (base timing)
  red_less d i s = product_below (red_parts a d i) a.head.parts (unit_of a x) (h.green d i s) (unit_least a x)

  -- each band is green at each signal, by its number
  green_at : (d : Dir) (i : ℕ) → HasSignal a i → BandIsGreen (cycle a (base timing)) (red_start a (base timing) d i) (red_ticks a (base timing) d i) (line_at a timing d i) (band timing d)
  green_at Outbound i s =
      let e = wait_is a box x h v w Outbound i s in
      let l = wait_ticks a box x h v Outbound i s in
      let r = red_less Outbound i s in
      (window_after (cycle a (base timing)) (red_ticks a (base timing) Outbound i) (red_start a (base timing) Outbound i) (line_at a timing Outbound i) timing.band_out
      (red_some Outbound i s) r).1 (omega arith)
  green_at Inbound i s =
      let e = wait_is a box x h v w Inbound i s in
      let l = wait_ticks a box x h v Inbound i s in
      let r = red_less Inbound i s in
      (window_before (cycle a (base timing)) (red_ticks a (base timing) Inbound i) (red_start a (base timing) Inbound i) (line_at a timing Inbound i) timing.band_in (red_some Inbound i s) r).1
      (omega arith)

  outbound : IsGreenWay a timing Outbound
  outbound j l =
      let e : j + 1 - 1 ≡ j = omega arith in
      subst (λ k. BandIsGreen (cycle a (base timing)) (red_start a (base timing) Outbound (j + 1)) (red_ticks a (base timing) Outbound (j + 1)) (crossing a timing Outbound k) timing.band_out)
      e (green_at Outbound (j + 1) (omega arith, omega arith))

  inbound : IsGreenWay a timing Inbound
  inbound j l =
      let e : count a - (count a - j) ≡ j = omega arith in
      subst (λ k. BandIsGreen (cycle a (base timing)) (red_start a (base timing) Inbound (count a - j)) (red_ticks a (base timing) Inbound (count a - j)) (crossing a timing Inbound k) timing.band_in)
      e (green_at Inbound (count a - j) (omega arith, omega arith))

  -- ---- all rules
  pub timing_good : Good a timing
  timing_good = record {
    base = record {
      formed = is_base a (unit_of a x) (ticks_of a x) (pattern_at a x) (some_signal a h) grid_some (unit_least a x);
      shape = length-numbered (count a) 1 (pattern_at a x);
      patterns = allowed a box x h v w;
      cycle_least = cycle_least;
      cycle_most = cycle_most;
      fast = fast;
      slow = slow;
      rise = rise;
      drop = drop;
    };
    ratio = ratio;
    least = least;
    equal = equal;
    outbound = outbound;
    inbound = inbound;
  }

  -- and the weighted band
  pub timing_band : weighted_band a timing ≡ goal_at a x
  timing_band = sym (sum_shown a box x h v w (goal_form a) (omega arith, tt, (omega arith, tt, tt))
      ∙ ring (lit (pos 1) ⊗ (at 0 ⊗ at 3) ⊕ (at 1 ⊗ (at 2 ⊗ at 3) ⊕ lit (pos 0))) ((at 0 ⊕ at 1 ⊗ at 2) ⊗ at 3)
      (number timing.band_out ∷ a.head.ratio ∷ number timing.band_in ∷ per_cycle ∷ []) refl)
