-- The worked vertices, computed.
use Rattle.std.proofs.Common.{◌≡◌, ℕ, zero, suc, ◌+◌, refl, sym, arith, true, true≢false}
use Rattle.std.specs.Ordering.{is_le}
use Rattle.rational_theory.specs.Rational.{ℚ, whole, over, inverse_ℚ, neg_ℚ, ◌+ℚ◌, ◌*ℚ◌, ◌/ℚ◌, ◌≤ℚ◌}
use Rattle.rational_theory.specs.Compare.{cmp_ℚ}
use Rattle.rational_theory.proofs.Compare.{le_true}
use Rattle.rational_theory.specs.Gcd.{gcd}
use Rattle.rational_theory.specs.Floor.{floor_ℚ, ceil_ℚ}
use Rattle.rational_theory.specs.Rows.{dot, IsMet, AllNonNegative}
use Rattle.progression.specs.Street.{HasSignal, HasLink}
use Rattle.progression.specs.Speeds.{number}
use Rattle.progression.specs.Worked.{one_way}
use Rattle.progression.specs.declared.parts.Dir.TheVariants.{Outbound, Inbound}
use Rattle.linear_theory.specs.Boxes.{root_box}
use Rattle.linear_theory.specs.Rows.{line}
use Rattle.linear_theory.specs.Names.{Name, WaitRow, FastRow, SlowRow, RiseRow, DropRow, CycleLowRow, CycleHighRow, RatioRow, LoopLowRow, LoopHighRow}
use Rattle.linear_theory.specs.Names.{TurnLowRow, TurnHighRow, LeastRow, EqualLowRow, EqualHighRow, NoRow, HasRow, form_of}
use Rattle.linear_theory.specs.Worked.{apart}
use Rattle.recovery_theory.specs.Ticks.{common, unit_of, ticks_in}
use Rattle.recovery_theory.specs.Placing.{pattern_at, timing_of}
use Rattle.recovery_theory.specs.Vertices.{IsVertex}
use Rattle.recovery_theory.specs.Worked.{quarter_point, quarter_box, WorkedVertices}

quarter_timing : timing_of (apart 250) (quarter_point (number 1 /ℚ number 2)) ≡ one_way 1
unfolding whole over inverse_ℚ neg_ℚ ◌+ℚ◌ ◌*ℚ◌ gcd floor_ℚ common unit_of ticks_in pattern_at
quarter_timing = refl

-- ---- rows, one by one
each_signal : (P : ℕ → Type 0) → P 1 → P 2 → (i : ℕ) → HasSignal (apart 250) i → P i
each_signal P p q zero h = absurd (omega (arith, h.0))
each_signal P p q (suc zero) h = p
each_signal P p q (suc (suc zero)) h = q
each_signal P p q (suc (suc (suc i))) h = absurd (omega (arith, h.1))

each_link : (P : ℕ → Type 0) → P 1 → (i : ℕ) → HasLink (apart 250) i → P i
each_link P p zero h = absurd (omega (arith, h.0))
each_link P p (suc zero) h = p
each_link P p (suc (suc i)) h = absurd (omega (arith, h.1))

no_next_link : (i : ℕ) → HasLink (apart 250) i → HasLink (apart 250) (i + 1) → ⊥
no_next_link i h k = absurd (omega (arith, h.0, k.1))

-- a row of the part that is met
quarter_met : (n : Name) → is_le (cmp_ℚ (dot (line (apart 250) (form_of (apart 250) quarter_box n)).coefs (quarter_point (number 1 /ℚ number 2))) (form_of (apart 250) quarter_box n).bound)
    ≡ true → IsMet (quarter_point (number 1 /ℚ number 2)) (line (apart 250) (form_of (apart 250) quarter_box n))
quarter_met n e = record { met = le_true _ _ (sym e) }

quarter_rows : (n : Name) → HasRow (apart 250) n → IsMet (quarter_point (number 1 /ℚ number 2)) (line (apart 250) (form_of (apart 250) quarter_box n))
unfolding whole over inverse_ℚ neg_ℚ ◌+ℚ◌ ◌*ℚ◌ gcd floor_ℚ ceil_ℚ cmp_ℚ
quarter_rows (WaitRow Outbound i) h = each_signal (λ i. IsMet (quarter_point (number 1 /ℚ number 2)) (line (apart 250) (form_of (apart 250) quarter_box (WaitRow Outbound i))))
    (quarter_met (WaitRow Outbound 1) refl) (quarter_met (WaitRow Outbound 2) refl) i h
quarter_rows (WaitRow Inbound i) h = each_signal (λ i. IsMet (quarter_point (number 1 /ℚ number 2)) (line (apart 250) (form_of (apart 250) quarter_box (WaitRow Inbound i))))
    (quarter_met (WaitRow Inbound 1) refl) (quarter_met (WaitRow Inbound 2) refl) i h
quarter_rows (FastRow Outbound i) h = each_link (λ i. IsMet (quarter_point (number 1 /ℚ number 2)) (line (apart 250) (form_of (apart 250) quarter_box (FastRow Outbound i))))
    (quarter_met (FastRow Outbound 1) refl) i h
quarter_rows (FastRow Inbound i) h = each_link (λ i. IsMet (quarter_point (number 1 /ℚ number 2)) (line (apart 250) (form_of (apart 250) quarter_box (FastRow Inbound i))))
    (quarter_met (FastRow Inbound 1) refl) i h
quarter_rows (SlowRow Outbound i) h = each_link (λ i. IsMet (quarter_point (number 1 /ℚ number 2)) (line (apart 250) (form_of (apart 250) quarter_box (SlowRow Outbound i))))
    (quarter_met (SlowRow Outbound 1) refl) i h
quarter_rows (SlowRow Inbound i) h = each_link (λ i. IsMet (quarter_point (number 1 /ℚ number 2)) (line (apart 250) (form_of (apart 250) quarter_box (SlowRow Inbound i))))
    (quarter_met (SlowRow Inbound 1) refl) i h
quarter_rows (RiseRow d i) h = absurd (no_next_link i h.0 h.1)
quarter_rows (DropRow d i) h = absurd (no_next_link i h.0 h.1)
quarter_rows (CycleLowRow i) h = quarter_met (CycleLowRow i) refl
quarter_rows (CycleHighRow i) h = quarter_met (CycleHighRow i) refl
quarter_rows (RatioRow i) h = absurd (h.1 refl)
quarter_rows (LoopLowRow i) h = each_link (λ i. IsMet (quarter_point (number 1 /ℚ number 2)) (line (apart 250) (form_of (apart 250) quarter_box (LoopLowRow i)))) (quarter_met (LoopLowRow 1) refl) i h
quarter_rows (LoopHighRow i) h = each_link (λ i. IsMet (quarter_point (number 1 /ℚ number 2)) (line (apart 250) (form_of (apart 250) quarter_box (LoopHighRow i))))
    (quarter_met (LoopHighRow 1) refl) i h
quarter_rows (TurnLowRow i) h = each_signal (λ i. IsMet (quarter_point (number 1 /ℚ number 2)) (line (apart 250) (form_of (apart 250) quarter_box (TurnLowRow i))))
    (quarter_met (TurnLowRow 1) refl) (quarter_met (TurnLowRow 2) refl) i h
quarter_rows (TurnHighRow i) h = each_signal (λ i. IsMet (quarter_point (number 1 /ℚ number 2)) (line (apart 250) (form_of (apart 250) quarter_box (TurnHighRow i))))
    (quarter_met (TurnHighRow 1) refl) (quarter_met (TurnHighRow 2) refl) i h
quarter_rows (LeastRow Outbound i) h = absurd (h.1 refl)
quarter_rows (LeastRow Inbound i) h = absurd (h.1 refl)
quarter_rows (EqualLowRow i) h = absurd (true≢false (sym h.1))
quarter_rows (EqualHighRow i) h = absurd (true≢false (sym h.1))
quarter_rows NoRow h = absurd h

-- a row of the root box that is met
root_met : (n : Name) → is_le (cmp_ℚ (dot (line (apart 250) (form_of (apart 250) (root_box (apart 250)) n)).coefs (quarter_point (number 0)))
    (form_of (apart 250) (root_box (apart 250)) n).bound) ≡ true → IsMet (quarter_point (number 0)) (line (apart 250) (form_of (apart 250) (root_box (apart 250)) n))
root_met n e = record { met = le_true _ _ (sym e) }

root_rows : (n : Name) → HasRow (apart 250) n → IsMet (quarter_point (number 0)) (line (apart 250) (form_of (apart 250) (root_box (apart 250)) n))
unfolding whole over inverse_ℚ neg_ℚ ◌+ℚ◌ ◌*ℚ◌ gcd floor_ℚ ceil_ℚ cmp_ℚ
root_rows (WaitRow Outbound i) h = each_signal (λ i. IsMet (quarter_point (number 0)) (line (apart 250) (form_of (apart 250) (root_box (apart 250)) (WaitRow Outbound i))))
    (root_met (WaitRow Outbound 1) refl) (root_met (WaitRow Outbound 2) refl) i h
root_rows (WaitRow Inbound i) h = each_signal (λ i. IsMet (quarter_point (number 0)) (line (apart 250) (form_of (apart 250) (root_box (apart 250)) (WaitRow Inbound i))))
    (root_met (WaitRow Inbound 1) refl) (root_met (WaitRow Inbound 2) refl) i h
root_rows (FastRow Outbound i) h = each_link (λ i. IsMet (quarter_point (number 0)) (line (apart 250) (form_of (apart 250) (root_box (apart 250)) (FastRow Outbound i))))
    (root_met (FastRow Outbound 1) refl) i h
root_rows (FastRow Inbound i) h = each_link (λ i. IsMet (quarter_point (number 0)) (line (apart 250) (form_of (apart 250) (root_box (apart 250)) (FastRow Inbound i))))
    (root_met (FastRow Inbound 1) refl) i h
root_rows (SlowRow Outbound i) h = each_link (λ i. IsMet (quarter_point (number 0)) (line (apart 250) (form_of (apart 250) (root_box (apart 250)) (SlowRow Outbound i))))
    (root_met (SlowRow Outbound 1) refl) i h
root_rows (SlowRow Inbound i) h = each_link (λ i. IsMet (quarter_point (number 0)) (line (apart 250) (form_of (apart 250) (root_box (apart 250)) (SlowRow Inbound i))))
    (root_met (SlowRow Inbound 1) refl) i h
root_rows (RiseRow d i) h = absurd (no_next_link i h.0 h.1)
root_rows (DropRow d i) h = absurd (no_next_link i h.0 h.1)
root_rows (CycleLowRow i) h = root_met (CycleLowRow i) refl
root_rows (CycleHighRow i) h = root_met (CycleHighRow i) refl
root_rows (RatioRow i) h = absurd (h.1 refl)
root_rows (LoopLowRow i) h = each_link (λ i. IsMet (quarter_point (number 0)) (line (apart 250) (form_of (apart 250) (root_box (apart 250)) (LoopLowRow i)))) (root_met (LoopLowRow 1) refl) i h
root_rows (LoopHighRow i) h = each_link (λ i. IsMet (quarter_point (number 0)) (line (apart 250) (form_of (apart 250) (root_box (apart 250)) (LoopHighRow i)))) (root_met (LoopHighRow 1) refl) i h
root_rows (TurnLowRow i) h = each_signal (λ i. IsMet (quarter_point (number 0)) (line (apart 250) (form_of (apart 250) (root_box (apart 250)) (TurnLowRow i))))
    (root_met (TurnLowRow 1) refl) (root_met (TurnLowRow 2) refl) i h
root_rows (TurnHighRow i) h = each_signal (λ i. IsMet (quarter_point (number 0)) (line (apart 250) (form_of (apart 250) (root_box (apart 250)) (TurnHighRow i))))
    (root_met (TurnHighRow 1) refl) (root_met (TurnHighRow 2) refl) i h
root_rows (LeastRow Outbound i) h = absurd (h.1 refl)
root_rows (LeastRow Inbound i) h = absurd (h.1 refl)
root_rows (EqualLowRow i) h = absurd (true≢false (sym h.1))
root_rows (EqualHighRow i) h = absurd (true≢false (sym h.1))
root_rows NoRow h = absurd h

-- no value is below 0
at_least_zero : (y : ℚ) → is_le (cmp_ℚ (number 0) y) ≡ true → number 0 ≤ℚ y
at_least_zero y e = le_true _ _ (sym e)

quarter_not_negative : (y : ℚ) → number 0 ≤ℚ y → AllNonNegative (quarter_point y)
unfolding whole over inverse_ℚ neg_ℚ ◌+ℚ◌ ◌*ℚ◌ gcd cmp_ℚ
quarter_not_negative y h = (
  at_least_zero (number 1 /ℚ number 2) refl,
  (
    at_least_zero (number 0) refl,
    (
      at_least_zero (number 1 /ℚ number 100) refl,
      (
        at_least_zero (number 0) refl,
        (
          at_least_zero (number 0) refl,
          (
            at_least_zero (number 0) refl,
            (
              h,
              (at_least_zero (number 1 /ℚ number 4) refl, (at_least_zero (number 1 /ℚ number 4) refl, (at_least_zero (number 0) refl, (at_least_zero (number 0) refl, tt)))),
            ),
          ),
        ),
      ),
    ),
  ),
)

quarter_is : IsVertex (apart 250) quarter_box (quarter_point (number 1 /ℚ number 2))
unfolding whole over inverse_ℚ neg_ℚ ◌+ℚ◌ ◌*ℚ◌ gcd cmp_ℚ
quarter_is = record { columns = refl; not_negative = quarter_not_negative (number 1 /ℚ number 2) (at_least_zero (number 1 /ℚ number 2) refl); rows = quarter_rows }

root_is : IsVertex (apart 250) (root_box (apart 250)) (quarter_point (number 0))
unfolding whole over inverse_ℚ neg_ℚ ◌+ℚ◌ ◌*ℚ◌ gcd cmp_ℚ
root_is = record { columns = refl; not_negative = quarter_not_negative (number 0) (at_least_zero (number 0) refl); rows = root_rows }

pub worked_vertices : WorkedVertices
worked_vertices = record { quarter_vertex = quarter_is; root_vertex = root_is; quarter_apart = quarter_timing }
