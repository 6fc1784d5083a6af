-- How many ticks the columns of a vertex have at most.
use Rattle.std.proofs.Common.{ℕ, pos, ◌*◌, ◌<◌, ◌≤◌, List, sym, subst, arith, mul-pos}
use Rattle.std.proofs.lemmas.Int.{ints}
use Rattle.rational_theory.specs.Rational.{ℚ, ◌*ℚ◌, ◌≤ℚ◌}
use Rattle.rational_theory.proofs.Order.{≤ℚ_trans, ≤ℚ-*ℚ, ≤ℤ_whole, whole-*ℤ}
use Rattle.rational_theory.proofs.Ring.{one-*ℚ}
use Rattle.progression.specs.Street.{Street, red_parts, HasSignal, HasLink}
use Rattle.progression.specs.TimingRecord.{base}
use Rattle.progression.specs.Speeds.{number, run_high}
use Rattle.progression.specs.BaseRecord.{cycle, run}
use Rattle.progression.specs.Columns.{BandOf, Frequency, WaitOf, RunOf}
use Rattle.progression.specs.declared.parts.Dir.{Dir}
use Rattle.linear_theory.proofs.Ranges.{some_signal}
use Rattle.linear_theory.specs.Boxes.{Area}
use Rattle.linear_theory.specs.Counts.{IsStreet}
use Rattle.linear_theory.proofs.Divided.{number_not_negative}
use Rattle.recovery_theory.specs.Ticks.{unit_of, ticks_of}
use Rattle.recovery_theory.specs.Placing.{pattern_at, timing_of}
use Rattle.recovery_theory.specs.Vertices.{IsLongVertex, IsWhole}
use Rattle.recovery_theory.proofs.Multiples.{unit_least}
use Rattle.recovery_theory.proofs.Placed.{run_is}
use Rattle.recovery_theory.proofs.Ticked.{wait_ticks}
use Rattle.recovery_theory.proofs.Rules.{timing_good}

number-≤ : (m n : ℕ) → number m ≤ℚ number n → m ≤ n
number-≤ m n h = let e = ≤ℤ_whole (pos m) (pos n) h in omega (arith, ints)

module _ (a : Street) (box : Area) (x : List ℚ) (h : IsStreet a) (v : IsLongVertex a box x) where
  -- a band is shorter than the cycle
  pub band_less : (d : Dir) → ticks_of a x (BandOf d) < a.head.parts * unit_of a x
  band_less d =
      let e = wait_ticks a box x h v d 1 (omega arith, (some_signal a h)) in
      let u = unit_least a x in
      let r : 0 < red_parts a d 1 * unit_of a x = mul-pos (h.red d 1 (omega arith, (some_signal a h))) (omega arith) in
      omega arith

  module _ (w : IsWhole a x) where
    -- where the cycle is a second or longer, a second is no longer than the cycle
    pub grid_most : number 1 ≤ℚ a.head.cycle.least → ticks_of a x Frequency ≤ a.head.parts * unit_of a x
    grid_most l =
        let g = timing_good a box x h v w in
        let t = timing_of a x in
        let m = ≤ℚ-*ℚ (number 1) a.head.cycle.least (number t.grid) l (number_not_negative t.grid) in
        number-≤ t.grid (cycle a (base t)) (≤ℚ_trans _ _ _ (subst (λ y. y ≤ℚ (a.head.cycle.least *ℚ number t.grid)) (one-*ℚ (number t.grid)) m) g.base.cycle_least)

    -- a run is no longer than so many seconds
    pub run_most : (d : Dir) (i seconds : ℕ) → HasLink a i → run_high a d i ≤ℚ number seconds → ticks_of a x (RunOf d i) ≤ seconds * ticks_of a x Frequency
    run_most d i seconds k l =
        let g = timing_good a box x h v w in
        let t = timing_of a x in
        let e = run_is a (unit_of a x) (ticks_of a x) (pattern_at a x) d i k in
        let m = ≤ℚ-*ℚ (run_high a d i) (number seconds) (number t.grid) l (number_not_negative t.grid) in
        let n : number (run (base t) d i) ≤ℚ number (seconds * t.grid) =
        ≤ℚ_trans _ _ _ (g.base.slow d i k) (subst (λ y. (run_high a d i *ℚ number t.grid) ≤ℚ y) (sym (whole-*ℤ (pos seconds) (pos t.grid))) m) in
        subst (λ r. r ≤ seconds * t.grid) e (number-≤ _ _ n)
