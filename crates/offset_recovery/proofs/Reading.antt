-- What is read of a vertex is the outcome, and sound.
use Rattle.std.proofs.Common.{◌≡◌, ◌⊎◌, inl, inr, List, Option, Some, None, Result, Ok, Err, IfOk, refl, sym, ◌∙◌, ap, subst}
use Rattle.rational_theory.specs.Rational.{ℚ}
use Rattle.progression.specs.Street.{Street}
use Rattle.progression.specs.TimingRecord.{TimingRecord}
use Rattle.progression.specs.Good.{Good}
use Rattle.progression.specs.Best.{weighted_band}
use Rattle.linear_theory.specs.Boxes.{Area, IsBoxOf}
use Rattle.linear_theory.specs.Counts.{IsStreet}
use Rattle.recovery_theory.specs.Placing.{timing_of}
use Rattle.recovery_theory.specs.Vertices.{IsLongVertex, goal_at}
use Rattle.recovery_theory.proofs.Rules.{timing_good, timing_band}
use Rattle.offset_recovery.specs.declared.outcome.WideTiming.{WideTiming}
use Rattle.offset_recovery.specs.declared.outcome.Recovered.{Recovered}
use Rattle.offset_recovery.specs.declared.outcome.Recovered.TheVariants as is
use Rattle.offset_recovery.specs.declared.outcome.RecoverFault.{RecoverFault}
use Rattle.offset_recovery.specs.declared.outcome.RecoverFault.TheVariants as fault
use Rattle.offset_recovery.specs.Outcomes.{Outcome, Refused, Splits, Gives, with_timing}
use Rattle.offset_recovery.specs.Recovered.{box_tests, column_tests, number_tests_by, recovered_by, recovered}
use Rattle.offset_recovery.specs.Answers.{Answers, IsRead, IsOutcome, IsSound}
use Rattle.offset_recovery.proofs.Whole.{by_first, by_wide, by_timing, gives_timing, splits_place, whole_of, place_within, long_inside}

-- what stops the timing stops the reading
pub read_fault : {T : Type 0} (a : Street) (box : Area) (x : List ℚ) (columns : Option WideTiming) (t : T) (f : RecoverFault)
    → box_tests a box x ≡ None → Answers (number_tests_by a x columns) (λ (s : T). s ≡ t) (Err f) → IsRead a box x columns t (Err f)
read_fault a box x columns t (fault.Wide w) h k = inr (h, k)
read_fault a box x columns t fault.Memory h k = tt

-- a timing that is made of the one of the lines
pub read_outcome : {T : Type 0} (f : TimingRecord → T) (a : Street) (box : Area) (x : List ℚ) (columns : Option WideTiming) (r : Result (Recovered T) RecoverFault)
    → IsRead a box x columns (f (timing_of a x)) r → IsOutcome (with_timing f (recovered_by a box x (number_tests_by a x columns))) r
read_outcome f a box x columns (Ok (is.Timing t)) h = ap (with_timing f) (by_timing a box x (number_tests_by a x columns) h.0 h.1) ∙ ap Gives (sym h.2)
read_outcome f a box x columns (Ok (is.SplitAt place)) h = ap (with_timing f) (by_first a box x (number_tests_by a x columns) (Splits place) h)
read_outcome f a box x columns (Err (fault.Wide w)) (inl h) = ap (with_timing f) (by_first a box x (number_tests_by a x columns) (Refused w) h)
read_outcome f a box x columns (Err (fault.Wide w)) (inr h) = ap (with_timing f) (by_wide a box x (number_tests_by a x columns) w h.0 h.1)
read_outcome f a box x columns (Err fault.Memory) h = tt

-- that one itself
own_timing : (o : Outcome TimingRecord) → with_timing (λ (t : TimingRecord). t) o ≡ o
own_timing (Refused w) = refl
own_timing (Splits place) = refl
own_timing (Gives t) = refl

module _ (a : Street) (box : Area) (x : List ℚ) where
  pub read_recovered : (r : Result (Recovered TimingRecord) RecoverFault) → IsRead a box x (column_tests a x) (timing_of a x) r → IsOutcome (recovered a box x) r
  unfolding recovered
  read_recovered r h = subst (λ o. IsOutcome o r) (own_timing (recovered_by a box x (number_tests_by a x (column_tests a x)))) (read_outcome (λ t. t) a box x (column_tests a x) r h)

  module _ (h : IsStreet a) (b : IsBoxOf a box) (v : IsLongVertex a box x) where
    pub recovered_sound : (r : Result (Recovered TimingRecord) RecoverFault) → IsOutcome (recovered a box x) r → IfOk r (IsSound a box x)
    recovered_sound (Ok (is.Timing t)) e =
        let g = gives_timing a box x t e in
        let w = whole_of a box x b g.0 in
        subst (λ t. Good a t × (weighted_band a t ≡ goal_at a x)) g.1 (timing_good a box x h v w, timing_band a box x h v w)
    recovered_sound (Ok (is.SplitAt place)) e = place_within a box x place (long_inside a box x h b v) (splits_place a box x place e)
    recovered_sound (Err f) e = tt
