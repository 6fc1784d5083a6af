-- What the statuses of `bands`, `half`, `timing`, `draw`, `sheet` and `sweep` say of the model, and those of `round` but 0.
use Rattle.std.proofs.Common.{◌≡◌, ◌⊎◌, ℕ, List, [], ◌∷◌, Option, Some, None, Ok, inl, inr, refl, sym, ◌∙◌, ap, subst, arith}
use Rattle.std.specs.List.{AllZip}
use Rattle.rational_theory.specs.Rational.{ℚ}
use Rattle.outer_edge.specs.Held.{SameFiles, HoldsExactly}
use Rattle.outer_edge.specs.Taken.{Appends}
use Rattle.progression.specs.Street.{Street}
use Rattle.progression.specs.TimingRecord.{TimingRecord}
use Rattle.time_space.specs.Failing.{FailsRulesOut}
use Rattle.time_space.specs.declared.failing.Failing.{Failing}
use Rattle.half_integer.specs.Answers.{OneEnd}
use Rattle.half_integer.specs.declared.end.HalfEnd.{HalfEnd}
use Rattle.second_plan.specs.declared.answer.PlanEnd.{PlanEnd}
use Rattle.plan_text.specs.Reading.{timing_of}
use Rattle.certificate_checker.specs.Accepted.{IsAccepted}
use Rattle.certificate_checker.specs.Laws.{RefusedIsNotAccepted}
use Rattle.speed_steps.specs.Moved.{widen}
use Rattle.run_commands.specs.Bound.{IsBound}
use Rattle.cycle_sweep.specs.declared.row.SweepRow.{SweepRow}
use Rattle.cycle_sweep.specs.Rows.{IsRow}
use Rattle.cycle_sweep.specs.Says.{RowsSay}
use Rattle.run_laws.specs.Asked as ask
use Rattle.run_inputs.specs.Puts.{NamedBytes, put_of}
use Rattle.maxband_run.specs.Outside.{Outside, IsPut, IsDone}
use Rattle.run_commands.specs.Half.{HasNoHalfPlan, IsHalfPlan}
use Rattle.description_reader.specs.Typed.{Typed}
use Rattle.run_commands.specs.Typed.{TypedFinds}
use Rattle.run_commands.specs.Shaped.{TimedFinds}
use Rattle.run_commands.specs.Draw.{drawn_lines, picture_of}
use Rattle.run_commands.specs.Sheet.{sheet_lines, table_of}
use Rattle.run_inputs.specs.Reading.{Reads}
use Rattle.run_inputs.specs.declared.reader.ReadAs.TheVariants.{Description, Timed, TypedPlan}
use Rattle.maxband_run.specs.Run.{Ends}
use Rattle.run_commands.specs.Sought.{whole_bands}
use Rattle.run_commands.specs.Checked.{whole_checked}
use Rattle.run_laws.specs.Laws.{SaysRejected}
use Rattle.run_laws.specs.PlanLaws.{SaysWidest, SaysNoBase, BandsSay, PutsHalf, SaysNoHalf, SaysHalf, SaysUnmatched, HalfSays, SaysUnplanned}
use Rattle.run_laws.specs.PlanLaws.{SaysUnplannedFrom, PutsTyped, StopsTyped, SaysMiscounted, SaysTooFine, TimingSays, Tells, Makes, PutsMade, SaysUnshaped}
use Rattle.run_laws.specs.PlanLaws.{SaysUnbound, SaysFailing, SaysUntimed, DrawSays, SheetSays, SaysCycle, PutsTable, SweepSays}
use Rattle.run_inputs.specs.Status.{number_of, IsReached}
use Rattle.run_inputs.specs.declared.cause.Cause.{Cause}
use Rattle.run_inputs.specs.declared.cause.Cause.TheVariants as cause
use Rattle.run_laws.proofs.Found.{Found, found_done, found_four, found_ten, found_eleven}
use Rattle.run_laws.proofs.Kept.{found_keeps, four_refuses, ten_refuses}
use Rattle.run_laws.proofs.Once.{unplanned_accepted}
use Rattle.run_laws.proofs.PutRead.{is_put, reached_ends}

-- ---- bands
module _ (before now : Outside) (artery timing : List ℕ) where
  says_widest : Found before now (ask.bands artery timing) cause.Done → SaysWidest before now artery timing
  says_widest f =
      let k = f.answer.finds.finds in
      record {
        street = f.answer.values.0;
        given = f.answer.values.1.0;
        outbound = k.outbound;
        inbound = k.inbound;
        description = f.answer.read.0;
        text = f.answer.read.1.0;
        base = k.base;
        outbound_is = k.outbound_is;
        inbound_is = k.inbound_is;
        told = subst (λ (l : List ℕ). Appends before.taken now.taken l) k.lines_are f.done.written;
      }

  says_no_base : (f : Failing) → Found before now (ask.bands artery timing) (cause.Fails f) → SaysNoBase before now artery timing (cause.Fails f)
  says_no_base f k = record {
    street = k.answer.values.0;
    given = k.answer.values.1.0;
    failing = f;
    description = k.answer.read.0;
    text = k.answer.read.1.0;
    fails = k.answer.finds.finds.first.fails;
    not_base = k.answer.finds.finds.not_base;
    cause_is = refl;
    kept = found_keeps before now (ask.bands artery timing) (cause.Fails f) (λ v. v) k k.answer.finds.answer;
  }

  bands_four : (c : Cause) → number_of c ≡ 4 → Found before now (ask.bands artery timing) c → SaysNoBase before now artery timing c
  bands_four (cause.Fails f) e k = says_no_base f k
  bands_four (cause.Rejected r) e k = absurd k.answer.finds.finds
  bands_four (cause.LinkRejected r) e k = absurd k.answer.finds.finds
  bands_four c e k = absurd cc

pub bands_say : BandsSay
bands_say before now artery timing c h = (
  (λ e. says_widest before now artery timing (found_done before now (ask.bands artery timing) c e h)),
  (λ e. bands_four before now artery timing c e (found_four before now (ask.bands artery timing) c e h)),
)

-- ---- half
module _ (before now : Outside) (artery timing new : List ℕ) where
  says_half : Found before now (ask.half artery timing new) cause.Done → SaysHalf before now artery timing new
  says_half f =
      let a = f.answer.values.0 in
      let t = f.answer.values.1.0 in
      let k = f.answer.finds.finds in
      let none : HasNoHalfPlan a t f.lines f.answer.bytes → SaysNoHalf before now a t = λ h. record {
        none = h.none;
        kept = subst (λ p. IsPut p before.holds now.holds) (f.answer.put_is ∙ ap (put_of (Some new)) h.no_put) f.done.files;
        told = subst (λ (l : List ℕ). Appends before.taken now.taken l) h.lines_are f.done.written;
      } in
      let some : (text : List ℕ) → f.answer.bytes ≡ Some text → IsHalfPlan a t f.lines text → PutsHalf before now a t new = λ text e h. record {
        made = h.made;
        best = h.best;
        put = subst (λ (x : List ℕ). HoldsExactly (now.holds new) x) h.written (is_put before now new text f.lines f.put f.answer.bytes f.answer.put_is e f.done).0;
        read_back = subst (λ (x : List ℕ). timing_of x ≡ Ok h.made) h.written h.read_back;
        told = subst (λ (l : List ℕ). Appends before.taken now.taken l) h.lines_are f.done.written;
      } in
      record {
        street = a;
        given = t;
        description = f.answer.read.0;
        text = f.answer.read.1.0;
        base = k.base;
        found = elim k.found [ inl h ↦ inl (none h) | inr h ↦ inr (some h.0 h.1 h.2) ];
      }

  half_no_base : (f : Failing) → Found before now (ask.half artery timing new) (cause.Fails f) → SaysNoBase before now artery timing (cause.Fails f)
  half_no_base f k = record {
    street = k.answer.values.0;
    given = k.answer.values.1.0;
    failing = f;
    description = k.answer.read.0;
    text = k.answer.read.1.0;
    fails = k.answer.finds.finds.0.first.fails;
    not_base = k.answer.finds.finds.0.not_base;
    cause_is = refl;
    kept = found_keeps before now (ask.half artery timing new) (cause.Fails f) (λ v. v) k k.answer.finds.answer;
  }

  half_four : (c : Cause) → number_of c ≡ 4 → Found before now (ask.half artery timing new) c → SaysNoBase before now artery timing c
  half_four (cause.Fails f) e k = half_no_base f k
  half_four (cause.Rejected r) e k = absurd k.answer.finds.finds
  half_four (cause.LinkRejected r) e k = absurd k.answer.finds.finds
  half_four c e k = absurd cc

  says_unmatched : OneEnd → (reason : HalfEnd) → Found before now (ask.half artery timing new) (cause.Unmatched reason) → SaysUnmatched before now artery timing (cause.Unmatched reason)
  says_unmatched ends reason k = record {
    street = k.answer.values.0;
    given = k.answer.values.1.0;
    reason = reason;
    description = k.answer.read.0;
    text = k.answer.read.1.0;
    base = k.answer.finds.finds.base;
    first = k.answer.finds.finds.first;
    not_ready = ends.not_ready k.answer.values.0 k.answer.values.1.0 reason k.answer.finds.finds.first;
    cause_is = refl;
    kept = found_keeps before now (ask.half artery timing new) (cause.Unmatched reason) (λ v. v) k k.answer.finds.answer;
  }

  half_eleven : OneEnd → (c : Cause) → number_of c ≡ 11 → Found before now (ask.half artery timing new) c → SaysUnmatched before now artery timing c
  half_eleven ends (cause.Unmatched reason) e k = says_unmatched ends reason k
  half_eleven ends (cause.TooFine ticks) e k = absurd k.answer.finds.finds
  half_eleven ends c e k = absurd cc

pub half_says : OneEnd → HalfSays
half_says ends before now artery timing new c h = (
  (λ e. says_half before now artery timing new (found_done before now (ask.half artery timing new) c e h)),
  (λ e. half_four before now artery timing new c e (found_four before now (ask.half artery timing new) c e h)),
  (λ e. half_eleven before now artery timing new ends c e (found_eleven before now (ask.half artery timing new) c e h)),
)

-- ---- round
module _ (before now : Outside) (artery certificate plan : List ℕ) where
  pub round_four : RefusedIsNotAccepted → (c : Cause) → number_of c ≡ 4 → Found before now (ask.round artery certificate plan) c
      → SaysRejected whole_bands whole_checked before now artery certificate c
  round_four apart (cause.Rejected r) e k =
      let h = k.answer.finds.finds.0 in
      record {
        street = k.answer.values.0;
        warrant = k.answer.values.1.0;
        reject = h.reject;
        description = k.answer.read.0;
        text = k.answer.read.1.0;
        first = h.first;
        not_accepted = apart k.answer.values.0 k.answer.values.1.0 h.reject h.first h.kept;
        cause_is = h.cause_is;
        kept = found_keeps before now (ask.round artery certificate plan) (cause.Rejected r) (λ v. v) k k.answer.finds.answer;
      }
  round_four apart (cause.Fails f) e k = absurd k.answer.finds.finds
  round_four apart (cause.LinkRejected r) e k = absurd k.answer.finds.finds
  round_four apart c e k = absurd cc

  says_unplanned : (reason : PlanEnd) → Found before now (ask.round artery certificate plan) (cause.Unplanned reason) → SaysUnplanned before now artery certificate (cause.Unplanned reason)
  says_unplanned reason k = record {
    street = k.answer.values.0;
    warrant = k.answer.values.1.0;
    reason = reason;
    description = k.answer.read.0;
    text = k.answer.read.1.0;
    accepted = unplanned_accepted IsAccepted k.answer.values.0 k.answer.values.1.0 k.answer.values.1.0.timing reason k.answer.finds.finds.first;
    first = k.answer.finds.finds.first;
    cause_is = refl;
    kept = found_keeps before now (ask.round artery certificate plan) (cause.Unplanned reason) (λ v. v) k k.answer.finds.answer;
  }

  pub round_ten : (c : Cause) → number_of c ≡ 10 → Found before now (ask.round artery certificate plan) c → SaysUnplanned before now artery certificate c
  round_ten (cause.Unplanned reason) e k = says_unplanned reason k
  round_ten cause.Untimed e k = absurd k.answer.finds.finds
  round_ten c e k = absurd cc

-- ---- round-from
module _ (before now : Outside) (artery certificate other plan : List ℕ) where
  pub from_four : RefusedIsNotAccepted → FailsRulesOut → (c : Cause) → number_of c ≡ 4 → Found before now (ask.round_from artery certificate other plan) c
      → SaysUnbound before now artery certificate c ⊎ SaysFailing before now artery other c
  from_four apart rules (cause.Rejected r) e k =
      let h = k.answer.finds.finds.0 in
      let widened = k.answer.finds.finds.1 in
      inl (record {
        rejected = record {
          street = k.answer.values.0;
          warrant = k.answer.values.1.0;
          reject = h.reject;
          description = k.answer.read.0;
          text = k.answer.read.1.0;
          first = h.first;
          not_accepted = apart k.answer.values.0 k.answer.values.1.0 h.reject h.first h.kept;
          cause_is = h.cause_is;
          kept = found_keeps before now (ask.round_from artery certificate other plan) (cause.Rejected r) (λ v. v) k k.answer.finds.answer;
        };
        not_widened = apart (widen k.answer.values.0) k.answer.values.1.0 widened.why widened.first widened.kept;
      })
  from_four apart rules (cause.Fails f) e k =
      let h = k.answer.finds.finds in
      inr (record {
        street = k.answer.values.0;
        timing = h.timing;
        failing = f;
        description = k.answer.read.0;
        text = subst (λ (o : Option TimingRecord). Reads Timed (before.holds other) o) h.timing_is k.answer.read.1.1.0;
        fails = h.first.fails;
        not_good = rules k.answer.values.0 h.timing f h.first.fails;
        cause_is = refl;
        kept = found_keeps before now (ask.round_from artery certificate other plan) (cause.Fails f) (λ v. v) k k.answer.finds.answer;
      })
  from_four apart rules (cause.LinkRejected r) e k = absurd k.answer.finds.finds
  from_four apart rules c e k = absurd cc

  says_from_unplanned : (reason : PlanEnd) → Found before now (ask.round_from artery certificate other plan) (cause.Unplanned reason)
      → SaysUnplannedFrom before now artery certificate other (cause.Unplanned reason)
  says_from_unplanned reason k = record {
    street = k.answer.values.0;
    warrant = k.answer.values.1.0;
    given = k.answer.values.1.1.0;
    reason = reason;
    description = k.answer.read.0;
    text = k.answer.read.1.0;
    given_is = k.answer.read.1.1.0;
    accepted = unplanned_accepted IsBound k.answer.values.0 k.answer.values.1.0 k.answer.values.1.1.0 reason k.answer.finds.finds.first;
    first = k.answer.finds.finds.first;
    cause_is = refl;
    kept = found_keeps before now (ask.round_from artery certificate other plan) (cause.Unplanned reason) (λ v. v) k k.answer.finds.answer;
  }

  pub from_ten : (c : Cause) → number_of c ≡ 10 → Found before now (ask.round_from artery certificate other plan) c → SaysUnplannedFrom before now artery certificate other c
  from_ten (cause.Unplanned reason) e k = says_from_unplanned reason k
  from_ten cause.Untimed e k = absurd k.answer.finds.finds
  from_ten c e k = absurd cc

-- ---- timing
three_reached : (c : Cause) → number_of c ≡ 3 → IsReached c
three_reached (cause.Refused r) e = tt
three_reached (cause.BadText b) e = tt
three_reached c e = absurd cc

three_four : ◌≡◌ {A = ℕ} 3 4 → ⊥
three_four e = omega (arith, e)

eleven_four : ◌≡◌ {A = ℕ} 11 4 → ⊥
eleven_four e = omega (arith, e)

eleven_three : ◌≡◌ {A = ℕ} 11 3 → ⊥
eleven_three e = omega (arith, e)

none_three : ◌≡◌ {A = ℕ} 0 3 → ⊥
none_three e = omega (arith, e)

none_eleven : ◌≡◌ {A = ℕ} 0 11 → ⊥
none_eleven e = omega (arith, e)

three_eleven : ◌≡◌ {A = ℕ} 3 11 → ⊥
three_eleven e = omega (arith, e)

none_four : ◌≡◌ {A = ℕ} 0 4 → ⊥
none_four e = omega (arith, e)

module _ (before now : Outside) (artery plan timing : List ℕ) where
  kept_none : (lines : List ℕ) (put : Option NamedBytes) (bytes : Option (List ℕ)) → put ≡ put_of (Some timing) bytes → bytes ≡ None → IsDone before now lines put → IsPut None before.holds now.holds
  kept_none lines put bytes e n h = subst (λ (p : Option NamedBytes). IsPut p before.holds now.holds) (e ∙ ap (put_of (Some timing)) n) h.files

  module _ (a : Street) (p : Typed) (d : Reads Description (before.holds artery) a) (r : Reads TypedPlan (before.holds plan) p) where
    typed_put : (f : Found before now (ask.timing artery plan timing) cause.Done) → TypedFinds a p cause.Done f.lines f.answer.bytes → PutsTyped before now artery plan timing
    typed_put f (inl h) =
        let k = h.finds.1 in
        record {
          street = a;
          typed = p;
          made = h.made;
          broken = k.2.broken;
          description = d;
          text = r;
          made_is = h.made_is;
          judged = k.2.judged;
          put = subst (λ (x : List ℕ). HoldsExactly (now.holds timing) x) k.2.written (is_put before now timing k.0 f.lines f.put f.answer.bytes f.answer.put_is k.1 f.done).0;
          read_back = subst (λ (x : List ℕ). timing_of x ≡ Ok h.made.timing) k.2.written k.2.read_back;
          told = subst (λ (l : List ℕ). Appends before.taken now.taken l) k.2.lines_are f.done.written;
        }
    typed_put f (inr (inl h)) = let e = h.cause_is in absurd cc
    typed_put f (inr (inr h)) = let e = h.cause_is in absurd cc

    module _ (lines : List ℕ) (put : Option NamedBytes) (bytes : Option (List ℕ)) (put_is : put ≡ put_of (Some timing) bytes) (done : IsDone before now lines put) where
      miscounted : (c : Cause) → number_of c ≡ 3 → TypedFinds a p c lines bytes → SaysMiscounted before now artery plan c
      miscounted c e (inl h) = absurd (none_three (sym (ap number_of h.finds.0) ∙ e))
      miscounted c e (inr (inl h)) =
          record { street = a; typed = p; refusal = h.refusal; description = d; text = r; first = h.first; cause_is = h.cause_is; kept = kept_none lines put bytes put_is h.no_put done }
      miscounted c e (inr (inr h)) = absurd (eleven_three (sym (ap number_of h.cause_is) ∙ e))

      none_broken : (c : Cause) → number_of c ≡ 4 → TypedFinds a p c lines bytes → ⊥
      none_broken c e (inl h) = none_four (sym (ap number_of h.finds.0) ∙ e)
      none_broken c e (inr (inl h)) = three_four (sym (ap number_of h.cause_is) ∙ e)
      none_broken c e (inr (inr h)) = eleven_four (sym (ap number_of h.cause_is) ∙ e)

      too_fine_of : (c : Cause) → number_of c ≡ 11 → TypedFinds a p c lines bytes → SaysTooFine before now artery plan c
      too_fine_of c e (inl h) = absurd (none_eleven (sym (ap number_of h.finds.0) ∙ e))
      too_fine_of c e (inr (inl h)) = absurd (three_eleven (sym (ap number_of h.cause_is) ∙ e))
      too_fine_of c e (inr (inr h)) =
          record { street = a; typed = p; ticks = h.ticks; description = d; text = r; first = h.first; cause_is = h.cause_is; kept = kept_none lines put bytes put_is h.no_put done }

  timing_three : (c : Cause) → number_of c ≡ 3 → Ends before now (ask.timing artery plan timing) c → StopsTyped before now artery plan timing c ⊎ SaysMiscounted before now artery plan c
  timing_three c n h =
      let e = reached_ends before now (ask.timing artery plan timing) c (three_reached c n) h in
      elim e.2 [
        | inl s ↦ inl (record { lines = e.0; stops = s.stops; kept = subst (λ (p : Option NamedBytes). IsPut p before.holds now.holds) s.no_put e.3.files })
        | inr k ↦ inr (miscounted k.values.0 k.values.1.0 k.read.0 k.read.1.0 e.0 e.1 k.bytes k.put_is e.3 c n k.finds.finds)
      ]

  timing_eleven : (c : Cause) → number_of c ≡ 11 → Ends before now (ask.timing artery plan timing) c → SaysTooFine before now artery plan c
  timing_eleven c e h =
      let f = found_eleven before now (ask.timing artery plan timing) c e h in
      too_fine_of f.answer.values.0 f.answer.values.1.0 f.answer.read.0 f.answer.read.1.0 f.lines f.put f.answer.bytes f.answer.put_is f.done c e f.answer.finds.finds

pub timing_says : TimingSays
timing_says before now artery plan timing c h = (
  (λ e. let f = found_done before now (ask.timing artery plan timing) c e h in
      typed_put before now artery plan timing f.answer.values.0 f.answer.values.1.0 f.answer.read.0 f.answer.read.1.0 f f.answer.finds.finds),
  (λ e. timing_three before now artery plan timing c e h),
  (λ e. let f = found_four before now (ask.timing artery plan timing) c e h in
      none_broken before now artery plan timing f.answer.values.0 f.answer.values.1.0 f.answer.read.0 f.answer.read.1.0 f.lines f.put f.answer.bytes f.answer.put_is f.done c e f.answer.finds.finds),
  (λ e. timing_eleven before now artery plan timing c e h),
)

-- ---- draw and sheet
ten_apart : ◌≡◌ {A = ℕ} 10 4 → ⊥
ten_apart e = omega (arith, e)

module _ (before now : Outside) (artery timed new : List ℕ) (tells : Tells) (made : Makes) where
  -- what is found of the timing, where the file has one
  made_of : (a : Street) (o : Option TimingRecord) (l : List ℕ) (put : Option NamedBytes) (bytes : Option (List ℕ)) → put ≡ put_of (Some new) bytes → IsDone before now l put
      → Reads Description (before.holds artery) a → Reads Timed (before.holds timed) o
      → TimedFinds a (tells a) (made a) o cause.Done l bytes → PutsMade before now artery timed new tells made
  made_of a None l put bytes p done d r h = let e = h.0 in absurd cc
  made_of a (Some t) l put bytes p done d r h = record {
    street = a;
    timing = t;
    broken = h.2.broken;
    description = d;
    text = r;
    shape = h.2.shape;
    judged = h.2.judged;
    put = subst (λ (x : List ℕ). HoldsExactly (now.holds new) x) h.2.text_is (is_put before now new h.0 l put bytes p h.1 done).0;
    told = subst (λ (m : List ℕ). Appends before.taken now.taken m) h.2.lines_are done.written;
  }

  unshaped_of : (a : Street) (o : Option TimingRecord) (c : Cause) (l : List ℕ) (bytes : Option (List ℕ)) → SameFiles before.holds now.holds
      → Reads Description (before.holds artery) a → Reads Timed (before.holds timed) o → number_of c ≡ 4 → TimedFinds a (tells a) (made a) o c l bytes → SaysUnshaped before now artery timed c
  unshaped_of a None c l bytes kept d r e h = absurd (ten_apart (sym (ap number_of h.0) ∙ e))
  unshaped_of a (Some t) (cause.Fails f) l bytes kept d r e h = record {
    street = a;
    timing = t;
    description = d;
    text = r;
    unshaped = h.1.fails;
    cause_is = ap cause.Fails h.0;
    kept = kept;
  }
  unshaped_of a (Some t) cause.Done l bytes kept d r e h = absurd cc
  unshaped_of a (Some t) c l bytes kept d r e h = absurd h

  untimed_of : (a : Street) (o : Option TimingRecord) (c : Cause) (l : List ℕ) (bytes : Option (List ℕ)) → SameFiles before.holds now.holds
      → Reads Description (before.holds artery) a → Reads Timed (before.holds timed) o → number_of c ≡ 10 → TimedFinds a (tells a) (made a) o c l bytes → SaysUntimed before now artery timed c
  untimed_of a None c l bytes kept d r e h = record { street = a; description = d; text = r; cause_is = h.0; kept = kept }
  untimed_of a (Some t) cause.Done l bytes kept d r e h = absurd cc
  untimed_of a (Some t) (cause.Fails f) l bytes kept d r e h = absurd cc
  untimed_of a (Some t) c l bytes kept d r e h = absurd h

pub draw_says : DrawSays
draw_says title before now artery timed new c h = (
  (λ e. let f = found_done before now (ask.draw title artery timed new) c e h in
      made_of before now artery timed new (λ a t. drawn_lines) (λ a. picture_of a title) f.answer.values.0 f.answer.values.1.0 f.lines f.put f.answer.bytes f.answer.put_is f.done
      f.answer.read.0 f.answer.read.1.0 f.answer.finds.finds),
  (λ e. let f = found_four before now (ask.draw title artery timed new) c e h in
      unshaped_of before now artery timed new (λ a t. drawn_lines) (λ a. picture_of a title) f.answer.values.0 f.answer.values.1.0 c f.lines f.answer.bytes
      (found_keeps before now (ask.draw title artery timed new) c (four_refuses c e) f f.answer.finds.answer) f.answer.read.0 f.answer.read.1.0 e f.answer.finds.finds),
  (λ e. let f = found_ten before now (ask.draw title artery timed new) c e h in
      untimed_of before now artery timed new (λ a t. drawn_lines) (λ a. picture_of a title) f.answer.values.0 f.answer.values.1.0 c f.lines f.answer.bytes
      (found_keeps before now (ask.draw title artery timed new) c (ten_refuses c e) f f.answer.finds.answer) f.answer.read.0 f.answer.read.1.0 e f.answer.finds.finds),
)

pub sheet_says : SheetSays
sheet_says reference before now artery timed new c h = (
  (λ e. let f = found_done before now (ask.sheet reference artery timed new) c e h in
      made_of before now artery timed new sheet_lines (λ a. table_of a reference) f.answer.values.0 f.answer.values.1.0 f.lines f.put f.answer.bytes f.answer.put_is f.done
      f.answer.read.0 f.answer.read.1.0 f.answer.finds.finds),
  (λ e. let f = found_four before now (ask.sheet reference artery timed new) c e h in
      unshaped_of before now artery timed new sheet_lines (λ a. table_of a reference) f.answer.values.0 f.answer.values.1.0 c f.lines f.answer.bytes
      (found_keeps before now (ask.sheet reference artery timed new) c (four_refuses c e) f f.answer.finds.answer) f.answer.read.0 f.answer.read.1.0 e f.answer.finds.finds),
  (λ e. let f = found_ten before now (ask.sheet reference artery timed new) c e h in
      untimed_of before now artery timed new sheet_lines (λ a. table_of a reference) f.answer.values.0 f.answer.values.1.0 c f.lines f.answer.bytes
      (found_keeps before now (ask.sheet reference artery timed new) c (ten_refuses c e) f f.answer.finds.answer) f.answer.read.0 f.answer.read.1.0 e f.answer.finds.finds),
)

-- ---- sweep
each_row : RowsSay → (a : Street) (limit : Option ℕ) (cycles : List ℚ) (rows : List SweepRow) → AllZip (IsRow a limit) cycles rows → AllZip (SaysCycle a limit) cycles rows
each_row say a limit [] [] h = tt
each_row say a limit [] (row ∷ rows) h = absurd h
each_row say a limit (cycle ∷ cycles) [] h = absurd h
each_row say a limit (cycle ∷ cycles) (row ∷ rows) h = (record { found = h.0; says = say a limit cycle row h.0 }, each_row say a limit cycles rows h.1)

module _ (say : RowsSay) (before now : Outside) (artery table : List ℕ) (limit : Option ℕ) (words : List (List ℕ)) where
  puts_table : Found before now (ask.sweep artery table limit words) cause.Done → PutsTable before now artery table limit words
  puts_table f =
      let a = f.answer.values.0 in
      let k = f.answer.finds.finds in
      let held = is_put before now table k.0 f.lines f.put f.answer.bytes f.answer.put_is k.1 f.done in
      record {
        street = a;
        cycles = k.2.cycles;
        rows = k.2.rows;
        description = f.answer.read.0;
        cycles_are = k.2.cycles_are;
        each = each_row say a limit k.2.cycles k.2.rows k.2.rows_are;
        put = subst (λ (x : List ℕ). HoldsExactly (now.holds table) x) k.2.table_is held.0;
        told = subst (λ (l : List ℕ). Appends before.taken now.taken l) k.2.lines_are f.done.written;
      }

pub sweep_says : RowsSay → SweepSays
sweep_says say before now artery table limit words c h e =
    puts_table say before now artery table limit words (found_done before now (ask.sweep artery table limit words) c e h)
