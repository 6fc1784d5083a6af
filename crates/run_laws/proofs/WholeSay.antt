-- What the statuses of `whole` say of the model.
use Rattle.std.proofs.Common.{◌≡◌, ℕ, List, [], ◌∷◌, Ok, refl, sym, ◌∙◌, ap, subst, lit<}
use Rattle.std.specs.Prelude.{Contains}
use Rattle.std.proofs.lemmas.List.Elements.{Contains-append_left, Contains-append_right}
use Rattle.outer_edge.specs.Held.{HoldsExactly}
use Rattle.outer_edge.specs.Taken.{Appends}
use Rattle.rational_theory.specs.Rational.{ℚ, ◌+ℚ◌, ◌-ℚ◌, ◌≤ℚ◌}
use Rattle.rational_theory.proofs.Ring.{ring, at, minus, ◌⊕◌}
use Rattle.progression.specs.Street.{Street}
use Rattle.progression.specs.TimingRecord.{TimingRecord, base}
use Rattle.progression.specs.Good.{Good}
use Rattle.progression.specs.Best.{weighted_band, Bounded}
use Rattle.speed_steps.specs.Moved.{widen}
use Rattle.certificate_model.specs.Warrants.{Warrant}
use Rattle.certificate_checker.specs.Laws.{RefusedIsNotAccepted}
use Rattle.plan_text.specs.Reading.{timing_of}
use Rattle.second_plan.specs.declared.answer.PlanEnd.{PlanEnd}
use Rattle.whole_offsets.specs.Steady.{IsSteady}
use Rattle.whole_plan.specs.Cycles.{tried_cycles}
use Rattle.run_inputs.specs.Cycles.{seconds_of, AreSpelled}
use Rattle.run_inputs.specs.Reading.{Reads}
use Rattle.run_inputs.specs.declared.reader.ReadAs.TheVariants.{Description, Certificate}
use Rattle.run_inputs.specs.Status.{number_of}
use Rattle.run_inputs.specs.declared.cause.Cause.{Cause}
use Rattle.run_inputs.specs.declared.cause.Cause.TheVariants as cause
use Rattle.run_commands.specs.Whole.{IsWhole}
use Rattle.maxband_run.specs.Outside.{Outside}
use Rattle.maxband_run.specs.Run.{Ends}
use Rattle.run_laws.specs.Asked as ask
use Rattle.run_laws.specs.PlanLaws.{SaysUnbound}
use Rattle.run_laws.specs.WholeLaws.{PutsWhole, SaysNoWhole, WholeSays}
use Rattle.run_laws.proofs.Complete.{Completes}
use Rattle.run_laws.proofs.Found.{Found, zero_is, found_four, found_ten}
use Rattle.run_laws.proofs.InSeconds.{whole_cycle_told, whole_offset_told}
use Rattle.run_laws.proofs.Kept.{found_keeps}
use Rattle.run_laws.proofs.Once.{planless_bound}
use Rattle.run_laws.proofs.PutRead.{verdict_found, is_put}

-- what a plan loses against what bounds the street
lost : (a : Street) (claim band loss : ℚ) → Bounded a claim → loss ≡ claim -ℚ band → (s : TimingRecord) → Good a s → weighted_band a s ≤ℚ (band +ℚ loss)
lost a claim band loss bounded e s good =
    let whole : claim ≡ band +ℚ loss = ring (at 0) (at 1 ⊕ (at 0 ⊕ minus (at 1))) (claim ∷ band ∷ []) refl ∙ ap (λ l. band +ℚ l) (sym e) in
    subst (λ x. weighted_band a s ≤ℚ x) whole (bounded s good)

module _ (a : Street) (w : Warrant) (named lines text : List ℕ) (r : IsWhole a w named lines text) where
  abbrev start : TimingRecord
  start = r.answer.chosen.set.timing

  steady : IsSteady a (base start) r.plan.seconds r.plan.offsets.items r.plan.timing
  steady =
      let set = r.answer.chosen.set.set.steady in
      subst (λ t. IsSteady a (base start) r.plan.seconds r.plan.offsets.items t) (sym r.answer.timing_is)
      (subst (λ o. IsSteady a (base start) r.plan.seconds o.items r.answer.plan.timing) (sym r.answer.offsets_are) set)

  tried : Contains (tried_cycles a w.timing named) r.plan.seconds
  tried =
      let k = r.plan.seconds in
      let c = r.answer.chosen in
      subst (λ ks. Contains ks k) (sym c.cycles_are) (Contains-append_right c.before (k ∷ c.after) k (Contains-append_left (k ∷ []) c.after k (0, lit< tt, refl)))

  -- what is found, and put
  whole_put : (before now : Outside) (artery certificate plan : List ℕ) (cycles : List (List ℕ)) → Reads Description (before.holds artery) a
      → Reads Certificate (before.holds certificate) w → AreSpelled seconds_of cycles named
      → HoldsExactly (now.holds plan) text → Appends before.taken now.taken lines → PutsWhole before now artery certificate plan cycles
  whole_put before now artery certificate plan cycles description certified spelled held told = record {
    street = a;
    warrant = w;
    named = named;
    claim = r.claim;
    given = r.start;
    start = start;
    made = r.plan;
    description = description;
    text = certified;
    spelled = spelled;
    basis = r.basis;
    widest = r.answer;
    tried = tried;
    started = r.answer.chosen.set.start;
    cycle_is = whole_cycle_told a (base start) r.plan.timing r.plan.seconds r.plan.offsets.items r.basis.valid r.good steady;
    offsets_are = whole_offset_told a (base start) r.plan.timing r.plan.seconds r.plan.offsets.items r.basis.valid r.good steady;
    good = r.good;
    best = r.best;
    steady = steady;
    lost = lost a r.claim (weighted_band a r.plan.timing) r.plan.loss r.basis.bounded r.answer.loss;
    put = subst (λ (x : List ℕ). HoldsExactly (now.holds plan) x) r.written held;
    read_back = subst (λ (x : List ℕ). timing_of x ≡ Ok r.plan.timing) r.written r.read_back;
    told = subst (λ (l : List ℕ). Appends before.taken now.taken l) r.lines_are told;
  }

module _ (before now : Outside) (artery certificate plan : List ℕ) (cycles : List (List ℕ)) where
  puts_whole : Completes before now (ask.whole artery certificate plan cycles) cause.Done → PutsWhole before now artery certificate plan cycles
  puts_whole h =
      let f = verdict_found before.holds before.reads now.reads (ask.whole artery certificate plan cycles) cause.Done h.0 h.1 tt h.2 in
      let found = f.finds.finds.2 in
      let held = is_put before now plan found.0 h.0 h.1 f.bytes f.put_is found.1 h.3 in
      whole_put f.values.0 f.values.1.0 f.finds.finds.0 h.0 found.0 found.2 before now artery certificate plan cycles f.read.0 f.read.1.0 f.finds.finds.1 held.0 h.3.written

  whole_four : RefusedIsNotAccepted → (c : Cause) → number_of c ≡ 4 → Found before now (ask.whole artery certificate plan cycles) c → SaysUnbound before now artery certificate c
  whole_four apart (cause.Rejected r) e k =
      let h = k.answer.finds.finds.2.0 in
      let widened = k.answer.finds.finds.2.1 in
      record {
        rejected = record {
          street = k.answer.values.0;
          warrant = k.answer.values.1.0;
          reject = h.reject;
          description = k.answer.read.0;
          text = k.answer.read.1.0;
          first = h.first;
          not_accepted = apart k.answer.values.0 k.answer.values.1.0 h.reject h.first h.kept;
          cause_is = h.cause_is;
          kept = found_keeps before now (ask.whole artery certificate plan cycles) (cause.Rejected r) (λ v. v) k k.answer.finds.answer;
        };
        not_widened = apart (widen k.answer.values.0) k.answer.values.1.0 widened.why widened.first widened.kept;
      }
  whole_four apart (cause.Fails f) e k = absurd k.answer.finds.finds.2
  whole_four apart (cause.LinkRejected r) e k = absurd k.answer.finds.finds.2
  whole_four apart c e k = absurd cc

  says_none : (reason : PlanEnd) → Found before now (ask.whole artery certificate plan cycles) (cause.Unplanned reason) → SaysNoWhole before now artery certificate cycles (cause.Unplanned reason)
  says_none reason k = record {
    street = k.answer.values.0;
    warrant = k.answer.values.1.0;
    named = k.answer.finds.finds.0;
    reason = reason;
    description = k.answer.read.0;
    text = k.answer.read.1.0;
    accepted = planless_bound k.answer.values.0 k.answer.values.1.0 k.answer.finds.finds.0 reason k.lines k.answer.bytes k.answer.finds.finds.2;
    spelled = k.answer.finds.finds.1;
    unplanned = k.answer.finds.finds.2.reason;
    cause_is = refl;
    kept = found_keeps before now (ask.whole artery certificate plan cycles) (cause.Unplanned reason) (λ v. v) k k.answer.finds.answer;
  }

  whole_ten : (c : Cause) → number_of c ≡ 10 → Found before now (ask.whole artery certificate plan cycles) c → SaysNoWhole before now artery certificate cycles c
  whole_ten (cause.Unplanned reason) e k = says_none reason k
  whole_ten cause.Untimed e k = absurd k.answer.finds.finds.2
  whole_ten c e k = absurd cc

pub whole_says : RefusedIsNotAccepted → WholeSays
whole_says apart before now artery certificate plan cycles c h = (
  (λ e. puts_whole before now artery certificate plan cycles (subst (λ (d : Cause). Ends before now (ask.whole artery certificate plan cycles) d) (zero_is c e) h)),
  (λ e. whole_four before now artery certificate plan cycles apart c e (found_four before now (ask.whole artery certificate plan cycles) c e h)),
  (λ e. whole_ten before now artery certificate plan cycles c e (found_ten before now (ask.whole artery certificate plan cycles) c e h)),
)
