-- The plan that `round` puts is good, and `hold` accepts it.
use Rattle.std.proofs.Common.{◌≡◌, ℕ, List, [], ◌∷◌, Option, Some, Ok, inl, inr, refl, sym, ◌∙◌, ap, subst}
use Rattle.std.specs.Prelude.{IsSome}
use Rattle.outer_edge.specs.Held.{HoldsExactly}
use Rattle.outer_edge.specs.Taken.{Appends}
use Rattle.rational_theory.specs.Rational.{ℚ, ◌+ℚ◌, ◌-ℚ◌, ◌≤ℚ◌}
use Rattle.rational_theory.proofs.Ring.{ring, at, minus, ◌⊕◌}
use Rattle.progression.specs.Street.{Street}
use Rattle.progression.specs.TimingRecord.{TimingRecord, base}
use Rattle.progression.specs.Good.{Good}
use Rattle.progression.specs.Best.{weighted_band, Bounded}
use Rattle.artery_model.specs.Valid.{IsValid}
use Rattle.speed_steps.specs.Moved.{widen}
use Rattle.speed_steps.specs.declared.way.Way.TheVariants.{Outwards}
use Rattle.speed_steps.proofs.Timings.{widen_holds_all, moved_valid}
use Rattle.search_box.proofs.Streets.{street_of}
use Rattle.time_space.specs.Failing.{FailsRulesOut}
use Rattle.certificate_model.specs.Warrants.{Warrant}
use Rattle.certificate_checker.specs.Accepted.{IsAccepted, limit_of}
use Rattle.certificate_checker.specs.Laws.{RefusedIsNotAccepted}
use Rattle.certificate_checker.proofs.Meaning.{accepted_holds}
use Rattle.plan_text.specs.Spelling.{timing_text}
use Rattle.plan_text.specs.Reading.{timing_of}
use Rattle.run_laws.specs.Asked as ask
use Rattle.maxband_run.specs.Outside.{Outside}
use Rattle.run_inputs.specs.Reading.{Reads}
use Rattle.run_inputs.specs.declared.reader.ReadAs.TheVariants.{Description, Timing, Timed}
use Rattle.run_commands.specs.Hold.{HoldFinds}
use Rattle.maxband_run.specs.Run.{Ends}
use Rattle.run_laws.specs.PlanLaws.{PutsPlan, PutsOwnPlan, PutsOtherPlan, RoundSays, RoundFromSays, PlanIsHeld}
use Rattle.run_commands.specs.Bound.{IsBound}
use Rattle.run_commands.specs.Round.{IsCertified, IsRounded}
use Rattle.run_inputs.specs.declared.cause.Cause.{Cause}
use Rattle.run_inputs.specs.declared.cause.Cause.TheVariants as cause
use Rattle.run_laws.proofs.Complete.{Completes}
use Rattle.run_laws.proofs.PutRead.{verdict_found, is_put, reads_put, finds_of}
use Rattle.run_laws.proofs.Found.{Found, zero_is, found_done, found_four, found_ten}
use Rattle.run_commands.proofs.Planning.{claim_bounds}
use Rattle.run_laws.proofs.PlansSay.{round_four, round_ten, from_four, from_ten}
use Rattle.run_laws.proofs.InSeconds.{cycle_told, offset_told}
use Rattle.run_laws.proofs.Readers.{OneReading}

-- no good timing exceeds what a certificate claims that is accepted so
abbrev ClaimsBound : (Street → Warrant → Type 0) → Type 0
ClaimsBound Accepts = (a : Street) (w : Warrant) (x : ℚ) → IsValid a → limit_of w.claim ≡ Some x → Accepts a w → Bounded a x

accepted_bounds : ClaimsBound IsAccepted
accepted_bounds a w x valid e accepted = claim_bounds a w.claim w.timing x e (accepted_holds a w (street_of a valid) accepted)

-- one of the widened street bounds the street too
bound_bounds : ClaimsBound IsBound
bound_bounds a w x valid e (inl accepted) = accepted_bounds a w x valid e accepted
bound_bounds a w x valid e (inr accepted) = λ s good. accepted_bounds (widen a) w x (moved_valid Outwards a valid) e accepted s (widen_holds_all a s valid good)

lost : (Accepts : Street → Warrant → Type 0) → ClaimsBound Accepts → (a : Street) (w : Warrant) (o : Option TimingRecord) (timing : TimingRecord) (claim band loss : ℚ)
    → IsCertified Accepts a w o timing claim → loss ≡ claim -ℚ band → (s : TimingRecord) → Good a s → weighted_band a s ≤ℚ (band +ℚ loss)
lost Accepts bounds a w o timing claim band loss c e s good =
    let below : weighted_band a s ≤ℚ claim = bounds a w claim c.valid c.claim_is c.accepted s good in
    let whole : claim ≡ band +ℚ loss = ring (at 0) (at 1 ⊕ (at 0 ⊕ minus (at 1))) (claim ∷ band ∷ []) refl ∙ ap (λ l. band +ℚ l) (sym e) in
    subst (λ x. weighted_band a s ≤ℚ x) whole below

-- what is found of a rounded timing, and put
rounded_put : (Accepts : Street → Warrant → Type 0) → ClaimsBound Accepts → (before now : Outside) (plan : List ℕ) (a : Street) (w : Warrant) (o : Option TimingRecord) (lines text : List ℕ)
    (r : IsRounded Accepts a w o lines text)
    → HoldsExactly (now.holds plan) text → Appends before.taken now.taken lines → PutsPlan before now a r.timing plan
rounded_put Accepts bounds before now plan a w o lines text r held told = record {
  timing = r.plan.timing;
  seconds = r.plan.seconds;
  offsets = r.plan.offsets.items;
  loss = r.plan.loss;
  planned = r.answer.planned;
  cycle_is = cycle_told a (base r.timing) r.plan.timing r.plan.seconds r.plan.offsets.items r.certified.valid r.certified.good.base r.answer.good r.answer.planned;
  offsets_are = offset_told a (base r.timing) r.plan.timing r.plan.seconds r.plan.offsets.items r.certified.valid r.certified.good.base r.answer.good r.answer.planned;
  good = r.answer.good;
  best = r.best;
  lost = lost Accepts bounds a w o r.timing r.claim (weighted_band a r.plan.timing) r.plan.loss r.certified r.answer.loss;
  put = subst (λ (x : List ℕ). HoldsExactly (now.holds plan) x) r.written held;
  read_back = subst (λ (x : List ℕ). timing_of x ≡ Ok r.plan.timing) r.written r.read_back;
  told = subst (λ (l : List ℕ). Appends before.taken now.taken l) r.lines_are told;
}

module _ (before now : Outside) (artery certificate plan : List ℕ) where
  puts_plan : Completes before now (ask.round artery certificate plan) cause.Done → PutsOwnPlan before now artery certificate plan
  puts_plan h =
      let f = verdict_found before.holds before.reads now.reads (ask.round artery certificate plan) cause.Done h.0 h.1 tt h.2 in
      let held = is_put before now plan f.finds.finds.0 h.0 h.1 f.bytes f.put_is f.finds.finds.1 h.3 in
      let r = f.finds.finds.2 in
      record {
        street = f.values.0;
        warrant = f.values.1.0;
        given = r.timing;
        description = f.read.0;
        text = f.read.1.0;
        accepted = r.certified.accepted;
        given_is = r.certified.timing_is;
        puts = rounded_put IsAccepted accepted_bounds before now plan f.values.0 f.values.1.0 f.values.1.0.timing h.0 f.finds.finds.0 r held.0 h.3.written;
      }

  -- and the description is as it was, where it is another file
  kept_artery : (artery ≡ plan → ⊥) → Completes before now (ask.round artery certificate plan) cause.Done → now.holds artery ≡ before.holds artery
  kept_artery two h =
      let f = verdict_found before.holds before.reads now.reads (ask.round artery certificate plan) cause.Done h.0 h.1 tt h.2 in
      (is_put before now plan f.finds.finds.0 h.0 h.1 f.bytes f.put_is f.finds.finds.1 h.3).1 artery two

pub round_says : RefusedIsNotAccepted → RoundSays
round_says apart before now artery certificate plan c h = (
  (λ e. puts_plan before now artery certificate plan (subst (λ (d : Cause). Ends before now (ask.round artery certificate plan) d) (zero_is c e) h)),
  (λ e. round_four before now artery certificate plan apart c e (found_four before now (ask.round artery certificate plan) c e h)),
  (λ e. round_ten before now artery certificate plan c e (found_ten before now (ask.round artery certificate plan) c e h)),
)

puts_other : (before now : Outside) (artery certificate other plan : List ℕ) → Found before now (ask.round_from artery certificate other plan) cause.Done
    → PutsOtherPlan before now artery certificate other plan
puts_other before now artery certificate other plan f =
    let k = f.answer.finds.finds in
    let r = k.2 in
    record {
      street = f.answer.values.0;
      warrant = f.answer.values.1.0;
      given = r.timing;
      description = f.answer.read.0;
      text = f.answer.read.1.0;
      accepted = r.certified.accepted;
      given_is = subst (λ (o : Option TimingRecord). Reads Timed (before.holds other) o) r.certified.timing_is f.answer.read.1.1.0;
      puts = rounded_put IsBound bound_bounds before now plan f.answer.values.0 f.answer.values.1.0 f.answer.values.1.1.0 f.lines k.0 r
          (is_put before now plan k.0 f.lines f.put f.answer.bytes f.answer.put_is k.1 f.done).0 f.done.written;
    }

pub round_from_says : RefusedIsNotAccepted → FailsRulesOut → RoundFromSays
round_from_says apart rules before now artery certificate other plan c h = (
  (λ e. puts_other before now artery certificate other plan (found_done before now (ask.round_from artery certificate other plan) c e h)),
  (λ e. from_four before now artery certificate other plan apart rules c e (found_four before now (ask.round_from artery certificate other plan) c e h)),
  (λ e. from_ten before now artery certificate other plan c e (found_ten before now (ask.round_from artery certificate other plan) c e h)),
)

good_done : FailsRulesOut → (a : Street) (t : TimingRecord) (c : Cause) (lines : List ℕ) → Good a t → HoldFinds a t c lines → c ≡ cause.Done
good_done rules a t cause.Done lines good h = refl
good_done rules a t (cause.Fails f) lines good h = absurd (rules a t f h.0.fails good)
good_done rules a t c lines good h = absurd h

pub plan_held : OneReading → FailsRulesOut → PlanIsHeld
plan_held reader rules before between now artery certificate plan c d two told put_told few e h m k =
    let done = subst (λ (b : Cause). Ends before between (ask.round artery certificate plan) b) (zero_is c e) h in
    let p = puts_plan before between artery certificate plan done in
    let kept = kept_artery before between artery certificate plan two done in
    let made = p.puts.timing in
    let reads = reads_put Timing (between.holds plan) (timing_text made) made put_told few p.puts.put p.puts.read_back in
    let first = subst (λ o. Reads Description o p.street) (sym kept) p.description in
    let found = finds_of reader between now (ask.hold artery plan) (p.street, (made, tt)) d (subst (λ o. IsSome o) (sym kept) told, (put_told, tt)) (first, (reads, tt)) m k in
    good_done rules p.street made d found.0 p.puts.good found.2.finds
