-- From what a plan's lines and text are to what is found.
use Rattle.std.proofs.Common.{◌≡◌, Option, Some, None, Result, Ok, Err, inr, refl, sym, ◌∙◌, ap, subst}
use Rattle.rational_theory.specs.Rational.{ℚ, ◌≤ℚ◌}
use Rattle.std.specs.Prelude.{IfOk, option_map}
use Rattle.narrow_fraction.specs.declared.memory.Memory.{Memory}
use Rattle.progression.specs.Street.{Street}
use Rattle.progression.specs.TimingRecord.{TimingRecord, base}
use Rattle.progression.specs.Good.{Good, IsBase}
use Rattle.plan_text.specs.Spelling.{timing_text}
use Rattle.mirror_theory.specs.EqualBands.{IsHalfCycleBest}
use Rattle.half_integer.specs.Answers.{IsReady}
use Rattle.progression.specs.Best.{bands_of, Bounded}
use Rattle.progression.specs.Speeds.{number}
use Rattle.certificate_model.specs.Warrants.{Warrant}
use Rattle.certificate_model.specs.declared.certificate.Claim.{Claim}
use Rattle.certificate_model.specs.declared.certificate.Claim.TheVariants.{Best, NoTiming, Stopped}
use Rattle.certificate_checker.specs.Accepted.{value_of, limit_of, IsTimed, IsAccepted}
use Rattle.certificate_checker.specs.Claims.{IsBestBy, ClaimHolds}
use Rattle.second_plan.specs.Planned.{IsAnswer, IsBestOfOffsets}
use Rattle.second_plan.specs.Ends.{Ends}
use Rattle.second_plan.specs.declared.answer.Plan.{Plan as Rounded}
use Rattle.second_plan.specs.declared.answer.PlanEnd.{PlanEnd}
use Rattle.second_plan.specs.declared.answer.PlanEnd.TheVariants as end
use Rattle.run_commands.specs.Bound.{IsBound}
use Rattle.run_commands.specs.Round.{unplanned_line, IsCertified, IsRounded, Unplans, TellsRounded, RoundFinds, RoundFromFinds}
use Rattle.run_inputs.specs.declared.cause.Cause.TheVariants as cause
use Rattle.run_inputs.specs.Puts.{bytes_of}
use Rattle.run_commands.specs.Half.{TellsPlan, HalfFinds}
use Rattle.run_inputs.specs.declared.found.Found.{Found}
use Rattle.run_inputs.specs.declared.cause.Cause.{Cause}

half_found : (a : Street) (t made : TimingRecord) (x : Found) → IsBase a (base t) → IsReady a t → IsHalfCycleBest a t made
    → TellsPlan a made x.cause x.lines.items (bytes_of x) → HalfFinds a t x.cause x.lines.items (bytes_of x)
half_found a t made x base ready best h =
    subst (λ (c : Cause). HalfFinds a t c x.lines.items (bytes_of x)) (sym h.cause_is)
    (record {
      base = base;
      ready = ready;
      found = inr (timing_text made, h.put_is, record { made = made; best = best; lines_are = h.lines_are; written = refl; read_back = h.read_back });
    })

pub half_told : (a : Street) (t made : TimingRecord) (r : Result Found Memory) → IsBase a (base t) → IsReady a t → IsHalfCycleBest a t made
    → IfOk r (λ x. TellsPlan a made x.cause x.lines.items (bytes_of x)) → IfOk r (λ x. HalfFinds a t x.cause x.lines.items (bytes_of x))
half_told a t made (Ok x) base ready best h = half_found a t made x base ready best h
half_told a t made (Err m) base ready best h = tt

-- ---- round
-- what a claim bounds
best_bounds : (a : Street) (timing : Option TimingRecord) (value x : ℚ) → Some value ≡ Some x → IsBestBy (bands_of a) timing value → Bounded a x
best_bounds a None value x e h = absurd h
best_bounds a (Some t) value x e h = let same : value ≡ x = cc in subst (λ (y : ℚ). Bounded a y) (h.1 ∙ same) h.0.greatest

pub claim_bounds : (a : Street) (claim : Claim) (timing : Option TimingRecord) (x : ℚ) → limit_of claim ≡ Some x → ClaimHolds a claim timing → Bounded a x
claim_bounds a (Best value) timing x e h = best_bounds a timing value x e h
claim_bounds a NoTiming timing x e h = absurd cc
claim_bounds a (Stopped bound value) timing x e h = let same : bound ≡ x = cc in subst (λ (y : ℚ). Bounded a y) same h.0

-- an accepted certificate's timing is good
good_of : (a : Street) (o : Option TimingRecord) (v : Option ℚ) (t : TimingRecord) → o ≡ Some t → IsTimed a o v → Good a t
good_of a None v t e h = absurd cc
good_of a (Some u) None t e h = absurd h
good_of a (Some u) (Some v) t e h = let same : u ≡ t = cc in subst (λ p. Good a p) same h.0

pub good_timing : (a : Street) (w : Warrant) (t : TimingRecord) → w.timing ≡ Some t → IsAccepted a w → Good a t
good_timing a w t e h = good_of a w.timing (value_of w.claim) t e h.timing

-- one that claims that no timing is good leaves none
pub some_claim : (a : Street) (claim : Claim) (timing : Option TimingRecord) (t : TimingRecord) → ClaimHolds a claim timing → Good a t → limit_of claim ≡ None → ⊥
some_claim a (Best value) timing t h good e = absurd cc
some_claim a NoTiming timing t h good e = h t good
some_claim a (Stopped bound value) timing t h good e = absurd cc

module _ (Accepts : Street → Warrant → Type 0) (a : Street) (w : Warrant) (given : Option TimingRecord) (timing : TimingRecord) (claim : ℚ)
    (certified : IsCertified Accepts a w given timing claim) where
  rounded : (plan : Rounded) (x : Found) → IsAnswer a claim (base timing) plan → IsBestOfOffsets a plan.timing → number 0 ≤ℚ plan.loss
      → TellsRounded a plan x.cause x.lines.items (bytes_of x) → IsRounded Accepts a w given x.lines.items (timing_text plan.timing)
  rounded plan x answer best loss h = record {
    timing = timing;
    claim = claim;
    certified = certified;
    plan = plan;
    answer = answer;
    best = best;
    loss = loss;
    lines_are = h.lines_are;
    written = refl;
    read_back = h.read_back;
  }

  unplans_of : (e : PlanEnd) → Ends a claim (base timing) e → Unplans Accepts a w given e
  unplans_of end.NoTimingGiven h = absurd h
  unplans_of e h = (timing, claim, certified, h)

module _ (a : Street) (w : Warrant) (given : Option TimingRecord) (timing : TimingRecord) (claim : ℚ) (certified : IsCertified IsBound a w given timing claim) where
  -- what is found of a plan
  pub from_told : (plan : Rounded) (r : Result Found Memory) → IsAnswer a claim (base timing) plan → IsBestOfOffsets a plan.timing → number 0 ≤ℚ plan.loss
      → IfOk r (λ x. TellsRounded a plan x.cause x.lines.items (bytes_of x)) → IfOk r (λ x. RoundFromFinds a w given x.cause x.lines.items (bytes_of x))
  from_told plan (Ok x) answer best loss h =
      subst (λ (c : Cause). RoundFromFinds a w given c x.lines.items (bytes_of x)) (sym h.cause_is)
      (timing_text plan.timing, h.put_is, rounded IsBound a w given timing claim certified plan x answer best loss h)
  from_told plan (Err m) answer best loss h = tt

  -- and of a timing that has none
  pub from_unplanned : (e : PlanEnd) (r : Result Found Memory) → Ends a claim (base timing) e
      → IfOk r (λ x. x.cause ≡ cause.Unplanned e) → IfOk r (λ x. x.lines.items ≡ unplanned_line e) → IfOk r (λ x. x.bytes ≡ None)
      → IfOk r (λ x. RoundFromFinds a w given x.cause x.lines.items (bytes_of x))
  from_unplanned e (Ok x) h c l n =
      subst (λ (d : Cause). RoundFromFinds a w given d x.lines.items (bytes_of x)) (sym c)
      (record { first = unplans_of IsBound a w given timing claim certified e h; lines_are = l; no_put = ap (option_map (λ b. b.items)) n })
  from_unplanned e (Err m) h c l n = tt

-- of the certificate's own timing the same is found, but that it never breaks a rule
module _ (a : Street) (w : Warrant) (timing : TimingRecord) (claim : ℚ) (certified : IsCertified IsAccepted a w w.timing timing claim) where
  pub round_told : (plan : Rounded) (r : Result Found Memory) → IsAnswer a claim (base timing) plan → IsBestOfOffsets a plan.timing → number 0 ≤ℚ plan.loss
      → IfOk r (λ x. TellsRounded a plan x.cause x.lines.items (bytes_of x)) → IfOk r (λ x. RoundFinds a w x.cause x.lines.items (bytes_of x))
  round_told plan (Ok x) answer best loss h =
      subst (λ (c : Cause). RoundFinds a w c x.lines.items (bytes_of x)) (sym h.cause_is)
      (timing_text plan.timing, h.put_is, rounded IsAccepted a w w.timing timing claim certified plan x answer best loss h)
  round_told plan (Err m) answer best loss h = tt

  pub unplanned_told : (e : PlanEnd) (r : Result Found Memory) → Ends a claim (base timing) e
      → IfOk r (λ x. x.cause ≡ cause.Unplanned e) → IfOk r (λ x. x.lines.items ≡ unplanned_line e) → IfOk r (λ x. x.bytes ≡ None)
      → IfOk r (λ x. RoundFinds a w x.cause x.lines.items (bytes_of x))
  unplanned_told e (Ok x) h c l n =
      subst (λ (d : Cause). RoundFinds a w d x.lines.items (bytes_of x)) (sym c)
      (record { first = unplans_of IsAccepted a w w.timing timing claim certified e h; lines_are = l; no_put = ap (option_map (λ b. b.items)) n })
  unplanned_told e (Err m) h c l n = tt
