-- What a command finds of the same values is one thing, or what a search leads to.
use Rattle.std.specs.Prelude.{option_map, if◌then◌else◌}
use Rattle.plan_text.specs.Spelling.{timing_text}
use Rattle.std.proofs.Common.{arith, pos, ◌*ℤ◌, ◌++◌, ◌*◌, ◌⊎◌, ap₂, ◌≤◌, ◌≡◌, ℕ, Bool, true, false, List, [], ◌∷◌, Option, Some, None, inl, inr, refl, sym, ◌∙◌, ap, subst}
use Rattle.progression.specs.Street.{Street, count}
use Rattle.progression.specs.TimingRecord.{TimingRecord, base}
use Rattle.progression.specs.BaseRecord.{BaseRecord}
use Rattle.description_reader.specs.Printed.{OneText}
use Rattle.progression.specs.declared.parts.Dir.{Dir}
use Rattle.progression.specs.declared.parts.Dir.TheVariants.{Outbound, Inbound}
use Rattle.artery_model.specs.Valid.{IsValid}
use Rattle.time_space.specs.declared.failing.Failing.{Failing}
use Rattle.band_measure.specs.Pairs.{FinerPairs}
use Rattle.band_measure.specs.Widest.{IsWidestBand, OneWidest}
use Rattle.band_measure.specs.declared.pair.Widest.{Widest}
use Rattle.half_integer.specs.Answers.{OneEnd}
use Rattle.certificate_model.specs.Warrants.{Warrant}
use Rattle.time_space.specs.Failing.{FailsRulesOut}
use Rattle.time_space.specs.FirstFailing.{IsFirstFailing, OneFirst}
use Rattle.time_space.proofs.Firsts.{first_of_base}
use Rattle.certificate_checker.specs.Laws.{RefusedIsNotAccepted, OneFirstRefusal}
use Rattle.link_proof.specs.LinkLaws.{LinkRefusedIsNotAccepted, OneFirstLinkRefusal}
use Rattle.branch_and_bound.specs.declared.found.Verdict.{Verdict}
use Rattle.branch_and_bound.specs.declared.found.Verdict.TheVariants.{Best, NoTiming, Stopped}
use Rattle.box_search.specs.declared.site.SitePart.{SitePart}
use Rattle.workload_maker.specs.Made.{made_street}
use Rattle.artery_model.specs.Faults.{fault_of}
use Rattle.description_reader.specs.Typed.{Typed}
use Rattle.typed_plan.specs.Counts.{count_fault}
use Rattle.typed_plan.specs.Grid.{too_fine}
use Rattle.typed_plan.specs.Ends.{OneTiming}
use Rattle.typed_plan.specs.declared.timing.Measured.{Measured}
use Rattle.run_inputs.specs.Lines.{refused_line}
use Rattle.run_commands.specs.Lines.{fails_line}
use Rattle.run_inputs.specs.Puts.{NamedBytes, put_of, With}
use Rattle.run_inputs.specs.Reading.{Value, Values}
use Rattle.run_inputs.specs.declared.reader.ReadAs.{ReadAs}
use Rattle.run_commands.specs.Searched.{cause_of}
use Rattle.run_commands.specs.Hold.{HoldFinds, IsJudged, verdict_line}
use Rattle.run_commands.specs.Show.{Shows}
use Rattle.run_commands.specs.Sought.{Sought, whole_bands, bands_of_links}
use Rattle.run_commands.specs.Checked.{Checked, whole_checked, links_checked}
use Rattle.run_commands.specs.Check.{Rejects, Checks}
use Rattle.run_inputs.specs.Status.{IsReached}
use Rattle.run_commands.specs.Bands.{widest_line, BreaksBase, BandsFinds}
use Rattle.second_plan.specs.Planned.{IsAnswer}
use Rattle.second_plan.specs.Ends as second
use Rattle.second_plan.specs.Ends.{Ends, PlanOrEnd, OnePlan}
use Rattle.second_plan.specs.declared.answer.PlanEnd.{PlanEnd}
use Rattle.second_plan.specs.declared.answer.PlanEnd.TheVariants as end
use Rattle.certificate_checker.specs.Accepted.{limit_of, IsAccepted}
use Rattle.progression.specs.Good.{Good}
use Rattle.rational_theory.specs.Rational.{ℚ}
use Rattle.run_commands.specs.Bound.{IsBound, IsRefused}
use Rattle.run_commands.specs.Round.{plan_lines, unplanned_line, IsCertified, IsRounded, IsUnfit, IsUnplanned, Unplans, RoundFinds, RoundFromFinds}
use Rattle.run_commands.specs.Whole.{IsPlanless, WholeFinds}
use Rattle.run_commands.specs.Narrow.{IsMove}
use Rattle.speed_steps.specs.Moved.{widen, street_moved}
use Rattle.speed_steps.specs.declared.way.Way.{Way}
use Rattle.speed_steps.specs.declared.way.Way.TheVariants.{Inwards, Outwards}
use Rattle.run_commands.specs.Half.{ticks_line, end_line, HalfFinds}
use Rattle.run_commands.specs.Typed.{measured_lines, WritesTiming, TypedFinds}
use Rattle.run_commands.specs.Shaped.{TimedFinds}
use Rattle.run_commands.specs.Draw.{drawn_lines, picture_of}
use Rattle.run_commands.specs.Sheet.{sheet_lines, table_of}
use Rattle.run_commands.specs.Ends.{IsVerdict}
use Rattle.run_commands.specs.Settings.{Settings}
use Rattle.run_commands.specs.Table.{row, readers, Finds}
use Rattle.run_commands.specs.Words.{Request}
use Rattle.run_commands.specs.declared.table.Usage.{Usage}
use Rattle.run_commands.specs.declared.table.Usage.TheVariants as usage
use Rattle.run_laws.specs.Laws.{SameBytes, SameLines, SamePut, IsChosen, Agree}
use Rattle.run_inputs.specs.declared.cause.Cause.{Cause}
use Rattle.run_inputs.specs.declared.cause.Cause.TheVariants as cause
use Rattle.file_kind.specs.Kinds.{kind_of}
use Rattle.run_laws.proofs.Readers.{same_refusal, OneReading}
use Rattle.run_laws.proofs.Explained.{tells_once}

-- a search gives a verdict
pub verdict_cause : (c : Cause) (v : Verdict SitePart) → c ≡ cause_of v → IsVerdict c
verdict_cause c Best e = subst (λ (d : Cause). IsVerdict d) (sym e) tt
verdict_cause c NoTiming e = subst (λ (d : Cause). IsVerdict d) (sym e) tt
verdict_cause c (Stopped stop) e = subst (λ (d : Cause). IsVerdict d) (sym e) tt

pub verdict_reached : (c : Cause) → IsVerdict c → IsReached c
verdict_reached cause.Done v = tt
verdict_reached cause.NoTiming v = tt
verdict_reached (cause.Stopped stop) v = tt
verdict_reached c v = absurd v

-- ---- each command
hold_once : OneFirst → FailsRulesOut → (a : Street) (t : TimingRecord) (c d : Cause) (x y : List ℕ) → HoldFinds a t c x → HoldFinds a t d y → (c ≡ d) × (x ≡ y)
hold_once one_first rules a t cause.Done cause.Done x y h k = (refl, h.1 ∙ sym k.1)
hold_once one_first rules a t cause.Done (cause.Fails f) x y h k = absurd (rules a t f k.0.fails h.0)
hold_once one_first rules a t cause.Done d x y h k = absurd k
hold_once one_first rules a t (cause.Fails f) cause.Done x y h k = absurd (rules a t f h.0.fails k.0)
hold_once one_first rules a t (cause.Fails f) (cause.Fails g) x y h k = let e = one_first a t f g h.0 k.0 in (ap cause.Fails e, h.1 ∙ ap fails_line e ∙ sym k.1)
hold_once one_first rules a t (cause.Fails f) d x y h k = absurd k
hold_once one_first rules a t c d x y h k = absurd h

show_once : OneText → (a : Street) (c d : Cause) (x y : List ℕ) → Shows a c x → Shows a d y → (c ≡ d) × (x ≡ y)
show_once one_text a cause.Done cause.Done x y h k = (refl, one_text.same a x y h.printed k.printed)
show_once one_text a cause.Done d x y h k = absurd k
show_once one_text a c d x y h k = absurd h

-- what is refused isn't accepted, and it has one first refusal
abbrev pub RefusedApart : (k : Sought) → Checked k → Type 0
RefusedApart k s = (a : Street) (w : Value k.reader) (r : s.Reject) → s.First a w r → (r ≡ s.wanting → ⊥) → s.Accepted a w → ⊥

abbrev OneRefusal : (k : Sought) → Checked k → Type 0
OneRefusal k s = (a : Street) (w : Value k.reader) (r q : s.Reject) → s.First a w r → s.First a w q → (r ≡ s.wanting → ⊥) → (q ≡ s.wanting → ⊥) → r ≡ q

module _ (k : Sought) (s : Checked k) (once : OneRefusal k s) (a : Street) (w : Value k.reader) where
  rejects_once : (c d : Cause) (x y : List ℕ) → Rejects k s a w c x → Rejects k s a w d y → (c ≡ d) × (x ≡ y)
  rejects_once c d x y h o = let e = once a w h.reject o.reject h.first o.first h.kept o.kept in
      (h.cause_is ∙ ap s.cause e ∙ sym o.cause_is, h.lines_are ∙ ap (s.line (count a)) e ∙ sym o.lines_are)

  checks_once : RefusedApart k s → (c d : Cause) (x y : List ℕ) → Checks k s a w c x → Checks k s a w d y → (c ≡ d) × (x ≡ y)
  checks_once apart c d x y (inl h) (inl o) = (h.cause_is ∙ sym o.cause_is, h.lines_are ∙ sym o.lines_are)
  checks_once apart c d x y (inl h) (inr o) = absurd (apart a w o.reject o.first o.kept h.accepted)
  checks_once apart c d x y (inr h) (inl o) = absurd (apart a w h.reject h.first h.kept o.accepted)
  checks_once apart c d x y (inr h) (inr o) = rejects_once c d x y h o

-- the first rule of the base that fails
breaks_once : OneFirst → (a : Street) (t : TimingRecord) (f g : Failing) (x y : List ℕ) → BreaksBase a t f x → BreaksBase a t g y → (cause.Fails f ≡ cause.Fails g) × (x ≡ y)
breaks_once one_first a t f g x y h k = let e = one_first a t f g (first_of_base a t f h.first) (first_of_base a t g k.first) in (ap cause.Fails e, h.lines_are ∙ ap fails_line e ∙ sym k.lines_are)

-- of one direction
widest_once : OneWidest → FinerPairs → (a : Street) (t : BaseRecord) (d : Dir) (v w : Option Widest) → IsValid a → 2 ≤ t.unit → IsWidestBand a t d v → IsWidestBand a t d w → v ≡ w
widest_once once finer a t d None None valid unit h k = refl
widest_once once finer a t d None (Some w) valid unit h k = absurd (h 1 (pos w.first *ℤ pos 1) (w.band * 1) (omega arith) ((finer a t d 1 (pos w.first) w.band valid unit (omega arith)).0 k.runs))
widest_once once finer a t d (Some v) None valid unit h k = absurd (k 1 (pos v.first *ℤ pos 1) (v.band * 1) (omega arith) ((finer a t d 1 (pos v.first) v.band valid unit (omega arith)).0 h.runs))
widest_once once finer a t d (Some v) (Some w) valid unit h k =
    let e = once a t d v.first v.band w.first w.band valid unit h k in
    ap₂ (λ first band. Some (record { first = first; band = band })) e.0 e.1

bands_once : OneFirst → OneWidest → FinerPairs → (a : Street) (t : TimingRecord) (c d : Cause) (x y : List ℕ) → BandsFinds a t c x → BandsFinds a t d y → (c ≡ d) × (x ≡ y)
bands_once one_first once finer a t cause.Done cause.Done x y h k =
    let out = widest_once once finer a (base t) Outbound h.outbound k.outbound h.valid h.unit h.outbound_is k.outbound_is in
    let in_ = widest_once once finer a (base t) Inbound h.inbound k.inbound h.valid h.unit h.inbound_is k.inbound_is in
    (refl, h.lines_are ∙ ap₂ (λ v w. widest_line a t Outbound v ++ widest_line a t Inbound w) out in_ ∙ sym k.lines_are)
bands_once one_first once finer a t cause.Done (cause.Fails f) x y h k = absurd (k.not_base h.base)
bands_once one_first once finer a t cause.Done d x y h k = absurd k
bands_once one_first once finer a t (cause.Fails f) cause.Done x y h k = absurd (h.not_base k.base)
bands_once one_first once finer a t (cause.Fails f) (cause.Fails g) x y h k = breaks_once one_first a t f g x y h k
bands_once one_first once finer a t (cause.Fails f) d x y h k = absurd k
bands_once one_first once finer a t c d x y h k = absurd h

-- the value of an option, as the timing and the number of one certificate
same_value : {V : Type 0} (o : Option V) (x y : V) → o ≡ Some x → o ≡ Some y → y ≡ x
same_value o x y e f = cc

no_value : {V : Type 0} (o : Option V) (x : V) → o ≡ Some x → o ≡ None → ⊥
no_value o x e f = absurd cc

same_lines : (a : Street) (k m : ℕ) (ns os : List ℕ) (t u : TimingRecord) (x y : ℚ) → k ≡ m → ns ≡ os → t ≡ u → x ≡ y → plan_lines a k ns t x ≡ plan_lines a m os u y
same_lines a k m ns os t u x y e f g h = ap₂ (λ n ms. plan_lines a n ms t x) e f ∙ ap₂ (λ p z. plan_lines a m os p z) g h

module _ (Accepts : Street → Warrant → Type 0) (a : Street) (w : Warrant) (o : Option TimingRecord) where
  pub unplanned_accepted : (e : PlanEnd) → Unplans Accepts a w o e → Accepts a w
  unplanned_accepted end.NoTimingGiven h = h.0
  unplanned_accepted e h = h.2.accepted

  fails_apart : FailsRulesOut → (t u : TimingRecord) (f : Failing) → o ≡ Some t → o ≡ Some u → Good a t → IsFirstFailing a u f → ⊥
  fails_apart rules t u f e g good h = rules a u f h.fails (subst (λ p. Good a p) (sym (same_value o t u e g)) good)

  unplans_unfit : FailsRulesOut → (e : PlanEnd) (u : TimingRecord) (f : Failing) → Unplans Accepts a w o e → o ≡ Some u → IsFirstFailing a u f → ⊥
  unplans_unfit rules end.NoTimingGiven u f h g k = no_value o u g h.1
  unplans_unfit rules e u f h g k = fails_apart rules h.0 u f h.2.timing_is g h.2.good k

-- what is found of a timing whose plan is made, by a certificate that is accepted so or refused so: of `round-from`, and of `round`, which has the certificate's own
abbrev FromFinds : (Street → Warrant → Type 0) → (Street → Warrant → Type 0) → Street → Warrant → Option TimingRecord → Cause → List ℕ → Option (List ℕ) → Type 0
FromFinds Accepts Refuses a w given cause.Done lines put = With (IsRounded Accepts a w given lines) put
FromFinds Accepts Refuses a w given (cause.Rejected r) lines put = Rejects whole_bands whole_checked a w (cause.Rejected r) lines × Refuses a w × (put ≡ None)
FromFinds Accepts Refuses a w given (cause.Fails f) lines put = IsUnfit Accepts a w given f lines put
FromFinds Accepts Refuses a w given (cause.Unplanned e) lines put = IsUnplanned Accepts a w given e lines put
FromFinds Accepts Refuses a w given c lines put = ⊥

module _ (ends : second.OneEnd) (apart : PlanOrEnd) (one : OnePlan) (Accepts Refuses : Street → Warrant → Type 0) (a : Street) (w : Warrant) (o : Option TimingRecord) where
  plans_once : (x y s u : List ℕ) → IsRounded Accepts a w o x s → IsRounded Accepts a w o y u → (x ≡ y) × (s ≡ u)
  plans_once x y s u h k =
      let t = same_value o h.timing k.timing h.certified.timing_is k.certified.timing_is in
      let q = same_value (limit_of w.claim) h.claim k.claim h.certified.claim_is k.certified.claim_is in
      let other = subst (λ c. IsAnswer a c (base h.timing) k.plan) q (subst (λ p. IsAnswer a k.claim (base p) k.plan) t k.answer) in
      let e = one a h.claim (base h.timing) h.plan k.plan h.certified.valid h.certified.good.base h.answer other in (
        h.lines_are ∙ same_lines a h.plan.seconds k.plan.seconds h.plan.offsets.items k.plan.offsets.items h.plan.timing k.plan.timing h.plan.loss k.plan.loss e.0 e.1 e.2 e.3 ∙ sym k.lines_are,
        h.written ∙ ap timing_text e.2 ∙ sym k.written,
      )

  -- the timing and the number of another certificate's end
  ends_here : (t u : TimingRecord) (x y : ℚ) (e : PlanEnd) → IsCertified Accepts a w o t x → IsCertified Accepts a w o u y → Ends a y (base u) e → Ends a x (base t) e
  ends_here t u x y e c d h =
      subst (λ p. Ends a x (base p) e) (same_value o t u c.timing_is d.timing_is) (subst (λ q. Ends a q (base u) e) (same_value (limit_of w.claim) x y c.claim_is d.claim_is) h)

  plan_apart : (e : PlanEnd) (x s : List ℕ) → IsRounded Accepts a w o x s → Unplans Accepts a w o e → ⊥
  plan_apart end.NoTimingGiven x s h k = no_value o h.timing h.certified.timing_is k.1
  plan_apart e x s h k = apart a h.claim (base h.timing) h.plan e h.certified.valid h.certified.good.base h.answer (ends_here h.timing k.0 h.claim k.1 e h.certified k.2 k.3)

  unplans_once : (e f : PlanEnd) → Unplans Accepts a w o e → Unplans Accepts a w o f → e ≡ f
  unplans_once end.NoTimingGiven end.NoTimingGiven h k = refl
  unplans_once end.NoTimingGiven f h k = absurd (no_value o k.0 k.2.timing_is h.1)
  unplans_once e end.NoTimingGiven h k = absurd (no_value o h.0 h.2.timing_is k.1)
  unplans_once e f h k = ends a h.1 (base h.0) e f h.2.valid h.2.good.base h.3 (ends_here h.0 k.0 h.1 k.1 f h.2 k.2 k.3)

  module _ (one_first : OneFirst) (rules : FailsRulesOut) (clash : (c : Cause) (l : List ℕ) → Rejects whole_bands whole_checked a w c l → Refuses a w → Accepts a w → ⊥) (once : OneFirstRefusal) where
    unfit_once : (f g : Failing) (x y : List ℕ) (s u : Option (List ℕ)) → IsUnfit Accepts a w o f x s → IsUnfit Accepts a w o g y u → (cause.Fails f ≡ cause.Fails g) × (x ≡ y) × (s ≡ u)
    unfit_once f g x y s u h k =
        let first = subst (λ p. IsFirstFailing a p g) (same_value o h.timing k.timing h.timing_is k.timing_is) k.first in
        let e = one_first a h.timing f g h.first first in
        (ap cause.Fails e, h.lines_are ∙ ap fails_line e ∙ sym k.lines_are, h.no_put ∙ sym k.no_put)

    from_once : (c d : Cause) (x y : List ℕ) (s u : Option (List ℕ)) → FromFinds Accepts Refuses a w o c x s → FromFinds Accepts Refuses a w o d y u → (c ≡ d) × (x ≡ y) × (s ≡ u)
    from_once cause.Done cause.Done x y s u h k = let e = plans_once x y h.0 k.0 h.2 k.2 in (refl, e.0, h.1 ∙ ap Some e.1 ∙ sym k.1)
    from_once cause.Done (cause.Rejected r) x y s u h k = absurd (clash _ _ k.0 k.1 h.2.certified.accepted)
    from_once cause.Done (cause.Fails f) x y s u h k = absurd (fails_apart Accepts a w o rules h.2.timing k.timing f h.2.certified.timing_is k.timing_is h.2.certified.good k.first)
    from_once cause.Done (cause.Unplanned e) x y s u h k = absurd (plan_apart e x h.0 h.2 k.first)
    from_once cause.Done d x y s u h k = absurd k
    from_once (cause.Rejected r) cause.Done x y s u h k = absurd (clash _ _ h.0 h.1 k.2.certified.accepted)
    from_once (cause.Rejected r) (cause.Rejected q) x y s u h k = let e = rejects_once whole_bands whole_checked once a w (cause.Rejected r) (cause.Rejected q) x y h.0 k.0 in (e.0, e.1, h.2 ∙ sym k.2)
    from_once (cause.Rejected r) (cause.Fails f) x y s u h k = absurd (clash _ _ h.0 h.1 k.accepted)
    from_once (cause.Rejected r) (cause.Unplanned e) x y s u h k = absurd (clash _ _ h.0 h.1 (unplanned_accepted Accepts a w o e k.first))
    from_once (cause.Rejected r) d x y s u h k = absurd k
    from_once (cause.Fails f) cause.Done x y s u h k = absurd (fails_apart Accepts a w o rules k.2.timing h.timing f k.2.certified.timing_is h.timing_is k.2.certified.good h.first)
    from_once (cause.Fails f) (cause.Rejected r) x y s u h k = absurd (clash _ _ k.0 k.1 h.accepted)
    from_once (cause.Fails f) (cause.Fails g) x y s u h k = unfit_once f g x y s u h k
    from_once (cause.Fails f) (cause.Unplanned e) x y s u h k = absurd (unplans_unfit Accepts a w o rules e h.timing f k.first h.timing_is h.first)
    from_once (cause.Fails f) d x y s u h k = absurd k
    from_once (cause.Unplanned e) cause.Done x y s u h k = absurd (plan_apart e y k.0 k.2 h.first)
    from_once (cause.Unplanned e) (cause.Rejected r) x y s u h k = absurd (clash _ _ k.0 k.1 (unplanned_accepted Accepts a w o e h.first))
    from_once (cause.Unplanned e) (cause.Fails f) x y s u h k = absurd (unplans_unfit Accepts a w o rules e k.timing f h.first k.timing_is k.first)
    from_once (cause.Unplanned e) (cause.Unplanned f) x y s u h k = let same = unplans_once e f h.first k.first in
        (ap cause.Unplanned same, h.lines_are ∙ ap unplanned_line same ∙ sym k.lines_are, h.no_put ∙ sym k.no_put)
    from_once (cause.Unplanned e) d x y s u h k = absurd k
    from_once c d x y s u h k = absurd h

-- nothing is asked of another street
abbrev NoOther : Street → Warrant → Type 0
NoOther a w = Unit {0}

-- what is found of the certificate's own timing is found of it as of any
own_from : (a : Street) (w : Warrant) (c : Cause) (l : List ℕ) (bytes : Option (List ℕ)) → RoundFinds a w c l bytes → FromFinds IsAccepted NoOther a w w.timing c l bytes
own_from a w cause.Done l bytes h = h
own_from a w (cause.Rejected r) l bytes h = (h.0, tt, h.1)
own_from a w (cause.Unplanned e) l bytes h = h
own_from a w c l bytes h = absurd h

abbrev OfWidened : Street → Warrant → Type 0
OfWidened a w = IsRefused (widen a) w

other_from : (a : Street) (w : Warrant) (o : Option TimingRecord) (c : Cause) (l : List ℕ) (bytes : Option (List ℕ)) → RoundFromFinds a w o c l bytes → FromFinds IsBound OfWidened a w o c l bytes
other_from a w o cause.Done l bytes h = h
other_from a w o (cause.Rejected r) l bytes h = h
other_from a w o (cause.Fails f) l bytes h = h
other_from a w o (cause.Unplanned e) l bytes h = h
other_from a w o c l bytes h = absurd h

-- no certificate is accepted and refused
own_clash : RefusedIsNotAccepted → (a : Street) (w : Warrant) (c : Cause) (l : List ℕ) → Rejects whole_bands whole_checked a w c l → NoOther a w → IsAccepted a w → ⊥
own_clash apart a w c l h other accepted = apart a w h.reject h.first h.kept accepted

other_clash : RefusedIsNotAccepted → (a : Street) (w : Warrant) (c : Cause) (l : List ℕ) → Rejects whole_bands whole_checked a w c l → OfWidened a w → IsBound a w → ⊥
other_clash apart a w c l h other (inl accepted) = apart a w h.reject h.first h.kept accepted
other_clash apart a w c l h other (inr accepted) = apart (widen a) w other.why other.first other.kept accepted

-- a plan in whole seconds goes by what searches find, but a certificate is refused once
pub planless_bound : (a : Street) (w : Warrant) (ks : List ℕ) (e : PlanEnd) (x : List ℕ) (s : Option (List ℕ)) → IsPlanless a w ks e x s → IsBound a w
planless_bound a w ks e x s h = elim h.reason [ inl n ↦ n.accepted | inr n ↦ n.basis.accepted ]

module _ (apart : RefusedIsNotAccepted) (once : OneFirstRefusal) (a : Street) (w : Warrant) (ks ms : List ℕ) where
  bound_clash : (c : Cause) (x : List ℕ) → Rejects whole_bands whole_checked a w c x × IsRefused (widen a) w → IsBound a w → ⊥
  bound_clash c x h bound = other_clash apart a w c x h.0 h.1 bound

  whole_once : (c d : Cause) (x y : List ℕ) (s u : Option (List ℕ)) → WholeFinds a w ks c x s → WholeFinds a w ms d y u
      → ((c ≡ d) × (x ≡ y) × (s ≡ u)) ⊎ (IsChosen usage.Whole c × IsChosen usage.Whole d)
  whole_once cause.Done cause.Done x y s u h k = inr (tt, tt)
  whole_once cause.Done (cause.Rejected q) x y s u h k = absurd (bound_clash (cause.Rejected q) y (k.0, k.1) h.2.basis.accepted)
  whole_once cause.Done (cause.Unplanned e) x y s u h k = inr (tt, tt)
  whole_once cause.Done d x y s u h k = absurd k
  whole_once (cause.Rejected r) cause.Done x y s u h k = absurd (bound_clash (cause.Rejected r) x (h.0, h.1) k.2.basis.accepted)
  whole_once (cause.Rejected r) (cause.Rejected q) x y s u h k =
      let e = rejects_once whole_bands whole_checked once a w (cause.Rejected r) (cause.Rejected q) x y h.0 k.0 in inl (e.0, e.1, h.2 ∙ sym k.2)
  whole_once (cause.Rejected r) (cause.Unplanned e) x y s u h k = absurd (bound_clash (cause.Rejected r) x (h.0, h.1) (planless_bound a w ms e y u k))
  whole_once (cause.Rejected r) d x y s u h k = absurd k
  whole_once (cause.Unplanned e) cause.Done x y s u h k = inr (tt, tt)
  whole_once (cause.Unplanned e) (cause.Rejected q) x y s u h k = absurd (bound_clash (cause.Rejected q) y (k.0, k.1) (planless_bound a w ks e x s h))
  whole_once (cause.Unplanned e) (cause.Unplanned f) x y s u h k = inr (tt, tt)
  whole_once (cause.Unplanned e) d x y s u h k = absurd k
  whole_once c d x y s u h k = absurd h

-- the moved street has one text
moved_once : OneText → (way : Way) (a : Street) (c d : Cause) (x y : List ℕ) (s t : Option (List ℕ)) → With (IsMove way a c x) s → With (IsMove way a d y) t → (c ≡ d) × (x ≡ y) × (s ≡ t)
moved_once one_text way a c d x y s t h k =
    let text = one_text.same (street_moved way a) h.0 k.0 h.2.text_is.printed k.2.text_is.printed in
    (h.2.cause_is ∙ sym k.2.cause_is, h.2.lines_are ∙ sym k.2.lines_are, h.1 ∙ ap Some text ∙ sym k.1)

-- of several half-cycle plans that are as wide any may be told
half_once : OneFirst → OneEnd → (a : Street) (t : TimingRecord) (c d : Cause) (x y : List ℕ) (s u : Option (List ℕ)) → HalfFinds a t c x s → HalfFinds a t d y u
    → ((c ≡ d) × (x ≡ y) × (s ≡ u)) ⊎ (IsVerdict c × IsVerdict d)
half_once one_first ends a t cause.Done cause.Done x y s u h k = inr (tt, tt)
half_once one_first ends a t cause.Done (cause.Fails f) x y s u h k = absurd (k.0.not_base h.base)
half_once one_first ends a t cause.Done (cause.Unmatched e) x y s u h k = absurd (ends.not_ready a t e k.first h.ready)
half_once one_first ends a t cause.Done d x y s u h k = absurd k
half_once one_first ends a t (cause.Fails f) cause.Done x y s u h k = absurd (h.0.not_base k.base)
half_once one_first ends a t (cause.Fails f) (cause.Fails g) x y s u h k = let e = breaks_once one_first a t f g x y h.0 k.0 in inl (e.0, e.1, h.1 ∙ sym k.1)
half_once one_first ends a t (cause.Fails f) (cause.Unmatched e) x y s u h k = absurd (h.0.not_base k.base)
half_once one_first ends a t (cause.Fails f) d x y s u h k = absurd k
half_once one_first ends a t (cause.Unmatched e) cause.Done x y s u h k = absurd (ends.not_ready a t e h.first k.ready)
half_once one_first ends a t (cause.Unmatched e) (cause.Fails f) x y s u h k = absurd (k.0.not_base h.base)
half_once one_first ends a t (cause.Unmatched e) (cause.Unmatched f) x y s u h k =
    let same = ends.once a t e f h.first k.first in
    inl (ap cause.Unmatched same, h.lines_are ∙ ap end_line same ∙ sym k.lines_are, h.no_put ∙ sym k.no_put)
half_once one_first ends a t (cause.Unmatched e) d x y s u h k = absurd k
half_once one_first ends a t c d x y s u h k = absurd h

-- ---- a typed plan
judged_once : OneFirst → FailsRulesOut → (a : Street) (t : TimingRecord) (f g : Option Failing) → IsJudged a t f → IsJudged a t g → f ≡ g
judged_once one_first out a t None None h k = refl
judged_once one_first out a t None (Some g) h k = absurd (out a t g k.fails h)
judged_once one_first out a t (Some f) None h k = absurd (out a t f h.fails k)
judged_once one_first out a t (Some f) (Some g) h k = ap Some (one_first a t f g h k)

writes_once : OneFirst → FailsRulesOut → (a : Street) (m : Measured) (c d : Cause) (x y : List ℕ) (s u : Option (List ℕ)) → WritesTiming a m c x s → WritesTiming a m d y u
    → (c ≡ d) × (x ≡ y) × (s ≡ u)
writes_once one_first out a m c d x y s u h k =
    let e = judged_once one_first out a m.timing h.1.2.broken k.1.2.broken h.1.2.judged k.1.2.judged in (
      h.0 ∙ sym k.0,
      h.1.2.lines_are ∙ ap (λ f. measured_lines a m ++ verdict_line f) e ∙ sym k.1.2.lines_are,
      h.1.1 ∙ ap Some (h.1.2.written ∙ sym k.1.2.written) ∙ sym k.1.1,
    )

module _ (one : OneTiming) (one_first : OneFirst) (out : FailsRulesOut) (a : Street) (p : Typed) where
  typed_once : (c d : Cause) (x y : List ℕ) (s u : Option (List ℕ)) → TypedFinds a p c x s → TypedFinds a p d y u → (c ≡ d) × (x ≡ y) × (s ≡ u)
  typed_once c d x y s u (inl h) (inl k) =
      let e = one a p k.made h.made h.valid k.made_is h.made_is in
      writes_once one_first out a h.made c d x y s u h.finds (subst (λ (m : Measured). WritesTiming a m d y u) e k.finds)
  typed_once c d x y s u (inl h) (inr (inl k)) = absurd (no_value (count_fault a p) (fault_of k.refusal) k.first h.made_is.counts)
  typed_once c d x y s u (inl h) (inr (inr k)) = absurd (no_value (too_fine a p) k.ticks k.first.1 h.made_is.fine)
  typed_once c d x y s u (inr (inl h)) (inl k) = absurd (no_value (count_fault a p) (fault_of h.refusal) h.first k.made_is.counts)
  typed_once c d x y s u (inr (inl h)) (inr (inl k)) =
      let e = same_refusal h.refusal k.refusal (sym (same_value (count_fault a p) (fault_of h.refusal) (fault_of k.refusal) h.first k.first)) in
      (h.cause_is ∙ ap cause.Refused e ∙ sym k.cause_is, h.lines_are ∙ ap refused_line e ∙ sym k.lines_are, h.no_put ∙ sym k.no_put)
  typed_once c d x y s u (inr (inl h)) (inr (inr k)) = absurd (no_value (count_fault a p) (fault_of h.refusal) h.first k.first.0)
  typed_once c d x y s u (inr (inr h)) (inl k) = absurd (no_value (too_fine a p) h.ticks h.first.1 k.made_is.fine)
  typed_once c d x y s u (inr (inr h)) (inr (inl k)) = absurd (no_value (count_fault a p) (fault_of k.refusal) k.first h.first.0)
  typed_once c d x y s u (inr (inr h)) (inr (inr k)) =
      let e = sym (same_value (too_fine a p) h.ticks k.ticks h.first.1 k.first.1) in
      (h.cause_is ∙ ap cause.TooFine e ∙ sym k.cause_is, h.lines_are ∙ ap ticks_line e ∙ sym k.lines_are, h.no_put ∙ sym k.no_put)

module _ (one_first : OneFirst) (rules : FailsRulesOut) (a : Street) (tells : TimingRecord → Option Failing → List ℕ) (made : TimingRecord → List ℕ) where
  timed_once : (o : Option TimingRecord) (c d : Cause) (x y : List ℕ) (s u : Option (List ℕ))
      → TimedFinds a tells made o c x s → TimedFinds a tells made o d y u → (c ≡ d) × (x ≡ y) × (s ≡ u)
  timed_once None c d x y s u h k = (h.0 ∙ sym k.0, h.1 ∙ sym k.1, h.2 ∙ sym k.2)
  timed_once (Some t) cause.Done cause.Done x y s u h k = (
    refl,
    h.2.lines_are ∙ (ap (tells t) (judged_once one_first rules a t h.2.broken k.2.broken h.2.judged k.2.judged) ∙ sym k.2.lines_are),
    h.1 ∙ ap Some (h.2.text_is ∙ sym k.2.text_is) ∙ sym k.1,
  )
  timed_once (Some t) cause.Done (cause.Fails f) x y s u h k = absurd (k.1.fails h.2.shape)
  timed_once (Some t) cause.Done d x y s u h k = absurd k
  timed_once (Some t) (cause.Fails f) cause.Done x y s u h k = absurd (h.1.fails k.2.shape)
  timed_once (Some t) (cause.Fails f) (cause.Fails g) x y s u h k = (ap cause.Fails (h.0 ∙ sym k.0), h.2 ∙ sym k.2, h.3 ∙ sym k.3)
  timed_once (Some t) (cause.Fails f) d x y s u h k = absurd k
  timed_once (Some t) c d x y s u h k = absurd h

-- ---- what is put
put_alike : (output s t : Option (List ℕ)) → s ≡ t → put_of output s ≡ put_of output t
put_alike output s t e = ap (put_of output) e

same_name : (output : Option (List ℕ)) (x y : List ℕ) → option_map (λ b. b.name) (put_of output (Some x)) ≡ option_map (λ b. b.name) (put_of output (Some y))
same_name None x y = refl
same_name (Some name) x y = refl

-- bytes are put into one file, whatever they are
name_alike : (output s t : Option (List ℕ)) (x y : List ℕ) → s ≡ Some x → t ≡ Some y → option_map (λ b. b.name) (put_of output s) ≡ option_map (λ b. b.name) (put_of output t)
name_alike output s t x y e f =
    ap (λ o. option_map (λ b. b.name) (put_of output o)) e ∙ same_name output x y ∙ sym (ap (λ o. option_map (λ b. b.name) (put_of output o)) f)

same_bytes : (u : Usage) (p q : Option NamedBytes) → p ≡ q → SameBytes u p q
same_bytes usage.Sweep p q e = ap (option_map (λ b. b.name)) e
same_bytes u p q e = e

pub put_same : (asked : Option Request) (p q : Option NamedBytes) → p ≡ q → SamePut asked p q
put_same None p q e = e
put_same (Some r) p q e = same_bytes r.usage p q e

pub lines_alike : (u : Usage) (c : Cause) (x y : List ℕ) → x ≡ y → SameLines u c x y
lines_alike usage.Explain (cause.Refused r) x y e = inl e
lines_alike u c x y e = e

-- ---- every command
-- the same cause and lines, and the same bytes, as this command puts them
pub record Alike (u : Usage) (output : Option (List ℕ)) (c d : Cause) (x y : List ℕ) (s t : Option (List ℕ)) : Type 0 where
  pub cause : c ≡ d
  pub lines : SameLines u c x y
  pub put : SameBytes u (put_of output s) (put_of output t)

-- of a command that puts nothing
told_once : (u : Usage) (c d : Cause) (x y : List ℕ) (s t : Option (List ℕ)) → (c ≡ d) × (x ≡ y) → Alike u None c d x y s t
told_once u c d x y s t e = record { cause = e.0; lines = lines_alike u c x y e.1; put = same_bytes u None None refl }

alike : (u : Usage) (output : Option (List ℕ)) (c d : Cause) (x y : List ℕ) (s t : Option (List ℕ)) → (c ≡ d) × (x ≡ y) × (s ≡ t) → Alike u output c d x y s t
alike u output c d x y s t e = record { cause = e.0; lines = lines_alike u c x y e.1; put = same_bytes u (put_of output s) (put_of output t) (put_alike output s t e.2) }

module _ (reader : OneReading) (one_text : OneText) (one_first : OneFirst) (rules : FailsRulesOut) (apart : RefusedIsNotAccepted) (once : OneFirstRefusal) (widest : OneWidest) (finer : FinerPairs)
    (one_timing : OneTiming) (ends : OneEnd) (plan_ends : second.OneEnd) (plan_or : PlanOrEnd) (one_plan : OnePlan) (links_apart : LinkRefusedIsNotAccepted) (links_once : OneFirstLinkRefusal) where
  pub finds_once : (u : Usage) (n : Settings) (output : Option (List ℕ)) (v : Values (readers u)) (c d : Cause) (x y : List ℕ) (s t : Option (List ℕ))
      → Finds u v n c x s → Finds u v n d y t
      → Agree (row u).chooses (readers u) (Alike u (if (row u).puts then output else None) c d x y s t) (IsChosen u c × IsChosen u d)
  finds_once usage.Hold n output v c d x y s t h k = told_once usage.Hold c d x y s t (hold_once one_first rules v.0 v.1.0 c d x y h k)
  finds_once usage.Show n output v c d x y s t h k = told_once usage.Show c d x y s t (show_once one_text v.0 c d x y h k)
  finds_once usage.Check n output v c d x y s t h k = told_once usage.Check c d x y s t (checks_once whole_bands whole_checked once v.0 v.1.0 apart c d x y h k)
  finds_once usage.CheckLinks n output v c d x y s t h k =
      told_once usage.CheckLinks c d x y s t (checks_once bands_of_links links_checked links_once v.0 v.1.0 links_apart c d x y h k)
  finds_once usage.Solve n output v c d x y s t h k = inr (verdict_cause c h.2.found.verdict h.2.cause_is, verdict_cause d k.2.found.verdict k.2.cause_is)
  finds_once usage.Links n output v c d x y s t h k = inr (verdict_cause c h.2.found.verdict h.2.cause_is, verdict_cause d k.2.found.verdict k.2.cause_is)
  finds_once usage.Renew n output v c d x y s t h k =
      alike usage.Renew output c d x y s t
      (h.2.cause_is ∙ sym k.2.cause_is, h.2.lines_are ∙ sym k.2.lines_are, h.1 ∙ ap Some (h.2.text_is.written ∙ sym k.2.text_is.written) ∙ sym k.1)
  finds_once usage.Bands n output v c d x y s t h k = told_once usage.Bands c d x y s t (bands_once one_first widest finer v.0 v.1.0 c d x y h k)
  finds_once usage.Round n output v c d x y s t h k =
      alike usage.Round output c d x y s t
      (from_once plan_ends plan_or one_plan IsAccepted NoOther v.0 v.1.0 v.1.0.timing one_first rules (own_clash apart v.0 v.1.0) once c d x y s t
      (own_from v.0 v.1.0 c x s h) (own_from v.0 v.1.0 d y t k))
  finds_once usage.RoundFrom n output v c d x y s t h k =
      alike usage.RoundFrom output c d x y s t
      (from_once plan_ends plan_or one_plan IsBound OfWidened v.0 v.1.0 v.1.1.0 one_first rules (other_clash apart v.0 v.1.0) once c d x y s t
      (other_from v.0 v.1.0 v.1.1.0 c x s h) (other_from v.0 v.1.0 v.1.1.0 d y t k))
  finds_once usage.Half n output v c d x y s t h k = elim (half_once one_first ends v.0 v.1.0 c d x y s t h k) [
    | inl e ↦ inl (alike usage.Half output c d x y s t e)
    | inr e ↦ inr e
  ]
  finds_once usage.TimingOf n output v c d x y s t h k = alike usage.TimingOf output c d x y s t (typed_once one_timing one_first rules v.0 v.1.0 c d x y s t h k)
  finds_once usage.Draw n output v c d x y s t h k =
      alike usage.Draw output c d x y s t (timed_once one_first rules v.0 (λ p. drawn_lines) (picture_of v.0 n.title) v.1.0 c d x y s t h k)
  finds_once usage.Sheet n output v c d x y s t h k =
      alike usage.Sheet output c d x y s t (timed_once one_first rules v.0 (sheet_lines v.0) (table_of v.0 n.reference) v.1.0 c d x y s t h k)
  finds_once usage.Whole n output v c d x y s t h k = elim (whole_once apart once v.0 v.1.0 h.0 k.0 c d x y s t h.2 k.2) [
    | inl e ↦ inl (alike usage.Whole output c d x y s t e)
    | inr e ↦ inr e
  ]
  finds_once usage.Explain n output v c d x y s t h k =
      let e = tells_once reader v.0 (kind_of v.0) c d x y h k in record { cause = e.0; lines = e.1; put = same_bytes usage.Explain None None refl }
  finds_once usage.Help n output v c d x y s t h k = told_once usage.Help c d x y s t (h.0 ∙ sym k.0, h.1 ∙ sym k.1)
  finds_once usage.Version n output v c d x y s t h k = told_once usage.Version c d x y s t (h.0 ∙ sym k.0, h.1 ∙ sym k.1)
  finds_once usage.Narrow n output v c d x y s t h k = alike usage.Narrow output c d x y s t (moved_once one_text Inwards v.0 c d x y s t h k)
  finds_once usage.Widen n output v c d x y s t h k = alike usage.Widen output c d x y s t (moved_once one_text Outwards v.0 c d x y s t h k)
  finds_once usage.Make n output v c d x y s t h k = told_once usage.Make c d x y s t (show_once one_text (made_street n.signals n.seed) c d x y h k)
  finds_once usage.Trial n output v c d x y s t h k = (verdict_cause c h.found.verdict h.cause_is, verdict_cause d k.found.verdict k.cause_is)
  finds_once usage.Sensitivity n output v c d x y s t h k = inr (subst IsVerdict (sym h.2.cause_is) tt, subst IsVerdict (sym k.2.cause_is) tt)
  finds_once usage.Sweep n output v c d x y s t h k =
      record { cause = h.2.cause_is ∙ sym k.2.cause_is; lines = lines_alike usage.Sweep c x y (h.2.lines_are ∙ sym k.2.lines_are); put = name_alike output s t h.0 k.0 h.1 k.1 }

-- files that stop the reading in one way
pub stops_agree : (chooses : Bool) (rs : List ReadAs) (same verdicts : Type 0) → (rs ≡ [] → ⊥) → same → Agree chooses rs same verdicts
stops_agree false rs same verdicts n e = e
stops_agree true [] same verdicts n e = absurd (n refl)
stops_agree true (r ∷ rs) same verdicts n e = inl e

-- what agrees in one way does in another that follows from it
pub agree_by : (chooses : Bool) (rs : List ReadAs) (same also verdicts : Type 0) → (same → also) → Agree chooses rs same verdicts → Agree chooses rs also verdicts
agree_by false rs same also verdicts f e = f e
agree_by true [] same also verdicts f e = e
agree_by true (r ∷ rs) same also verdicts f (inl e) = inl (f e)
agree_by true (r ∷ rs) same also verdicts f (inr e) = inr e
