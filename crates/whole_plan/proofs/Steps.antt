-- One cycle more, by what came of those before it.
use Rattle.std.proofs.Common.{◌≡◌, ℕ, Option, Some, None, inl, inr, sym, subst}
use Rattle.std.specs.Prelude.{IfSome}
use Rattle.rational_theory.specs.Rational.{ℚ, ◌≤ℚ◌, ◌<ℚ◌}
use Rattle.progression.specs.Street.{Street}
use Rattle.progression.specs.TimingRecord.{TimingRecord}
use Rattle.progression.specs.Good.{Good}
use Rattle.progression.specs.Best.{weighted_band}
use Rattle.second_plan.specs.declared.answer.PlanEnd.{PlanEnd}
use Rattle.whole_offsets.specs.Score.{IsBetter}
use Rattle.whole_offsets.specs.Steady.{IsEndOf}
use Rattle.whole_plan.specs.Sought.{street_at, IsCeiling}
use Rattle.whole_plan.specs.Sets.{IsOffsetSet, HasNoOffsetSet}
use Rattle.whole_plan.specs.Choice.{IsNext}
use Rattle.whole_plan.specs.declared.choosing.Candidate.{Candidate}
use Rattle.whole_plan.specs.declared.choosing.SoFar.{SoFar}
use Rattle.whole_plan.specs.declared.choosing.SoFar.TheVariants.{Nothing, Ended, Broken, Chosen}
use Rattle.whole_plan.proofs.Choices.{taken, first_taken, taken_from_none, taken_from_broken, taken_from_chosen, stays, first_broken}
use Rattle.whole_plan.proofs.Choices.{none_before, broken_from_none, broken_from_worse, broken_no_better, broken_no_wider, broken_stays, first_ended, ended_stays}

good_of : (a : Street) (p : TimingRecord) (o : Option PlanEnd) → o ≡ None → IsEndOf a p o → Good a p
good_of a p o e h = subst (λ x. IsEndOf a p x) e h

module _ (a : Street) (given : Option TimingRecord) where
  -- ---- a good plan
  module _ (next : Candidate) (set : IsOffsetSet a given next.seconds next.plan) (ends : next.plan.end ≡ None) where
    good : Good a next.plan.timing
    good = good_of a next.plan.timing next.plan.end ends set.set.end

    pub after_nothing : IsNext a given next.seconds Nothing (Chosen next)
    after_nothing cycles h = taken a given cycles next.seconds next.plan set good (first_taken a given cycles next.seconds next.plan h)

    pub after_ended : (e : PlanEnd) → IsNext a given next.seconds (Ended e) (Chosen next)
    after_ended e cycles h = taken a given cycles next.seconds next.plan set good (taken_from_none a given cycles next.seconds next.plan e h)

    after_broken : (best : Candidate) (e : PlanEnd) → IsNext a given next.seconds (Broken best e) (Chosen next)
    after_broken best e cycles h = taken a given cycles next.seconds next.plan set good (taken_from_broken a given cycles next.seconds next.plan best.seconds best.plan e h)

    pub from_broken : {best : Candidate} {e : PlanEnd} (before : SoFar) → before ≡ Broken best e → IsNext a given next.seconds before (Chosen next)
    from_broken {best} {e} before is = subst (λ (s : SoFar). IsNext a given next.seconds s (Chosen next)) (sym is) (after_broken best e)

    pub after_chosen : (best : Candidate) → best.plan.score.weighted <ℚ next.plan.score.weighted → IsNext a given next.seconds (Chosen best) (Chosen next)
    after_chosen best less cycles h =
        let there = subst (λ x. x <ℚ next.plan.score.weighted) h.set.set.score.weighted less in
        let wider = subst (λ x. weighted_band a best.plan.timing <ℚ x) set.set.score.weighted there in
        taken a given cycles next.seconds next.plan set good (taken_from_chosen a given cycles next.seconds next.plan best.seconds best.plan wider h)

    pub chosen_stays : (best : Candidate) → next.plan.score.weighted ≤ℚ best.plan.score.weighted → IsNext a given next.seconds (Chosen best) (Chosen best)
    chosen_stays best most cycles h =
        let there = subst (λ x. x ≤ℚ best.plan.score.weighted) set.set.score.weighted most in
        let no_wider = subst (λ x. weighted_band a next.plan.timing ≤ℚ x) h.set.set.score.weighted there in
        stays a given cycles best.seconds best.plan next.seconds h (inr (inl (next.plan, (set, λ g. no_wider))))

  -- ---- a plan that breaks a rule
  module _ (next : Candidate) (e : PlanEnd) (set : IsOffsetSet a given next.seconds next.plan) (breaks : next.plan.end ≡ Some e) where
    pub broken_after_nothing : IsNext a given next.seconds Nothing (Broken next e)
    broken_after_nothing cycles h = first_broken a given cycles next.seconds next.plan e set breaks (none_before a given cycles next.plan h)

    pub broken_after_ended : (d : PlanEnd) → IsNext a given next.seconds (Ended d) (Broken next e)
    broken_after_ended d cycles h = first_broken a given cycles next.seconds next.plan e set breaks (broken_from_none a given cycles next.seconds next.plan e set breaks d h)

    pub broken_after_worse : (best : Candidate) (d : PlanEnd) → IsBetter next.plan.score best.plan.score → IsNext a given next.seconds (Broken best d) (Broken next e)
    broken_after_worse best d b cycles h =
        first_broken a given cycles next.seconds next.plan e set breaks (broken_from_worse a given cycles next.seconds next.plan e set breaks best.seconds best.plan d b h)

    pub broken_before_stays : (best : Candidate) (d : PlanEnd) → ¬ IsBetter next.plan.score best.plan.score → IsNext a given next.seconds (Broken best d) (Broken best d)
    broken_before_stays best d n cycles h =
        broken_stays a given cycles best.seconds best.plan d next.seconds h (broken_no_better a given cycles next.seconds next.plan e set breaks best.plan n)

    pub chosen_before_stays : (best : Candidate) → IsNext a given next.seconds (Chosen best) (Chosen best)
    chosen_before_stays best cycles h = stays a given cycles best.seconds best.plan next.seconds h (broken_no_wider a given cycles next.seconds next.plan e set breaks _)

  -- ---- no set
  module _ (k : ℕ) (e : PlanEnd) (none : HasNoOffsetSet a given k e) where
    pub ended_after_nothing : IsNext a given k Nothing (Ended e)
    ended_after_nothing cycles h = first_ended a given cycles k e h none

    pub ended_after_ended : (d : PlanEnd) → IsNext a given k (Ended d) (Ended d)
    ended_after_ended d cycles h = ended_stays a given cycles d k e h none

    pub broken_without_set : (best : Candidate) (d : PlanEnd) → IsNext a given k (Broken best d) (Broken best d)
    broken_without_set best d cycles h = broken_stays a given cycles best.seconds best.plan d k h (inr (e, none))

    pub chosen_without_set : (best : Candidate) → IsNext a given k (Chosen best) (Chosen best)
    chosen_without_set best cycles h = stays a given cycles best.seconds best.plan k h (inr (inr (e, none)))

  -- ---- a cycle that is passed over
  within_for : (bound : Option ℚ) (x y : ℚ) → x ≡ y → IfSome bound (λ b. b ≤ℚ x) → IfSome bound (λ b. b ≤ℚ y)
  within_for None x y e h = tt
  within_for (Some b) x y e h = subst (λ z. b ≤ℚ z) e h

  pub passed : (k : ℕ) (bound : Option ℚ) (best : Candidate) → IsCeiling (street_at a k) bound → IfSome bound (λ b. b ≤ℚ best.plan.score.weighted) → IsNext a given k (Chosen best) (Chosen best)
  passed k bound best ceiling within cycles h =
      stays a given cycles best.seconds best.plan k h (inl (bound, (ceiling, within_for bound best.plan.score.weighted (weighted_band a best.plan.timing) h.set.set.score.weighted within)))
