-- The plan of what came of all cycles, or why there is none.
use Rattle.std.proofs.Common.{◌≡◌, ℕ, ◌+◌, ◌<◌, List, [], ◌∷◌, ◌++◌, length, take, get_or, Option, Some, Result, Ok, Err, inl, inr, sym, ◌∙◌, ap, subst}
use Rattle.std.specs.Prelude.{IfOk}
use Rattle.std.proofs.lemmas.List.{take_more}
use Rattle.rational_theory.specs.Rational.{ℚ, ◌-ℚ◌, ◌≤ℚ◌}
use Rattle.narrow_fraction.specs.Past128.{Fits128, Past128}
use Rattle.narrow_fraction.specs.declared.wide.Op.TheVariants.{Sub}
use Rattle.narrow_fraction.specs.declared.wide.Wide.{Wide}
use Rattle.progression.specs.Street.{Street}
use Rattle.progression.specs.Speeds.{number}
use Rattle.progression.specs.TimingRecord.{TimingRecord}
use Rattle.progression.specs.Good.{Good}
use Rattle.progression.specs.Best.{weighted_band, Bounded}
use Rattle.time_space.specs.declared.failing.Failing.{Failing}
use Rattle.time_space.specs.declared.failing.Failing.TheVariants as failing
use Rattle.second_plan.specs.declared.answer.Plan.{Plan as Answer}
use Rattle.second_plan.specs.declared.answer.PlanEnd.{PlanEnd}
use Rattle.second_plan.specs.declared.answer.PlanEnd.TheVariants as end
use Rattle.second_plan.specs.declared.answer.PlanFault.{PlanFault}
use Rattle.second_plan.proofs.Best.{loss_least}
use Rattle.whole_offsets.specs.Offsets.{IsBestOfRuns}
use Rattle.whole_offsets.specs.Steady.{IsEndOf, end_of}
use Rattle.whole_offsets.specs.declared.answer.OffsetPlan.{OffsetPlan}
use Rattle.whole_plan.specs.Choice.{IsChosen, IsBroken, IsEnded, IsSoFar, IsNext}
use Rattle.whole_plan.specs.Planned.{IsWholePlan, IsPastLoss, Breaks, Ends}
use Rattle.whole_plan.specs.declared.choosing.SoFar.{SoFar}

-- a rule that is broken
IsRule : PlanEnd → Type 0
IsRule (end.NoLine d) = Unit {0}
IsRule (end.Fails f) = Unit {0}
IsRule e = ⊥

of_failing : (f : Failing) → IsRule (end_of f)
unfolding IsRule
of_failing failing.Shape = tt
of_failing (failing.Pattern i) = tt
of_failing failing.CycleShort = tt
of_failing failing.CycleLong = tt
of_failing (failing.Fast d i) = tt
of_failing (failing.Slow d i) = tt
of_failing (failing.Rise d i) = tt
of_failing (failing.Drop d i) = tt
of_failing failing.Ratio = tt
of_failing (failing.Least d) = tt
of_failing failing.Equal = tt
of_failing (failing.Outbound i x) = tt
of_failing (failing.Inbound i x) = tt

is_rule : (a : Street) (p : TimingRecord) (o : Option PlanEnd) (e : PlanEnd) → o ≡ Some e → IsEndOf a p o → IsRule e
is_rule a p o e same h =
    let some : IsEndOf a p (Some e) = subst (λ x. IsEndOf a p x) same h in
    subst IsRule (sym some.1.1) (of_failing some.0)

module _ (a : Street) (claim : ℚ) (given : Option TimingRecord) (cycles : List ℕ) where
  by_rule : (e : PlanEnd) → IsRule e → Breaks a given cycles e → Ends a claim given cycles e
  unfolding IsRule
  by_rule end.NoTimingGiven r h = absurd r
  by_rule end.NoWholeCycle r h = absurd r
  by_rule (end.TooFine n) r h = absurd r
  by_rule (end.NoLine d) r h = h
  by_rule (end.Fails f) r h = h
  by_rule (end.Wide w) r h = absurd r

  pub broken_ends : (k : ℕ) (q : OffsetPlan) (e : PlanEnd) → IsBroken a given cycles k q e → Ends a claim given cycles e
  broken_ends k q e h = by_rule e (is_rule a q.timing q.end e h.breaks h.set.set.end) (k, q, h)

module _ (a : Street) (claim : ℚ) (k : ℕ) (q : OffsetPlan) (x : ℚ) (is : x ≡ weighted_band a q.timing) (given : Option TimingRecord) (cycles : List ℕ) (chosen : IsChosen a given cycles k q) where
  pub planned : (p : Answer) → p.seconds ≡ k → p.offsets ≡ q.offsets → p.timing ≡ q.timing → Fits128 Sub claim x → p.loss ≡ claim -ℚ x → IsWholePlan a claim given cycles p
  planned p seconds offsets timing fits loss = record {
    plan = q;
    chosen = subst (λ n. IsChosen a given cycles n q) (sym seconds) chosen;
    offsets_are = offsets;
    timing_is = timing;
    fits = subst (λ y. Fits128 Sub claim y) (is ∙ ap (weighted_band a) (sym timing)) fits;
    loss = loss ∙ ap (λ y. claim -ℚ y) (is ∙ ap (weighted_band a) (sym timing));
  }

  pub past_loss : (w : Wide) → w ≡ record { op = Sub; left = claim; right = x } → Past128 Sub claim x → IsPastLoss a claim given cycles w
  past_loss w wide past = record {
    k = k;
    plan = q;
    chosen = chosen;
    wide = wide ∙ (λ i. record { op = Sub; left = claim; right = is i });
    past = subst (λ y. Past128 Sub claim y) is past;
  }

-- ---- what a plan promises
module _ (a : Street) (claim : ℚ) (given : Option TimingRecord) (cycles : List ℕ) (p : Answer) (h : IsWholePlan a claim given cycles p) where
  plan_good : Good a p.timing
  plan_good = subst (λ t. Good a t) (sym h.timing_is) h.chosen.good

  plan_best : IsBestOfRuns a p.timing
  plan_best = subst (λ t. IsBestOfRuns a t) (sym h.timing_is) (h.chosen.set.set.best h.chosen.good)

  plan_loss : Bounded a claim → number 0 ≤ℚ p.loss
  plan_loss bounded = subst (λ x. number 0 ≤ℚ x) (sym h.loss) (loss_least a claim p.timing plan_good bounded)

module _ (a : Street) (claim : ℚ) (given : Option TimingRecord) (cycles : List ℕ) (s : SoFar) (so_far : IsSoFar a given cycles s) where
  abbrev Told : Result Answer PlanFault → Type 0
  Told r = IfOk r (λ p. (g : Option TimingRecord) (ks : List ℕ) → IsSoFar a g ks s → IsWholePlan a claim g ks p)

  pub all_good : (r : Result Answer PlanFault) → Told r → IfOk r (λ p. Good a p.timing)
  all_good (Ok p) h = plan_good a claim given cycles p (h given cycles so_far)
  all_good (Err f) h = tt

  pub all_best : (r : Result Answer PlanFault) → Told r → IfOk r (λ p. IsBestOfRuns a p.timing)
  all_best (Ok p) h = plan_best a claim given cycles p (h given cycles so_far)
  all_best (Err f) h = tt

  pub all_losses : (r : Result Answer PlanFault) → Told r → IfOk r (λ p. Bounded a claim → number 0 ≤ℚ p.loss)
  all_losses (Ok p) h = plan_loss a claim given cycles p (h given cycles so_far)
  all_losses (Err f) h = tt

-- ---- the next cycle of a list
pub next_of : (a : Street) (given : Option TimingRecord) (cycles : List ℕ) (i k : ℕ) (before after : SoFar) → i < length cycles → k ≡ get_or cycles i k
    → IsNext a given k before after → IsSoFar a given (take i cycles) before → IsSoFar a given (take (i + 1) cycles) after
next_of a given cycles i k before after lt is next h =
    subst (λ xs. IsSoFar a given xs after) (sym (take_more cycles i k lt ∙ ap (λ y. take i cycles ++ y ∷ []) (sym is))) (next (take i cycles) h)
