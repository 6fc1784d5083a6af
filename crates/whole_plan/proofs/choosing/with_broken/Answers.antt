use Rattle.std.proofs.Common.{sym, subst, true≢false, ◌∙◌}
use Rattle.whole_plan.specs.Choice.{IsNext}
use Rattle.whole_plan.specs.declared.choosing.SoFar.{SoFar}
use Rattle.whole_plan.specs.declared.choosing.SoFar.TheVariants.{Broken, Chosen}
use Rattle.whole_plan.proofs.Steps.{broken_after_nothing, broken_after_ended, broken_after_worse, broken_before_stays, chosen_before_stays}
use Rattle.whole_plan.proofs.choosing.with_broken.Goals as goal

pub returns-in-Chosen : goal.returns-in-Chosen
returns-in-Chosen c = λ a given set.
    subst (λ (s : SoFar). IsNext a given c.args.next.seconds s (Chosen c.in-Chosen.best)) (sym c.in-Chosen.is)
    (chosen_before_stays a given c.args.next c.args.end set c.requires c.in-Chosen.best)

pub returns-then-is_better : goal.returns-then-is_better
returns-then-is_better c = λ a given set.
    subst (λ (s : SoFar). IsNext a given c.args.next.seconds s (Broken c.args.next c.args.end)) (sym c.in-Broken.is)
    (broken_after_worse a given c.args.next c.args.end set c.requires c.in-Broken.best c.in-Broken.first (c.is_better.ensures.0 c.if-is_better.true))

pub returns-else-is_better : goal.returns-else-is_better
returns-else-is_better c = λ a given set.
    subst (λ (s : SoFar). IsNext a given c.args.next.seconds s (Broken c.in-Broken.best c.in-Broken.first)) (sym c.in-Broken.is)
    (broken_before_stays a given c.args.next c.args.end set c.requires c.in-Broken.best c.in-Broken.first
    (λ b. true≢false (sym (c.is_better.ensures.1 b) ∙ c.if-is_better.false)))

pub returns-in-Nothing : goal.returns-in-Nothing
returns-in-Nothing c = λ a given set.
    subst (λ (s : SoFar). IsNext a given c.args.next.seconds s (Broken c.args.next c.args.end)) (sym c.in-Nothing.is)
    (broken_after_nothing a given c.args.next c.args.end set c.requires)

pub returns-in-Ended : goal.returns-in-Ended
returns-in-Ended c = λ a given set.
    subst (λ (s : SoFar). IsNext a given c.args.next.seconds s (Broken c.args.next c.args.end)) (sym c.in-Ended.is)
    (broken_after_ended a given c.args.next c.args.end set c.requires _)
