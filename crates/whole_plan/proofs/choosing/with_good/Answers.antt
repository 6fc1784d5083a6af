use Rattle.std.proofs.Common.{sym, subst}
use Rattle.whole_plan.specs.Choice.{IsNext}
use Rattle.whole_plan.specs.declared.choosing.SoFar.{SoFar}
use Rattle.whole_plan.specs.declared.choosing.SoFar.TheVariants.{Chosen}
use Rattle.whole_plan.proofs.Steps.{after_nothing, after_ended, from_broken, after_chosen, chosen_stays}
use Rattle.whole_plan.proofs.choosing.with_good.Goals as goal

pub returns-then-is_wider : goal.returns-then-is_wider
returns-then-is_wider c = λ a given set.
    subst (λ (s : SoFar). IsNext a given c.args.next.seconds s (Chosen c.args.next)) (sym c.in-Chosen.is)
    (after_chosen a given c.args.next set c.requires c.in-Chosen.best (c.is_wider.ensures.wider c.if-is_wider.true))

pub returns-in-Chosen : goal.returns-in-Chosen
returns-in-Chosen c = λ a given set.
    subst (λ (s : SoFar). IsNext a given c.args.next.seconds s (Chosen c.in-Chosen.best)) (sym c.in-Chosen.is)
    (chosen_stays a given c.args.next set c.requires c.in-Chosen.best (c.is_wider.ensures.no_wider c.if-is_wider.false))

pub returns-in-Nothing : goal.returns-in-Nothing
returns-in-Nothing c = λ a given set.
    subst (λ (s : SoFar). IsNext a given c.args.next.seconds s (Chosen c.args.next)) (sym c.in-Nothing.is) (after_nothing a given c.args.next set c.requires)

pub returns-in-Ended : goal.returns-in-Ended
returns-in-Ended c = λ a given set.
    subst (λ (s : SoFar). IsNext a given c.args.next.seconds s (Chosen c.args.next)) (sym c.in-Ended.is) (after_ended a given c.args.next set c.requires _)

pub returns : goal.returns
returns c = λ a given set. from_broken a given c.args.next set c.requires c.args.so_far c.in-Broken.is
