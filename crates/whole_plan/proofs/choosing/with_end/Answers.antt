use Rattle.std.proofs.Common.{sym, subst}
use Rattle.whole_plan.specs.Choice.{IsNext}
use Rattle.whole_plan.specs.declared.choosing.SoFar.{SoFar}
use Rattle.whole_plan.specs.declared.choosing.SoFar.TheVariants.{Ended, Broken, Chosen}
use Rattle.whole_plan.proofs.Steps.{ended_after_nothing, ended_after_ended, broken_without_set, chosen_without_set}
use Rattle.whole_plan.proofs.choosing.with_end.Goals as goal

pub returns-in-Nothing : goal.returns-in-Nothing
returns-in-Nothing c = λ a given none.
    subst (λ (s : SoFar). IsNext a given c.args.seconds s (Ended c.args.end)) (sym c.in-Nothing.is) (ended_after_nothing a given c.args.seconds c.args.end none)

pub returns-in-Ended : goal.returns-in-Ended
returns-in-Ended c = λ a given none.
    subst (λ (s : SoFar). IsNext a given c.args.seconds s (Ended c.in-Ended.first)) (sym c.in-Ended.is)
    (ended_after_ended a given c.args.seconds c.args.end none c.in-Ended.first)

pub returns-in-Broken : goal.returns-in-Broken
returns-in-Broken c = λ a given none.
    subst (λ (s : SoFar). IsNext a given c.args.seconds s (Broken c.in-Broken.best c.in-Broken.first)) (sym c.in-Broken.is)
    (broken_without_set a given c.args.seconds c.args.end none c.in-Broken.best c.in-Broken.first)

pub returns-in-Chosen : goal.returns-in-Chosen
returns-in-Chosen c = λ a given none.
    subst (λ (s : SoFar). IsNext a given c.args.seconds s (Chosen c.in-Chosen.best)) (sym c.in-Chosen.is)
    (chosen_without_set a given c.args.seconds c.args.end none c.in-Chosen.best)
