use Rattle.std.proofs.Common.{sym, subst}
use Rattle.whole_plan.specs.Choice.{IsNext}
use Rattle.whole_plan.specs.declared.choosing.SoFar.{SoFar}
use Rattle.whole_plan.proofs.Steps.{passed}
use Rattle.whole_plan.proofs.choosing.is_passed.Goals as goal

pub returns-in-Chosen : goal.returns-in-Chosen
returns-in-Chosen c = λ t a given ceiling.
    subst (λ (s : SoFar). IsNext a given c.args.seconds s s) (sym c.in-Chosen.is) (passed a given c.args.seconds c.args.bound c.in-Chosen.best ceiling (c.is_within.ensures t))
