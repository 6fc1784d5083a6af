use Rattle.std.proofs.Common.{◌≡◌, ◌∙◌, sym, ap, subst, arith}
use Rattle.rational_theory.specs.Rational.{◌-ℚ◌, ◌≤ℚ◌}
use Rattle.progression.specs.Speeds.{number}
use Rattle.progression.specs.Best.{weighted_band}
use Rattle.second_plan.specs.Ends.{Faults}
use Rattle.second_plan.proofs.Best.{loss_least}
use Rattle.std.proofs.lemmas.Grind.{common_steps}
use Rattle.rational_theory.proofs.Compare.{ne_false, eq_true, lt_true, lt_false, le_true, le_false}
use Rattle.second_plan.proofs.planning.plan.Goals as goal

pub returns-in-Err-clause-faults : goal.returns-in-Err-clause-faults
returns-in-Err-clause-faults c = subst (λ b. Faults c.args.artery.now c.args.claim b c.in-Err.fault) c.base-given.ensures (c.in-Err.ensures.faults c.args.claim)

pub returns-in-Ok-minus-clause-loss : goal.returns-in-Ok-minus-clause-loss
returns-in-Ok-minus-clause-loss c = λ bound.
    let is : c.in-Ok-minus.loss ≡ c.args.claim -ℚ weighted_band c.args.artery.now c.in-Ok.plan = c.in-Ok-minus.ensures.value.1 ∙ ap (λ v. c.args.claim -ℚ v) c.value.ensures.value in
    subst (λ x. number 0 ≤ℚ x) (sym is) (loss_least c.args.artery.now c.args.claim c.in-Ok.plan c.in-Ok.ensures.good bound)

pub returns-in-Ok-minus-clause-best : goal.returns-in-Ok-minus-clause-best
returns-in-Ok-minus-clause-best c = grind (arith, common_steps)

pub returns-in-Ok-minus-clause-plan : goal.returns-in-Ok-minus-clause-plan
returns-in-Ok-minus-clause-plan c = grind (arith, ne_false, eq_true, lt_true, lt_false, le_true, le_false)
