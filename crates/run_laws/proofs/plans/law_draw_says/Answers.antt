use Rattle.run_laws.proofs.PlansSay.{draw_says}
use Rattle.run_laws.proofs.plans.law_draw_says.Goals as goal

pub returns : goal.returns
returns c title before now artery timed new d h = draw_says title before now artery timed new d h
