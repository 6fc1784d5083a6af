use Rattle.run_laws.proofs.PlansSay.{sheet_says}
use Rattle.run_laws.proofs.plans.law_sheet_says.Goals as goal

pub returns : goal.returns
returns c reference before now artery timed new d h = sheet_says reference before now artery timed new d h
