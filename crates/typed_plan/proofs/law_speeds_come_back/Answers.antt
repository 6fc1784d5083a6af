use Rattle.typed_plan.proofs.SpeedsBack.{speeds_come_back}
use Rattle.typed_plan.proofs.law_speeds_come_back.Goals as goal

pub returns : goal.returns
returns c = speeds_come_back
