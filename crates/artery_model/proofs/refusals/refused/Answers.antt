use Rattle.std.proofs.Common.{refl}
use Rattle.artery_model.proofs.refusals.refused.Goals as goal

pub returns-in-Ok : goal.returns-in-Ok
returns-in-Ok c = rw c.in-Ok.ensures refl
