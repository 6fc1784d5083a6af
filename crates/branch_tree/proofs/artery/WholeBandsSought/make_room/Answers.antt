use Rattle.std.proofs.Common.{arith}
use Rattle.std.proofs.lemmas.Grind.{common_steps}
use Rattle.branch_tree.proofs.artery.WholeBandsSought.make_room.Goals as goal

pub make_loaded-requires : goal.make_loaded-requires
make_loaded-requires c = grind (arith, common_steps)
