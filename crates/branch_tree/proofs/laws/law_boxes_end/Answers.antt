use Rattle.std.proofs.Common.{arith}
use Rattle.branch_tree.proofs.KeptPromises.{boxes_end}
use Rattle.branch_tree.proofs.laws.law_boxes_end.Goals as goal

pub returns : goal.returns
returns c = grind (arith, boxes_end)
