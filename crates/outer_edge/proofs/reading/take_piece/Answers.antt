use Rattle.std.proofs.Common.{arith}
use Rattle.std.proofs.lemmas.Grind.{common_steps}
use Rattle.outer_edge.proofs.reading.take_piece.Goals as goal

pub returns-in-Err-Failed : goal.returns-in-Err-Failed
returns-in-Err-Failed g c = grind (arith, common_steps)

pub returns-in-Err-Memory : goal.returns-in-Err-Memory
returns-in-Err-Memory g c = grind (arith, common_steps)

pub returns-in-Ok-extend_from_slice : goal.returns-in-Ok-extend_from_slice
returns-in-Ok-extend_from_slice g c = grind (arith, common_steps)

pub returns-in-Err : goal.returns-in-Err
returns-in-Err g c = grind (arith, common_steps)
