use Rattle.std.proofs.Common.{arith}
use Rattle.outer_edge.proofs.source.read_counted.Goals as goal

pub returns-in-Ok : goal.returns-in-Ok
returns-in-Ok g c = grind arith

pub returns-in-Err : goal.returns-in-Err
returns-in-Err g c = grind arith
