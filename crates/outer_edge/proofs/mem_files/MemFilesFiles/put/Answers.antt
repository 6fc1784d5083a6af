use Rattle.std.proofs.Common.{arith}
use Rattle.outer_edge.proofs.mem_files.MemFilesFiles.put.Goals as goal

pub returns : goal.returns
returns c = grind arith
