use Rattle.std.proofs.Common.{arith}
use Rattle.program_builder.proofs.WrittenBounds.{narrow_all}
use Rattle.program_builder.proofs.remembering.read_bounds.Goals as goal

pub returns-clause-narrow : goal.returns-clause-narrow
returns-clause-narrow c = narrow_all c.loop-line.bounds c.loop-line.line (omega arith) c.loop-line.invariant.fits
