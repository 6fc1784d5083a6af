use Rattle.std.proofs.Common.{sym}
use Rattle.engine_tests.proofs.Capping.{part_link}
use Rattle.engine_tests.proofs.tests.branch_and_bound_tests.toy.CappedRelaxation.open_part.Goals as goal

pub open-requires-clause-links : goal.open-requires-clause-links
open-requires-clause-links c =
    let p = c.requires.part in
    sym (part_link c.args.self.now.artery c.args.self.now.cap p.0 p.1 p.2 c.args._kept.now c.args.area.now p.3)

pub returns-clause-opens : goal.returns-clause-opens
returns-clause-opens c = λ parent line place part. c.open.ensures.opens line (sym part.area_is)
