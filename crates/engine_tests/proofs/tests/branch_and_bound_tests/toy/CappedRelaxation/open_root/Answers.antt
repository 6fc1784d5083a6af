use Rattle.std.proofs.Common.{◌-◌, refl, ap, length, arith}
use Rattle.progression.specs.Street.{count}
use Rattle.linear_theory.specs.Boxes.{Area, root_span}
use Rattle.linear_theory.proofs.Points.{length-numbered}
use Rattle.branch_and_bound.specs.Lines.{top_line}
use Rattle.engine_tests.proofs.tests.branch_and_bound_tests.toy.CappedRelaxation.open_root.Goals as goal

pub open-requires-clause-links : goal.open-requires-clause-links
open-requires-clause-links c =
    let e = ap (λ (b : Area). length b.loops) c.requires.root in
    omega (arith, e, length-numbered (count c.args.self.now.artery - 1) 1 (root_span c.args.self.now.artery), c.count.ensures.value)

pub returns-clause-opens : goal.returns-clause-opens
returns-clause-opens c = c.open.ensures.opens (top_line c.args.area.now) refl
