use Rattle.std.proofs.Common.{arith}
use Rattle.simplex_theory.specs.Tableau.{width}
use Rattle.dual_leaf.specs.Leaves.{row_or_goal}
use Rattle.dual_leaf.proofs.Written.{slacks_none}
use Rattle.dual_leaf.proofs.values.put_slacks.Goals as goal

pub loop-col-init : goal.loop-col-init
loop-col-init c =
    let t = c.args.tableau.now.table in
    record {
      within = omega (arith, c.width-width.ensures.count);
      written = slacks_none (width t) (row_or_goal t c.args.row) t.standing c.args.cells.now
          _ c.width-width.ensures.count c.requires.zeros;
    }
