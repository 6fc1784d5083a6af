use Rattle.std.proofs.Common.{◌≡◌, length, ◌-◌, subst, arith, ◌∙◌}
use Rattle.dual_leaf.proofs.Written.{Basics, basics_next, basics_all, bound_read}
use Rattle.dual_leaf.proofs.values.put_columns.Goals as goal

pub loop-row-preserved : goal.loop-row-preserved
loop-row-preserved c =
    let t = c.args.tableau.now.table in
    let i = c.loop-row.invariant in
    record {
      within = omega arith;
      written = basics_next t (length c.args.values.now) c.loop-row.values c.put.new.values c.loop-row.row (c.loop-row.row - 1) c.basic.result c.held.result
          c.rows-row.ensures.shape.shaped i.written (omega arith) (omega arith)
          c.basic.ensures (c.held.ensures ∙ bound_read t _ _ (omega arith) c.width-width.ensures.count) c.put.auto.values c.put.ensures;
    }

pub returns : goal.returns
returns c =
    let t = c.args.tableau.now.table in
    let e : c.loop-row.row ≡ 0 = omega arith in
    basics_all t (length c.args.values.now) c.loop-row.values (subst (λ i. Basics t (length c.args.values.now) c.loop-row.values i) e c.loop-row.invariant.written)
