use Rattle.std.proofs.Common.{◌≡◌, ◌<◌, pos, length, sym, ◌∙◌, ap, arith}
use Rattle.std.proofs.lemmas.List.{get_or_default}
use Rattle.rational_theory.specs.Rational.{whole}
use Rattle.simplex_theory.specs.Tableau.{height}
use Rattle.fraction_tableau.specs.KeptCells.{number_in}
use Rattle.program_builder.proofs.WrittenRows.{one_done, all_done}
use Rattle.program_builder.proofs.remembering.write_bounds.Goals as goal

pub loop-row-preserved : goal.loop-row-preserved
loop-row-preserved c =
    let inside : c.loop-row.row < height c.args.tableau.now.table = (let e = c.rows-rows.ensures.count in omega arith) in
    let there : c.loop-row.row < length c.args.bounds.now = (let e = c.requires in omega arith) in
    one_done c.args.bounds.now c.args.tableau.now c.loop-row.tableau c.loop-row.row c.index-bounds-row.result c.loop-row.invariant inside
    (c.index-bounds-row.is ∙ get_or_default c.args.bounds.now c.loop-row.row c.index-bounds-row.result (whole (pos 0)) there) c.set_bound.new.self c.set_bound.ensures

pub returns : goal.returns
returns c =
    let same : c.loop-row.row ≡ c.rows-rows.result = omega arith in
    let rows : c.loop-row.row ≡ height c.args.tableau.now.table = (let e = c.rows-rows.ensures.count in omega arith) in
    let there : c.rows-rows.result < length c.args.bounds.now = (let e = c.requires in omega arith) in
    all_done c.args.bounds.now c.args.tableau.now c.loop-row.tableau c.set_goal_bound.new.self c.loop-row.row c.index-bounds-rows.result c.loop-row.invariant rows c.requires
    (c.index-bounds-rows.is ∙ get_or_default c.args.bounds.now c.rows-rows.result c.index-bounds-rows.result (whole (pos 0)) there
    ∙ ap (number_in c.args.bounds.now) (sym same)) c.set_goal_bound.ensures
