use Rattle.std.proofs.Common.{length, sym, ◌∙◌, ap, arith}
use Rattle.simplex_theory.specs.Tableau.{cell, width}
use Rattle.simplex_theory.specs.BlandRule.{is_negative}
use Rattle.fraction_tableau.proofs.KeptCells.{next_in, same_count}
use Rattle.dual_simplex.proofs.Dues.{has_place, no_place}
use Rattle.dual_simplex.proofs.Entries.{entries_are, clear_none, clear_upto, clear_next}
use Rattle.dual_simplex.proofs.choose.has_negative.Goals as goal

pub loop-index-init : goal.loop-index-init
loop-index-init c = clear_none _ _

pub returns-then-is_negative : goal.returns-then-is_negative
returns-then-is_negative c =
    let t = c.args.tableau.now.table in
    let l = c.loop-index.invariant in
    let e = c.kept-entries.ensures ∙ entries_are t c.args.row c.requires in
    let k = c.index-entries-index.result in
    let x = next_in (cell t c.args.row) l.at (width t) c.loop-index.index c.kept-entries.result.now k e c.index-entries-index.is l.high l.count (omega arith) in
    sym (has_place t c.args.row k.place x.inside (ap is_negative x.is ∙ sym c.if-is_negative.ensures))

pub loop-index-preserved : goal.loop-index-preserved
loop-index-preserved c =
    let t = c.args.tableau.now.table in
    let l = c.loop-index.invariant in
    let e = c.kept-entries.ensures ∙ entries_are t c.args.row c.requires in
    let k = c.index-entries-index.result in
    let x = next_in (cell t c.args.row) l.at (width t) c.loop-index.index c.kept-entries.result.now k e c.index-entries-index.is l.high l.count (omega arith) in
    clear_next t c.args.row c.loop-index.index k l x (sym c.if-is_negative.ensures)

pub returns : goal.returns
returns c =
    let t = c.args.tableau.now.table in
    let l = c.loop-index.invariant in
    let e = ap length (c.kept-entries.ensures ∙ entries_are t c.args.row c.requires) in
    let n = l.count in
    let z = same_count (cell t c.args.row) l.at (width t) l.high (omega arith) in
    sym (no_place t c.args.row (clear_upto t c.args.row c.loop-index.index (width t) l z))
