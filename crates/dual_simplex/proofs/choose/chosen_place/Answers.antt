use Rattle.std.proofs.Common.{Ok, length, sym, ◌∙◌, ap, arith}
use Rattle.simplex_theory.specs.Tableau.{cell, width}
use Rattle.simplex_theory.proofs.Best.{on_best}
use Rattle.simplex_theory.specs.BlandRule.{chosen_place}
use Rattle.simplex_theory.proofs.BlandRule.{place_order}
use Rattle.narrow_fraction.specs.Attempt.{attempt}
use Rattle.narrow_fraction.proofs.Attempt.{attempt_ok, attempt_err}
use Rattle.fraction_tableau.proofs.KeptCells.{next_in, same_count}
use Rattle.dual_simplex.specs.Ratios.{ratio_refusal, with_cells}
use Rattle.dual_simplex.proofs.Choices.{kept_place, place_next, place_stop}
use Rattle.dual_simplex.proofs.Entries.{entries_are, looking_none, looking_passed, looking_chosen, looking_next}
use Rattle.dual_simplex.proofs.choose.chosen_place.Goals as goal

pub loop-index-init : goal.loop-index-init
loop-index-init c = looking_none _ _

pub better_place-requires-clause-place : goal.better_place-requires-clause-place
better_place-requires-clause-place c =
    let t = c.args.tableau.now.table in
    let l = c.loop-index.invariant in
    let e = c.kept-entries.ensures ∙ entries_are t c.args.row c.requires in
    let k = c.index-entries-index.result in
    let x = next_in (cell t c.args.row) l.at (width t) c.loop-index.index c.kept-entries.result.now k e c.index-entries-index.is l.high l.count (omega arith) in
    x.inside

pub better_place-requires-clause-cell : goal.better_place-requires-clause-cell
better_place-requires-clause-cell c =
    let t = c.args.tableau.now.table in
    let l = c.loop-index.invariant in
    let e = c.kept-entries.ensures ∙ entries_are t c.args.row c.requires in
    let k = c.index-entries-index.result in
    let x = next_in (cell t c.args.row) l.at (width t) c.loop-index.index c.kept-entries.result.now k e c.index-entries-index.is l.high l.count (omega arith) in
    sym x.is

pub better_place-requires-clause-best : goal.better_place-requires-clause-best
better_place-requires-clause-best c =
    let t = c.args.tableau.now.table in
    let l = c.loop-index.invariant in
    kept_place t c.args.row l.at c.loop-index.best _ (on_best _ _ l.at (place_order t c.args.row)) l.high l.passed l.chosen

pub returns-in-Err : goal.returns-in-Err
returns-in-Err c =
    let t = c.args.tableau.now.table in
    let l = c.loop-index.invariant in
    let e = c.kept-entries.ensures ∙ entries_are t c.args.row c.requires in
    let k = c.index-entries-index.result in
    let x = next_in (cell t c.args.row) l.at (width t) c.loop-index.index c.kept-entries.result.now k e c.index-entries-index.is l.high l.count (omega arith) in
    sym (ap (λ o. attempt o (with_cells t c.args.row (chosen_place t c.args.row)))
    (place_stop t c.args.row k.place c.in-Err.wide x.inside (looking_passed t c.args.row c.loop-index.index c.loop-index.best k.place l x.after x.zeros) (attempt_err _ _ _ c.in-Err.ensures)))

pub loop-index-preserved : goal.loop-index-preserved
loop-index-preserved c =
    let t = c.args.tableau.now.table in
    let l = c.loop-index.invariant in
    let e = c.kept-entries.ensures ∙ entries_are t c.args.row c.requires in
    let k = c.index-entries-index.result in
    let x = next_in (cell t c.args.row) l.at (width t) c.loop-index.index c.kept-entries.result.now k e c.index-entries-index.is l.high l.count (omega arith) in
    let q = attempt_ok _ _ _ c.in-Ok.ensures in
    looking_next t c.args.row c.loop-index.index c.loop-index.best c.in-Ok.next k l x
    (place_next t c.args.row k.place c.loop-index.best c.in-Ok.next (looking_passed t c.args.row c.loop-index.index c.loop-index.best k.place l x.after x.zeros)
    (looking_chosen t c.args.row c.loop-index.index c.loop-index.best k.place l x.after x.zeros) q.0 q.1)

pub returns : goal.returns
unfolding chosen_place ratio_refusal
returns c =
    let t = c.args.tableau.now.table in
    let l = c.loop-index.invariant in
    let e = ap length (c.kept-entries.ensures ∙ entries_are t c.args.row c.requires) in
    let n = l.count in
    let z = same_count (cell t c.args.row) l.at (width t) l.high (omega arith) in
    ap Ok (looking_chosen t c.args.row c.loop-index.index c.loop-index.best (width t) l l.high z)
    ∙ sym (ap (λ o. attempt o (with_cells t c.args.row (chosen_place t c.args.row))) (looking_passed t c.args.row c.loop-index.index c.loop-index.best (width t) l l.high z))
