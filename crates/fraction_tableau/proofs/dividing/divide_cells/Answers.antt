use Rattle.std.proofs.Common.{◌≡◌, length, pos, refl, sym, ◌∙◌, ap, subst, arith}
use Rattle.rational_theory.specs.Rational.{whole}
use Rattle.narrow_fraction.specs.Fraction.{FitsFrac}
use Rattle.narrow_fraction.proofs.Attempt.{attempt_ok, attempt_err, first_is}
use Rattle.fraction_tableau.specs.Refusals.{divide_at}
use Rattle.fraction_tableau.specs.KeptCells.{number_in, kept_below}
use Rattle.fraction_tableau.proofs.KeptCells.{IsNext, next_in, same_width}
use Rattle.fraction_tableau.proofs.Merges.{IsDivided, divide_refusal_same, divide_number_same, dividing_next, dividing_past, dividing_end}
use Rattle.fraction_tableau.proofs.dividing.divide_cells.Goals as goal
use Rattle.fraction_tableau.proofs.dividing.divide_cells.Goals.{After-index-kept-index, After-loop-index}

-- the next cell of the row that isn't 0
next : (c : After-index-kept-index) → IsNext (number_in c.args.row.now) c.loop-index.invariant.at (length c.args.cells.now) c.index-kept-index.result
next c =
    let f = number_in c.args.row.now in
    let s = c.kept-kept.ensures ∙ ap (kept_below f) (same_width _ _ _ c.requires.width refl) in
    let t = c.loop-index.invariant in
    next_in f t.at (length c.args.cells.now) c.loop-index.index c.kept-kept.result.now c.index-kept-index.result s c.index-kept-index.is t.inside t.count (omega arith)

pub returns-in-Err-clause-refused : goal.returns-in-Err-clause-refused
returns-in-Err-clause-refused c =
    let d = c.args.row.now in
    let k = c.index-kept-index.result in
    let x = next (goal.at.returns-in-Err-clause-refused c).After-index-kept-index in
    let r = sym (divide_refusal_same c.args.number c.args.own.now.place d k c.args.pivot c.requires.is x.is) ∙ attempt_err _ _ _ c.in-Err.ensures.outcome in
    first_is (divide_at c.args.number c.args.own.now.place d) k.place (length c.args.cells.now) c.in-Err.wide (dividing_past _ _ _ _ _ _ _ _ k c.loop-index.invariant x) r x.inside

pub loop-index-preserved : goal.loop-index-preserved
loop-index-preserved c =
    let d = c.args.row.now in
    let k = c.index-kept-index.result in
    let x = next (goal.at.loop-index-preserved c).After-index-kept-index in
    let n : number_in d c.args.own.now.place ≡ whole (pos 0) → ⊥ = λ e. c.requires.pivot (c.requires.is ∙ e) in
    let o = attempt_ok _ _ _ c.in-Ok.ensures.outcome in
    dividing_next c.args.number c.args.own.now.place c.args.own.now.cell d (length c.args.cells.now) _ c.put-made.new.cells c.loop-index.index
    c.loop-index.made c.put-made.result k c.of_fraction.result n c.loop-index.invariant x c.put-made.auto.cells
    (c.of_fraction.ensures ∙ o.1 ∙ divide_number_same c.args.own.now.place c.args.own.now.cell d k c.args.pivot c.requires.is x.is) c.put-made.ensures.count c.put-made.ensures.cells
    (sym (divide_refusal_same c.args.number c.args.own.now.place d k c.args.pivot c.requires.is x.is) ∙ o.0) (subst FitsFrac (sym c.of_fraction.ensures) c.in-Ok.ensures.fits)

-- all cells are made
ended : (c : After-loop-index) → IsDivided c.args.number c.args.own.now.place c.args.own.now.cell c.args.row.now (length c.args.cells.now) c.loop-index.cells c.loop-index.made
ended c =
    let d = c.args.row.now in
    let s = ap length (c.kept-kept.ensures ∙ ap (kept_below (number_in d)) (same_width _ _ _ c.requires.width refl)) in
    let n : number_in d c.args.own.now.place ≡ whole (pos 0) → ⊥ = λ e. c.requires.pivot (c.requires.is ∙ e) in
    let u = c.loop-index.invariant.count in
    dividing_end c.args.number c.args.own.now.place c.args.own.now.cell d (length c.args.cells.now) c.loop-index.cells c.loop-index.index c.loop-index.made n c.loop-index.invariant (omega arith)

pub returns-clause-passed : goal.returns-clause-passed
returns-clause-passed c =
    (ended (goal.at.returns-clause-passed c).After-loop-index).passed

pub returns-clause-cells : goal.returns-clause-cells
returns-clause-cells c =
    (ended (goal.at.returns-clause-cells c).After-loop-index).cells

pub returns-clause-fits : goal.returns-clause-fits
returns-clause-fits c =
    (ended (goal.at.returns-clause-fits c).After-loop-index).fits
