use Rattle.std.proofs.Common.{◌≡◌, ℕ, pos, length, ◌≤◌, ◌<◌, ◌∙◌, ap, arith}
use Rattle.rational_theory.specs.Rational.{whole}
use Rattle.fraction_tableau.specs.KeptCells.{number_in, kept_below, merged_at}
use Rattle.fraction_tableau.proofs.KeptCells.{same_count, same_width}
use Rattle.fraction_tableau.proofs.Merges.{quiet_number, merge_passed, merge_fits}
use Rattle.fraction_tableau.proofs.merging.merge.Goals as goal
use Rattle.fraction_tableau.proofs.merging.merge.Goals.{After-loop-index}

-- behind the last cell of the divided row all of its cells are 0
quiet : (c : After-loop-index) → (m : ℕ) → c.loop-index.done.below ≤ m → m < length c.args.cells.now → number_in c.args.divided.now m ≡ whole (pos 0)
quiet c =
    let e = c.args.divided.now in
    let below = c.loop-index.invariant.merged.inside in
    let s = ap length (c.kept-index-end.ensures ∙ ap (kept_below (number_in e)) (same_width _ _ _ c.requires.width c.requires.widths)) in
    let u = c.loop-index.invariant.index in
    same_count (number_in e) c.loop-index.done.below (length c.args.cells.now) (omega (arith, c.loop-index.auto.cells)) (omega arith)

pub returns-clause-passed : goal.returns-clause-passed
returns-clause-passed c =
    let t = c.loop-index.invariant.merged in
    let below = t.inside in
    merge_passed c.args.clearing.now.number c.args.clearing.now.own.place c.args.divided.now c.args.row.now c.loop-index.done.below (length c.args.cells.now)
    c.requires.narrow (omega (arith, c.loop-index.auto.cells)) t.passed (quiet (goal.at.returns-clause-passed c).After-loop-index)

pub returns-clause-cells : goal.returns-clause-cells
returns-clause-cells c =
    let own = c.args.clearing.now.own in
    let z = quiet (goal.at.returns-clause-cells c).After-loop-index in
    c.keep_before.ensures.cells (merged_at own.place own.cell c.args.divided.now c.args.row.now) (λ m a b. quiet_number own.place own.cell c.args.divided.now
    c.args.row.now m (z m a (omega arith)) c.requires.own) c.loop-index.invariant.merged.merged

pub returns-clause-fits : goal.returns-clause-fits
returns-clause-fits c =
    let own = c.args.clearing.now.own in
    merge_fits own.place own.cell c.args.divided.now c.args.row.now c.loop-index.done.below (length c.args.cells.now) c.requires.narrow c.requires.own
    c.loop-index.invariant.merged.fits (quiet (goal.at.returns-clause-fits c).After-loop-index)
