use Rattle.std.proofs.Common.{◌≡◌, ◌<◌, ◌≤◌, ◌+◌, List, pos, length, sym, subst, arith}
use Rattle.rational_theory.specs.Rational.{ℚ, whole}
use Rattle.simplex_theory.specs.Tableau.{width}
use Rattle.fraction_tableau.specs.KeptCells.{number_in}
use Rattle.entry_theory.specs.Entry.{variable_at}
use Rattle.program_builder.specs.Remembering.{ArePivoted}
use Rattle.program_builder.specs.declared.noting.NotedPivot.{NotedPivot}
use Rattle.program_builder.proofs.RememberedPivots.{AreBoundsAfter, no_pivots, all_pivots, slack_next, note_row, note_pivot, column_next}
use Rattle.program_builder.proofs.remembering.pivot_all.Goals as goal
use Rattle.program_builder.proofs.remembering.pivot_all.Goals.{then-basis-k+else-k-pivots+else-not-pivot_bounds, else-basis-k}

pub loop-k-init : goal.loop-k-init
loop-k-init c = no_pivots c.args.basis.now c.args.tableau.now.table c.args.bounds.now c.requires.bounds c.requires.narrow

pub pivot_bounds-requires-clause-row : goal.pivot_bounds-requires-clause-row
pivot_bounds-requires-clause-row c =
    let column : variable_at c.args.basis.now c.loop-k.k < width c.args.tableau.now.table = (let e = c.width-width.ensures.count in omega arith) in
    let low = note_row c.args.basis.now c.args.pivots.now c.args.tableau.now.table c.requires.remembered c.requires.ready c.loop-k.k c.index-pivots-k.result
    c.loop-k-test.true c.if-k-pivots.false column in
    subst (λ (t : NotedPivot). t.row < length c.loop-k.bounds) (sym c.index-pivots-k.is) (let f = c.loop-k.invariant.bounds.count in omega arith)

pub pivot_bounds-requires-clause-pivot : goal.pivot_bounds-requires-clause-pivot
pivot_bounds-requires-clause-pivot c =
    let column : variable_at c.args.basis.now c.loop-k.k < width c.args.tableau.now.table = (let e = c.width-width.ensures.count in omega arith) in
    subst (λ (t : NotedPivot). number_in t.column.items t.row ≡ whole (pos 0) → ⊥) (sym c.index-pivots-k.is)
    (note_pivot c.args.basis.now c.args.pivots.now c.args.tableau.now.table c.requires.remembered c.requires.ready c.loop-k.k c.index-pivots-k.result c.loop-k-test.true c.if-k-pivots.false column)

pub loop-k-preserved : goal.loop-k-preserved
loop-k-preserved c =
    elim c.if-basis-k.branch [
      | then-basis-k+else-k-pivots+else-not-pivot_bounds w ↦
          let column : variable_at c.args.basis.now c.loop-k.k < width c.args.tableau.now.table = (let e = c.width-width.ensures.count in omega arith) in
          subst (λ (list : List ℚ). AreBoundsAfter c.args.basis.now c.args.tableau.now.table (c.loop-k.k + 1) list) (sym w.bounds-is)
          (column_next c.args.basis.now c.args.pivots.now c.args.tableau.now.table c.requires.remembered c.requires.ready c.loop-k.k w.index-pivots-k.result c.loop-k-test.true w.if-k-pivots.false
          column c.loop-k.bounds w.pivot_bounds.new.bounds c.loop-k.invariant
          (subst (λ (t : NotedPivot). ArePivoted t.row t.column.items c.loop-k.bounds w.pivot_bounds.new.bounds) w.index-pivots-k.is (w.pivot_bounds.ensures.pivoted w.if-not-pivot_bounds.false))
          w.pivot_bounds.ensures.narrow)
      | else-basis-k w ↦
          let slack : width c.args.tableau.now.table ≤ variable_at c.args.basis.now c.loop-k.k = (let e = c.width-width.ensures.count in omega arith) in
          subst (λ (list : List ℚ). AreBoundsAfter c.args.basis.now c.args.tableau.now.table (c.loop-k.k + 1) list) (sym w.bounds-is)
          (slack_next c.args.basis.now c.args.tableau.now.table c.loop-k.k c.loop-k.bounds c.requires.ready c.loop-k-test.true slack c.loop-k.invariant)
    ]

pub returns-clause-bounds : goal.returns-clause-bounds
returns-clause-bounds c =
    let e : c.loop-k.k ≡ length c.args.basis.now = omega arith in
    λ _. (all_pivots c.args.basis.now c.args.tableau.now.table c.loop-k.k c.loop-k.bounds e c.loop-k.invariant).1

pub returns-clause-passed : goal.returns-clause-passed
returns-clause-passed c =
    let e : c.loop-k.k ≡ length c.args.basis.now = omega arith in
    λ _. (all_pivots c.args.basis.now c.args.tableau.now.table c.loop-k.k c.loop-k.bounds e c.loop-k.invariant).0
