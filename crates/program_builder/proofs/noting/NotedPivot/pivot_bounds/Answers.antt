use Rattle.std.proofs.Common.{◌≡◌, List, pos, length, ◌+◌, ◌<◌, sym, ap₂, ◌∙◌, subst, arith}
use Rattle.std.proofs.lemmas.List.{get_or_default}
use Rattle.rational_theory.specs.Rational.{ℚ, whole, ◌/ℚ◌}
use Rattle.program_builder.proofs.BoundPivots.{less_is}
use Rattle.program_builder.proofs.WrittenBounds.{IsPivotingBounds, pivoting_next, pivoting_own, pivoted_alone}
use Rattle.fraction_tableau.specs.KeptCells.{number_in}
use Rattle.narrow_fraction.specs.Fraction.{FitsFrac}
use Rattle.std.proofs.lemmas.Grind.{common_steps}
use Rattle.program_builder.proofs.noting.NotedPivot.pivot_bounds.Goals as goal
use Rattle.program_builder.proofs.noting.NotedPivot.pivot_bounds.Goals.{then-line-row+in-Some, else-line-row}

pub loop-line-preserved : goal.loop-line-preserved
loop-line-preserved c =
    let row = c.args.self.now.row in
    let pivoting : IsPivotingBounds c.args.self.now.row c.args.self.now.column.items c.args.bounds.now c.if-line-row.bounds (c.loop-line.line + 1) =
    elim c.if-line-row.branch [
      | then-line-row+in-Some w ↦
          let count = c.loop-line.invariant.pivoting.count in
          let inside : c.loop-line.line < length c.loop-line.bounds = omega arith in
          let there : c.loop-line.line < length c.args.self.now.column.items = (let e = c.requires.column in omega arith) in
          subst (λ (list : List ℚ). IsPivotingBounds c.args.self.now.row c.args.self.now.column.items c.args.bounds.now list (c.loop-line.line + 1)) (sym w.bounds-is)
          (pivoting_next c.args.self.now.row c.args.self.now.column.items c.args.bounds.now c.loop-line.bounds c.loop-line.line w.in-Some.bound
          c.loop-line.invariant.pivoting (λ e. absurd (omega arith)) inside
          (less_is _ _ _ _ _ _ _
          (w.index-then-line-row.ensures ∙ get_or_default c.args.self.now.column.items c.loop-line.line w.index-then-line-row.result.now (whole (pos 0)) there)
          (w.index-bounds-line.is ∙ get_or_default c.loop-line.bounds c.loop-line.line w.index-bounds-line.result (whole (pos 0)) inside)
          c.loop-line.invariant.own w.in-Some.ensures.less)
          w.in-Some.ensures.fits)
      | else-line-row w ↦
          subst (λ (list : List ℚ). IsPivotingBounds c.args.self.now.row c.args.self.now.column.items c.args.bounds.now list (c.loop-line.line + 1)) (sym w.bounds-is)
          (pivoting_own c.args.self.now.row c.args.self.now.column.items c.args.bounds.now c.loop-line.bounds c.loop-line.line c.loop-line.invariant.pivoting (omega arith))
    ] in
    record { pivoting = pivoting; own = c.loop-line.invariant.own ∙ c.loop-line.invariant.pivoting.own ∙ sym pivoting.own }

pub returns-then-is_zero-clause-pivoted : goal.returns-then-is_zero-clause-pivoted
returns-then-is_zero-clause-pivoted c =
    let r = c.args.self.now.row in
    let column = c.args.self.now.column.items in
    let old = c.args.bounds.now in
    let there : r < length column = omega (arith, c.requires.row, c.requires.column) in
    let top : c.index-bounds-row.result ≡ number_in old r = c.index-bounds-row.is ∙ get_or_default old r c.index-bounds-row.result (whole (pos 0)) c.requires.row in
    let under : c.fraction.result ≡ number_in column r = c.fraction.ensures.value ∙ c.index.ensures ∙ get_or_default column r c.index.result.now (whole (pos 0)) there in
    let same : c.index-bounds-row.result /ℚ c.fraction.result ≡ number_in old r /ℚ number_in column r = ap₂ (λ x y. x /ℚ y) top under in
    λ _. pivoted_alone r column old c.fitting-own.result c.requires.row c.requires.narrow
    (c.fitting-own.ensures.same ∙ c.in-Ok.ensures.value.1 ∙ same)
    (subst FitsFrac same c.in-Ok.ensures.value.0)
    (c.is_zero.ensures.0 c.if-is_zero.true)

pub loop-line-init : goal.loop-line-init
loop-line-init c = grind (arith, common_steps)
