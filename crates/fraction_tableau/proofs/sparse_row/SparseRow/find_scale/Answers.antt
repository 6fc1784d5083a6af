use Rattle.std.proofs.Common.{ℕ, List, length, take, ◌<◌, ◌∙◌, sym, ap, subst, arith}
use Rattle.std.proofs.lemmas.List.{with_items_is}
use Rattle.rational_theory.specs.Rational.{ℚ}
use Rattle.fraction_tableau.specs.KeptCells.{dense_row, IsSparse}
use Rattle.fraction_tableau.specs.Scales.{cell_at, IsOver, IsScaled}
use Rattle.fraction_tableau.specs.Marks.{AreMarked}
use Rattle.fraction_tableau.specs.declared.kept.Kept.{Kept}
use Rattle.fraction_tableau.proofs.Making.{scale_made}
use Rattle.std.proofs.lemmas.Grind.{common_steps}
use Rattle.fraction_tableau.proofs.sparse_row.SparseRow.find_scale.Goals as goal

pub returns-in_default : goal.returns-in_default
returns-in_default c = grind (arith, common_steps)

pub invariant_of-self : goal.invariant_of-self
invariant_of-self c =
    let i = c.self.inside in
    let s = c.in-Some.scale in
    let f = c.in-Some.ensures in
    let e = c.hold_narrow-scale.ensures.same ∙ c.deref_mut.ensures.value in
    let same = with_items_is i.cells c.hold_narrow-scale.new.cells (ap length e ∙ sym i.cells.ok.0) ∙ e in
    let cells = subst (λ (t : List Kept). (k : ℕ) → k < i.count → IsOver s.denominator s.most (cell_at t k)) c.deref_mut.ensures.value f.cells in
    let made = scale_made s (length i.cells.items) i.count i.cells.items i.bound f.above f.least f.short f.bound cells in (
      subst (λ (t : List Kept). IsSparse (length t) i.count (take i.count t)) (sym same) c.self.invariant.0,
      (
        subst (λ (t : List Kept). IsScaled s (dense_row (length t) (take i.count t) c.held_over-self-inside.result)) (sym same)
            (subst (λ (b : ℚ). IsScaled s (dense_row (length i.cells.items) (take i.count i.cells.items) b)) (sym c.held_over-self-inside.ensures) made),
        subst (λ (t : List Kept). AreMarked i.marks (take i.count t)) (sym same) c.self.invariant.1.1,
      ),
    )

pub returns-in-Some : goal.returns-in-Some
returns-in-Some c = grind (arith, common_steps)

pub invariant_of-self-in_default : goal.invariant_of-self-in_default
invariant_of-self-in_default c = grind (arith, common_steps)
