use Rattle.std.proofs.Common.{pos, get_or, ◌++◌, ◌∙◌, ap₂, sym, arith}
use Rattle.std.proofs.lemmas.List.{get_or_default}
use Rattle.rational_theory.specs.Rational.{whole}
use Rattle.dual_leaf.specs.Leaves.{multiplier, multipliers_below}
use Rattle.dual_leaf.proofs.LeafLaws.{multipliers_next}
use Rattle.dual_leaf.proofs.leaves.named.Goals as goal

pub loop-row-init : goal.loop-row-init
unfolding multipliers_below
loop-row-init c = c.new-list.ensures.items

pub loop-row-preserved : goal.loop-row-preserved
loop-row-preserved c =
    let w = c.args.weights.now in
    let r = c.loop-row.row in
    let by = c.index-weights-row.is ∙ get_or_default w r c.index-weights-row.result (whole (pos 0)) (omega (arith, c.rows-row-end.ensures.count)) in
    c.in_ok-push_multiplier.ensures ∙ ap₂ (λ xs ys. xs ++ ys) c.loop-row.invariant (ap₂ multiplier c.name.ensures by)
    ∙ sym (multipliers_next c.args.tableau.now.names (λ k. get_or w k (whole (pos 0))) r)
