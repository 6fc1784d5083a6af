use Rattle.std.proofs.Common.{List, replicate, [], ◌∷◌, ◌++◌, ◌+◌, pos, ap, ◌∙◌}
use Rattle.rational_theory.specs.Rational.{ℚ, whole}
use Rattle.fraction_tableau.proofs.Filling.{replicate_more}
use Rattle.fraction_tableau.proofs.fresh.zero_rows.Goals as goal

pub loop-preserved : goal.loop-preserved
loop-preserved c =
    c.in_ok-push.ensures.items
    ∙ ap (λ (r : List ℚ). c.loop.sparse_rows.items ++ r ∷ []) c.in_ok-zero.ensures
    ∙ replicate_more (replicate (c.args.width + 1) (whole (pos 0))) c.loop.counter _ c.loop.invariant
