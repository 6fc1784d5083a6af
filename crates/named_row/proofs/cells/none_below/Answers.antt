use Rattle.std.proofs.Common.{pos, length, sym, ◌∙◌, ap, ap₂, arith}
use Rattle.std.proofs.lemmas.List.{get_or_default}
use Rattle.rational_theory.specs.Rational.{whole}
use Rattle.narrow_fraction.specs.Attempt.{attempt, refusal_if}
use Rattle.narrow_fraction.proofs.Attempt.{first_is}
use Rattle.named_row.specs.declared.names.Place.TheVariants.{Cell}
use Rattle.named_row.specs.Covering.{below, number_at}
use Rattle.named_row.proofs.cells.none_below.Goals as goal

pub returns-then-lt : goal.returns-then-lt
returns-then-lt c =
    let k = c.loop-column.column in
    let x = c.index-coefs-column.is ∙ get_or_default c.args.coefs.now k c.index-coefs-column.result (whole (pos 0)) (omega arith) in
    let y = c.index-goal-column.is ∙ get_or_default c.args.goal.now k c.index-goal-column.result (whole (pos 0)) (omega arith) in
    let e = ap₂ (λ a b. below a b k) (sym x) (sym y) ∙ ap (λ t. refusal_if t (Cell k)) (sym c.if-lt.ensures) in
    sym (ap (λ o. attempt o tt) (first_is (λ j. below (number_at c.args.coefs.now j) (number_at c.args.goal.now j) j) k (length c.args.coefs.now) (Cell k)
    c.loop-column.invariant e c.loop-column-test.true))
