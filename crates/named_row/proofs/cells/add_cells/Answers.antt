use Rattle.std.proofs.Common.{pos, length, sym, ◌∙◌, ap, ap₂, arith}
use Rattle.std.proofs.lemmas.List.{get_or_default}
use Rattle.rational_theory.specs.Rational.{whole}
use Rattle.narrow_fraction.specs.Attempt.{attempt}
use Rattle.narrow_fraction.proofs.Attempt.{attempt_err, first_is}
use Rattle.named_row.specs.declared.names.Place.TheVariants.{Cell}
use Rattle.named_row.specs.Refusals.{place_refusal, cell_refusal}
use Rattle.named_row.proofs.Columns.{sum_is, part_is}
use Rattle.named_row.proofs.Operations.{refused_there}
use Rattle.named_row.proofs.Whole.{left_at_cell}
use Rattle.named_row.proofs.cells.add_cells.Goals as goal

pub returns-in-Err-clause-outcome : goal.returns-in-Err-clause-outcome
returns-in-Err-clause-outcome c =
    let k = c.loop-column.column in
    let s = c.loop-column.invariant in
    let x = c.index-coefs-column.is ∙ get_or_default c.loop-column.coefs k c.index-coefs-column.result (whole (pos 0)) (omega arith) ∙ s.rest k (omega arith) in
    let y = c.index-other-column.is ∙ get_or_default c.args.other.now k c.index-other-column.result (whole (pos 0)) (omega arith) in
    let e = ap₂ (λ a b. place_refusal (Cell k) c.args.by a b) (sym x) (sym y) ∙ attempt_err _ _ _ c.in-Err.ensures in
    sym (ap (λ o. attempt o tt) (first_is (cell_refusal c.args.by c.args.coefs.now c.args.other.now) k (length c.args.coefs.now) c.in-Err.wide s.passed e c.loop-column-test.true))

pub returns-clause-sum : goal.returns-clause-sum
returns-clause-sum c =
    let s = c.loop-column.invariant in
    sum_is c.args.by c.args.other.now c.args.coefs.now c.loop-column.coefs c.requires.same s.kept (λ m h. s.done m (omega arith))

pub returns-in-Err-clause-left : goal.returns-in-Err-clause-left
returns-in-Err-clause-left c =
    let k = c.loop-column.column in
    let s = c.loop-column.invariant in
    left_at_cell k c.args.by c.args.coefs.now c.args.other.now c.loop-column.coefs _ (refused_there _ _ _ _ _ (attempt_err _ _ _ c.in-Err.ensures))
    (part_is c.args.by k c.args.other.now c.args.coefs.now c.loop-column.coefs c.requires.same s.kept (omega arith) s.done s.rest)
