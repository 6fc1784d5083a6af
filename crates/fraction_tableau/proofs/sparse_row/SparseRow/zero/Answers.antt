use Rattle.std.proofs.Common.{◌≡◌, pos, length, replicate, ◌+◌, refl, sym, ◌∙◌, ap, arith}
use Rattle.std.proofs.lemmas.List.{length-replicate, get_or-replicate}
use Rattle.rational_theory.specs.Rational.{whole}
use Rattle.fraction_tableau.proofs.KeptCells.{zeros_skip, line_made, row_is}
use Rattle.fraction_tableau.proofs.Marking.{none_marked}
use Rattle.fraction_tableau.proofs.sparse_row.SparseRow.zero.Goals as goal

pub invariant_of-result : goal.invariant_of-result
invariant_of-result c = (
  line_made (length c.in_ok-cells.cells.items) 0 (λ _. whole (pos 0)) _ (omega arith)
      (sym (zeros_skip (λ _. whole (pos 0)) 0 (length c.in_ok-cells.cells.items) (omega arith) (λ m a b. refl))),
  (tt, none_marked 0),
)

pub returns : goal.returns
returns c =
    let w = length c.in_ok-cells.cells.items in
    let n : w ≡ c.args.width = omega (arith, c.in_ok-cells.ensures.len, c.in_ok-cells.cells.ok.0) in
    row_is (replicate (c.args.width + 1) (whole (pos 0))) w (λ _. whole (pos 0)) _ _ (length-replicate (c.args.width + 1) (whole (pos 0)) ∙ ap (λ k. k + 1) (sym n))
    (sym (zeros_skip (λ _. whole (pos 0)) 0 w (omega arith) (λ m a b. refl)))
    (λ m h. sym (get_or-replicate (c.args.width + 1) m (whole (pos 0)) (whole (pos 0)) (omega arith)))
    (c.of_fraction-2.ensures ∙ c.whole-2.ensures ∙ sym (get_or-replicate (c.args.width + 1) w (whole (pos 0)) (whole (pos 0)) (omega arith)))
