use Rattle.std.proofs.Common.{ap, ap₂, pos, ◌∙◌, ◌-ℤ◌, ◌*ℤ◌, w64}
use Rattle.std.specs.Int.{w128}
use Rattle.std.proofs.lemmas.Int.{to_z-of_z}
use Rattle.loop_rows.proofs.WholeParts.{less_made, less_small, less_fits}
use Rattle.loop_rows.proofs.numbers.low_parts.Goals as goal

pub overflow_sub-result : goal.overflow_sub-result
overflow_sub-result c =
    let a = c.constant_parts.result in
    let b = c.whole_parts-whole.result in
    rw (less_made a b c.constant_parts.ensures.small c.whole_parts-whole.ensures.small) (less_fits a b c.constant_parts.ensures.small c.whole_parts-whole.ensures.small)

pub returns-clause-value : goal.returns-clause-value
returns-clause-value c =
    let a = c.constant_parts.result in
    let b = c.whole_parts-whole.result in
    let fits = less_fits a b c.constant_parts.ensures.small c.whole_parts-whole.ensures.small in
    let whole = rw (to_z-of_z w64 c.args.number c.ranges.number) at c.whole_parts-whole.ensures.value in
    rw (less_made a b c.constant_parts.ensures.small c.whole_parts-whole.ensures.small, to_z-of_z w128 (a -ℤ b) fits)
    (ap₂ (λ x y. x -ℤ y) c.constant_parts.ensures.value (whole ∙ ap (λ p. c.args.number *ℤ pos p) c.parts.ensures.value))

pub returns-clause-small : goal.returns-clause-small
returns-clause-small c =
    let a = c.constant_parts.result in
    let b = c.whole_parts-whole.result in
    let fits = less_fits a b c.constant_parts.ensures.small c.whole_parts-whole.ensures.small in
    rw (less_made a b c.constant_parts.ensures.small c.whole_parts-whole.ensures.small, to_z-of_z w128 (a -ℤ b) fits)
    (less_small a b c.constant_parts.ensures.small c.whole_parts-whole.ensures.small)
