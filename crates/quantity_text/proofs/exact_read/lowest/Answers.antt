use Rattle.std.proofs.Common.{◌≡◌, ◌∙◌, ap, rules}
use Rattle.std.specs.Int.{w128}
use Rattle.std.proofs.lemmas.Int.{to_z_pos}
use Rattle.rational_theory.specs.Rational.{ℚ}
use Rattle.quantity_text.proofs.Quotients.{num_of_lowest, den_of_parts}
use Rattle.quantity_text.proofs.exact_read.lowest.Goals as goal

pub returns-then-unsigned_abs-size-clause-num : goal.returns-then-unsigned_abs-size-clause-num
returns-then-unsigned_abs-size-clause-num c =
    let d : c.reduced-value.result.den ≡ c.args.size.bottom = search rules in
    let value = rw (to_z_pos w128 c.args.size.top c.requires.top) at c.reduced-value.ensures.value in
    ap (λ (t : ℚ). t.num) value ∙ num_of_lowest c.args.size.top c.args.size.bottom c.requires.above (rw value at d)

pub returns-else-unsigned_abs-size-clause-none : goal.returns-else-unsigned_abs-size-clause-none
returns-else-unsigned_abs-size-clause-none c x e f =
    let d = den_of_parts x c.args.size.top c.args.size.bottom e f c.requires.above in
    let r : c.unsigned_abs.result ≡ c.reduced-value.result.den = search rules in
    let value = rw (to_z_pos w128 c.args.size.top c.requires.top) at c.reduced-value.ensures.value in
    c.if-unsigned_abs-size.false (r ∙ ap (λ (t : ℚ). t.den) value ∙ d)
