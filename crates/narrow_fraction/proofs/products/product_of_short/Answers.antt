use Rattle.std.proofs.Common.{mul-pos}
use Rattle.rational_theory.specs.laws.Fractions.{part_pos}
use Rattle.narrow_fraction.proofs.Parts.{cross-over, cross_reduced}
use Rattle.narrow_fraction.proofs.products.product_of_short.Goals as goal

pub lowest-requires-clause-above : goal.lowest-requires-clause-above
lowest-requires-clause-above c =
    rw (c.word_quotient-3.ensures, c.word_quotient-4.ensures, c.word_divisor-left.ensures.value, c.word_divisor-right.ensures.value)
    (mul-pos (part_pos _ _ c.requires.b.0) (part_pos _ _ c.requires.d.0))

pub lowest-requires-clause-reduced : goal.lowest-requires-clause-reduced
lowest-requires-clause-reduced c =
    rw (c.word_quotient.ensures, c.word_quotient-2.ensures, c.word_quotient-3.ensures, c.word_quotient-4.ensures, c.word_divisor-left.ensures.value, c.word_divisor-right.ensures.value)
    (cross_reduced _ _ _ _ c.requires.b.0 c.requires.d.0 c.requires.left c.requires.right)

pub returns : goal.returns
returns c =
    simp (
      c.word_quotient.ensures,
      c.word_quotient-2.ensures,
      c.word_quotient-3.ensures,
      c.word_quotient-4.ensures,
      c.word_divisor-left.ensures.value,
      c.word_divisor-right.ensures.value,
      cross-over c.args.negative c.args.a c.args.b c.args.c c.args.d c.requires.b.0 c.requires.d.0,
    ) at c.lowest.ensures
