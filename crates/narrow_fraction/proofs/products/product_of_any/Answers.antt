use Rattle.std.proofs.Common.{arith, mul-pos}
use Rattle.rational_theory.specs.laws.Fractions.{part_pos}
use Rattle.narrow_fraction.proofs.Parts.{cross-over, cross_reduced, product_fits}
use Rattle.narrow_fraction.proofs.products.product_of_any.Goals as goal

pub returns-in_default : goal.returns-in_default
returns-in_default c = λ f.
    let p = product_fits c.args.negative c.args.a c.args.b c.args.c c.args.d c.requires.b c.requires.d c.requires.left c.requires.right f in
    let k = rw (c.divided.ensures, c.divided-2.ensures, c.common_divisor-left.ensures.value, c.common_divisor-right.ensures.value) at (rw c.in_default.is at c.checked_mul.ensures) in
    k (omega arith)

pub returns-in_default-checked_mul : goal.returns-in_default-checked_mul
returns-in_default-checked_mul c = λ f.
    let p = product_fits c.args.negative c.args.a c.args.b c.args.c c.args.d c.requires.b c.requires.d c.requires.left c.requires.right f in
    let k = rw (c.divided-3.ensures, c.divided-4.ensures, c.common_divisor-right.ensures.value, c.common_divisor-left.ensures.value) at (rw c.in_default-checked_mul.is at c.checked_mul-2.ensures) in
    k (omega arith)

pub build-requires-clause-above : goal.build-requires-clause-above
build-requires-clause-above c =
    let k = rw c.in-Some-checked_mul.is at c.checked_mul-2.ensures in
    rw (k.1, c.divided-3.ensures, c.divided-4.ensures, c.common_divisor-left.ensures.value, c.common_divisor-right.ensures.value) (mul-pos (part_pos _ _ c.requires.b) (part_pos _ _ c.requires.d))

pub build-requires-clause-reduced : goal.build-requires-clause-reduced
build-requires-clause-reduced c =
    let j = rw c.in-Some.is at c.checked_mul.ensures in
    let k = rw c.in-Some-checked_mul.is at c.checked_mul-2.ensures in
    rw (j.1, k.1, c.divided.ensures, c.divided-2.ensures, c.divided-3.ensures, c.divided-4.ensures, c.common_divisor-left.ensures.value, c.common_divisor-right.ensures.value)
    (cross_reduced _ _ _ _ c.requires.b c.requires.d c.requires.left c.requires.right)

pub returns : goal.returns
returns c =
    let j = rw c.in-Some.is at c.checked_mul.ensures in
    let k = rw c.in-Some-checked_mul.is at c.checked_mul-2.ensures in
    simp (
      j.1,
      k.1,
      c.divided.ensures,
      c.divided-2.ensures,
      c.divided-3.ensures,
      c.divided-4.ensures,
      c.common_divisor-left.ensures.value,
      c.common_divisor-right.ensures.value,
      cross-over c.args.negative c.args.a c.args.b c.args.c c.args.d c.requires.b c.requires.d,
    ) at c.build.ensures
