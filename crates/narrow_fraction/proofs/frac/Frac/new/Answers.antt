use Rattle.std.proofs.Common.{arith, ◌<◌, unsigned_abs, SFits, ap, of_z}
use Rattle.std.specs.Int.{w128}
use Rattle.std.proofs.lemmas.Int.{ints, to_z-of_z}
use Rattle.rational_theory.specs.laws.Fractions.{part_pos, parts_reduced}
use Rattle.narrow_fraction.proofs.Parts.{quotient-parts}
use Rattle.narrow_fraction.proofs.frac.Frac.new.Goals as goal

pub build-requires-clause-above : goal.build-requires-clause-above
build-requires-clause-above c = rw (c.divided-2.ensures, c.common_divisor-shared.ensures.value) (part_pos _ _ (omega (arith, ints)))

pub build-requires-clause-reduced : goal.build-requires-clause-reduced
build-requires-clause-reduced c = rw (c.divided.ensures, c.divided-2.ensures, c.common_divisor-shared.ensures.value) (parts_reduced _ _ (omega (arith, ints)))

pub returns-in-Some : goal.returns-in-Some
returns-in-Some c =
    let n : SFits w128 c.args.num = c.ranges.num in
    let d : SFits w128 c.args.den = c.ranges.den in
    let h : 0 < unsigned_abs c.args.den = omega (arith, ints) in
    let b = rw c.in-Some.is at c.build.ensures in
    let k = simp (
      to_z-of_z,
      c.divided.ensures,
      c.divided-2.ensures,
      c.common_divisor-shared.ensures.value,
      c.unsigned_abs-top.ensures.value,
      c.unsigned_abs-bottom.ensures.value,
      quotient-parts c.args.num c.args.den h,
    ) at b in
    (λ e. c.if-den-eq0.false (ap (of_z w128) e), k.0, k.1)

pub returns-in-None : goal.returns-in-None
returns-in-None c =
    let n : SFits w128 c.args.num = c.ranges.num in
    let d : SFits w128 c.args.den = c.ranges.den in
    let h : 0 < unsigned_abs c.args.den = omega (arith, ints) in
    let b = rw c.in-None.is at c.build.ensures in
    let k = simp (
      to_z-of_z,
      c.divided.ensures,
      c.divided-2.ensures,
      c.common_divisor-shared.ensures.value,
      c.unsigned_abs-top.ensures.value,
      c.unsigned_abs-bottom.ensures.value,
      quotient-parts c.args.num c.args.den h,
    ) at b in
    (λ e. c.if-den-eq0.false (ap (of_z w128) e), k)
