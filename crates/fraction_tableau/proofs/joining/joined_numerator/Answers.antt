use Rattle.std.proofs.Common.{pos, cond, refl, arith}
use Rattle.std.specs.Int.{w64}
use Rattle.std.proofs.lemmas.Int.{to_z-of_z, to_z_pos}
use Rattle.narrow_fraction.proofs.Fitting.{fits_i64}
use Rattle.fraction_tableau.proofs.Scales.{zeroed_fits, times_short, part_short, joined_bound, joined_size, combined}
use Rattle.fraction_tableau.proofs.joining.joined_numerator.Goals as goal

pub less_product-requires : goal.less_product-requires
less_product-requires c =
    let j = c.args.joining.now in
    let i = c.requires.joining in
    let z = to_z_pos w64 j.rescaling.times (omega (arith, times_short j i)) in
    let p = fits_i64 j.part (omega (arith, part_short j i)) in
    let n = simp (to_z-of_z, c.ranges.own) at c.numerator_or_zero.ensures in
    let k = zeroed_fits c.args.is_own c.args.own c.ranges.own in
    simp (n, z, p, k, c.ranges.divided, to_z-of_z) (joined_bound j c.args.is_own c.args.own c.args.divided i c.requires.own c.requires.divided)

pub returns-clause-value : goal.returns-clause-value
returns-clause-value c =
    let j = c.args.joining.now in
    let i = c.requires.joining in
    let z = to_z_pos w64 j.rescaling.times (omega (arith, times_short j i)) in
    let p = fits_i64 j.part (omega (arith, part_short j i)) in
    let n = simp (to_z-of_z, c.ranges.own) at c.numerator_or_zero.ensures in
    let k = zeroed_fits c.args.is_own c.args.own c.ranges.own in
    let e = simp (n, z, p, k, c.ranges.divided, to_z-of_z) at c.less_product.ensures in
    let s = joined_size j c.args.is_own c.args.own c.args.divided i c.requires.own c.requires.divided in
    let f = fits_i64 (combined j.rescaling.times j.part (cond c.args.is_own (pos 0) c.args.own) c.args.divided) (omega (arith, s, i.short)) in
    simp (e, f, to_z-of_z) refl

pub returns-clause-size : goal.returns-clause-size
returns-clause-size c =
    let j = c.args.joining.now in
    let i = c.requires.joining in
    let s = joined_size j c.args.is_own c.args.own c.args.divided i c.requires.own c.requires.divided in
    rw (returns-clause-value c) s
