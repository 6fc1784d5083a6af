use Rattle.std.proofs.Common.{◌≡◌, ◌+◌, ◌*◌, refl, sym, ap, arith, unsigned_abs}
use Rattle.std.proofs.lemmas.Int.{to_z-of_z}
use Rattle.fraction_tableau.proofs.Scales.{first_above}
use Rattle.fraction_tableau.proofs.Shares.{left_share, right_share, share_size}
use Rattle.std.proofs.lemmas.Grind.{common_steps}
use Rattle.fraction_tableau.proofs.joining.find_joining.Goals as goal

pub part_of-part-requires-clause-small : goal.part_of-part-requires-clause-small
part_of-part-requires-clause-small c =
    let e = c.word_divisor-shared.ensures.value in
    let s = share_size c.unsigned_abs.result c.args.divided.denominator c.requires.divided_above in
    omega (arith, e, s, c.requires.divided_least, c.requires.divided_short)

pub part_of-part-requires-clause-whole : goal.part_of-part-requires-clause-whole
part_of-part-requires-clause-whole c =
    let u = simp (to_z-of_z, c.ranges.factor) at c.unsigned_abs.ensures.value in
    let e = rw u at c.word_divisor-shared.ensures.value in
    simp (to_z-of_z, c.ranges.factor, e) (left_share (unsigned_abs c.args.factor) c.args.divided.denominator c.requires.divided_above)

pub returns-clause-joining : goal.returns-clause-joining
returns-clause-joining c =
    let u = simp (to_z-of_z, c.ranges.factor) at c.unsigned_abs.ensures.value in
    let e = rw u at c.word_divisor-shared.ensures.value in
    let t : c.word_quotient-times.result * c.word_divisor-shared.result ≡ c.args.divided.denominator =
    rw (c.word_quotient-times.ensures, e) (right_share (unsigned_abs c.args.factor) c.args.divided.denominator c.requires.divided_above) in
    let m = c.unsigned_abs-2.ensures.value in
    record {
      from = refl;
      to = refl;
      above = c.requires.above;
      times = first_above _ _ _ t c.requires.divided_above;
      shared = c.word_divisor-shared.ensures.positive c.requires.divided_above;
      divided = t;
      least = c.requires.least;
      divided_least = c.requires.divided_least;
      most = ap (λ n. c.args.row.most * c.word_quotient-times.result + n * c.args.divided.most) (sym m);
      short = omega (arith, c.if-most-gt-MOST_JOINED.false);
    }

pub overflow_add-most : goal.overflow_add-most
overflow_add-most c = grind (arith, common_steps)

pub overflow_mul-result : goal.overflow_mul-result
overflow_mul-result c = grind (arith, common_steps)
