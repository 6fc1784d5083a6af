use Rattle.std.proofs.Common.{arith, refl}
use Rattle.std.proofs.lemmas.Int.{to_z-of_z}
use Rattle.time_space.proofs.Fits.{fits, natural_fits, rest_size, rest_fits}
use Rattle.time_space.proofs.limits.rest.Goals as goal

pub overflow_sub-result : goal.overflow_sub-result
overflow_sub-result c =
    simp (to_z-of_z, natural_fits c.args.ratio.den (omega arith), fits c.args.ratio.num (omega arith), c.den.ensures.value, c.num.ensures.value)
    (rest_fits c.args.ratio.den c.args.ratio.num c.requires.den c.requires.num)

pub returns-clause-value : goal.returns-clause-value
returns-clause-value c =
    let f = rest_fits c.args.ratio.den c.args.ratio.num c.requires.den c.requires.num in
    simp (to_z-of_z, natural_fits c.args.ratio.den (omega arith), fits c.args.ratio.num (omega arith), c.den.ensures.value, c.num.ensures.value, f) refl

pub returns-clause-small : goal.returns-clause-small
returns-clause-small c =
    let f = rest_fits c.args.ratio.den c.args.ratio.num c.requires.den c.requires.num in
    simp (to_z-of_z, natural_fits c.args.ratio.den (omega arith), fits c.args.ratio.num (omega arith), c.den.ensures.value, c.num.ensures.value, f)
    (rest_size c.args.ratio.den c.args.ratio.num c.requires.den c.requires.num)
