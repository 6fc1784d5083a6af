use Rattle.std.proofs.Common.{FitsSigned, arith}
use Rattle.std.specs.Int.{w128}
use Rattle.std.proofs.lemmas.Int.{to_z-of_z, fits_signed_from_abs}
use Rattle.link_space.proofs.greens.blocked_after.Goals as goal

pub overflow_mul-half : goal.overflow_mul-half
overflow_mul-half c = let most = c.half.ensures.most in record { fits = omega (arith, most) }

pub first_red-requires-clause-start : goal.first_red-requires-clause-start
first_red-requires-clause-start c =
    let near = c.red_start-start.ensures.near in
    rw (to_z-of_z w128 c.red_start-start.result (fits_signed_from_abs w128 c.red_start-start.result (omega (arith, near)))) c.red_start-start.ensures.small

pub first_red-requires-clause-edge : goal.first_red-requires-clause-edge
first_red-requires-clause-edge c = let near = c.requires.near in rw (to_z-of_z w128 c.args.from c.ranges.from) (omega (arith, near))

pub returns-clause-found : goal.returns-clause-found
returns-clause-found c =
    let from = c.ranges.from in let near = c.red_start-start.ensures.near in
    let start : FitsSigned w128 c.red_start-start.result = fits_signed_from_abs w128 c.red_start-start.result (omega (arith, near)) in
    let found = simp to_z-of_z at c.first_red.ensures in
    rw (c.cycle.ensures.value, c.red_start-start.ensures.value, c.red_ticks-red.ensures.value, c.half.ensures.value, c.requires.here, c.base-base.ensures) at found
