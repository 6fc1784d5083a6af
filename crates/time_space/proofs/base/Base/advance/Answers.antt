use Rattle.std.proofs.Common.{◌*◌, ◌<◌, ◌^◌, arith, refl}
use Rattle.std.proofs.lemmas.Int.{to_z-of_z, to_z_pos}
use Rattle.time_space.proofs.Fits.{parts_size, minus_size, minus_fits}
use Rattle.time_space.proofs.base.Base.advance.Goals as goal

-- both numbers of ticks fit
run_fits : (c : goal.After-unit) → c.run-run.result < 2 ^ 127
run_fits c = omega arith

clearance_size : (c : goal.After-unit) → c.clearance.result * c.unit.result < 2 ^ 92
clearance_size c = parts_size c.clearance.result c.unit.result c.clearance.ensures.small c.unit.ensures.most

clearance_fits : (c : goal.After-unit) → c.clearance.result * c.unit.result < 2 ^ 127
clearance_fits c = omega (arith, clearance_size c)

pub overflow_mul-clearance : goal.overflow_mul-clearance
overflow_mul-clearance c = record { fits = omega (arith, clearance_size c) }

pub overflow_sub-result : goal.overflow_sub-result
overflow_sub-result c = simp (to_z_pos, run_fits c, clearance_fits c) (minus_fits _ _ (run_fits c) (clearance_fits c))

pub returns-clause-value : goal.returns-clause-value
returns-clause-value c =
    simp (to_z-of_z, to_z_pos, run_fits c, clearance_fits c, minus_fits _ _ (run_fits c) (clearance_fits c))
    (rw (c.run-run.ensures.value, c.leg.ensures.value, c.clearance.ensures.value, c.stop.ensures.value, c.unit.ensures.value, c.count-count.ensures.value) refl)

pub returns-clause-small : goal.returns-clause-small
returns-clause-small c =
    let s = minus_size c.run-run.result (c.clearance.result * c.unit.result) (2 ^ 93) (omega arith) (omega (arith, clearance_size c)) in
    simp (to_z-of_z, to_z_pos, run_fits c, clearance_fits c, minus_fits _ _ (run_fits c) (clearance_fits c)) (omega (arith, s))
