use Rattle.std.proofs.Common.{◌*◌, ◌<◌, ◌^◌, arith, refl}
use Rattle.std.proofs.lemmas.Int.{to_z-of_z, to_z_pos}
use Rattle.time_space.proofs.Fits.{length_size, minus_size, minus_fits}
use Rattle.time_space.proofs.limits.change_of.Goals as goal

pub overflow_sub-result : goal.overflow_sub-result
overflow_sub-result c =
    let s = c.args.paces in
    let a = length_size s.next_run s.distance s.next_run_small s.small in
    let b = length_size s.run s.next_distance s.run_small s.next_small in
    let n : s.next_run * s.distance < 2 ^ 127 = omega (arith, a) in
    let m : s.run * s.next_distance < 2 ^ 127 = omega (arith, b) in
    simp (to_z_pos, n, m) (minus_fits _ _ n m)

pub returns-clause-value : goal.returns-clause-value
returns-clause-value c =
    let s = c.args.paces in
    let a = length_size s.next_run s.distance s.next_run_small s.small in
    let b = length_size s.run s.next_distance s.run_small s.next_small in
    let n : s.next_run * s.distance < 2 ^ 127 = omega (arith, a) in
    let m : s.run * s.next_distance < 2 ^ 127 = omega (arith, b) in
    simp (to_z-of_z, to_z_pos, n, m, minus_fits (s.next_run * s.distance) (s.run * s.next_distance) n m) refl

pub returns-clause-small : goal.returns-clause-small
returns-clause-small c =
    let s = c.args.paces in
    let a = length_size s.next_run s.distance s.next_run_small s.small in
    let b = length_size s.run s.next_distance s.run_small s.next_small in
    let n : s.next_run * s.distance < 2 ^ 127 = omega (arith, a) in
    let m : s.run * s.next_distance < 2 ^ 127 = omega (arith, b) in
    simp (to_z-of_z, to_z_pos, n, m, minus_fits (s.next_run * s.distance) (s.run * s.next_distance) n m) (minus_size _ _ (2 ^ 95) a b)
