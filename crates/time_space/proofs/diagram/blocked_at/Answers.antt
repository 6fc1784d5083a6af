use Rattle.std.proofs.Common.{◌<◌, ◌^◌, arith, refl}
use Rattle.std.proofs.lemmas.Int.{to_z-of_z, to_z_pos}
use Rattle.time_space.proofs.Fits.{later_fits}
use Rattle.time_space.proofs.diagram.blocked_at.Goals as goal

pub overflow_add-result : goal.overflow_add-result
overflow_add-result c =
    let n : c.in_ok-after.after < 2 ^ 127 = omega (arith, c.in_ok-after.ensures.small) in
    simp (to_z-of_z, to_z_pos, c.ranges.line, n) (later_fits c.args.line c.in_ok-after.after c.requires.near c.in_ok-after.ensures.small)

pub returns : goal.returns
returns c =
    let n : c.in_ok-after.after < 2 ^ 127 = omega (arith, c.in_ok-after.ensures.small) in
    let f = later_fits c.args.line c.in_ok-after.after c.requires.near c.in_ok-after.ensures.small in
    record {
      after = c.in_ok-after.after;
      signal_is = rw (c.stop.ensures.value, c.count.ensures.value) refl;
      tick_is = simp (to_z-of_z, to_z_pos, c.ranges.line, n, f) (rw c.requires.here refl);
      blocked = c.in_ok-after.ensures.found;
    }
