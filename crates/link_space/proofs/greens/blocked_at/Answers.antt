use Rattle.std.proofs.Common.{◌≡◌, ℕ, ℤ, pos, ◌+ℤ◌, ◌<◌, ◌^◌, unsigned_abs, FitsSigned, to_z, of_z, refl, ap, arith}
use Rattle.std.specs.Int.{w128}
use Rattle.std.proofs.lemmas.Int.{ints, to_z-of_z, to_z_pos, fits_signed_from_abs}
use Rattle.link_space.proofs.greens.blocked_at.Goals as goal

-- a small number of ticks after another tick, as the code adds them
module _ (from : ℤ) (after : ℕ) (h : unsigned_abs from < 2 ^ 99) (k : after < 2 ^ 81) where
  made : to_z w128 (of_z w128 from) +ℤ to_z w128 after ≡ from +ℤ pos after
  made = rw (to_z-of_z w128 from (fits_signed_from_abs w128 from (omega arith)), to_z_pos w128 after (omega arith)) refl

  fits : FitsSigned w128 (from +ℤ pos after)
  fits = fits_signed_from_abs w128 _ (omega (arith, ints))

pub overflow_cast-result : goal.overflow_cast-result
overflow_cast-result c = let k = c.in_ok-after.ensures.small in fits_signed_from_abs w128 (pos c.in_ok-after.after) (omega (arith, k))

pub overflow_add-result : goal.overflow_add-result
overflow_add-result c =
    let h = c.edge-from.ensures.near in let k = c.in_ok-after.ensures.small in
    rw (made c.edge-from.result c.in_ok-after.after h k) (fits c.edge-from.result c.in_ok-after.after h k)

pub returns : goal.returns
returns c =
    let h = c.edge-from.ensures.near in let k = c.in_ok-after.ensures.small in
    record {
      has = (c.requires.link.0, c.requires.link.1);
      end = c.requires.end;
      after = c.in_ok-after.after;
      tick_is =
          rw (made c.edge-from.result c.in_ok-after.after h k, to_z-of_z w128 (c.edge-from.result +ℤ pos c.in_ok-after.after) (fits c.edge-from.result c.in_ok-after.after h k))
          (ap (λ e. e +ℤ pos c.in_ok-after.after) c.edge-from.ensures.value);
      blocked = c.in_ok-after.ensures.found;
    }
