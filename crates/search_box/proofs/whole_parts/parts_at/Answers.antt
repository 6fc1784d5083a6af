use Rattle.std.proofs.Common.{◌≡◌, ℤ, ◌+ℤ◌, ◌-ℤ◌, ◌<◌, ◌^◌, unsigned_abs, to_z, of_z, arith}
use Rattle.std.specs.Int.{w128}
use Rattle.std.proofs.lemmas.Int.{ints, to_z-of_z}
use Rattle.search_box.proofs.whole_parts.parts_at.Goals as goal

-- small numbers fit, and so do their difference and their sum
held : (x : ℤ) → unsigned_abs x < 2 ^ 16 → to_z w128 (of_z w128 x) ≡ x
held x h = to_z-of_z w128 x (omega (arith, ints, h))

less : (x y : ℤ) → unsigned_abs x < 2 ^ 15 → unsigned_abs y < 2 ^ 15 → to_z w128 (of_z w128 (to_z w128 (of_z w128 x) -ℤ to_z w128 (of_z w128 y))) ≡ x -ℤ y
less x y h k = rw (held x (omega (arith, h)), held y (omega (arith, k))) (held (x -ℤ y) (omega (arith, ints, h, k)))

more : (x y : ℤ) → unsigned_abs x < 2 ^ 15 → unsigned_abs y < 2 ^ 15 → to_z w128 (of_z w128 (to_z w128 (of_z w128 x) +ℤ to_z w128 (of_z w128 y))) ≡ x +ℤ y
more x y h k = rw (held x (omega (arith, h)), held y (omega (arith, k))) (held (x +ℤ y) (omega (arith, ints, h, k)))

pub returns-in-Least-clause-value : goal.returns-in-Least-clause-value
returns-in-Least-clause-value c =
    let f = c.reds_and_clearances-fixed in
    let w = c.waits_and_shifts in
    rw (less f.result w.result f.ensures.size w.ensures.size, c.in-Least.is) (omega (arith, ints, f.ensures.value, w.ensures.value))

pub returns-in-Greatest-clause-value : goal.returns-in-Greatest-clause-value
returns-in-Greatest-clause-value c =
    let f = c.reds_and_clearances-fixed in
    let w = c.waits_and_shifts-in-Greatest in
    rw (more f.result w.result f.ensures.size w.ensures.size, c.in-Greatest.is) (omega (arith, ints, f.ensures.value, w.ensures.value))
