use Rattle.std.proofs.Common.{◌≡◌, ℤ, pos, ◌≤ℤ◌, ◌≤◌, ◌<◌, ◌^◌, ◌*◌, to_z, of_z, unsigned_abs, arith}
use Rattle.std.specs.Int.{w64, w128, int_div_euclid}
use Rattle.std.proofs.lemmas.Int.{ints, to_z-of_z}
use Rattle.search_box.proofs.Sums.{quotient_within}
use Rattle.search_box.proofs.root.floor.Goals as goal

-- a small quotient fits in 64 bits
fits : (top bottom r : ℤ) → unsigned_abs top < 2 ^ 93 → pos 1 ≤ℤ bottom → unsigned_abs bottom < 2 ^ 90 → unsigned_abs top ≤ 2 ^ 41 * unsigned_abs bottom
    → r ≡ int_div_euclid (to_z w128 (of_z w128 top)) (to_z w128 (of_z w128 bottom))
    → (to_z w64 (of_z w64 (to_z w128 (of_z w128 r))) ≡ int_div_euclid top bottom) × (unsigned_abs (to_z w64 (of_z w64 (to_z w128 (of_z w128 r)))) ≤ 2 ^ 41)
fits top bottom r h k l m e =
    let t : to_z w128 (of_z w128 top) ≡ top = to_z-of_z w128 top (omega (arith, ints)) in
    let b : to_z w128 (of_z w128 bottom) ≡ bottom = to_z-of_z w128 bottom (omega (arith, ints)) in
    let is : r ≡ int_div_euclid top bottom = rw (t, b) at e in
    let size : unsigned_abs r ≤ 2 ^ 41 = rw is (quotient_within top bottom (2 ^ 41) k m) in
    let wide : to_z w128 (of_z w128 r) ≡ r = to_z-of_z w128 r (omega (arith, ints)) in
    let narrow : to_z w64 (of_z w64 r) ≡ r = to_z-of_z w64 r (omega (arith, ints)) in
    (rw (wide, narrow) is, rw (wide, narrow) size)

pub returns-clause-value : goal.returns-clause-value
returns-clause-value c = let s = c.args.sum in (fits s.top s.bottom c.div_euclid.result s.top_small s.some s.bottom_small s.fits c.div_euclid.ensures).0

pub returns-clause-size : goal.returns-clause-size
returns-clause-size c = let s = c.args.sum in (fits s.top s.bottom c.div_euclid.result s.top_small s.some s.bottom_small s.fits c.div_euclid.ensures).1
