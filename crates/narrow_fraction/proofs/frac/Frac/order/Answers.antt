use Rattle.rational_theory.proofs.Compare.{cmp_ℚ-is}
use Rattle.std.proofs.lemmas.Int.{to_z-of_z}
use Rattle.narrow_fraction.proofs.OneDenominator.{fits_i128}
use Rattle.narrow_fraction.proofs.Steps.{rank_ℚ}
use Rattle.narrow_fraction.proofs.frac.Frac.order.Goals as goal

pub returns : goal.returns
returns c =
    let x = c.args.self in
    let y = c.args.other in
    let n = fits_i128 x.num (rw c.num.ensures.value at c.num.ensures.size) in
    let m = fits_i128 y.num (rw c.num-2.ensures.value at c.num-2.ensures.size) in
    let k = rank_ℚ _ x y (simp (c.num.ensures.value, c.num-2.ensures.value, c.bottom.ensures.value, c.bottom-2.ensures.value, to_z-of_z) at c.compare_quotients.ensures) in
    record { value = cmp_ℚ-is x y _ k; says = k }
