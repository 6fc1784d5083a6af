-- Times in ticks, and back in seconds.
use Rattle.std.proofs.Common.{◌≡◌, ℕ, ◌+◌, ◌*◌, ◌/◌, ◌<◌, pos, refl, subst, arith, unsigned_abs, mul-pos}
use Rattle.std.specs.Prelude.{◌≤ℤ◌}
use Rattle.std.proofs.lemmas.Int.{ints}
use native.Mathlib.Nat.{mul-div_cancel'}
use borrow.Author.Differences.{up, down}
use Rattle.rational_theory.specs.Rational.{ℚ, over, ◌≤ℚ◌, ◌/ℚ◌}
use Rattle.rational_theory.proofs.Integers.{up-mul, down-mul}
use Rattle.rational_theory.proofs.Arithmetic.{IsRatio, own_ratio, same_ratio, over_ratio, ≤ℚ_out}
use Rattle.rational_theory.proofs.Order.{≤ℚ_refl}
use Rattle.rational_theory.proofs.Multiples.{IsMultiple}
use Rattle.progression.specs.Speeds.{number}
use Rattle.artery_model.proofs.Quotients.{over_whole}
use Rattle.typed_plan.specs.Grid.{ticks}
use Rattle.typed_plan.proofs.Shared.{divides}

-- equal numbers have equal cross products in any terms
pub cross_of : (x y : ℚ) (p n d q m e : ℕ) → IsRatio x p n d → IsRatio y q m e → x ≡ y → p * e + m * d ≡ n * e + q * d
cross_of x y p n d q m e h k f =
    let P : ℚ → Type 0 = λ t. x ≤ℚ t in
    let Q : ℚ → Type 0 = λ t. t ≤ℚ x in
    let below = ≤ℚ_out x y p n d q m e h k (subst P f (≤ℚ_refl x)) in
    let above = ≤ℚ_out y x q m e p n d k h (subst Q f (≤ℚ_refl x)) in
    omega (arith, below, above)

-- natural numbers over natural numbers
pub nat_ratio : (n d : ℕ) → 0 < d → IsRatio (over (pos n) d) n 0 d
nat_ratio n d h = over_ratio (pos n) d h

pub same_over : (n d m e : ℕ) → 0 < d → 0 < e → over (pos n) d ≡ over (pos m) e → n * e ≡ m * d
same_over n d m e h k f = let c = cross_of _ _ _ _ _ _ _ _ (nat_ratio n d h) (nat_ratio m e k) f in omega (arith, c)

-- a time that is whole on a grid is so many ticks of it
whole_ticks : (u v k w g : ℕ) → w * k ≡ g → (u * k + v * 0) * w + v * g ≡ (u * 0 + v * k) * w + u * g
whole_ticks u v k w g e = rw (← e) (omega arith)

pub over_ticks : (g : ℕ) (x : ℚ) → 0 < g → IsMultiple g x.den → over (ticks g x) g ≡ x
over_ticks g x h m =
    let k = g / x.den in
    let e : x.den * k ≡ g = mul-div_cancel' x.den (divides m) in
    let f = whole_ticks (up x.num) (down x.num) k x.den g e in
    let r : IsRatio (over (ticks g x) g) (up x.num * k + down x.num * 0) (up x.num * 0 + down x.num * k) g =
    rw (← up-mul x.num (pos k), ← down-mul x.num (pos k)) (over_ratio (ticks g x) g h) in
    same_ratio _ _ _ _ _ _ _ _ r (own_ratio x) f

-- where it isn't below 0 the number of ticks isn't either
pub ticks_up : (g : ℕ) (x : ℚ) → pos 0 ≤ℤ x.num → pos (unsigned_abs (ticks g x)) ≡ ticks g x
ticks_up g x h = let e : x.num ≡ pos (unsigned_abs x.num) = omega (arith, ints) in rw e refl

-- ---- the cycle and its parts
module _ (c : ℚ) (parts unit grid : ℕ) (some : 0 < parts) (g : 0 < grid) where
  part_ratio : IsRatio (c /ℚ number parts) (up c.num) (down c.num) (parts * c.den)
  part_ratio = rw (← over_whole c parts some) (over_ratio c.num (parts * c.den) (mul-pos some c.positive))

  -- as many parts as there are make the cycle
  pub cycle_of_parts : over (pos unit) grid ≡ c /ℚ number parts → over (pos (parts * unit)) grid ≡ c
  cycle_of_parts e =
      let k = cross_of _ _ _ _ _ _ _ _ (nat_ratio unit grid g) part_ratio e in
      same_ratio _ _ _ _ _ _ _ _ (nat_ratio (parts * unit) grid g) (own_ratio c) (omega (arith, k))

  pub part_of_cycle : over (pos (parts * unit)) grid ≡ c → over (pos unit) grid ≡ c /ℚ number parts
  part_of_cycle e =
      let k = cross_of _ _ _ _ _ _ _ _ (nat_ratio (parts * unit) grid g) (own_ratio c) e in
      same_ratio _ _ _ _ _ _ _ _ (nat_ratio unit grid g) part_ratio (omega (arith, k))
