-- Remainders and green bands, all numbers m times as large.
use Rattle.std.proofs.Common.{◌≡◌, ℕ, suc, ◌+◌, ◌-◌, ◌*◌, ◌/◌, ◌%◌, ◌<◌, ◌≤◌, arith, sym, ◌∙◌, ap, inl, inr}
use Rattle.std.specs.Prelude.{ℤ, pos, negsuc, ◌+ℤ◌, ◌-ℤ◌, ◌*ℤ◌, ◌↔◌}
use Rattle.std.proofs.Math.Nat.{mul-le-mul_left, le_of_mul-le-mul_right, mul-le-mul_right}
use Rattle.std.proofs.lemmas.Nat.{mod-mul-add, div-add-mod'}
use Rattle.std.proofs.lemmas.Bool.{cases_eq}
use Rattle.std.proofs.lemmas.Int.{ints}
use borrow.Author.Differences.{up, down}
use Rattle.progression.specs.Green.{mod_ℤ, since, BandIsGreen}
use Rattle.progression.proofs.Remainders.{mod_is}
use Rattle.progression.proofs.Fits.{Fits, fits_from_band, band_from_fits}

pos_mul : (a b : ℕ) → 0 < a → 0 < b → 0 < a * b
pos_mul a b p q = let h : a * 1 ≤ a * b = mul-le-mul_left a q in omega arith

-- both sides of a remainder times m
pub scale_nat : (a c m : ℕ) → 0 < c → 0 < m → (a * m) % (c * m) ≡ a % c * m
scale_nat a c m p q =
    let whole = ap (λ x. x * m) (div-add-mod' a c) in
    let e : a * m ≡ a / c * (c * m) + a % c * m = omega (arith, whole) in
    let below : a % c < c = omega arith in
    let lt : a % c * m < c * m = grind arith in
    ap (λ x. x % (c * m)) e ∙ mod-mul-add (a / c) (c * m) (a % c * m) lt

scale_neg : (a c m n : ℕ) → n + suc a ≡ suc a * c → negsuc a *ℤ pos m +ℤ pos (suc a * (c * m)) ≡ pos (n * m)
scale_neg a c m n e = let f = ap (λ x. x * m) e in omega (arith, ints, f)

pub mod-scale : (z : ℤ) (c m : ℕ) → 0 < c → 0 < m → mod_ℤ (z *ℤ pos m) (c * m) ≡ mod_ℤ z c * m
mod-scale (pos a) c m p q = scale_nat a c m p q
mod-scale (negsuc a) c m p q =
    let far : suc a * 1 ≤ suc a * c = mul-le-mul_left (suc a) p in
    let n = suc a * c - suc a in
    let here : mod_ℤ (negsuc a) c ≡ n % c = mod_is (negsuc a) c (suc a) n p (omega (arith, ints)) in
    let there : mod_ℤ (negsuc a *ℤ pos m) (c * m) ≡ (n * m) % (c * m) = mod_is (negsuc a *ℤ pos m) (c * m) (suc a) (n * m) (pos_mul c m p q) (scale_neg a c m n (omega arith)) in
    there ∙ scale_nat n c m p q ∙ ap (λ r. r * m) (sym here)

zero_of : (a m : ℕ) → 0 < m → a * m ≡ 0 → a ≡ 0
zero_of a m q e = elim (cases_eq a 0) [ inl z ↦ z | inr z ↦ let p = pos_mul a m (omega arith) q in absurd (omega arith) ]

module _ (c red r b m : ℕ) (q : 0 < m) where
  pub fits_finer : Fits c red r b → Fits (c * m) (red * m) (r * m) (b * m)
  fits_finer f = record {
    free = elim f.free [ inl z ↦ inl (let e = ap (λ x. x * m) z.0 in omega (arith, e), let e = ap (λ x. x * m) z.1 in omega (arith, e)) | inr z ↦ inr (mul-le-mul_right m z) ];
    room = let e = mul-le-mul_right m f.room in omega (arith, e);
  }

  pub fits_coarser : Fits (c * m) (red * m) (r * m) (b * m) → Fits c red r b
  fits_coarser f = record {
    free = elim f.free [
      | inl z ↦ inl (zero_of r m q z.0, zero_of b m q z.1)
      | inr z ↦ inr (le_of_mul-le-mul_right z q)
    ];
    room = let e : (r + b) * m ≤ c * m = omega (arith, f.room) in le_of_mul-le-mul_right e q;
  }

pub minus_scale : (x a : ℤ) (m : ℕ) → x *ℤ pos m -ℤ a *ℤ pos m ≡ (x -ℤ a) *ℤ pos m
minus_scale x a m =
    let sum : up (x -ℤ a) + down x + up a ≡ up x + down a + down (x -ℤ a) = omega (arith, ints) in
    let scaled = ap (λ y. y * m) sum in
    omega (arith, ints, scaled)

since-scale : (c m : ℕ) (a x : ℤ) → 0 < c → 0 < m → since (c * m) (a *ℤ pos m) (x *ℤ pos m) ≡ since c a x * m
since-scale c m a x p q = ap (λ z. mod_ℤ z (c * m)) (minus_scale x a m) ∙ mod-scale (x -ℤ a) c m p q

-- a band is green exactly where it is on every finer grid
pub finer_grids : (c red b m : ℕ) (a x : ℤ) → 2 ≤ red → red < c → 1 ≤ m
    → BandIsGreen c a red x b ↔ BandIsGreen (c * m) (a *ℤ pos m) (red * m) (x *ℤ pos m) (b * m)
finer_grids c red b m a x h k q =
    let more : red * 1 ≤ red * m = mul-le-mul_left red q in
    let less : red * m < c * m = grind arith in
    let same = since-scale c m a x (omega arith) q in (
      (λ g. band_from_fits (c * m) (red * m) (a *ℤ pos m) (x *ℤ pos m) (b * m) (omega arith) less
          (rw same (fits_finer c red (since c a x) b m q (fits_from_band c red a x b h k g)))),
      (λ g. band_from_fits c red a x b h k
          (fits_coarser c red (since c a x) b m q
          (rw same at (fits_from_band (c * m) (red * m) (a *ℤ pos m) (x *ℤ pos m) (b * m) (omega arith) less g)))),
    )
