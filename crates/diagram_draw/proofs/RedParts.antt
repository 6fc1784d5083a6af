-- The two parts of a direction's red are the whole of it.
use Rattle.std.proofs.Common.{◌≡◌, ℕ, ℤ, pos, ◌+ℤ◌, ◌-ℤ◌, ◌+◌, ◌*◌, refl, arith, inl, inr, Bool, true, false, if◌then◌else◌}
use Rattle.std.specs.Prelude.{◌⊎◌}
use Rattle.std.proofs.lemmas.Int.{ints}
use Rattle.progression.specs.BaseRecord.{pattern_of, common_red}
use Rattle.progression.specs.Green.{is_early}
use Rattle.diagram_draw.specs.Bars.{common_ticks, turn_ticks, common_wait}
use Rattle.diagram_draw.specs.Laws.{RedsHaveTwoParts}

sum_times : (x y u : ℕ) → x * u + y * u ≡ (x + y) * u
sum_times x y u = grind arith

there : (z : ℤ) (n : ℕ) → z -ℤ pos n +ℤ pos n ≡ z
there z n = omega (arith, ints)

two_orders : (b : Bool) (x y : ℕ) → (((if b then y else 0) ≡ 0) × ((if b then 0 else x) ≡ x)) ⊎ (((if b then 0 else x) ≡ 0) × ((if b then y else 0) ≡ y))
two_orders true x y = inr (refl, refl)
two_orders false x y = inl (refl, refl)

pub red_parts_are : RedsHaveTwoParts
red_parts_are a b d i = record {
  begun = there (common_red b i) (common_wait a b d i);
  whole = sum_times _ _ b.unit;
  order = two_orders (is_early d (pattern_of b i)) (common_ticks a b i) (turn_ticks a b d i);
}
