-- Between two signals a piece of a band crosses no bar: each link leaves room for the bars of a signal.
use Rattle.std.proofs.Common.{◌≡◌, ℕ, zero, suc, ◌+◌, ◌-◌, ◌*◌, ◌/◌, ◌≤◌, refl, sym, subst, arith, inl, inr}
use Rattle.std.specs.Prelude.{◌⊎◌}
use Rattle.std.proofs.lemmas.Bool.{cases_lt}
use Rattle.std.proofs.lemmas.Int.{ints}
use Rattle.std.proofs.Math.Nat.{div-zero, div-le_of_le-mul}
use Rattle.progression.specs.Street.{Street, count, distance, HasSignal, HasLink}
use Rattle.progression.specs.declared.parts.Dir.{Dir}
use Rattle.progression.specs.declared.parts.Dir.TheVariants.{Outbound, Inbound}
use Rattle.artery_model.specs.Valid.{IsValid}
use Rattle.time_space.proofs.FinerGrids.{mul-le}
use Rattle.diagram_draw.specs.declared.frame.Frame.{Frame}
use Rattle.diagram_draw.specs.Frames.{far, street_length, rise, level, IsFrame}
use Rattle.diagram_draw.specs.Bands.{leaving_level, entering_level}
use Rattle.diagram_draw.specs.Bars.{bar_top}
use Rattle.diagram_draw.specs.Laws.{SignalsRise, PiecesJoinBars, MissesBar, PiecesMissBars}
use Rattle.diagram_draw.proofs.Apart.{div_up}

-- ---- distances
far_more : (a : Street) (p q : ℕ) → p ≤ q → far a p ≤ far a q
far_more a p zero h = let e : p ≡ 0 = omega (arith, h) in subst (λ k. far a k ≤ far a 0) (sym e) (omega arith)
far_more a p (suc q) h = elim (cases_lt p (suc q)) [
  | inl l ↦ (let more = far_more a p q (omega (arith, l)) in
      let next : far a q ≤ far a q + distance a Outbound (suc q) = omega arith in
      let whole : far a q ≤ far a (suc q) = next in
      omega (arith, more, whole))
  | inr l ↦ (let e : p ≡ suc q = omega (arith, h, l) in subst (λ k. far a k ≤ far a (suc q)) (sym e) (omega arith))
]

quotients_up : (x y c : ℕ) → x ≤ y → x / c ≤ y / c
quotients_up x y zero h = let e = div-zero x in omega (arith, e)
quotients_up x y (suc c) h = div_up x y (suc c) (omega arith) h

-- ---- levels
-- by how far the links lift each of two signals
levels_by : (s n i j x y : ℕ) → 1 ≤ i → i ≤ j → j ≤ n + 1 → n ≤ 23 → 4400 ≤ s → x ≤ y → y ≤ s - 180 * n
    → (1760 + s - 180 * (j - 1) - y) + 180 * (j - i) ≤ 1760 + s - 180 * (i - 1) - x
levels_by s n i j x y h k l m g u w = omega arith

pub levels_apart : SignalsRise
levels_apart f a i j h v some up last =
    let many = v.many in
    let few = v.few in
    let tall = h.span_least in
    let there : far a (i - 1) ≤ far a (j - 1) = far_more a (i - 1) (j - 1) (omega (arith, up)) in
    let whole : far a (j - 1) ≤ street_length a = far_more a (j - 1) (count a - 1) (omega (arith, last)) in
    let rises : far a (i - 1) * rise f a ≤ far a (j - 1) * rise f a = mul-le there (let q : rise f a ≤ rise f a = omega arith in q) in
    let most : far a (j - 1) * rise f a ≤ street_length a * rise f a = mul-le whole (let q : rise f a ≤ rise f a = omega arith in q) in
    levels_by f.span (count a - 1) i j (far a (i - 1) * rise f a / street_length a) (far a (j - 1) * rise f a / street_length a) some up
    (omega (arith, last)) (omega (arith, many)) tall (quotients_up (far a (i - 1) * rise f a) (far a (j - 1) * rise f a) (street_length a) rises)
    (div-le_of_le-mul (street_length a) most)

-- ---- a piece and a bar
pub pieces_join_bars : PiecesJoinBars
pieces_join_bars f a Outbound l = record { begins = inl refl; ends = inr refl }
pieces_join_bars f a Inbound l = record { begins = inr refl; ends = inl refl }

misses : (f : Frame) (a : Street) (d e : Dir) (l i : ℕ) → level f a (l + 1) + 180 ≤ level f a l → (level f a l ≤ level f a i) ⊎ (level f a i ≤ level f a (l + 1))
    → MissesBar (leaving_level f a d l) (entering_level f a d l) (bar_top f a e i)
misses f a Outbound Outbound l i h (inl k) = record { beside = inl (omega (arith, ints, h, k), omega (arith, ints, h, k)) }
misses f a Outbound Inbound l i h (inl k) = record { beside = inl (omega (arith, ints, h, k), omega (arith, ints, h, k)) }
misses f a Inbound Outbound l i h (inl k) = record { beside = inl (omega (arith, ints, h, k), omega (arith, ints, h, k)) }
misses f a Inbound Inbound l i h (inl k) = record { beside = inl (omega (arith, ints, h, k), omega (arith, ints, h, k)) }
misses f a Outbound Outbound l i h (inr k) = record { beside = inr (omega (arith, ints, h, k), omega (arith, ints, h, k)) }
misses f a Outbound Inbound l i h (inr k) = record { beside = inr (omega (arith, ints, h, k), omega (arith, ints, h, k)) }
misses f a Inbound Outbound l i h (inr k) = record { beside = inr (omega (arith, ints, h, k), omega (arith, ints, h, k)) }
misses f a Inbound Inbound l i h (inr k) = record { beside = inr (omega (arith, ints, h, k), omega (arith, ints, h, k)) }

-- a signal stands at the link's first or before it, or at its last or after it
ends : (f : Frame) (a : Street) (l i : ℕ) → IsFrame f → IsValid a → HasLink a l → HasSignal a i
    → (level f a l ≤ level f a i) ⊎ (level f a i ≤ level f a (l + 1))
ends f a l i h v there here = elim (cases_lt l i) [
  | inl p ↦ (let e = levels_apart f a (l + 1) i h v (omega arith) (omega (arith, p)) here.1 in inr (omega (arith, e)))
  | inr p ↦ (let last = there.1 in let e = levels_apart f a i l h v here.0 p (omega (arith, last)) in inl (omega (arith, e)))
]

pub pieces_miss_bars : PiecesMissBars
pieces_miss_bars f a d e l i h v there here =
    let last = there.1 in
    let one : l + 1 - l ≡ 1 = omega arith in
    let apart = levels_apart f a l (l + 1) h v there.0 (omega arith) (omega (arith, last)) in
    misses f a d e l i (omega (arith, apart, one)) (ends f a l i h v there here)
