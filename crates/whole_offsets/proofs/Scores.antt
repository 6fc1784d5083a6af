-- The order of scores.
use Rattle.std.proofs.Common.{◌≡◌, ℕ, pos, ◌*ℤ◌, ◌<◌, sym, ◌∙◌, subst, arith, inl, inr}
use Rattle.std.specs.Prelude.{◌⊎◌}
use Rattle.std.proofs.lemmas.Bool.{cases_order}
use Rattle.std.proofs.lemmas.Int.{by_lt_z}
use Rattle.rational_theory.specs.Rational.{ℚ, ◌<ℚ◌}
use Rattle.rational_theory.proofs.Order.{<ℚ_trans, <ℚ_not-≤ℚ, ≤ℚ_refl, ≤ℚ_antisymm}
use Rattle.whole_offsets.specs.Score.{IsBetter}
use Rattle.whole_offsets.specs.declared.score.Score.{Score}

-- the second and third place alone
abbrev IsBetterBands : ℚ → ℚ → ℚ → ℚ → Type 0
IsBetterBands m w n v = (m <ℚ n) ⊎ ((m ≡ n) × (v <ℚ w))

<ℚ_irrefl : (x : ℚ) → x <ℚ x → ⊥
<ℚ_irrefl x h = <ℚ_not-≤ℚ x x h (≤ℚ_refl x)

bands_trans : (m w n v o u : ℚ) → IsBetterBands m w n v → IsBetterBands n v o u → IsBetterBands m w o u
bands_trans m w n v o u (inl h) (inl g) = inl (<ℚ_trans m n o h g)
bands_trans m w n v o u (inl h) (inr g) = inl (subst (λ z. m <ℚ z) g.0 h)
bands_trans m w n v o u (inr h) (inl g) = inl (subst (λ z. z <ℚ o) (sym h.0) g)
bands_trans m w n v o u (inr h) (inr g) = inr (h.0 ∙ g.0, <ℚ_trans u v w g.1 h.1)

abbrev IsBetterAt : ℕ → ℚ → ℚ → ℕ → ℚ → ℚ → Type 0
IsBetterAt l m w k n v = (l < k) ⊎ ((l ≡ k) × IsBetterBands m w n v)

at_trans : (l : ℕ) (m w : ℚ) (k : ℕ) (n v : ℚ) (j : ℕ) (o u : ℚ) → IsBetterAt l m w k n v → IsBetterAt k n v j o u → IsBetterAt l m w j o u
at_trans l m w k n v j o u (inl h) (inl g) = inl (omega arith)
at_trans l m w k n v j o u (inl h) (inr g) = let e = g.0 in inl (omega arith)
at_trans l m w k n v j o u (inr h) (inl g) = let e = h.0 in inl (omega arith)
at_trans l m w k n v j o u (inr h) (inr g) = inr (h.0 ∙ g.0, bands_trans m w n v o u h.1 g.1)

at_irrefl : (l : ℕ) (m w : ℚ) → IsBetterAt l m w l m w → ⊥
at_irrefl l m w (inl h) = absurd (omega arith)
at_irrefl l m w (inr (e, inl h)) = <ℚ_irrefl m h
at_irrefl l m w (inr (e, inr h)) = <ℚ_irrefl w h.1

pub better_trans : (x y z : Score) → IsBetter x y → IsBetter y z → IsBetter x z
better_trans x y z h g = at_trans x.lineless x.misses x.weighted y.lineless y.misses y.weighted z.lineless z.misses z.weighted h g

pub better_irrefl : (x : Score) → IsBetter x x → ⊥
better_irrefl x h = at_irrefl x.lineless x.misses x.weighted h

-- what is no better than one isn't better than a better one
pub no_better_on : (x y z : Score) → ¬ IsBetter x y → IsBetter z y → ¬ IsBetter x z
no_better_on x y z h g w = h (better_trans x z y w g)

-- ---- of two scores one is better, or both are the same
ways_of : (x y : ℚ) → (x <ℚ y) ⊎ ((x ≡ y) ⊎ (y <ℚ x))
ways_of x y = by_lt_z {P = (x <ℚ y) ⊎ ((x ≡ y) ⊎ (y <ℚ x))} (x.num *ℤ pos y.den) (y.num *ℤ pos x.den) (λ h. inl (record { cross = h }))
    (λ h. by_lt_z {P = (x <ℚ y) ⊎ ((x ≡ y) ⊎ (y <ℚ x))} (y.num *ℤ pos x.den) (x.num *ℤ pos y.den) (λ g. inr (inr (record { cross = g })))
    (λ g. inr (inl (≤ℚ_antisymm x y (record { cross = g }) (record { cross = h })))))

ways_of_bands : (m w n v : ℚ) → IsBetterBands m w n v ⊎ (((m ≡ n) × (w ≡ v)) ⊎ IsBetterBands n v m w)
ways_of_bands m w n v = elim (ways_of m n) [
  | inl h ↦ inl (inl h)
  | inr h ↦ elim h [
    | inl e ↦ elim (ways_of v w) [ inl g ↦ inl (inr (e, g)) | inr g ↦ elim g [ inl f ↦ inr (inl (e, sym f)) | inr l ↦ inr (inr (inr (sym e, l))) ] ]
    | inr g ↦ inr (inr (inl g))
  ]
]

abbrev IsOneWay : ℕ → ℚ → ℚ → ℕ → ℚ → ℚ → Type 0
IsOneWay l m w k n v = IsBetterAt l m w k n v ⊎ (((l ≡ k) × (m ≡ n) × (w ≡ v)) ⊎ IsBetterAt k n v l m w)

-- what is better than one that another isn't better than is better than that
over_of : (l : ℕ) (m w : ℚ) (k : ℕ) (n v : ℚ) (j : ℕ) (o u : ℚ) → IsOneWay l m w k n v → IsBetterAt l m w j o u → (IsBetterAt k n v j o u → ⊥) → IsBetterAt l m w k n v
over_of l m w k n v j o u (inl h) b f = h
over_of l m w k n v j o u (inr (inl e)) b f =
    absurd (f (subst (λ i. IsBetterAt i n v j o u) e.0 (subst (λ i. IsBetterAt l i v j o u) e.1 (subst (λ i. IsBetterAt l m i j o u) e.2 b))))
over_of l m w k n v j o u (inr (inr g)) b f = absurd (f (at_trans k n v l m w j o u g b))

ways_at : (l : ℕ) (m w : ℚ) (k : ℕ) (n v : ℚ) → IsOneWay l m w k n v
ways_at l m w k n v = elim (cases_order l k) [
  | inl e ↦ elim (ways_of_bands m w n v) [
    | inl h ↦ inl (inr (e, h))
    | inr h ↦ elim h [ inl f ↦ inr (inl (e, f.0, f.1)) | inr g ↦ inr (inr (inr (sym e, g))) ]
  ]
  | inr h ↦ elim h [ inl g ↦ inl (inl g) | inr g ↦ inr (inr (inl g)) ]
]

pub better_over : (x y z : Score) → IsBetter x z → ¬ IsBetter y z → IsBetter x y
better_over x y z b n = over_of x.lineless x.misses x.weighted y.lineless y.misses y.weighted z.lineless z.misses z.weighted
    (ways_at x.lineless x.misses x.weighted y.lineless y.misses y.weighted) b n

-- ---- the test
not_same : (l : ℕ) (m w n v : ℚ) → (m ≡ n → ⊥) → IsBetterAt l m w l n v → m <ℚ n
not_same l m w n v h (inl g) = absurd (omega arith)
not_same l m w n v h (inr (e, inl g)) = g
not_same l m w n v h (inr (e, inr g)) = absurd (h g.0)

last_of : (l : ℕ) (m w v : ℚ) → IsBetterAt l m w l m v → v <ℚ w
last_of l m w v (inl g) = absurd (omega arith)
last_of l m w v (inr (e, inl g)) = absurd (<ℚ_irrefl m g)
last_of l m w v (inr (e, inr g)) = g.1

pub by_misses : (x y : Score) → x.lineless ≡ y.lineless → (x.misses ≡ y.misses → ⊥) → (IsBetter x y → x.misses <ℚ y.misses) × (x.misses <ℚ y.misses → IsBetter x y)
by_misses x y e h = (
  λ b. not_same x.lineless x.misses x.weighted y.misses y.weighted h (subst (λ k. IsBetterAt x.lineless x.misses x.weighted k y.misses y.weighted) (sym e) b),
  λ l. inr (e, inl l),
)

pub by_weight : (x y : Score) → x.lineless ≡ y.lineless → x.misses ≡ y.misses → (IsBetter x y → y.weighted <ℚ x.weighted) × (y.weighted <ℚ x.weighted → IsBetter x y)
by_weight x y e f = (
  λ b. last_of x.lineless x.misses x.weighted y.weighted (subst (λ k. IsBetterAt x.lineless x.misses x.weighted k x.misses y.weighted) (sym e)
      (subst (λ n. IsBetterAt x.lineless x.misses x.weighted y.lineless n y.weighted) (sym f) b)),
  λ l. inr (e, inr (f, l)),
)
