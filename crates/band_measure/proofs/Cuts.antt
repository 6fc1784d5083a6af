-- Which of the rules of a cut speaks, and what a cut keeps.
use Rattle.std.proofs.Common.{◌≡◌, inl, inr, ℕ, zero, suc, pos, negsuc, ℤ, ◌≤ℤ◌, ◌+◌, ◌-◌, ◌*◌, ◌/◌, ◌<◌, ◌≤◌, min, arith, refl, sym, ap, ◌∙◌, le-div_iff_mul-le, true, false}
use Rattle.std.specs.Prelude.{◌⊎◌, IsTrue, Bool}
use Rattle.std.proofs.Math.Nat.{mul-le-mul_left, mul-le-mul_right, le_of_mul-le-mul_right}
use Rattle.std.proofs.lemmas.Bool.{cases_lt, cases_eq}
use Rattle.std.proofs.lemmas.Int.{ints}
use Rattle.rational_theory.specs.Rational.{ℚ, whole, ◌*ℚ◌, ◌-ℚ◌, ◌≤ℚ◌, ◌<ℚ◌, neg_ℚ}
use Rattle.rational_theory.proofs.Arithmetic.{IsRatio, own_ratio, whole_ratio, product_ratio, sum_ratio, neg_ratio, rebase, same_ratio, ≤ℚ_in, ≤ℚ_out}
use Rattle.rational_theory.proofs.Order.{≤ℚ_refl, <ℚ_not-≤ℚ, <ℚ-≤ℚ, not-≤ℚ}
use Rattle.progression.specs.Street.{Street}
use Rattle.progression.specs.Speeds.{number}
use Rattle.progression.specs.Good.{RatioHolds}
use Rattle.band_measure.specs.Cut.{whole_part, IsCutByRatio, IsCut}
use Rattle.band_measure.specs.declared.bands.Bands.{Bands}
use Rattle.band_measure.proofs.Parts.{as_ratio, times_part, over_part}

-- ---- which rule speaks
not_below_itself : (x y : ℚ) → x <ℚ y → x ≡ y → ⊥
not_below_itself x y h e = <ℚ_not-≤ℚ x y h (rw e (≤ℚ_refl y))

zero_below_one : number 0 <ℚ number 1
zero_below_one = not-≤ℚ _ _ (λ h. let c = ≤ℚ_out _ _ _ _ _ _ _ _ (whole_ratio (pos 1)) (whole_ratio (pos 0)) h in absurd (omega (arith, c)))

pub cut_none : (k : ℚ) (b : Bands) → (k ≡ number 0) ⊎ (k ≡ number 1) → IsCutByRatio k b b
cut_none k b (inl e) = record {
  below = λ l m. absurd (not_below_itself (number 0) k l (sym e));
  above = λ l. absurd (<ℚ_not-≤ℚ _ _ zero_below_one (<ℚ-≤ℚ _ _ (rw e at l)));
  else = λ w. refl;
}
cut_none k b (inr e) = record {
  below = λ l m. absurd (not_below_itself k (number 1) m e);
  above = λ l. absurd (not_below_itself (number 1) k l (sym e));
  else = λ w. refl;
}

pub cut_below : (k : ℚ) (b c : Bands) → (k ≡ number 0 → ⊥) → k <ℚ number 1
    → c ≡ record { outbound = min b.outbound (whole_part (number b.inbound *ℚ Rattle.rational_theory.specs.Rational.inverse_ℚ k)); inbound = b.inbound } → IsCutByRatio k b c
cut_below k b c n l e = record {
  below = λ m w. e;
  above = λ m. absurd (<ℚ_not-≤ℚ _ _ m (<ℚ-≤ℚ _ _ l));
  else = λ w. absurd (either w);
}
  where
    either : (k ≡ number 0) ⊎ (k ≡ number 1) → ⊥
    either (inl z) = n z
    either (inr o) = not_below_itself k (number 1) l o

pub cut_above : (k : ℚ) (b c : Bands) → (k ≡ number 0 → ⊥) → (k ≡ number 1 → ⊥) → number 1 ≤ℚ k
    → c ≡ record { outbound = b.outbound; inbound = min b.inbound (whole_part (k *ℚ number b.outbound)) } → IsCutByRatio k b c
cut_above k b c n o l e = record {
  below = λ m w. absurd (<ℚ_not-≤ℚ _ _ w l);
  above = λ m. e;
  else = λ w. absurd (either w);
}
  where
    either : (k ≡ number 0) ⊎ (k ≡ number 1) → ⊥
    either (inl z) = n z
    either (inr q) = o q

-- a ratio of at least 0 that is not 0
above_nothing : (z : ℤ) → pos 0 ≤ℤ z → (z ≡ pos 0 → ⊥) → pos 1 ≤ℤ z
above_nothing (pos zero) h n = absurd (n refl)
above_nothing (pos (suc a)) h n = omega (arith, ints)
above_nothing (negsuc a) h n = absurd (omega (arith, ints))

pub num_above : (k : ℚ) → pos 0 ≤ℤ k.num → (k ≡ number 0 → ⊥) → pos 1 ≤ℤ k.num
num_above k h n = above_nothing k.num h (λ e. n (same_ratio _ _ _ _ _ _ _ _ (own_ratio k) (whole_ratio (pos 0)) (rw e (omega arith))))

-- ---- the ratio rule in whole numbers
-- (l - s) * x ≤ (l - s) * y
cross_less : (s l x y : ℕ) → s < l → l * x + s * y ≤ s * x + l * y → x ≤ y
cross_less s l x y h c =
    let m : s + (l - s) ≡ l = omega arith in
    let p = ap (λ v. v * x) m in
    let q = ap (λ v. v * y) m in
    let e : x * (l - s) ≤ y * (l - s) = omega (arith, c, p, q) in
    le_of_mul-le-mul_right e (omega arith)

cross_more : (s l x y : ℕ) → s ≤ l → x ≤ y → l * x + s * y ≤ s * x + l * y
cross_more s l x y h c =
    let m : s + (l - s) ≡ l = omega arith in
    let p = ap (λ v. v * x) m in
    let q = ap (λ v. v * y) m in
    let e = mul-le-mul_right (l - s) c in
    omega (arith, e, p, q)

module _ (k : ℚ) (n : ℕ) (e : pos n ≡ k.num) (o i : ℕ) where
  own : IsRatio k n 0 k.den
  own = as_ratio k n e

  rest : IsRatio (number 1 -ℚ k) k.den n k.den
  rest = rebase _ _ _ _ _ _ _ (sum_ratio _ _ _ _ _ _ _ _ (whole_ratio (pos 1)) (neg_ratio _ _ _ _ own)) k.positive (omega arith)

  left : IsRatio (k *ℚ number o) (n * o) 0 k.den
  left = rebase _ _ _ _ _ _ _ (product_ratio _ _ _ _ _ _ _ _ own (whole_ratio (pos o))) k.positive (omega arith)

  abbrev Cross : Type 0
  Cross = k.den * (n * o) + n * (k.den * i) ≤ n * (n * o) + k.den * (k.den * i)

  cross_out : RatioHolds k o i → Cross
  cross_out h =
      let c = ≤ℚ_out _ _ _ _ _ _ _ _ (product_ratio _ _ _ _ _ _ _ _ rest left) (product_ratio _ _ _ _ _ _ _ _ rest (whole_ratio (pos i))) h in
      let f : (k.den * (n * o) + n * (k.den * i)) * k.den ≤ (n * (n * o) + k.den * (k.den * i)) * k.den = omega (arith, c) in
      le_of_mul-le-mul_right f k.positive

  cross_in : Cross → RatioHolds k o i
  cross_in h =
      let c = mul-le-mul_right k.den h in
      ≤ℚ_in _ _ _ _ _ _ _ _ (product_ratio _ _ _ _ _ _ _ _ rest left) (product_ratio _ _ _ _ _ _ _ _ rest (whole_ratio (pos i))) (omega (arith, c))

  -- below 1 the inbound band is at least k times the outbound one
  pub below_out : n < k.den → RatioHolds k o i → n * o ≤ k.den * i
  below_out l h = cross_less n k.den (n * o) (k.den * i) l (cross_out h)

  pub below_in : n ≤ k.den → n * o ≤ k.den * i → RatioHolds k o i
  below_in l h = cross_in (cross_more n k.den (n * o) (k.den * i) l h)

  -- above 1 it is at most that
  pub above_out : k.den < n → RatioHolds k o i → k.den * i ≤ n * o
  above_out l h = let c = cross_out h in cross_less k.den n (k.den * i) (n * o) l (omega (arith, c))

  pub above_in : k.den ≤ n → k.den * i ≤ n * o → RatioHolds k o i
  above_in l h = let c = cross_more k.den n (k.den * i) (n * o) l h in cross_in (omega (arith, c))

  -- equal bands keep every ratio
  pub equal_in : o ≡ i → RatioHolds k o i
  equal_in same = elim (cases_lt n k.den) [
    | inl l ↦ below_in (omega arith) (rw (← same) (mul-le-mul_right o (omega arith)))
    | inr l ↦ above_in l (rw (← same) (mul-le-mul_right o l))
  ]

  pub one_in : n ≡ k.den → RatioHolds k o i
  one_in same = cross_in (rw same (omega arith))

-- ---- what the three rules of a cut leave, in whole numbers
pub record Stays (n d : ℕ) (b c : Bands) : Type 0 where
  pub ratio : (n ≡ 0) ⊎ (n ≡ d)
  pub out : c.outbound ≡ b.outbound
  pub back : c.inbound ≡ b.inbound

pub record CutsOut (n d : ℕ) (b c : Bands) : Type 0 where
  pub some : 1 ≤ n
  pub below : n < d
  pub out : c.outbound ≡ min b.outbound (b.inbound * d / n)
  pub back : c.inbound ≡ b.inbound

pub record CutsIn (n d : ℕ) (b c : Bands) : Type 0 where
  pub above : d < n
  pub out : c.outbound ≡ b.outbound
  pub back : c.inbound ≡ min b.inbound (b.outbound * n / d)

module _ (k : ℚ) (n : ℕ) (e : pos n ≡ k.num) where
  is_ratio : IsRatio k n 0 k.den
  is_ratio = as_ratio k n e

  is_zero : n ≡ 0 → k ≡ number 0
  is_zero z = same_ratio _ _ _ _ _ _ _ _ is_ratio (whole_ratio (pos 0)) (omega arith)

  is_one : n ≡ k.den → k ≡ number 1
  is_one z = same_ratio _ _ _ _ _ _ _ _ is_ratio (whole_ratio (pos 1)) (omega arith)

  is_some : 1 ≤ n → number 0 <ℚ k
  is_some p = not-≤ℚ _ _ (λ w. let f = ≤ℚ_out _ _ _ _ _ _ _ _ is_ratio (whole_ratio (pos 0)) w in absurd (omega (arith, f)))

  is_below : n < k.den → k <ℚ number 1
  is_below l = not-≤ℚ _ _ (λ w. let f = ≤ℚ_out _ _ _ _ _ _ _ _ (whole_ratio (pos 1)) is_ratio w in absurd (omega (arith, f)))

  is_above : k.den < n → number 1 <ℚ k
  is_above l = not-≤ℚ _ _ (λ w. let f = ≤ℚ_out _ _ _ _ _ _ _ _ is_ratio (whole_ratio (pos 1)) w in absurd (omega (arith, f)))

  -- the ratio cuts in one way
  pub one_cut : (w b c : Bands) → IsCutByRatio k w b → IsCutByRatio k w c → b ≡ c
  one_cut w b c h g = elim (cases_eq n 0) [
    | inl z ↦ h.else (inl (is_zero z)) ∙ sym (g.else (inl (is_zero z)))
    | inr z ↦ elim (cases_lt n k.den) [
      | inl l ↦ (let p : 1 ≤ n = omega arith in h.below (is_some p) (is_below l) ∙ sym (g.below (is_some p) (is_below l)))
      | inr l ↦ elim (cases_eq n k.den) [
        | inl s ↦ h.else (inr (is_one s)) ∙ sym (g.else (inr (is_one s)))
        | inr s ↦ (let m : k.den < n = omega arith in h.above (is_above m) ∙ sym (g.above (is_above m)))
      ]
    ]
  ]

module _ (k : ℚ) (n : ℕ) (e : pos n ≡ k.num) (b c : Bands) (h : IsCutByRatio k b c) where
  view_zero : n ≡ 0 → Stays n k.den b c
  view_zero z =
      let same = h.else (inl (is_zero k n e z)) in
      record { ratio = inl z; out = ap (λ (s : Bands). s.outbound) same; back = ap (λ (s : Bands). s.inbound) same }

  view_one : n ≡ k.den → Stays n k.den b c
  view_one z =
      let same = h.else (inr (is_one k n e z)) in
      record { ratio = inr z; out = ap (λ (s : Bands). s.outbound) same; back = ap (λ (s : Bands). s.inbound) same }

  view_below : 1 ≤ n → n < k.den → CutsOut n k.den b c
  view_below p l =
      let same = h.below (is_some k n e p) (is_below k n e l) in
      record {
        some = p;
        below = l;
        out = ap (λ (s : Bands). s.outbound) same ∙ ap (min b.outbound) (over_part k n b.inbound e p);
        back = ap (λ (s : Bands). s.inbound) same;
      }

  view_above : k.den < n → CutsIn n k.den b c
  view_above l =
      let same = h.above (is_above k n e l) in
      record {
        above = l;
        out = ap (λ (s : Bands). s.outbound) same;
        back = ap (λ (s : Bands). s.inbound) same ∙ ap (min b.inbound) (times_part k n b.outbound e);
      }

  view : Stays n k.den b c ⊎ (CutsOut n k.den b c ⊎ CutsIn n k.den b c)
  view = elim (cases_eq n 0) [
    | inl z ↦ inl (view_zero z)
    | inr z ↦ elim (cases_lt n k.den) [
      | inl l ↦ inr (inl (view_below (omega arith) l))
      | inr l ↦ elim (cases_eq n k.den) [
        | inl s ↦ inl (view_one s)
        | inr s ↦ inr (inr (view_above (omega arith)))
      ]
    ]
  ]

  -- cut bands keep the ratio
  pub ratio_kept : RatioHolds k c.outbound c.inbound
  ratio_kept = elim view [
    | inl v ↦ elim v.ratio [ inl z ↦ below_in k n e c.outbound c.inbound (omega arith) (rw z (omega arith)) | inr s ↦ one_in k n e c.outbound c.inbound s ]
    | inr w ↦ elim w [
      | inl v ↦ below_in k n e c.outbound c.inbound (let l = v.below in omega arith) (kept_out n k.den b.outbound b.inbound c.outbound c.inbound v.some v.out v.back)
      | inr v ↦ above_in k n e c.outbound c.inbound (let l = v.above in omega arith) (kept_in n k.den b.outbound b.inbound c.outbound c.inbound k.positive v.out v.back)
    ]
  ]
    where
      kept_out : (n d o i p q : ℕ) → 1 ≤ n → p ≡ min o (i * d / n) → q ≡ i → n * p ≤ d * q
      kept_out n d o i p q s u v = let f : p * n ≤ i * d = (le-div_iff_mul-le s).0 (omega arith) in rw v (omega (arith, f))

      kept_in : (n d o i p q : ℕ) → 0 < d → p ≡ o → q ≡ min i (o * n / d) → d * q ≤ n * p
      kept_in n d o i p q s u v = let f : q * d ≤ o * n = (le-div_iff_mul-le s).0 (omega arith) in rw u (omega (arith, f))

  -- and no wider bands below the widest ones keep it
  pub ratio_most : (o i : ℕ) → o ≤ b.outbound → i ≤ b.inbound → RatioHolds k o i → (o ≤ c.outbound) × (i ≤ c.inbound)
  ratio_most o i l m r = elim view [
    | inl v ↦ (let f = v.out in omega arith, let f = v.back in omega arith)
    | inr w ↦ elim w [
      | inl v ↦ (most_out n k.den b.outbound b.inbound c.outbound o i v.some v.out l m (below_out k n e o i v.below r), let f = v.back in omega arith)
      | inr v ↦ (let f = v.out in omega arith, most_in n k.den b.outbound b.inbound c.inbound o i k.positive v.back l m (above_out k n e o i v.above r))
    ]
  ]
    where
      most_out : (n d bo bi p o i : ℕ) → 1 ≤ n → p ≡ min bo (bi * d / n) → o ≤ bo → i ≤ bi → n * o ≤ d * i → o ≤ p
      most_out n d bo bi p o i s u l m r =
          let f = mul-le-mul_left d m in
          let g : o ≤ bi * d / n = (le-div_iff_mul-le s).1 (omega (arith, f, r)) in omega (arith, g)

      most_in : (n d bo bi q o i : ℕ) → 0 < d → q ≡ min bi (bo * n / d) → o ≤ bo → i ≤ bi → d * i ≤ n * o → i ≤ q
      most_in n d bo bi q o i s u l m r =
          let f = mul-le-mul_left n l in
          let g : i ≤ bo * n / d = (le-div_iff_mul-le s).1 (omega (arith, f, r)) in omega (arith, g)

-- ---- a cut by either rule
module _ (a : Street) (n : ℕ) (e : pos n ≡ a.head.ratio.num) (b c : Bands) (h : IsCut a b c) where
  by_equal : (v : Bool) → a.head.equal ≡ v → RatioHolds a.head.ratio c.outbound c.inbound
  by_equal true is = let same = h.equal is in equal_in a.head.ratio n e c.outbound c.inbound (ap (λ (s : Bands). s.outbound) same ∙ sym (ap (λ (s : Bands). s.inbound) same))
  by_equal false is = ratio_kept a.head.ratio n e b c (h.ratio is)

  pub cut_ratio : RatioHolds a.head.ratio c.outbound c.inbound
  cut_ratio = by_equal a.head.equal refl

  pub cut_equal : IsTrue a.head.equal → c.outbound ≡ c.inbound
  cut_equal is = let same = h.equal is in ap (λ (s : Bands). s.outbound) same ∙ sym (ap (λ (s : Bands). s.inbound) same)

  most_by : (v : Bool) → a.head.equal ≡ v → (o i : ℕ) → o ≤ b.outbound → i ≤ b.inbound → RatioHolds a.head.ratio o i → (IsTrue a.head.equal → o ≡ i) → (o ≤ c.outbound) × (i ≤ c.inbound)
  most_by true is o i l m r q =
      let same = h.equal is in
      let out : c.outbound ≡ min b.outbound b.inbound = ap (λ (s : Bands). s.outbound) same in
      let back : c.inbound ≡ min b.outbound b.inbound = ap (λ (s : Bands). s.inbound) same in
      let f = q is in
      (omega arith, omega arith)
  most_by false is o i l m r q = ratio_most a.head.ratio n e b c (h.ratio is) o i l m r

  pub cut_most : (o i : ℕ) → o ≤ b.outbound → i ≤ b.inbound → RatioHolds a.head.ratio o i → (IsTrue a.head.equal → o ≡ i) → (o ≤ c.outbound) × (i ≤ c.inbound)
  cut_most = most_by a.head.equal refl

-- a cut is determined
cut_by : (a : Street) (n : ℕ) → pos n ≡ a.head.ratio.num → (w b c : Bands) → IsCut a w b → IsCut a w c → (v : Bool) → a.head.equal ≡ v → b ≡ c
cut_by a n e w b c h g true is = h.equal is ∙ sym (g.equal is)
cut_by a n e w b c h g false is = one_cut a.head.ratio n e w b c (h.ratio is) (g.ratio is)

pub one_cut_of : (a : Street) (n : ℕ) → pos n ≡ a.head.ratio.num → (w b c : Bands) → IsCut a w b → IsCut a w c → b ≡ c
one_cut_of a n e w b c h g = cut_by a n e w b c h g a.head.equal refl
