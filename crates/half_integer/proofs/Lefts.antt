-- A signal is uneven exactly where its two reds aren't one interval.
use Rattle.std.proofs.Common.{◌≡◌, ◌⊎◌, inl, inr, ℕ, zero, suc, ℤ, pos, ◌-ℤ◌, ◌+◌, ◌*◌, ◌≤◌, Bool, refl, sym, ap, ◌∙◌, arith, true, false}
use Rattle.std.specs.Prelude.{if◌then◌else◌}
use Rattle.std.proofs.lemmas.Int.{ints}
use Rattle.std.proofs.lemmas.Bool.{cases_eq}
use Rattle.std.proofs.Math.Nat.{le_of_mul-le-mul_right}
use Rattle.progression.specs.Street.{Street, signal_of, left_against}
use Rattle.progression.specs.TimingRecord.{TimingRecord, base}
use Rattle.progression.specs.BaseRecord.{pattern_of, common_red}
use Rattle.progression.specs.Green.{is_early, ahead}
use Rattle.progression.specs.declared.parts.Dir.TheVariants.{Outbound, Inbound}
use Rattle.mirror_theory.specs.EqualBands.{IsOneRed}
use Rattle.half_integer.specs.Uneven.{IsSplit, IsUneven, UnevenIsTwoReds}

-- what is the same times some number of at least 1 is the same
same_factor : (p q m : ℕ) → 1 ≤ m → p * m ≡ q * m → p ≡ q
same_factor p q m h e =
    let above : p ≤ q = le_of_mul-le-mul_right (omega (arith, e)) h in
    let below : q ≤ p = le_of_mul-le-mul_right (omega (arith, e)) h in
    omega arith

nothing : (b : Bool) (x : ℕ) → x ≡ 0 → (if b then x else 0) ≡ 0
nothing true x e = e
nothing false x e = refl

-- as long lefts are ahead alike, unless the pattern splits them
same_ahead : (p x : ℕ) → 1 ≤ p → p ≤ 4 → ¬ IsSplit p → (if is_early Outbound p then x else 0) ≡ (if is_early Inbound p then x else 0)
same_ahead zero x l m h = absurd (omega arith)
same_ahead (suc zero) x l m h = absurd (h (inl refl))
same_ahead (suc (suc zero)) x l m h = absurd (h (inr refl))
same_ahead (suc (suc (suc zero))) x l m h = refl
same_ahead (suc (suc (suc (suc zero)))) x l m h = refl
same_ahead (suc (suc (suc (suc (suc p))))) x l m h = absurd (omega arith)

both_ahead : (p x y : ℕ) → 1 ≤ p → p ≤ 4 → x ≡ y → (x ≡ 0) ⊎ ¬ IsSplit p → (if is_early Outbound p then x else 0) ≡ (if is_early Inbound p then y else 0)
both_ahead p x y l m e (inl z) = nothing (is_early Outbound p) x z ∙ sym (nothing (is_early Inbound p) y (sym e ∙ z))
both_ahead p x y l m e (inr n) = same_ahead p x l m n ∙ ap (λ k. if is_early Inbound p then k else 0) e

-- and where it splits them, they are ahead alike only if there are none
split_ahead : (p x y : ℕ) → x ≡ y → IsSplit p → (if is_early Outbound p then x else 0) ≡ (if is_early Inbound p then y else 0) → x ≡ 0
split_ahead p x y e (inl s) f = ap (λ q. if is_early Outbound q then x else 0) (sym s) ∙ f ∙ ap (λ q. if is_early Inbound q then y else 0) s
split_ahead p x y e (inr s) f = e ∙ sym (ap (λ q. if is_early Outbound q then x else 0) (sym s) ∙ f ∙ ap (λ q. if is_early Inbound q then y else 0) s)

split_or_not : (p : ℕ) → IsSplit p ⊎ ¬ IsSplit p
split_or_not p = elim (cases_eq p 1) [
  | inl e ↦ inl (inl e)
  | inr n ↦ elim (cases_eq p 2) [
    | inl e ↦ inl (inr e)
    | inr k ↦ inr (λ s. elim s [ inl e ↦ n e | inr e ↦ k e ])
  ]
]

same_start : (c : ℤ) (x y : ℕ) → c -ℤ pos x ≡ c -ℤ pos y → x ≡ y
same_start c x y e = omega (arith, ints, e)

same_lefts : (red x y m : ℕ) → 1 ≤ m → (red + x) * m ≡ (red + y) * m → x ≡ y
same_lefts red x y m h e = let f = same_factor (red + x) (red + y) m h e in omega (arith, f)

no_ticks : (x m : ℕ) → x ≡ 0 → x * m ≡ 0
no_ticks x m e = rw e (omega arith)

none_of : (x m : ℕ) → 1 ≤ m → x * m ≡ 0 → x ≡ 0
none_of x m h e = same_factor x 0 m h (omega (arith, e))

module _ (a : Street) (t : TimingRecord) (i : ℕ) (u : 1 ≤ t.unit) (l : 1 ≤ pattern_of (base t) i) (m : pattern_of (base t) i ≤ 4) where
  one_red : left_against a Outbound i ≡ left_against a Inbound i → (left_against a Outbound i ≡ 0) ⊎ ¬ IsSplit (pattern_of (base t) i) → IsOneRed a t i
  one_red e w =
      let ticks : left_against a Outbound i * t.unit ≡ left_against a Inbound i * t.unit = ap (λ k. k * t.unit) e in
      let none : (left_against a Outbound i * t.unit ≡ 0) ⊎ ¬ IsSplit (pattern_of (base t) i) = elim w [ inl z ↦ inl (no_ticks (left_against a Outbound i) t.unit z) | inr n ↦ inr n ] in
      record {
        start = ap (λ k. common_red (base t) i -ℤ pos k) (both_ahead (pattern_of (base t) i) (left_against a Outbound i * t.unit) (left_against a Inbound i * t.unit) l m ticks none);
        length = ap (λ k. ((signal_of a i).red + k) * t.unit) e;
      }

  lefts_same : IsOneRed a t i → left_against a Outbound i ≡ left_against a Inbound i
  lefts_same r = same_lefts (signal_of a i).red (left_against a Outbound i) (left_against a Inbound i) t.unit u r.length

  none_split : IsOneRed a t i → IsSplit (pattern_of (base t) i) → left_against a Outbound i ≡ 0
  none_split r s =
      let ticks : left_against a Outbound i * t.unit ≡ left_against a Inbound i * t.unit = ap (λ k. k * t.unit) (lefts_same r) in
      let alike = same_start (common_red (base t) i) (ahead a (base t) Outbound i) (ahead a (base t) Inbound i) r.start in
      none_of (left_against a Outbound i) t.unit u (split_ahead (pattern_of (base t) i) (left_against a Outbound i * t.unit) (left_against a Inbound i * t.unit) ticks s alike)

  pub two_reds : IsUneven a t i → ¬ IsOneRed a t i
  two_reds (inl n) r = n (lefts_same r)
  two_reds (inr w) r = w.1 (none_split r w.2)

  pub even_red : ¬ IsUneven a t i → IsOneRed a t i
  even_red h = elim (cases_eq (left_against a Outbound i) (left_against a Inbound i)) [
    | inr n ↦ absurd (h (inl n))
    | inl e ↦ elim (cases_eq (left_against a Outbound i) 0) [
      | inl z ↦ one_red e (inl z)
      | inr n ↦ elim (split_or_not (pattern_of (base t) i)) [
        | inl s ↦ absurd (h (inr (e, n, s)))
        | inr s ↦ one_red e (inr s)
      ]
    ]
  ]

  uneven_red : ¬ IsOneRed a t i → IsUneven a t i
  uneven_red h = elim (cases_eq (left_against a Outbound i) (left_against a Inbound i)) [
    | inr n ↦ inl n
    | inl e ↦ elim (cases_eq (left_against a Outbound i) 0) [
      | inl z ↦ absurd (h (one_red e (inl z)))
      | inr n ↦ elim (split_or_not (pattern_of (base t) i)) [
        | inl s ↦ inr (e, n, s)
        | inr s ↦ absurd (h (one_red e (inr s)))
      ]
    ]
  ]

pub uneven_is_two_reds : UnevenIsTwoReds
uneven_is_two_reds a t i u l m = (two_reds a t i u l m, uneven_red a t i u l m)
