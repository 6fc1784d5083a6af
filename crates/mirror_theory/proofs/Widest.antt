-- The widest band that runs on the doubled grid bounds the equal bands of all offsets on all grids.
use Rattle.std.proofs.Common.{◌≡◌, inl, inr, ℕ, zero, suc, ℤ, ◌+◌, ◌-◌, ◌*◌, ◌≤◌, ◌⊎◌, ap, sym, subst, arith}
use Rattle.std.proofs.Math.Nat.{mul-le-mul_right, le_of_mul-le-mul_right}
use Rattle.std.proofs.lemmas.Bool.{cases_lt}
use Rattle.progression.specs.Street.{Street, count, HasSignal}
use Rattle.progression.specs.TimingRecord.{TimingRecord, base}
use Rattle.progression.specs.BaseRecord.{cycle}
use Rattle.artery_model.specs.Valid.{IsValid}
use Rattle.mirror_theory.specs.EqualBands.{IsEven, HasEqualGreenBands, HasNone}
use Rattle.mirror_theory.specs.Runs.{taken, Runs, IsWidest}
use Rattle.mirror_theory.proofs.Carried.{carried, carried_first}

-- the place of the greatest and of the least of f 1 to f n
pub record Extreme (n : ℕ) (Beats : ℕ → ℕ → Type 0) : Type 0 where
  pub place : ℕ
  pub first : 1 ≤ place
  pub last : place ≤ n
  pub beats : (i : ℕ) → 1 ≤ i → i ≤ n → Beats place i

only_one : (i : ℕ) → 1 ≤ i → i ≤ 1 → i ≡ 1
only_one i h k = omega arith

-- one of f 1 to f n beats all, where each of two beats the other or is beaten
extreme : (n : ℕ) (Beats : ℕ → ℕ → Type 0) → ((k i : ℕ) → Beats k i ⊎ Beats i k) → ((k i j : ℕ) → Beats k i → Beats i j → Beats k j) → Extreme (suc n) Beats
extreme zero Beats either through =
    let self : Beats 1 1 = elim (either 1 1) [ inl w ↦ w | inr w ↦ w ] in
    record { place = 1; first = omega arith; last = omega arith; beats = λ i h k. subst (Beats 1) (sym (only_one i h k)) self }
extreme (suc n) Beats either through =
    let e = extreme n Beats either through in
    let new = suc (suc n) in
    let self : Beats new new = elim (either new new) [ inl w ↦ w | inr w ↦ w ] in
    elim (either e.place new) [
      | inl w ↦ record {
        place = e.place;
        first = e.first;
        last = let g = e.last in omega arith;
        beats = λ i h k. elim (cases_lt i new) [
          | inl l ↦ e.beats i h (omega arith)
          | inr l ↦ let same : new ≡ i = omega arith in subst (Beats e.place) same w
        ];
      }
      | inr w ↦ record {
        place = new;
        first = omega arith;
        last = omega arith;
        beats = λ i h k. elim (cases_lt i new) [
          | inl l ↦ through new e.place i w (e.beats i h (omega arith))
          | inr l ↦ let same : new ≡ i = omega arith in subst (Beats new) same self
        ];
      }
    ]

either_le : (m n : ℕ) → (m ≤ n) ⊎ (n ≤ m)
either_le m n = elim (cases_lt m n) [ inl w ↦ inl (omega arith) | inr w ↦ inr w ]

pub greatest : (n : ℕ) (f : ℕ → ℕ) → Extreme (suc n) (λ k i. f i ≤ f k)
greatest n f = extreme n (λ k i. f i ≤ f k) (λ k i. either_le (f i) (f k)) (λ k i j h g. omega (arith, h, g))

pub least : (n : ℕ) (f : ℕ → ℕ) → Extreme (suc n) (λ k i. f k ≤ f i)
least n f = extreme n (λ k i. f k ≤ f i) (λ k i. either_le (f k) (f i)) (λ k i j h g. omega (arith, h, g))

-- what leaves w free at each signal runs as wide as the fullest signal allows
pub record RunsFrom (a : Street) (t : TimingRecord) (m w : ℕ) : Type 0 where
  pub first : ℤ
  pub band : ℕ
  pub runs : Runs a t first band
  pub wide : w ≤ band * m

pub runs_from : (a : Street) (t : TimingRecord) (m w : ℕ) (x : ℤ) → 1 ≤ count a → 1 ≤ m
    → ((i : ℕ) → HasSignal a i → taken a t x i * m + w ≤ (cycle a (base t) + cycle a (base t)) * m) → RunsFrom a t m w
runs_from a t m w x n o h =
    let e = greatest (count a - 1) (taken a t x) in
    let last : e.place ≤ count a = let l = e.last in omega arith in
    let full = h e.place (e.first, last) in
    let fits : taken a t x e.place ≤ cycle a (base t) + cycle a (base t) = le_of_mul-le-mul_right {k = m} (omega (arith, full)) o in
    let b = cycle a (base t) + cycle a (base t) - taken a t x e.place in
    let parts : b + taken a t x e.place ≡ cycle a (base t) + cycle a (base t) = omega arith in
    record {
      first = x;
      band = b;
      runs = λ i s. let g = e.beats i s.0 (let l = s.1 in omega arith) in omega arith;
      wide = let p : (b + taken a t x e.place) * m ≡ (cycle a (base t) + cycle a (base t)) * m = ap (λ y. y * m) parts in omega (arith, p, full);
    }

module _ (a : Street) (t : TimingRecord) (v : IsValid a) (u : 2 ≤ t.unit) (even : IsEven a t) where
  some_signal : 1 ≤ count a
  some_signal = let f = v.few in omega arith

  -- equal bands run on the doubled grid
  pub runs_as_wide : (m : ℕ) (s : TimingRecord) → 1 ≤ m → HasEqualGreenBands a t m s → RunsFrom a t m (s.band_out + s.band_out)
  runs_as_wide m s o h = runs_from a t m (s.band_out + s.band_out) (carried_first a t v u even m s o h) some_signal o (carried a t v u even m s o h)

  -- so where a band is widest, no equal bands are wider
  pub no_wider : (b : ℕ) → IsWidest a t b → (m : ℕ) (s : TimingRecord) → 1 ≤ m → HasEqualGreenBands a t m s → s.band_out * 2 ≤ b * m
  no_wider b best m s o h =
      let r = runs_as_wide m s o h in
      let e : r.band * m ≤ b * m = mul-le-mul_right m (best r.first r.band r.runs) in
      let w = r.wide in omega (arith, e, w)

  -- and where none runs, there are none
  pub none_runs : ((x : ℤ) → ¬ Runs a t x 0) → HasNone a t
  none_runs never m s o h =
      let r = runs_as_wide m s o h in
      never r.first (λ i b. let e = r.runs i b in omega arith)
