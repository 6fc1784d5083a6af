-- The pattern that is taken for a shift is allowed and has it, wherever the shift is one of the signal's.
use Rattle.std.proofs.Common.{◌≡◌, ℕ, zero, suc, ◌<◌, ◌⊎◌, inl, inr, List, [], ◌∷◌, length, get_or, refl, sym, arith, Bool, true, false, IsTrue}
use Rattle.std.specs.Prelude.{if◌then◌else◌, nat_lt, ◌==◌}
use Rattle.std.proofs.lemmas.Bool.{and_parts, and_from}
use Rattle.std.proofs.lemmas.Bool.Decides.{nat_tests}
use Rattle.progression.specs.Street.{Street, allows}
use Rattle.progression.specs.Columns.{pattern_shift}
use Rattle.linear_theory.specs.Shifts.{put_shift, with_pattern, shifts_of}
use Rattle.linear_theory.proofs.RankedShifts.{Has}
use Rattle.recovery_theory.specs.Placing.{fits_shift, pattern_with}

-- what the tail of a list has
behind : (k m r : ℕ) (ms : List ℕ) → suc r < suc (length ms) → get_or (m ∷ ms) (suc r) 0 ≡ k → Has k ms
behind k m r ms l e = record { rank = r; there = omega arith; is = e }

-- what a list has first, or behind
first_or : (k m : ℕ) (ms : List ℕ) (r : ℕ) → r < suc (length ms) → get_or (m ∷ ms) r 0 ≡ k → (k ≡ m) ⊎ Has k ms
first_or k m ms zero l e = inl (sym e)
first_or k m ms (suc r) l e = inr (behind k m r ms l e)

later : {k : ℕ} {ms : List ℕ} (m : ℕ) → Has k ms → Has k (m ∷ ms)
later {k} {ms} m h = record { rank = suc h.rank; there = let l = h.there in omega arith; is = h.is }

kept : {n k m : ℕ} {ms : List ℕ} → (k ≡ n) ⊎ Has k ms → (k ≡ n) ⊎ Has k (m ∷ ms)
kept {n} {k} {m} {ms} (inl e) = inl e
kept {n} {k} {m} {ms} (inr h) = inr (later m h)

-- nothing but the number comes into a list
put_from : (n k : ℕ) (ms : List ℕ) → Has k (put_shift n ms) → (k ≡ n) ⊎ Has k ms
put_from n k [] h = first_or k n [] h.rank h.there h.is
put_from n k (m ∷ ms) h =
    elim (nat_lt n m) as (λ b. Has k (if b then n ∷ m ∷ ms else (if n == m then m ∷ ms else m ∷ put_shift n ms)) → (k ≡ n) ⊎ Has k (m ∷ ms)) [
      | true ↦ λ h. first_or k n (m ∷ ms) h.rank h.there h.is
      | false ↦ elim (n == m) as (λ b. Has k (if b then m ∷ ms else m ∷ put_shift n ms) → (k ≡ n) ⊎ Has k (m ∷ ms)) [
        | true ↦ λ h. inr h
        | false ↦ λ h. elim (first_or k m (put_shift n ms) h.rank h.there h.is) [
          | inl e ↦ inr (record { rank = 0; there = omega arith; is = sym e })
          | inr g ↦ kept (put_from n k ms g)
        ]
      ]
    ] h

fits_from : (a : Street) (i p k : ℕ) → IsTrue (allows a i p) → k ≡ pattern_shift a i p → IsTrue (fits_shift a i k p)
fits_from a i p k h e = and_from _ _ h (grind (arith, nat_tests))

-- nothing but an allowed pattern's shift comes in
with_from : (a : Street) (i p k : ℕ) (ms : List ℕ) → Has k (with_pattern a i p ms) → IsTrue (fits_shift a i k p) ⊎ Has k ms
with_from a i p k ms =
    elim (allows a i p) as (λ b. b ≡ allows a i p → Has k (if b then put_shift (pattern_shift a i p) ms else ms) → IsTrue (fits_shift a i k p) ⊎ Has k ms) [
      | true ↦ λ e h. elim (put_from (pattern_shift a i p) k ms h) [ inl q ↦ inl (fits_from a i p k (sym e) q) | inr g ↦ inr g ]
      | false ↦ λ e h. inr h
    ] refl

none_there : {k : ℕ} → Has k [] → ⊥
none_there {k} h = let l = h.there in absurd (omega arith)

-- the first of four that passes a test, where one does
abbrev first_passing : (ℕ → Bool) → ℕ
first_passing f = if f 1 then 1 else (if f 2 then 2 else (if f 3 then 3 else 4))

passes_one : (f : ℕ → Bool) → IsTrue (f 1) → IsTrue (f (first_passing f))
passes_one f h = rw h h

passes_four : (f : ℕ → Bool) → IsTrue (f 4) → IsTrue (f (first_passing f))
passes_four f h =
    elim (f 1) as (λ b. b ≡ f 1 → IsTrue (f (if b then 1 else (if f 2 then 2 else (if f 3 then 3 else 4))))) [
      | true ↦ λ e. sym e
      | false ↦ λ e. elim (f 2) as (λ b. b ≡ f 2 → IsTrue (f (if b then 2 else (if f 3 then 3 else 4)))) [
        | true ↦ λ e. sym e
        | false ↦ λ e. elim (f 3) as (λ b. b ≡ f 3 → IsTrue (f (if b then 3 else 4))) [ true ↦ λ e. sym e | false ↦ λ e. h ] refl
      ] refl
    ] refl

passes_three : (f : ℕ → Bool) → IsTrue (f 3) → IsTrue (f (first_passing f))
passes_three f h =
    elim (f 1) as (λ b. b ≡ f 1 → IsTrue (f (if b then 1 else (if f 2 then 2 else (if f 3 then 3 else 4))))) [
      | true ↦ λ e. sym e
      | false ↦ λ e. elim (f 2) as (λ b. b ≡ f 2 → IsTrue (f (if b then 2 else (if f 3 then 3 else 4)))) [ true ↦ λ e. sym e | false ↦ λ e. rw h h ] refl
    ] refl

passes_two : (f : ℕ → Bool) → IsTrue (f 2) → IsTrue (f (first_passing f))
passes_two f h =
    elim (f 1) as (λ b. b ≡ f 1 → IsTrue (f (if b then 1 else (if f 2 then 2 else (if f 3 then 3 else 4))))) [ true ↦ λ e. sym e | false ↦ λ e. rw h h ] refl

-- the pattern taken for one of the shifts fits it
pub pattern_fits : (a : Street) (i k : ℕ) → Has k (shifts_of a i) → IsTrue (fits_shift a i k (pattern_with a i k))
pattern_fits a i k h =
    elim (with_from a i 4 k (with_pattern a i 3 (with_pattern a i 2 (with_pattern a i 1 []))) h) [
      | inl e ↦ passes_four (fits_shift a i k) e
      | inr h ↦ elim (with_from a i 3 k (with_pattern a i 2 (with_pattern a i 1 [])) h) [
        | inl e ↦ passes_three (fits_shift a i k) e
        | inr h ↦ elim (with_from a i 2 k (with_pattern a i 1 []) h) [
          | inl e ↦ passes_two (fits_shift a i k) e
          | inr h ↦ elim (with_from a i 1 k [] h) [ inl e ↦ passes_one (fits_shift a i k) e | inr h ↦ absurd (none_there h) ]
        ]
      ]
    ]

-- it is allowed, and its shift is that one
pub fitting_allowed : (a : Street) (i k : ℕ) → Has k (shifts_of a i) → IsTrue (allows a i (pattern_with a i k))
fitting_allowed a i k h = (and_parts (allows a i (pattern_with a i k)) (pattern_shift a i (pattern_with a i k) == k) (pattern_fits a i k h)).0

pub fitting_shift : (a : Street) (i k : ℕ) → Has k (shifts_of a i) → pattern_shift a i (pattern_with a i k) ≡ k
fitting_shift a i k h =
    let e = (and_parts (allows a i (pattern_with a i k)) (pattern_shift a i (pattern_with a i k) == k) (pattern_fits a i k h)).1 in
    grind (arith, nat_tests)
