-- Each rank's shift is that of an allowed pattern, and there are at most four.
use Rattle.std.proofs.Common.{◌≡◌, ℕ, zero, suc, ◌<◌, ◌==◌, List, [], ◌∷◌, length, get_or, true, false, nat_lt, refl, arith}
use Rattle.std.specs.Prelude.{if◌then◌else◌}
use Rattle.progression.specs.Street.{Street, allows}
use Rattle.progression.specs.Columns.{pattern_shift}
use Rattle.linear_theory.specs.Shifts.{put_shift, with_pattern, shifts_of, shift_count}
use Rattle.search_box.specs.Ranked.{IsShift}

abbrev Each : (ℕ → Type 0) → List ℕ → Type 0
Each P [] = Unit {0}
Each P (m ∷ ms) = P m × Each P ms

-- ---- what holds of a number and of a list's numbers holds of the list with the number put in
put_each : (P : ℕ → Type 0) (n : ℕ) (ms : List ℕ) → P n → Each P ms → Each P (put_shift n ms)
put_each P n [] p h = (p, tt)
put_each P n (m ∷ ms) p h =
    elim (nat_lt n m) as (λ b. Each P (if b then n ∷ m ∷ ms else (if n == m then m ∷ ms else m ∷ put_shift n ms))) [
      | true ↦ (p, h)
      | false ↦ elim (n == m) as (λ b. Each P (if b then m ∷ ms else m ∷ put_shift n ms)) [ true ↦ h | false ↦ (h.0, put_each P n ms p h.1) ]
    ]

with_each : (a : Street) (i p : ℕ) (ms : List ℕ) → Each (IsShift a i) ms → Each (IsShift a i) (with_pattern a i p ms)
with_each a i p ms h =
    elim (allows a i p) as (λ b. allows a i p ≡ b → Each (IsShift a i) (if b then put_shift (pattern_shift a i p) ms else ms)) [
      | true ↦ λ e. put_each (IsShift a i) (pattern_shift a i p) ms (p, e, refl) h
      | false ↦ λ e. h
    ] refl

each_at : (P : ℕ → Type 0) (ms : List ℕ) (r : ℕ) → Each P ms → r < length ms → P (get_or ms r 0)
each_at P [] r h l = absurd (omega arith)
each_at P (m ∷ ms) zero h l = h.0
each_at P (m ∷ ms) (suc r) h l = each_at P ms r h.1 (omega arith)

pub rank_allowed : (a : Street) (i r : ℕ) → r < shift_count a i → IsShift a i (get_or (shifts_of a i) r 0)
rank_allowed a i r l =
    each_at (IsShift a i) (shifts_of a i) r (with_each a i 4 _ (with_each a i 3 _ (with_each a i 2 _ (with_each a i 1 [] tt)))) l
