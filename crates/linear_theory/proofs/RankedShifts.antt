-- Each allowed pattern's shift has a rank, and greater ranks have greater shifts.
use Rattle.std.proofs.Common.{◌≡◌, ℕ, zero, suc, ◌+◌, ◌<◌, ◌≤◌, List, [], ◌∷◌, length, get_or, refl, arith, true, false, IsTrue}
use Rattle.std.specs.Prelude.{if◌then◌else◌, nat_lt, ◌==◌}
use Rattle.std.proofs.lemmas.Bool.Decides.{nat_tests}
use Rattle.progression.specs.Street.{Street, allows}
use Rattle.progression.specs.Columns.{pattern_shift}
use Rattle.linear_theory.specs.Shifts.{put_shift, with_pattern, shifts_of}
use Rattle.linear_theory.proofs.WholeBlocks.{allowed_range}

-- each number of the list is greater than the one before
abbrev pub Ascends : ℕ → List ℕ → Type 0
Ascends low [] = Unit {0}
Ascends low (m ∷ ms) = (low ≤ m) × Ascends (m + 1) ms

-- the number stands in the list
pub record Has (n : ℕ) (ms : List ℕ) : Type 0 where
  pub rank : ℕ
  pub there : rank < length ms
  pub is : get_or ms rank 0 ≡ n

-- a number put in keeps the order
put_ascends : (n : ℕ) (ms : List ℕ) (low : ℕ) → low ≤ n → Ascends low ms → Ascends low (put_shift n ms)
put_ascends n [] low l h = (l, tt)
put_ascends n (m ∷ ms) low l h =
    elim (nat_lt n m) as (λ b. nat_lt n m ≡ b → Ascends low (if b then n ∷ m ∷ ms else (if n == m then m ∷ ms else m ∷ put_shift n ms))) [
      | true ↦ λ e. (l, (grind (arith, nat_tests), h.1))
      | false ↦ λ e. elim (n == m) as (λ b. (n == m) ≡ b → Ascends low (if b then m ∷ ms else m ∷ put_shift n ms)) [
        | true ↦ λ f. h
        | false ↦ λ f. (h.0, put_ascends n ms (m + 1) (grind (arith, nat_tests)) h.1)
      ] refl
    ] refl

-- what the tail has
later : {n : ℕ} {ms : List ℕ} (m : ℕ) → Has n ms → Has n (m ∷ ms)
later {n} {ms} m h = record { rank = suc h.rank; there = let l = h.there in omega arith; is = h.is }

-- the number stands there afterwards
put_has : (n : ℕ) (ms : List ℕ) → Has n (put_shift n ms)
put_has n [] = record { rank = 0; there = omega arith; is = refl }
put_has n (m ∷ ms) =
    elim (nat_lt n m) as (λ b. Has n (if b then n ∷ m ∷ ms else (if n == m then m ∷ ms else m ∷ put_shift n ms))) [
      | true ↦ record { rank = 0; there = omega arith; is = refl }
      | false ↦ elim (n == m) as (λ b. (n == m) ≡ b → Has n (if b then m ∷ ms else m ∷ put_shift n ms)) [
        | true ↦ λ f. record { rank = 0; there = omega arith; is = grind (arith, nat_tests) }
        | false ↦ λ f. later m (put_has n ms)
      ] refl
    ]

-- what stood behind m stands behind it still
keeps_behind : (m : ℕ) (ns : List ℕ) (k : ℕ) (ms : List ℕ) → (Has k ms → Has k ns) → (r : ℕ) → r < suc (length ms) → get_or (m ∷ ms) r 0 ≡ k → Has k (m ∷ ns)
keeps_behind m ns k ms f zero l e = record { rank = 0; there = omega arith; is = e }
keeps_behind m ns k ms f (suc r) l e = later m (f (record { rank = r; there = omega arith; is = e }))

-- and what stood there stands there still
put_keeps : (n k : ℕ) (ms : List ℕ) → Has k ms → Has k (put_shift n ms)
put_keeps n k [] h = let l = h.there in absurd (omega arith)
put_keeps n k (m ∷ ms) h =
    elim (nat_lt n m) as (λ b. Has k (if b then n ∷ m ∷ ms else (if n == m then m ∷ ms else m ∷ put_shift n ms))) [
      | true ↦ later n h
      | false ↦ elim (n == m) as (λ b. Has k (if b then m ∷ ms else m ∷ put_shift n ms)) [
        | true ↦ h
        | false ↦ keeps_behind m (put_shift n ms) k ms (put_keeps n k ms) h.rank h.there h.is
      ]
    ]

-- ---- the shifts of a signal
with_ascends : (a : Street) (i p : ℕ) (ms : List ℕ) → Ascends 0 ms → Ascends 0 (with_pattern a i p ms)
with_ascends a i p ms h = elim (allows a i p) as (λ b. Ascends 0 (if b then put_shift (pattern_shift a i p) ms else ms)) [ true ↦ put_ascends (pattern_shift a i p) ms 0 (omega arith) h | false ↦ h ]

-- a pattern that is looked at keeps what stood there
with_keeps : (a : Street) (i p k : ℕ) (ms : List ℕ) → Has k ms → Has k (with_pattern a i p ms)
with_keeps a i p k ms h = elim (allows a i p) as (λ b. Has k (if b then put_shift (pattern_shift a i p) ms else ms)) [ true ↦ put_keeps (pattern_shift a i p) k ms h | false ↦ h ]

-- one that is allowed puts its shift in
with_has : (a : Street) (i p : ℕ) (ms : List ℕ) → IsTrue (allows a i p) → Has (pattern_shift a i p) (with_pattern a i p ms)
with_has a i p ms h = rw h (put_has (pattern_shift a i p) ms)

-- they are in order, each once
pub shifts_ascend : (a : Street) (i : ℕ) → Ascends 0 (shifts_of a i)
shifts_ascend a i = with_ascends a i 4 _ (with_ascends a i 3 _ (with_ascends a i 2 _ (with_ascends a i 1 [] tt)))

-- what pattern 1 or 2 put in stays
third : (a : Street) (i k : ℕ) → Has k (with_pattern a i 2 (with_pattern a i 1 [])) → Has k (shifts_of a i)
third a i k h = with_keeps a i 4 k (with_pattern a i 3 (with_pattern a i 2 (with_pattern a i 1 []))) (with_keeps a i 3 k (with_pattern a i 2 (with_pattern a i 1 [])) h)

-- for each of the four patterns
ranked_by : (a : Street) (i p : ℕ) → 1 ≤ p → p ≤ 4 → IsTrue (allows a i p) → Has (pattern_shift a i p) (shifts_of a i)
ranked_by a i zero h k w = absurd (omega arith)
ranked_by a i (suc zero) h k w = third a i _ (with_keeps a i 2 _ (with_pattern a i 1 []) (with_has a i 1 [] w))
ranked_by a i (suc (suc zero)) h k w = third a i _ (with_has a i 2 (with_pattern a i 1 []) w)
ranked_by a i (suc (suc (suc zero))) h k w = with_keeps a i 4 _ (with_pattern a i 3 (with_pattern a i 2 (with_pattern a i 1 []))) (with_has a i 3 (with_pattern a i 2 (with_pattern a i 1 [])) w)
ranked_by a i (suc (suc (suc (suc zero)))) h k w = with_has a i 4 (with_pattern a i 3 (with_pattern a i 2 (with_pattern a i 1 []))) w
ranked_by a i (suc (suc (suc (suc (suc p))))) h k w = absurd (omega arith)

-- each allowed pattern's shift is among them
pub ranked : (a : Street) (i p : ℕ) → IsTrue (allows a i p) → Has (pattern_shift a i p) (shifts_of a i)
ranked a i p w = let r = allowed_range a i p w in ranked_by a i p r.0 r.1 w

-- ---- ranks
-- no number is below the first bound
ascends_at : (ms : List ℕ) (low r : ℕ) → Ascends low ms → r < length ms → low ≤ get_or ms r 0
ascends_at [] low r h l = absurd (omega arith)
ascends_at (m ∷ ms) low zero h l = h.0
ascends_at (m ∷ ms) low (suc r) h l = let k = ascends_at ms (m + 1) r h.1 (omega arith) in omega (arith, h.0)

-- a greater rank has no smaller shift
pub rising : (ms : List ℕ) (low r s : ℕ) → Ascends low ms → r ≤ s → s < length ms → get_or ms r 0 ≤ get_or ms s 0
rising [] low r s h k l = absurd (omega arith)
rising (m ∷ ms) low zero zero h k l = omega arith
rising (m ∷ ms) low zero (suc s) h k l = let q = ascends_at ms (m + 1) s h.1 (omega arith) in omega arith
rising (m ∷ ms) low (suc r) zero h k l = absurd (omega arith)
rising (m ∷ ms) low (suc r) (suc s) h k l = rising ms (m + 1) r s h.1 (omega arith) (omega arith)

-- and a greater rank has a greater shift
pub rising_strictly : (ms : List ℕ) (low r s : ℕ) → Ascends low ms → r < s → s < length ms → get_or ms r 0 < get_or ms s 0
rising_strictly [] low r s h k l = absurd (omega arith)
rising_strictly (m ∷ ms) low r zero h k l = absurd (omega arith)
rising_strictly (m ∷ ms) low zero (suc s) h k l = let q = ascends_at ms (m + 1) s h.1 (omega arith) in omega arith
rising_strictly (m ∷ ms) low (suc r) (suc s) h k l = rising_strictly ms (m + 1) r s h.1 (omega arith) (omega arith)
