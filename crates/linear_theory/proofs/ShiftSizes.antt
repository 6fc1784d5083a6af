-- A signal has at most four shifts, none of more parts than its two left turns.
use Rattle.std.proofs.Common.{ℕ, zero, suc, ◌+◌, ◌≤◌, List, [], ◌∷◌, length, get_or, arith, true, false}
use Rattle.std.specs.Prelude.{if◌then◌else◌, nat_lt, ◌==◌, Bool}
use Rattle.progression.specs.Street.{Street, allows, signal_of}
use Rattle.progression.specs.Columns.{pattern_shift}
use Rattle.linear_theory.specs.Shifts.{put_shift, with_pattern, shifts_of, shift_at, shift_count}

-- a number put into a list makes it at most one longer
put_count : (n : ℕ) (ms : List ℕ) → length (put_shift n ms) ≤ suc (length ms)
put_count n [] = omega arith
put_count n (m ∷ ms) =
    elim (nat_lt n m) as (λ b. length (if b then n ∷ m ∷ ms else (if n == m then m ∷ ms else m ∷ put_shift n ms)) ≤ suc (length (m ∷ ms))) [
      | true ↦ omega arith
      | false ↦ elim (n == m) as (λ b. length (if b then m ∷ ms else m ∷ put_shift n ms) ≤ suc (length (m ∷ ms))) [
        | true ↦ omega arith
        | false ↦ let l = put_count n ms in omega arith
      ]
    ]

-- so does a pattern that is looked at
with_count : (a : Street) (i p k : ℕ) (ms : List ℕ) → length ms ≤ k → length (with_pattern a i p ms) ≤ suc k
with_count a i p k ms h =
    elim (allows a i p) as (λ b. length (if b then put_shift (pattern_shift a i p) ms else ms) ≤ suc k) [
      | true ↦ let l = put_count (pattern_shift a i p) ms in omega arith
      | false ↦ omega arith
    ]

-- there are four patterns
pub shift_count_most : (a : Street) (i : ℕ) → shift_count a i ≤ 4
shift_count_most a i = with_count a i 4 3 _ (with_count a i 3 2 _ (with_count a i 2 1 _ (with_count a i 1 0 [] (omega arith))))

-- no number of the list is above k
abbrev AtMost : ℕ → List ℕ → Type 0
AtMost k [] = Unit {0}
AtMost k (m ∷ ms) = (m ≤ k) × AtMost k ms

-- a number put in that is none above k
put_at_most : (n k : ℕ) (ms : List ℕ) → n ≤ k → AtMost k ms → AtMost k (put_shift n ms)
put_at_most n k [] h p = (h, tt)
put_at_most n k (m ∷ ms) h p =
    elim (nat_lt n m) as (λ b. AtMost k (if b then n ∷ m ∷ ms else (if n == m then m ∷ ms else m ∷ put_shift n ms))) [
      | true ↦ (h, p)
      | false ↦ elim (n == m) as (λ b. AtMost k (if b then m ∷ ms else m ∷ put_shift n ms)) [
        | true ↦ p
        | false ↦ (p.0, put_at_most n k ms h p.1)
      ]
    ]

-- what is read is none above k
read_at_most : (k : ℕ) (ms : List ℕ) (r : ℕ) → AtMost k ms → get_or ms r 0 ≤ k
read_at_most k [] r p = omega arith
read_at_most k (m ∷ ms) zero p = p.0
read_at_most k (m ∷ ms) (suc r) p = read_at_most k ms r p.1

-- the shift of a pattern is a left turn, or both, or 0
pub pattern_shift_most : (a : Street) (i p : ℕ) → pattern_shift a i p ≤ (signal_of a i).left_out + (signal_of a i).left_in
pattern_shift_most a i p = choice (p == 1) (p == 2) (p == 3) (signal_of a i).left_out (signal_of a i).left_in
  where
    choice : (x y z : Bool) (l m : ℕ) → (if x then 0 else (if y then l + m else (if z then m else l))) ≤ l + m
    choice true y z l m = omega arith
    choice false true z l m = omega arith
    choice false false true l m = omega arith
    choice false false false l m = omega arith

-- a pattern whose shift is none above k
with_at_most : (a : Street) (i p k : ℕ) (ms : List ℕ) → pattern_shift a i p ≤ k → AtMost k ms → AtMost k (with_pattern a i p ms)
with_at_most a i p k ms h q = elim (allows a i p) as (λ b. AtMost k (if b then put_shift (pattern_shift a i p) ms else ms)) [ true ↦ put_at_most (pattern_shift a i p) k ms h q | false ↦ q ]

-- also past the last rank, where it is 0
pub shift_at_most : (a : Street) (i rank : ℕ) → shift_at a i rank ≤ (signal_of a i).left_out + (signal_of a i).left_in
shift_at_most a i rank =
    let k = (signal_of a i).left_out + (signal_of a i).left_in in
    read_at_most k (shifts_of a i) rank
    (with_at_most a i 4 k _ (pattern_shift_most a i 4) (with_at_most a i 3 k _ (pattern_shift_most a i 3)
    (with_at_most a i 2 k _ (pattern_shift_most a i 2) (with_at_most a i 1 k [] (pattern_shift_most a i 1) tt))))
