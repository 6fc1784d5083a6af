-- Each signal of a valid artery has a shift.
use Rattle.std.proofs.Common.{◌≡◌, ℕ, zero, suc, ◌+◌, ◌-◌, ◌<◌, ◌≤◌, ◌==◌, List, [], ◌∷◌, length, slice_index_or, Bool, true, false, true≢false, nat_lt, refl, sym, ap, arith}
use Rattle.std.specs.Prelude.{if◌then◌else◌}
use Rattle.std.specs.List.{list_any}
use Rattle.progression.specs.Street.{Street, signal_of, allows, no_signal}
use Rattle.progression.specs.Columns.{pattern_shift}
use Rattle.progression.specs.declared.parts.Signal.{Signal}
use Rattle.artery_model.specs.Faults.{first_fault, each_numbered}
use Rattle.artery_model.specs.Limits.{has_pattern, range_tests, rule_tests}
use Rattle.artery_model.specs.Valid.{IsValid}
use Rattle.artery_model.proofs.Validity.{AllNone, each_none, passes_of}
use Rattle.linear_theory.specs.Shifts.{put_shift, with_pattern, shift_count}

-- ---- a signal allows a pattern
each_allows : (i : ℕ) (signals : List Signal) → AllNone (each_numbered has_pattern i signals) → (k : ℕ) → k < length signals → list_any (λ b. b) (slice_index_or signals k no_signal).patterns ≡ true
each_allows i [] e k lt = absurd (omega arith)
each_allows i (s ∷ signals) e zero lt = passes_of _ _ _ e.0
each_allows i (s ∷ signals) e (suc k) lt = each_allows (i + 1) signals e.1 k (omega arith)

pub allows_some : (a : Street) (i : ℕ) → IsValid a → 1 ≤ i → i ≤ length a.signals → list_any (λ b. b) (signal_of a i).patterns ≡ true
allows_some a i v h k =
    let all = each_none (first_fault (range_tests a) ∷ first_fault (rule_tests a) ∷ []) v.no_fault in
    let rules = each_none (rule_tests a) all.1.0 in
    each_allows 1 a.signals (each_none (each_numbered has_pattern 1 a.signals) rules.1.1.0) (i - 1) (omega arith)

-- ---- and then it has a shift
put_some : (n : ℕ) (ms : List ℕ) → 1 ≤ length (put_shift n ms)
put_some n [] = omega arith
put_some n (m ∷ ms) =
    elim (nat_lt n m) as (λ b. 1 ≤ length (if b then n ∷ m ∷ ms else (if n == m then m ∷ ms else m ∷ put_shift n ms))) [
      | true ↦ omega arith
      | false ↦ elim (n == m) as (λ b. 1 ≤ length (if b then m ∷ ms else m ∷ put_shift n ms)) [ true ↦ omega arith | false ↦ omega arith ]
    ]

with_keeps : (a : Street) (i p : ℕ) (ms : List ℕ) → 1 ≤ length ms → 1 ≤ length (with_pattern a i p ms)
with_keeps a i p ms h = elim (allows a i p) as (λ b. 1 ≤ length (if b then put_shift (pattern_shift a i p) ms else ms)) [ true ↦ put_some (pattern_shift a i p) ms | false ↦ h ]

with_some : (a : Street) (i p : ℕ) (ms : List ℕ) → allows a i p ≡ true → 1 ≤ length (with_pattern a i p ms)
with_some a i p ms e = rw e (put_some (pattern_shift a i p) ms)

abbrev first_two : Street → ℕ → List ℕ
first_two a i = with_pattern a i 2 (with_pattern a i 1 [])

some_of : (a : Street) (i : ℕ) (one two three four : Bool) → allows a i 1 ≡ one → allows a i 2 ≡ two → allows a i 3 ≡ three → allows a i 4 ≡ four
    → list_any (λ b. b) (one ∷ two ∷ three ∷ four ∷ []) ≡ true → 1 ≤ shift_count a i
some_of a i true two three four e f g h t = with_keeps a i 4 (with_pattern a i 3 (first_two a i)) (with_keeps a i 3 (first_two a i) (with_keeps a i 2 (with_pattern a i 1 []) (with_some a i 1 [] e)))
some_of a i false true three four e f g h t = with_keeps a i 4 (with_pattern a i 3 (first_two a i)) (with_keeps a i 3 (first_two a i) (with_some a i 2 (with_pattern a i 1 []) f))
some_of a i false false true four e f g h t = with_keeps a i 4 (with_pattern a i 3 (first_two a i)) (with_some a i 3 (first_two a i) g)
some_of a i false false false true e f g h t = with_some a i 4 (with_pattern a i 3 (first_two a i)) h
some_of a i false false false false e f g h t = absurd (true≢false (sym t))

by_list : (a : Street) (i : ℕ) (ps : List Bool) → (signal_of a i).patterns ≡ ps → length ps ≡ 4 → list_any (λ b. b) ps ≡ true → 1 ≤ shift_count a i
by_list a i [] e l t = absurd (omega arith)
by_list a i (one ∷ []) e l t = absurd (omega arith)
by_list a i (one ∷ two ∷ []) e l t = absurd (omega arith)
by_list a i (one ∷ two ∷ three ∷ []) e l t = absurd (omega arith)
by_list a i (one ∷ two ∷ three ∷ four ∷ []) e l t =
    some_of a i one two three four (ap (λ ps. slice_index_or ps 0 false) e) (ap (λ ps. slice_index_or ps 1 false) e) (ap (λ ps. slice_index_or ps 2 false) e) (ap (λ ps. slice_index_or ps 3 false) e) t
by_list a i (one ∷ two ∷ three ∷ four ∷ five ∷ ps) e l t = absurd (omega arith)

-- a signal with four patterns has a shift
pub some_shift : (a : Street) (i : ℕ) → IsValid a → 1 ≤ i → i ≤ length a.signals → length (signal_of a i).patterns ≡ 4 → 1 ≤ shift_count a i
some_shift a i v h k l = by_list a i (signal_of a i).patterns refl l (allows_some a i v h k)
