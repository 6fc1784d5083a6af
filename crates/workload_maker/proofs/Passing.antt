-- Tests that pass.
use Rattle.std.proofs.Common.{◌≡◌, ℕ, zero, suc, ◌+◌, ◌<◌, ◌≤◌, List, ◌∷◌, map, Option, None, Bool, true, false, true≢false, ◌&&◌, nat_le, nat_lt, refl, sym, inl, inr, arith}
use Rattle.std.specs.List.{range_with_len, list_all}
use Rattle.std.proofs.lemmas.Bool.{cases_eq}
use Rattle.std.proofs.lemmas.Bool.Decides.{nat_tests}
use Rattle.artery_model.specs.Faults.{Fault, first_fault, unless, each_numbered}
use Rattle.artery_model.specs.Limits.{in_range}
use Rattle.artery_model.specs.declared.kind.Kind.{Kind}

-- a test whose condition holds
pub passes : (b : Bool) (k : Kind) (place : List ℕ) → b ≡ true → unless b k place ≡ None
passes b k place e = rw e refl

-- a test that passes stands in front of others
pub then : (f : Option Fault) (tests : List (Option Fault)) → f ≡ None → first_fault tests ≡ None → first_fault (f ∷ tests) ≡ None
then f tests e rest = rw e rest

-- conditions on numbers
pub is_at_most : (n m : ℕ) → n ≤ m → nat_le n m ≡ true
is_at_most n m h = grind (arith, nat_tests)

pub is_below : (n m : ℕ) → n < m → nat_lt n m ≡ true
is_below n m h = grind (arith, nat_tests)

pub is_in_range : (low high n : ℕ) → low ≤ n → n ≤ high → in_range low high n ≡ true
is_in_range low high n h g = rw (is_at_most low n h, is_at_most n high g) refl

-- a test of each item of a list that is made from numbers
pub each_passes : {X : Type 0} (test : ℕ → X → Option Fault) (f : ℕ → X) (most : ℕ) → ((i : ℕ) → i ≤ most → test i (f i) ≡ None)
    → (i n : ℕ) → i + n ≤ most + 1 → first_fault (each_numbered test i (map f (range_with_len i n))) ≡ None
each_passes test f most h i zero le = refl
each_passes test f most h i (suc n) le =
    then (test i (f i)) _ (h i (omega arith)) (each_passes test f most h (i + 1) n (omega arith))

-- both of two conditions
both_pass : (a b : Bool) → (a && b) ≡ true → (a ≡ true) × (b ≡ true)
both_pass true true e = (refl, refl)
both_pass true false e = absurd (true≢false (sym e))
both_pass false b e = absurd (true≢false (sym e))

-- a test that each of some numbers passes
pub each_of : (p : ℕ → Bool) (from n k : ℕ) → list_all p (range_with_len from n) ≡ true → from ≤ k → k < from + n → p k ≡ true
each_of p from zero k e least most = absurd (omega arith)
each_of p from (suc n) k e least most =
    let both = both_pass (p from) (list_all p (range_with_len (from + 1) n)) e in
    elim (cases_eq k from) [ inl here ↦ rw here both.0 | inr later ↦ each_of p (from + 1) n k both.1 (omega arith) (omega arith) ]
