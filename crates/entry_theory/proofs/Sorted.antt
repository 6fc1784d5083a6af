-- The basic variables of a tableau in ascending order: what a sort of its list of them gives.
use Rattle.std.proofs.Common.{◌≡◌, ℕ, suc, false, eqb, List, [], ◌∷◌, get_or, length, ◌<◌, ◌∙◌, subst, arith}
use Rattle.std.specs.List.{AllByRecursion, IsDistinct}
use Rattle.std.specs.List.Sorted.{IsPermutation, IsSorted}
use Rattle.std.specs.Ordering.{nat_cmp}
use Rattle.std.proofs.lemmas.Bool.{ne_eqb}
use Rattle.std.proofs.lemmas.List.{get_or_default}
use Rattle.std.proofs.lemmas.List.Sorted.{IsPermutation-sym, Contains-permutation, IsNonDecreasingBy-from_sort}
use Rattle.std.proofs.lemmas.List.Kept.{AllPairs-from_increasing}
use Rattle.std.proofs.lemmas.Map.Keys.{IsDistinct-IsPermutation, IsStrictlyIncreasing-from_distinct}
use Rattle.simplex_theory.specs.Tableau.{Tableau, IsShaped}
use Rattle.simplex_theory.specs.DualSteps.{IsPlaced}
use Rattle.entry_theory.specs.Entry.{IsAmong, NamesBasics}
use Rattle.entry_theory.specs.Basics.{basics_of}
use Rattle.entry_theory.proofs.Basics.{names_basics_of, names_only}

all_apart : (x : ℕ) (xs : List ℕ) → ((k : ℕ) → k < length xs → x ≡ get_or xs k 0 → ⊥) → AllByRecursion (λ y. eqb x y ≡ false) xs
all_apart x [] h = tt
all_apart x (y ∷ ys) h = (ne_eqb x y (λ e. h 0 (omega arith) e), all_apart x ys (λ k l e. h (suc k) (omega arith) e))

distinct : (xs : List ℕ) → ((i k : ℕ) → i < length xs → k < length xs → get_or xs i 0 ≡ get_or xs k 0 → i ≡ k) → IsDistinct eqb xs
unfolding IsDistinct
distinct [] h = tt
distinct (x ∷ xs) h = (
  all_apart x xs (λ k l e. absurd (let q = h 0 (suc k) (omega arith) (omega arith) e in omega arith)),
  distinct xs (λ i k l m e. let q = h (suc i) (suc k) (omega arith) (omega arith) e in omega arith),
)

both_ways : (x y : ℕ) → eqb x y ≡ eqb y x
both_ways x y = grind arith

moved : (xs ys : List ℕ) (v : ℕ) → IsPermutation xs ys → IsAmong xs v → IsAmong ys v
moved xs ys v p a =
    let c = Contains-permutation xs ys v p (a.at, a.within, get_or_default xs a.at v 0 a.within ∙ a.holds) in
    record { at = c.0; within = c.1; holds = get_or_default ys c.0 0 v c.1 ∙ c.2 }

pub names_sorted : (t : Tableau) (vs : List ℕ) → IsShaped t → IsPlaced t → IsPermutation t.basic vs → IsSorted nat_cmp vs → NamesBasics vs t
names_sorted t vs s p m o =
    let apart = distinct t.basic (λ i k l n e. p.rows i k (rw (← s.basics) l) (rw (← s.basics) n) e) in
    let rising = IsStrictlyIncreasing-from_distinct vs (IsNonDecreasingBy-from_sort (λ x. x) vs o) (IsDistinct-IsPermutation eqb both_ways t.basic vs m apart) in
    record {
      ascending = λ i k l n. AllPairs-from_increasing vs rising i k 0 l n;
      basics = λ v. (
        λ a. let b = moved vs t.basic v (IsPermutation-sym t.basic vs m) a in record { row = b.at; within = subst (λ m. b.at < m) s.basics b.within; is = b.holds },
        λ b. moved t.basic vs v m (record { at = b.row; within = rw s.basics b.within; holds = b.is }),
      );
    }

pub sorted_is : (t : Tableau) (vs : List ℕ) → IsShaped t → IsPlaced t → IsPermutation t.basic vs → IsSorted nat_cmp vs → vs ≡ basics_of t
sorted_is t vs s p m o = names_only vs (basics_of t) t (names_sorted t vs s p m o) (names_basics_of t s p)
