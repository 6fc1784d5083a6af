-- Where no number is past the limit, all of them fit.
use Rattle.std.proofs.Common.{◌≡◌, ℕ, zero, suc, ◌*◌, ◌<◌, ◌≤◌, ◌^◌, List, [], ◌∷◌, length, All, ◌-◌, get_or, map, nat_le, Option, None, Some, true, false, inl, inr, refl, arith}
use Rattle.std.proofs.lemmas.Bool.{cases_lt}
use Rattle.std.proofs.lemmas.Bool.Decides.{nat_tests}
use Rattle.progression.specs.Street.{Street, count, HasSignal, HasLink}
use Rattle.progression.specs.TimingRecord.{TimingRecord, base}
use Rattle.progression.specs.BaseRecord.{cycle}
use Rattle.artery_model.specs.Valid.{IsValid}
use Rattle.time_space.proofs.FinerGrids.{mul-le}
use Rattle.mirror_theory.specs.EqualBands.{IsEven}
use Rattle.half_integer.specs.Fitting.{FitsTwice}
use Rattle.half_integer.specs.TooFine.{first_past, or_else, first_too_fine}
use Rattle.half_integer.specs.Uneven.{IsUneven, IsEqualLink}
use Rattle.half_integer.proofs.Lefts.{even_red}

le_true : (p q : ℕ) → p ≤ q → nat_le p q ≡ true
le_true p q h = grind (arith, nat_tests)

le_false : (p q : ℕ) → q < p → nat_le p q ≡ false
le_false p q h = grind (arith, nat_tests)

-- the first of some numbers fits, and none of the others is past the limit
head_fits : (n : ℕ) (ns : List ℕ) → first_past (n ∷ ns) ≡ None → (n < 2 ^ 80) × (first_past ns ≡ None)
head_fits n ns e = elim (cases_lt n (2 ^ 80)) [
  | inl w ↦ let f = le_false (2 ^ 80) n w in (w, (rw f at e))
  | inr w ↦ let f = le_true (2 ^ 80) n w in let g = rw f at e in absurd (cc)
]

runs_fit : (xs : List ℕ) → first_past (map (λ n. n * 2) xs) ≡ None → (k d : ℕ) → k < length xs → get_or xs k d * 2 < 2 ^ 80
runs_fit [] e k d p = absurd (omega arith)
runs_fit (x ∷ xs) e zero d p = (head_fits (x * 2) (map (λ n. n * 2) xs) e).0
runs_fit (x ∷ xs) e (suc k) d p = runs_fit xs (head_fits (x * 2) (map (λ n. n * 2) xs) e).1 k d (omega arith)

neither : (x y : Option ℕ) → or_else x y ≡ None → (x ≡ None) × (y ≡ None)
neither None y e = (refl, e)
neither (Some n) y e = absurd (cc)

le_same : (n : ℕ) → n ≤ n
le_same n = omega arith

pub fits_twice : (a : Street) (t : TimingRecord) → IsValid a → first_too_fine a t ≡ None → FitsTwice a t
fits_twice a t v e =
    let one = neither (first_past (t.grid * 2 ∷ [])) _ e in
    let two = neither (first_past (map (λ n. n * 2) t.run_out)) _ one.1 in
    let three = neither (first_past (map (λ n. n * 2) t.run_in)) (first_past (cycle a (base t) * 2 ∷ [])) two.1 in
    let long : cycle a (base t) * 2 < 2 ^ 80 = (head_fits (cycle a (base t) * 2) [] three.1).0 in
    let parts : 2 * t.unit ≤ a.head.parts * t.unit = mul-le v.least_parts (le_same t.unit) in
    record {
      grid = (head_fits (t.grid * 2) [] one.0).0;
      run_out = runs_fit t.run_out two.0;
      run_in = runs_fit t.run_in three.0;
      unit = omega (arith, long, parts);
      cycle = long;
    }

-- a timing without uneven signals and unequal links
pub is_even : (a : Street) (t : TimingRecord) → length t.patterns ≡ count a → All (λ p. (1 ≤ p) × (p ≤ 4)) t.patterns → 1 ≤ t.unit
    → ((i : ℕ) → HasSignal a i → ¬ IsUneven a t i) → ((i : ℕ) → HasLink a i → IsEqualLink a t i) → IsEven a t
is_even a t shape each u reds links = record {
  reds = λ i at.
      let l = at.0 in
      let k = at.1 in
      let p = each (i - 1) 0 (omega (arith, shape)) in
      even_red a t i u p.0 p.1 (reds i at);
  links = links;
}
