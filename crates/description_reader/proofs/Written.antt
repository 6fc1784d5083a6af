-- A quantity as it can be written has a denominator of at most 10 ^ 18.
use Rattle.std.proofs.Common.{◌≡◌, ℕ, ℤ, pos, ◌+◌, ◌*◌, ◌^◌, ◌<◌, ◌≤◌, Bool, true, false, List, [], ◌∷◌, length, take, drop, Option, None, Some, ◌&&◌, refl, arith, lit<, subst}
use Rattle.std.specs.Prelude.{nat_lt, nat_le, ◌==◌, if◌then◌else◌, option_and_then, IfSome, unwrap_or}
use Rattle.std.specs.Option.{option_map}
use Rattle.std.specs.List.{position_or_len}
use Rattle.std.specs.Str.{all_ascii_digits}
use Rattle.std.specs.Str.Parse.{digits_value}
use Rattle.std.proofs.lemmas.Bool.Decides.{nat_tests}
use Rattle.std.proofs.lemmas.Int.Digits.{digits_value-lt}
use Rattle.std.proofs.Math.Nat.{one-le-pow, pow-le-pow_right}
use Rattle.toml.specs.Data.{Data, string, integer}
use Rattle.rational_theory.specs.Rational.{ℚ, whole, over, neg_ℚ, ◌≤ℚ◌}
use Rattle.rational_theory.proofs.Lowest.{den_size}
use Rattle.rational_theory.proofs.Compare.{le_true}
use Rattle.artery_model.specs.Limits.{at_most}
use Rattle.quantity_text.specs.Quantity.{run_of, is_mark, marked, with_tail, size_of, quantity_of}
use Rattle.quantity_text.proofs.RunsLaws.{ascii_digits}
use Rattle.description_reader.specs.Quantity.{quantity_in, number_in}

abbrev IsShort : ℚ → Type 0
IsShort q = q.den ≤ 10 ^ 18

far : (k : ℕ) → k ≤ 18 → 10 ^ k ≤ 10 ^ 18
far k h = pow-le-pow_right (lit< tt) h

most_of : (n m : ℕ) → nat_le n m ≡ true → n ≤ m
most_of n m e = grind (arith, nat_tests)

-- a run of digits has at most 18 of them, and is below 10 ^ 18
run_by : (a b c : Bool) (ds : List ℕ) → nat_le (length ds) 18 ≡ b → all_ascii_digits ds ≡ c → IfSome (if a && (b && c) then Some (digits_value 10 ds) else None) (λ n. (length ds ≤ 18) × (n < 10 ^ 18))
run_by false b c ds e f = tt
run_by true false c ds e f = tt
run_by true true false ds e f = tt
run_by true true true ds e f =
    let few = most_of (length ds) 18 e in
    let small = digits_value-lt 10 ds (ascii_digits.to ds f) in
    let most = far (length ds) few in
    (few, omega (arith, small, most))

run_short : (ds : List ℕ) → IfSome (run_of ds) (λ n. (length ds ≤ 18) × (n < 10 ^ 18))
run_short ds = run_by (nat_lt 0 (length ds)) (nat_le (length ds) 18) (all_ascii_digits ds) ds refl refl

-- a fraction over a number of at most 18 digits
over_short : (z : ℤ) (d : ℕ) → 0 < d → d ≤ 10 ^ 18 → IsShort (over z d)
over_short z d h l = let s = den_size z d h in omega (arith, s, l)

back_short : (whole back : ℕ) (b : Bool) → (back == 0) ≡ b → back < 10 ^ 18 → IfSome (if b then None else Some (over (pos whole) back)) IsShort
back_short whole back true e l = tt
back_short whole back false e l = over_short (pos whole) back (grind (arith, nat_tests)) (omega (arith, l))

marked_short : (whole mark places back : ℕ) → places ≤ 18 → back < 10 ^ 18 → IfSome (marked whole mark places back) IsShort
marked_short whole mark places back few l = by (mark == 46)
  where
    by : (b : Bool) → IfSome (if b then Some (over (pos (whole * 10 ^ places + back)) (10 ^ places)) else (if back == 0 then None else Some (over (pos whole) back))) IsShort
    by true = over_short (pos (whole * 10 ^ places + back)) (10 ^ places) (one-le-pow places 10 (omega arith)) (far places few)
    by false = back_short whole back (back == 0) refl l

after_run : (whole mark : ℕ) (ds : List ℕ) (o : Option ℕ) → IfSome o (λ n. (length ds ≤ 18) × (n < 10 ^ 18)) → IfSome (option_and_then (marked whole mark (length ds)) o) IsShort
after_run whole mark ds None h = tt
after_run whole mark ds (Some back) h = marked_short whole mark (length ds) back h.0 h.1

tail_short : (whole : ℕ) (text : List ℕ) → IfSome (with_tail whole text) IsShort
tail_short whole [] = over_short (pos whole) 1 (omega arith) (omega arith)
tail_short whole (mark ∷ ds) = after_run whole mark ds (run_of ds) (run_short ds)

front_short : (o : Option ℕ) (text : List ℕ) → IfSome (option_and_then (λ whole. with_tail whole text) o) IsShort
front_short None text = tt
front_short (Some whole) text = tail_short whole text

size_short : (text : List ℕ) → IfSome (size_of text) IsShort
size_short text = front_short (run_of (take (position_or_len is_mark text) text)) (drop (position_or_len is_mark text) text)

neg_short : (o : Option ℚ) → IfSome o IsShort → IfSome (option_map neg_ℚ o) IsShort
unfolding neg_ℚ
neg_short None h = tt
neg_short (Some q) h = h

quantity_short : (text : List ℕ) → IfSome (quantity_of text) IsShort
quantity_short [] = tt
quantity_short (c ∷ cs) = by (c == 45)
  where
    by : (b : Bool) → IfSome (if b then option_map neg_ℚ (size_of cs) else size_of (c ∷ cs)) IsShort
    by true = neg_short (size_of cs) (size_short cs)
    by false = size_short (c ∷ cs)

number_by : (o : Option ℚ) → IfSome o IsShort → IsShort (unwrap_or o (whole (pos 0)))
unfolding whole
number_by None h = omega arith
number_by (Some q) h = h

quantity_in_short : (d : Data) → IfSome (quantity_in d) IsShort
unfolding whole
quantity_in_short (string text) = quantity_short text
quantity_in_short (integer z) = omega arith
quantity_in_short d = tt

-- what a value of a description writes
pub number_short : (d : Data) → (number_in d).den ≤ 10 ^ 18
number_short d = number_by (quantity_in d) (quantity_in_short d)
