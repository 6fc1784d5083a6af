-- Runs of 1 to 18 digits.
use Rattle.std.proofs.Common.{◌≡◌, ℕ, ◌-◌, ◌<◌, ◌≤◌, Bool, true, List, length, Some, None, arith, refl}
use Rattle.std.specs.Prelude.{nat_lt, nat_le, ◌&&◌, if◌then◌else◌}
use Rattle.std.specs.Char.{digit_value}
use Rattle.std.specs.Str.{all_ascii_digits}
use Rattle.std.specs.Str.Parse.{AllDigits, digits_value}
use Rattle.std.proofs.lemmas.Bool.{lt-ltb, le-leb, le-ltb}
use Rattle.std.proofs.lemmas.Str.Parse.{IsNumeralModel, numerals_by_value, tells_all_ascii_digits, digit_from_value}
use Rattle.quantity_text.specs.Quantity.{run_of}

-- std's test of digits and their value
pub ascii_digits : IsNumeralModel (λ ds. all_ascii_digits ds ≡ true) (digits_value 10)
ascii_digits = numerals_by_value _ tells_all_ascii_digits

-- a run, by its three tests
run_test : (a b c : Bool) (n : ℕ) → a ≡ true → b ≡ true → c ≡ true → Some n ≡ (if a && (b && c) then Some n else None)
run_test a b c n p q r = rw (p, q, r) refl

-- 1 to 18 digits are a run
pub run_found : (ds : List ℕ) → 0 < length ds → length ds ≤ 18 → AllDigits 10 ds → Some (digits_value 10 ds) ≡ run_of ds
run_found ds least most h =
    run_test (nat_lt 0 (length ds)) (nat_le (length ds) 18) (all_ascii_digits ds) (digits_value 10 ds) (lt-ltb 0 (length ds) least) (le-leb (length ds) 18 most) (ascii_digits.from ds h)

-- a digit's value
pub digit_is : (c : ℕ) → digit_value c < 10 → digit_value c ≡ c - 48
digit_is c h =
    let r = digit_from_value c h in
    rw (le-ltb c 48 r.0, lt-ltb c 58 (omega (arith, r.1))) refl
