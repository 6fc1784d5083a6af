-- Words that spell numbers.
use Rattle.std.proofs.Common.{◌≡◌, ℕ, ◌+◌, ◌*◌, ◌/◌, ◌%◌, ◌^◌, ◌<◌, ◌≤◌, Bool, true, false, List, [], ◌∷◌, ◌++◌, length, get_or, Some, None, Ok, Err}
use Rattle.std.proofs.Common.{refl, sym, ◌∙◌, ap, subst, arith, append_assoc, append-nil, ltb, ltb-true, le-ltb, lt-ltb, inl, inr}
use Rattle.std.proofs.lemmas.Bool.{cases_lt, and_parts}
use Rattle.std.specs.Prelude.{◌&&◌, if◌then◌else◌}
use Rattle.std.proofs.lemmas.Bool.Decides.{nat_tests}
use Rattle.std.specs.Fmt.{decimal}
use Rattle.std.specs.Str.{all_ascii_digits, IsUtf8}
use Rattle.std.specs.Str.Parse.{AllDigits, digits_value, digits_value_after, ParsesUnsigned}
use Rattle.std.specs.Char.{digit_value}
use Rattle.std.proofs.lemmas.Fmt.{decimal_digit, decimal_step_wide, decimal_is_IsNumeral_wide, decimal_by_steps_wide, IsAscii-from_digits}
use Rattle.std.proofs.lemmas.Str.{digit_value_digit, IsUtf8-from_ascii}
use Rattle.std.proofs.lemmas.Str.Parse.{digit_from_value, parse_digits}
use Rattle.plan_text.specs.Numbers.{number, is_numeral, is_plain}
use Rattle.plan_text.proofs.Digits.{digits_by_test}

le_value_after : (n : ℕ) (ds : List ℕ) → n ≤ digits_value_after 10 n ds
le_value_after n [] = omega arith
le_value_after n (c ∷ cs) = omega (arith, le_value_after (n * 10 + digit_value c) cs)

-- digits that follow a number's own
decimal_value_after : (n : ℕ) (ds : List ℕ) → 0 < n → AllDigits 10 ds → digits_value_after 10 n ds < 10 ^ 64 → decimal (digits_value_after 10 n ds) ≡ decimal n ++ ds
decimal_value_after n [] some d small = sym (append-nil (decimal n))
decimal_value_after n (c ∷ cs) some d small =
    let m : ℕ = n * 10 + digit_value c in
    let k = digit_value_digit c (digit_from_value c d.0) in
    let front : m / 10 ≡ n = omega (arith, d.0) in
    let end : 48 + m % 10 ≡ c = omega (arith, d.0) in
    decimal_value_after m cs (omega arith) d.1 small
    ∙ ap (λ x. x ++ cs) (decimal_step_wide m (omega arith) (omega (arith, le_value_after m cs)) ∙ (λ i. decimal (front i) ++ (end i ∷ [])))
    ∙ append_assoc (decimal n) (c ∷ []) cs

plain_first : (c e : ℕ) (cs : List ℕ) → is_plain (c ∷ e ∷ cs) ≡ true → 49 ≤ c
plain_first c e cs h = grind (arith, nat_tests)

-- digits without a leading zero are what their value prints
pub decimal_value_digits : (ds : List ℕ) → AllDigits 10 ds → is_plain ds ≡ true → digits_value 10 ds < 10 ^ 64 → decimal (digits_value 10 ds) ≡ ds
decimal_value_digits [] d plain small = absurd cc
decimal_value_digits (c ∷ []) d plain small =
    let k = digit_value_digit c (digit_from_value c d.0) in
    decimal_digit (0 * 10 + digit_value c) (omega (arith, d.0)) ∙ ap (λ x. x ∷ []) (omega arith)
decimal_value_digits (c ∷ e ∷ cs) d plain small =
    let k = digit_value_digit c (digit_from_value c d.0) in
    let no = plain_first c e cs plain in
    let is : 48 + (0 * 10 + digit_value c) ≡ c = omega arith in
    decimal_value_after (0 * 10 + digit_value c) (e ∷ cs) (omega arith) d.1 small
    ∙ ap (λ x. x ++ (e ∷ cs)) (decimal_digit (0 * 10 + digit_value c) (omega (arith, d.0)) ∙ ap (λ x. x ∷ []) is)

-- ---- what the test of a word decides

chosen : (a b : Bool) (v n : ℕ) → (if a && b then Some v else None) ≡ Some n → (a ≡ true) × (b ≡ true) × (v ≡ n)
chosen true true v n h = (refl, refl, cc)
chosen true false v n h = absurd cc
chosen false b v n h = absurd cc

-- a word that is read as a number is what the number prints
pub decimal-number : (w : List ℕ) (n : ℕ) → number w ≡ Some n → (w ≡ decimal n) × (n < 2 ^ 80)
unfolding number
decimal-number w n e =
    let t = chosen (is_numeral w) (ltb (digits_value 10 w) (2 ^ 80)) (digits_value 10 w) n e in
    let b = and_parts (is_plain w) (all_ascii_digits w) t.0 in
    let small : digits_value 10 w < 2 ^ 80 = ltb-true _ _ t.1 in
    (sym (decimal_value_digits w (digits_by_test.to w b.1) b.0 (omega arith)) ∙ ap decimal t.2, rw (← t.2) small)

first_of_more : (n : ℕ) (ds : List ℕ) → 10 ≤ n → (is_plain ds ≡ true) × (0 < n / 10 → 48 < get_or ds 0 0) → (is_plain (ds ++ ((48 + n % 10) ∷ [])) ≡ true)
    × (0 < n → 48 < get_or (ds ++ ((48 + n % 10) ∷ [])) 0 0)
first_of_more n [] le h = absurd cc
first_of_more n (d ∷ []) le h = let k : 48 < d = h.1 (omega arith) in (lt-ltb _ _ k, λ _. k)
first_of_more n (d ∷ e ∷ es) le h = let k : 48 < d = h.1 (omega arith) in (lt-ltb _ _ k, λ _. k)

-- a number's digits don't begin with a zero, except those of 0
plain_decimal : (n : ℕ) → n < 10 ^ 64 → (is_plain (decimal n) ≡ true) × (0 < n → 48 < get_or (decimal n) 0 0)
plain_decimal n small = decimal_by_steps_wide (λ n ds. (is_plain ds ≡ true) × (0 < n → 48 < get_or ds 0 0)) (λ n lt. (refl, λ k. omega arith)) first_of_more n small

pub all_digits_decimal : (n : ℕ) → n < 2 ^ 80 → all_ascii_digits (decimal n) ≡ true
all_digits_decimal n small = digits_by_test.from (decimal n) (decimal_is_IsNumeral_wide n (omega arith)).0.1

-- what a number prints is read as that number
pub number-decimal : (n : ℕ) → n < 2 ^ 80 → number (decimal n) ≡ Some n
unfolding number
number-decimal n small =
    let v : digits_value 10 (decimal n) ≡ n = (decimal_is_IsNumeral_wide n (omega arith)).1 in
    let lt : ltb n (2 ^ 80) ≡ true = lt-ltb _ _ small in
    rw ((plain_decimal n (omega arith)).0, all_digits_decimal n small, v, lt) refl

-- ---- what the code finds

pub none_unless : (w : List ℕ) → is_numeral w ≡ false → None ≡ number w
unfolding number
none_unless w e = rw e refl

-- digits are text
pub numeral_is_utf8 : (w : List ℕ) → is_numeral w ≡ true → IsUtf8 w
numeral_is_utf8 w e = IsUtf8-from_ascii w (IsAscii-from_digits w (digits_by_test.to w (and_parts (is_plain w) (all_ascii_digits w) e).1))

some : (w : List ℕ) → is_plain w ≡ true → 0 < length w
some [] h = absurd cc
some (b ∷ bs) h = omega arith

-- what `parse` says of a text that it reads, and of one that it doesn't
abbrev pub Parsed : List ℕ → ℕ → Type 0
Parsed text n = ParsesUnsigned {E = Unit {0}} 128 10 text (Ok n)

abbrev pub Unparsed : List ℕ → Type 0
Unparsed text = ParsesUnsigned {E = Unit {0}} 128 10 text (Err tt)

value_is : (w text : List ℕ) (n : ℕ) → is_numeral w ≡ true → text ≡ w → Parsed text n → n ≡ digits_value 10 w
value_is w text n e same p = (parse_digits digits_by_test {E = Unit {0}} 128 w (Ok n) (subst (λ t. Parsed t n) same p) (and_parts (is_plain w) (all_ascii_digits w) e).1).1

pub some_parsed : (w text : List ℕ) (n : ℕ) → is_numeral w ≡ true → text ≡ w → Parsed text n → n < 2 ^ 80 → Some n ≡ number w
unfolding number
some_parsed w text n e same p small =
    let r = value_is w text n e same p in
    let lt : ltb (digits_value 10 w) (2 ^ 80) ≡ true = lt-ltb _ _ (subst (λ v. v < 2 ^ 80) r small) in
    rw (e, lt) (ap (λ v. Some v) r)

pub none_large : (w text : List ℕ) (n : ℕ) → is_numeral w ≡ true → text ≡ w → Parsed text n → 2 ^ 80 ≤ n → None ≡ number w
unfolding number
none_large w text n e same p large =
    let r = value_is w text n e same p in
    let lt : ltb (digits_value 10 w) (2 ^ 80) ≡ false = le-ltb _ _ (subst (λ v. 2 ^ 80 ≤ v) r large) in
    rw (e, lt) refl

pub none_huge : (w text : List ℕ) → is_numeral w ≡ true → text ≡ w → Unparsed text → None ≡ number w
unfolding number
none_huge w text e same p =
    let b = and_parts (is_plain w) (all_ascii_digits w) e in
    let no = parse_digits digits_by_test {E = Unit {0}} 128 w (Err tt) (subst Unparsed same p) b.1 in
    let large : 2 ^ 80 ≤ digits_value 10 w = elim (cases_lt (digits_value 10 w) (2 ^ 80)) [ inl lt ↦ absurd (no (some w b.0, omega arith)) | inr le ↦ le ] in
    let lt : ltb (digits_value 10 w) (2 ^ 80) ≡ false = le-ltb _ _ large in
    rw (e, lt) refl
