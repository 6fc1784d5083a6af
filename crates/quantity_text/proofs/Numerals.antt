-- Decimal digits of numbers up to 64 digits, and the numbers that they write.
use Rattle.std.proofs.Common.{◌≡◌, ℕ, ◌+◌, ◌*◌, ◌/◌, ◌%◌, ◌^◌, ◌<◌, ◌≤◌, false, List, [], ◌∷◌, ◌++◌, length, take, get_or, arith, sym, ◌∙◌, ap, append_assoc, length-append}
use Rattle.std.specs.Char.{digit_value, is_ascii_digit}
use Rattle.std.specs.Fmt.{decimal}
use Rattle.std.specs.Str.Parse.{AllDigits, digits_value, digits_value_after}
use Rattle.std.proofs.lemmas.Bool.{le-leb, true≢false}
use Rattle.std.proofs.lemmas.Fmt.{decimal_digit, decimal_step_wide, decimal_by_steps_wide, decimal_is_IsNumeral_wide}
use Rattle.std.proofs.lemmas.List.{append-nil}
use Rattle.std.proofs.lemmas.Str.Parse.{digit_from_value, digit_at, digits_value-take-le}
use Rattle.quantity_text.proofs.RunsLaws.{digit_is}

-- more digits write no smaller number
le_value_after : (n : ℕ) (ds : List ℕ) → n ≤ digits_value_after 10 n ds
le_value_after n [] = omega arith
le_value_after n (c ∷ cs) = omega (arith, le_value_after (n * 10 + digit_value c) cs)

-- more digits after those of a number above 0
decimal_value_after : (n : ℕ) (ds : List ℕ) → 0 < n → AllDigits 10 ds → digits_value_after 10 n ds < 10 ^ 64 → decimal (digits_value_after 10 n ds) ≡ decimal n ++ ds
decimal_value_after n [] some d small = sym (append-nil (decimal n))
decimal_value_after n (c ∷ cs) some d small =
    let m : ℕ = n * 10 + digit_value c in
    let k = digit_is c d.0 in
    let r = digit_from_value c d.0 in
    let front : m / 10 ≡ n = omega (arith, d.0) in
    let end : 48 + m % 10 ≡ c = omega (arith, d.0) in
    decimal_value_after m cs (omega arith) d.1 small
    ∙ ap (λ x. x ++ cs) (decimal_step_wide m (omega arith) (omega (arith, le_value_after m cs)) ∙ (λ i. decimal (front i) ++ (end i ∷ [])))
    ∙ append_assoc (decimal n) (c ∷ []) cs

-- digits with no leading zero, or just `0`, are the decimal of the number that they write
pub decimal_value : (ds : List ℕ) → AllDigits 10 ds → 0 < length ds → (get_or ds 0 0 ≡ 48 → length ds ≡ 1) → digits_value 10 ds < 10 ^ 64 → decimal (digits_value 10 ds) ≡ ds
decimal_value [] d some lead small = absurd (omega arith)
decimal_value (c ∷ []) d some lead small =
    let k = digit_is c d.0 in
    let r = digit_from_value c d.0 in
    decimal_digit (0 * 10 + digit_value c) (omega (arith, d.0)) ∙ ap (λ x. x ∷ []) (omega arith)
decimal_value (c ∷ e ∷ cs) d some lead small =
    let k = digit_is c d.0 in
    let r = digit_from_value c d.0 in
    let no : c ≡ 48 → ⊥ = λ z. omega (arith, lead z) in
    let is : 48 + (0 * 10 + digit_value c) ≡ c = omega arith in
    decimal_value_after (0 * 10 + digit_value c) (e ∷ cs) (omega arith) d.1 small
    ∙ ap (λ x. x ++ (e ∷ cs)) (decimal_digit (0 * 10 + digit_value c) (omega (arith, d.0)) ∙ ap (λ x. x ∷ []) is)

-- how a decimal begins
pub record Leads (n : ℕ) (ds : List ℕ) : Type 0 where
  pub some : 0 < length ds
  pub zero_alone : get_or ds 0 0 ≡ 48 → n ≡ 0

-- one digit leads
leads_one : (n : ℕ) → n < 10 → Leads n ((48 + n) ∷ [])
leads_one n h = record { some = omega arith; zero_alone = λ e. omega (arith, e) }

-- and so does what is longer
leads_more : (n : ℕ) (ds : List ℕ) → 10 ≤ n → Leads (n / 10) ds → Leads n (ds ++ ((48 + n % 10) ∷ []))
leads_more n [] h l = absurd (omega (arith, l.some))
leads_more n (c ∷ cs) h l = record { some = omega (arith, length-append (c ∷ cs) ((48 + n % 10) ∷ [])); zero_alone = λ e. absurd (omega (arith, l.zero_alone e)) }

-- so every decimal leads
pub decimal_leads : (n : ℕ) → n < 10 ^ 64 → Leads n (decimal n)
decimal_leads = decimal_by_steps_wide Leads leads_one leads_more

-- only `0` begins with a zero
pub decimal_lead : (n : ℕ) → n < 10 ^ 64 → get_or (decimal n) 0 0 ≡ 48 → length (decimal n) ≡ 1
decimal_lead n h e = ap (λ m. length (decimal m)) ((decimal_leads n h).zero_alone e) ∙ ap length (decimal_digit 0 (omega arith))

-- a decimal is all digits
pub decimal_digits : (n : ℕ) → n < 10 ^ 64 → AllDigits 10 (decimal n)
decimal_digits n h = (decimal_is_IsNumeral_wide n h).0.1

-- and writes its number
pub value-decimal : (n : ℕ) → n < 10 ^ 64 → digits_value 10 (decimal n) ≡ n
value-decimal n h = (decimal_is_IsNumeral_wide n h).1

-- two numbers have two decimals
pub decimal_injective : (m n : ℕ) → m < 10 ^ 64 → n < 10 ^ 64 → decimal m ≡ decimal n → m ≡ n
decimal_injective m n p q e = sym (value-decimal m p) ∙ ap (digits_value 10) e ∙ value-decimal n q

-- a byte that is no digit is not among digits
pub no_digit : (ds : List ℕ) (i : ℕ) → i < length ds → is_ascii_digit (get_or ds i 0) ≡ false → AllDigits 10 ds → ⊥
no_digit ds i h n all =
    let d = digit_at ds i all h in
    true≢false (rw (le-leb 48 (get_or ds i 0) d.0, le-leb (get_or ds i 0) 57 d.1) at n)

-- a front that is too large already
pub front_large : (ds : List ℕ) (i k : ℕ) → k ≤ digits_value 10 (take i ds) → digits_value 10 ds < k → ⊥
front_large ds i k h l = omega (arith, h, l, digits_value-take-le 10 ds i (omega arith))

-- the numeral of a number is one: it leads, and its value is the number
pub is_numeral : (ds : List ℕ) (n : ℕ) → n < 2 ^ 127 → ds ≡ decimal n → (0 < length ds) × (get_or ds 0 0 ≡ 48 → length ds ≡ 1)
is_numeral ds n h e =
    let small : n < 10 ^ 64 = omega arith in
    rw e ((decimal_leads n small).some, decimal_lead n small)

-- and it is all digits, which write the number
pub numeral_value : (ds : List ℕ) (n : ℕ) → n < 2 ^ 127 → ds ≡ decimal n → AllDigits 10 ds × (digits_value 10 ds ≡ n)
numeral_value ds n h e =
    let small : n < 10 ^ 64 = omega arith in
    rw e (decimal_digits n small, value-decimal n small)

-- what leads and is all digits is the numeral of its value
pub numeral_is : (ds : List ℕ) (n : ℕ) → (0 < length ds) × (get_or ds 0 0 ≡ 48 → length ds ≡ 1) → AllDigits 10 ds → n ≡ digits_value 10 ds → n < 2 ^ 127 → ds ≡ decimal n
numeral_is ds n l d e h = sym (ap decimal e ∙ decimal_value ds d l.0 l.1 (omega (arith, e, h)))
