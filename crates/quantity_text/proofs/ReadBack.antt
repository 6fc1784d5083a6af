-- The exact spelling of a fraction of two numbers of at most 18 digits is a quantity, and is read as that fraction.
use Rattle.std.proofs.Common.{◌≡◌, ℕ, suc, ℤ, pos, negsuc, ◌^◌, ◌<◌, Bool, true, false, List, [], ◌∷◌, ◌++◌, length, Some, arith, refl, sym, ◌∙◌, ap, ap₂, lit<, unsigned_abs}
use Rattle.std.specs.Prelude.{nat_eq, if◌then◌else◌, option_and_then}
use Rattle.std.specs.Option.{option_map}
use Rattle.std.specs.Fmt.{decimal, signed_decimal}
use Rattle.std.specs.List.{position_or_len}
use Rattle.std.specs.Str.Parse.{AllDigits}
use Rattle.std.proofs.lemmas.Bool.{ne_eqb, eqb-true}
use Rattle.std.proofs.lemmas.Fmt.{length-decimal-le_wide}
use Rattle.std.proofs.lemmas.Str.Parse.{digit_from_value}
use Rattle.rational_theory.specs.Rational.{ℚ, over, neg_ℚ}
use Rattle.rational_theory.proofs.Lowest.{over-own, over-neg_ℤ}
use Rattle.quantity_text.specs.Exact.{denominator_text, exact_spelling, SpellsSize}
use Rattle.quantity_text.specs.Quantity.{run_of, is_mark, marked, with_tail, size_of, quantity_of}
use Rattle.quantity_text.proofs.ExactParts.{numerator_is, denominator_is}
use Rattle.quantity_text.proofs.Numerals.{decimal_leads, decimal_digits, value-decimal}
use Rattle.quantity_text.proofs.RunsLaws.{run_found}

-- a number of at most 18 digits is a run, and writes itself
run-decimal : (n : ℕ) → n < 10 ^ 18 → run_of (decimal n) ≡ Some n
run-decimal n h =
    let wide : n < 10 ^ 64 = omega arith in
    sym (run_found (decimal n) (decimal_leads n wide).some (length-decimal-le_wide 18 n (lit< tt) h wide) (decimal_digits n wide)) ∙ ap Some (value-decimal n wide)

-- what stands after the numerator
tail_read : (b : Bool) (n d : ℕ) → nat_eq d 1 ≡ b → 0 < d → d < 10 ^ 18 → with_tail n (if b then [] else 47 ∷ decimal d) ≡ Some (over (pos n) d)
tail_read true n d e h k = ap (λ m. Some (over (pos n) m)) (sym (eqb-true d 1 e))
tail_read false n d e h k =
    let above : nat_eq d 0 ≡ false = ne_eqb d 0 (λ z. omega (arith, z, h)) in
    ap (option_and_then (marked n 47 (length (decimal d)))) (run-decimal d k) ∙ rw above

-- a numerator over a denominator
size_read : (n d : ℕ) → n < 10 ^ 18 → 0 < d → d < 10 ^ 18 → size_of (decimal n ++ denominator_text d) ≡ Some (over (pos n) d)
size_read n d h above k =
    let text = decimal n ++ denominator_text d in
    let place = position_or_len is_mark text in
    let s : SpellsSize text n d = record { top_fits = omega arith; above = above; bottom_fits = omega arith; spelled = refl } in
    ap₂ (λ front back. option_and_then (λ whole. with_tail whole back) (run_of front)) (numerator_is text n d place refl s) (denominator_is text n d place refl s)
    ∙ ap (option_and_then (λ whole. with_tail whole (denominator_text d))) (run-decimal n h)
    ∙ tail_read (nat_eq d 1) n d refl above k

-- digits do not begin with a minus
no_minus : (ds t : List ℕ) → 0 < length ds → AllDigits 10 ds → quantity_of (ds ++ t) ≡ size_of (ds ++ t)
no_minus [] t h all = absurd (omega arith)
no_minus (c ∷ cs) t h all =
    let r = digit_from_value c all.0 in
    let plain : nat_eq c 45 ≡ false = ne_eqb c 45 (λ e. omega (arith, e, r.0)) in
    rw plain

-- with its sign
signed_read : (z : ℤ) (d : ℕ) → unsigned_abs z < 10 ^ 18 → 0 < d → d < 10 ^ 18 → quantity_of (signed_decimal z ++ denominator_text d) ≡ Some (over z d)
signed_read (pos n) d h above k =
    let wide : n < 10 ^ 64 = omega arith in
    no_minus (decimal n) (denominator_text d) (decimal_leads n wide).some (decimal_digits n wide) ∙ size_read n d h above k
signed_read (negsuc n) d h above k =
    ap (option_map neg_ℚ) (size_read (suc n) d h above k) ∙ ap Some (sym (over-neg_ℤ (pos (suc n)) d above))

-- what `exact_string` writes is read by `parse_quantity` as the same quantity
pub exact_spelling_is_quantity : (q : ℚ) → unsigned_abs q.num < 10 ^ 18 → q.den < 10 ^ 18 → quantity_of (exact_spelling q) ≡ Some q
exact_spelling_is_quantity q h k = signed_read q.num q.den h q.positive k ∙ ap Some (over-own q)
