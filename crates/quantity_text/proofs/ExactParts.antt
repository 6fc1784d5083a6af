-- Where an exact spelling ends the numerator's digits, and what follows them.
use Rattle.std.proofs.Common.{◌≡◌, ℕ, ◌^◌, ◌<◌, Bool, true, false, List, [], ◌∷◌, ◌++◌, length, take, drop, arith, refl, ◌∙◌, ap, ap₂}
use Rattle.std.specs.Prelude.{nat_eq, if◌then◌else◌}
use Rattle.std.specs.Fmt.{decimal}
use Rattle.std.specs.List.{position_or_len}
use Rattle.std.specs.Str.Parse.{AllDigits}
use Rattle.std.proofs.lemmas.Bool.{ne_eqb}
use Rattle.std.proofs.lemmas.Str.Parse.{digit_from_value}
use Rattle.std.proofs.Math.Seq.{take-append_seam, drop-append_seam}
use Rattle.quantity_text.specs.Exact.{denominator_text, SpellsSize}
use Rattle.quantity_text.specs.Quantity.{is_mark}
use Rattle.quantity_text.proofs.Numerals.{decimal_digits}

-- among digits there is no mark
place_at_digits : (ds t : List ℕ) → AllDigits 10 ds → position_or_len is_mark t ≡ 0 → position_or_len is_mark (ds ++ t) ≡ length ds
place_at_digits [] t all z = z
place_at_digits (c ∷ cs) t all z =
    let r = digit_from_value c all.0 in
    let point : nat_eq c 46 ≡ false = ne_eqb c 46 (λ e. omega (arith, e, r.0)) in
    let slash : nat_eq c 47 ≡ false = ne_eqb c 47 (λ e. omega (arith, e, r.0)) in
    rw (point, slash) (omega (arith, place_at_digits cs t all.1 z))

-- a denominator's text is empty or begins with the mark
place_at_tail : (b : Bool) (ds : List ℕ) → position_or_len is_mark (if b then [] else 47 ∷ ds) ≡ 0
place_at_tail true ds = refl
place_at_tail false ds = refl

-- numbers of 128 bits have at most 64 digits
pub wide : (n : ℕ) → n < 2 ^ 127 → n < 10 ^ 64
wide n h = omega (arith, h)

-- the first mark stands after the numerator's digits
size_place : (size : List ℕ) (top bottom : ℕ) → SpellsSize size top bottom → position_or_len is_mark size ≡ length (decimal top)
size_place size top bottom s =
    ap (λ x. position_or_len is_mark x) s.spelled
    ∙ place_at_digits (decimal top) (denominator_text bottom) (decimal_digits top (wide top s.top_fits)) (place_at_tail (nat_eq bottom 1) (decimal bottom))

-- the digits up to the first mark are the numerator's
pub numerator_is : (size : List ℕ) (top bottom place : ℕ) → place ≡ position_or_len is_mark size → SpellsSize size top bottom → take place size ≡ decimal top
numerator_is size top bottom place p s =
    ap₂ (λ k x. take k x) (p ∙ size_place size top bottom s) s.spelled ∙ take-append_seam (decimal top) (denominator_text bottom)

-- and what follows is the denominator's text
pub denominator_is : (size : List ℕ) (top bottom place : ℕ) → place ≡ position_or_len is_mark size → SpellsSize size top bottom → drop place size ≡ denominator_text bottom
denominator_is size top bottom place p s =
    ap₂ (λ k x. drop k x) (p ∙ size_place size top bottom s) s.spelled ∙ drop-append_seam (decimal top) (denominator_text bottom)
