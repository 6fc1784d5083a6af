-- No field of the table needs quotes.
use Rattle.std.proofs.Common.{◌≡◌, ℕ, ℤ, zero, suc, pos, negsuc, ◌<◌, ◌/◌, ◌%◌, List, [], ◌∷◌, ◌++◌, Bool, true, false, Option, Some, None, refl, arith}
use Rattle.std.specs.Prelude.{◌==◌, if◌then◌else◌, codes}
use Rattle.std.specs.Fmt.{digit_glyph, digits_onto, digits, decimal, signed_decimal}
use Rattle.std.proofs.lemmas.Bool.Decides.{nat_tests}
use Rattle.std.proofs.lemmas.List.{append-nil}
use Rattle.std.proofs.lemmas.List.Folds.{list_any-append}
use Rattle.csv.specs.Writing.{default_writer, needs_quotes, needs_byte, field_text, fields_text, row_text, is_blank}
use Rattle.rational_theory.specs.Rational.{ℚ}
use Rattle.progression.specs.Street.{Street}
use Rattle.branch_and_bound.specs.declared.found.Stop.{Stop}
use Rattle.branch_and_bound.specs.declared.found.Stop.TheVariants.{Work, Wide}
use Rattle.branch_and_bound.specs.declared.found.Verdict.{Verdict}
use Rattle.branch_and_bound.specs.declared.found.Verdict.TheVariants.{Best, NoTiming, Stopped}
use Rattle.box_search.specs.declared.site.SitePart.{SitePart}
use Rattle.branch_tree.specs.Certified.{value_of}
use Rattle.quantity_text.specs.Exact.{exact_spelling, denominator_text}
use Rattle.cycle_sweep.specs.declared.row.SweepRow.{SweepRow}
use Rattle.cycle_sweep.specs.declared.row.SweepRow.TheVariants.{Outside, Searched}
use Rattle.cycle_sweep.specs.Table.{fields, number_text, verdict_text, stop_text, cause_text, bound_of, row_fields, header_fields, line}

-- no byte of the text calls for quotes
abbrev pub IsPlain : List ℕ → Type 0
IsPlain text = needs_quotes default_writer text ≡ false

-- ---- numbers
digit_plain : (n : ℕ) (rest : List ℕ) → n < 10 → IsPlain rest → IsPlain (digit_glyph false n ∷ rest)
digit_plain n rest h p = grind (arith, nat_tests)

either_plain : (b : Bool) (x y : List ℕ) → IsPlain x → IsPlain y → IsPlain (if b then x else y)
either_plain true x y p q = p
either_plain false x y p q = q

onto_plain : (k n : ℕ) (rest : List ℕ) → IsPlain rest → IsPlain (digits_onto k 10 false n rest)
onto_plain zero n rest p = p
onto_plain (suc k) n rest p =
    let one = digit_plain (n % 10) rest (omega arith) p in
    either_plain (n / 10 == 0) _ _ one (onto_plain k (n / 10) (digit_glyph false (n % 10) ∷ rest) one)

decimal_plain : (n : ℕ) → IsPlain (decimal n)
unfolding digits
decimal_plain n = onto_plain 64 n [] refl

joined_plain : (x y : List ℕ) → IsPlain x → IsPlain y → IsPlain (x ++ y)
joined_plain x y p q = rw (list_any-append (needs_byte default_writer) x y, p, q) refl

signed_plain : (z : ℤ) → IsPlain (signed_decimal z)
signed_plain (pos n) = decimal_plain n
signed_plain (negsuc n) = decimal_plain (suc n)

denominator_plain : (b : Bool) (d : ℕ) → IsPlain (if b then [] else 47 ∷ decimal d)
denominator_plain true d = refl
denominator_plain false d = decimal_plain d

exact_plain : (x : ℚ) → IsPlain (exact_spelling x)
exact_plain x = joined_plain (signed_decimal x.num) (denominator_text x.den) (signed_plain x.num) (denominator_plain (x.den == 1) x.den)

number_plain : (x : Option ℚ) → IsPlain (number_text x)
number_plain None = refl
number_plain (Some x) = exact_plain x

-- ---- words
verdict_plain : (v : Verdict SitePart) → IsPlain (verdict_text v)
verdict_plain Best = refl
verdict_plain NoTiming = refl
verdict_plain (Stopped stop) = refl

stop_plain : (s : Stop SitePart) → IsPlain (stop_text s)
stop_plain (Work spent) = refl
stop_plain (Wide site) = refl

cause_plain : (v : Verdict SitePart) → IsPlain (cause_text v)
cause_plain Best = refl
cause_plain NoTiming = refl
cause_plain (Stopped stop) = stop_plain stop

-- ---- records
field_is : (x : List ℕ) → IsPlain x → field_text default_writer x ≡ x
field_is x p = rw p refl

-- a record of plain fields is a line of the table
pub record_line : (x y z v w : List ℕ) → IsPlain x → IsPlain y → IsPlain z → IsPlain v → IsPlain w → row_text default_writer (fields x y z v w) ≡ line (fields x y z v w)
unfolding fields_text is_blank
record_line x y z v w p q r s t = rw (field_is x p, field_is y q, field_is z r, field_is v s, field_is w t, append-nil w) refl

pub header_line : row_text default_writer header_fields ≡ line header_fields
header_line = record_line (codes "cycle") (codes "verdict") (codes "weighted") (codes "bound") (codes "cause") refl refl refl refl refl

pub row_line : (a : Street) (row : SweepRow) → row_text default_writer (row_fields a row) ≡ line (row_fields a row)
row_line a (Outside cycle) = record_line _ _ _ _ _ (exact_plain cycle) refl refl refl refl
row_line a (Searched cycle found) =
    record_line _ _ _ _ _ (exact_plain cycle) (verdict_plain found.verdict) (number_plain (value_of a found.timing)) (number_plain (bound_of found.verdict found.bound (value_of a found.timing)))
    (cause_plain found.verdict)
