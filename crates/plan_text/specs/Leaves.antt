-- The rows that leaves name, listed once in their order, and the multipliers of a leaf: whole numbers over their least common denominator, or fractions.
use Rattle.std.specs.Prelude.{◌≡◌, ℕ, ℤ, pos, suc, ◌<◌, ◌^◌, ◌/◌, ◌*ℤ◌, ◌||◌, nat_le, unsigned_abs, List, [], ◌∷◌, Bool, true, Option, Some, if◌then◌else◌}
use Rattle.std.specs.Fmt.{signed_decimal}
use Rattle.std.specs.List.{list_any}
use Rattle.rational_theory.specs.Rational.{ℚ}
use Rattle.rational_theory.specs.Gcd.{lcm}
use Rattle.quantity_text.specs.Exact.{exact_spelling}
use Rattle.named_row.specs.Order.{is_below}
use Rattle.named_row.specs.declared.leaves.Weight.{Weight}
use Rattle.named_row.specs.declared.names.RowId.{RowId}
use Rattle.plan_text.specs.declared.form.LeafForm.{LeafForm}
use Rattle.plan_text.specs.declared.form.LeafForm.TheVariants.{Over, Plain}
use Rattle.certificate_model.specs.Families.{is_after}
use Rattle.certificate_model.specs.Warrants.{Node, SplitAt, LeafOf}

-- ---- the list of rows
-- a row at its place among rows that ascend, once
unfoldable pub with_row : RowId → List RowId → List RowId
with_row row [] = row ∷ []
with_row row (r ∷ rs) = if is_below row r then row ∷ r ∷ rs else (if is_below r row then r ∷ with_row row rs else r ∷ rs)

-- the rows of a leaf besides others
unfoldable pub with_rows : List Weight → List RowId → List RowId
with_rows [] rs = rs
with_rows (w ∷ ws) rs = with_rows ws (with_row w.row rs)

-- the rows of some leaf besides others, in their order
unfoldable pub rows_from : List RowId → List Node → List RowId
rows_from rs [] = rs
rows_from rs (SplitAt at ∷ ns) = rows_from rs ns
rows_from rs (LeafOf ws ∷ ns) = rows_from (with_rows ws rs) ns

abbrev pub rows_of : List Node → List RowId
rows_of ns = rows_from [] ns

-- rows ascend, from one after the last on
abbrev pub AscendRows : Option RowId → List RowId → Type 0
AscendRows last [] = Unit {0}
AscendRows last (r ∷ rs) = (is_after last r ≡ true) × AscendRows (Some r) rs

-- the place of a row in the list, counted from 1
unfoldable pub place_of_row : List RowId → RowId → ℕ
place_of_row [] row = 1
place_of_row (r ∷ rs) row = if is_below r row then suc (place_of_row rs row) else 1

-- ---- the multipliers of a leaf
-- the least common denominator of multipliers and a number
unfoldable pub denominator_from : ℕ → List Weight → ℕ
denominator_from d [] = d
denominator_from d (w ∷ ws) = denominator_from (lcm d w.by.den) ws

abbrev pub denominator_of : List Weight → ℕ
denominator_of ws = denominator_from 1 ws

-- a multiplier times a denominator that its own divides
abbrev pub times_denominator : ℕ → ℚ → ℤ
times_denominator d x = x.num *ℤ pos (d / x.den)

-- that is a number of 128 bits with a sign
abbrev pub IsWhole : ℕ → Weight → Type 0
IsWhole d w = unsigned_abs (times_denominator d w.by) < 2 ^ 127

-- a number that isn't one of 128 bits with a sign
abbrev pub is_wide : ℕ → Bool
is_wide n = nat_le (2 ^ 127) n

-- the denominator, or a whole number over it, isn't one of 128 bits
abbrev pub is_plain : List Weight → Bool
is_plain ws = is_wide (denominator_of ws) || list_any (λ (w : Weight). is_wide (unsigned_abs (times_denominator (denominator_of ws) w.by))) ws

-- how a leaf is written: whole numbers over a denominator, or fractions
unfoldable pub form_of : List Weight → LeafForm
form_of ws = if is_plain ws then Plain else Over (denominator_of ws)

-- a multiplier
abbrev pub multiplier_word : LeafForm → Weight → List ℕ
multiplier_word Plain w = exact_spelling w.by
multiplier_word (Over d) w = signed_decimal (times_denominator d w.by)

-- that a leaf of this form can have
abbrev pub IsWritable : LeafForm → Weight → Type 0
IsWritable Plain w = Unit {0}
IsWritable (Over d) w = (d < 2 ^ 127) × IsWhole d w
