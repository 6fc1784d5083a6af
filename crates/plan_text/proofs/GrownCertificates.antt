-- The text of a certificate up to its last line, and the same with more bytes.
use Rattle.std.proofs.Common.{◌≡◌, ℕ, suc, zero, ◌+◌, ◌-◌, ◌^◌, ◌<◌, ◌≤◌, List, [], ◌∷◌, ◌++◌, length, Option, None, Some, Result, Ok, refl, ap, inl, inr, arith}
use Rattle.std.specs.Prelude.{if◌then◌else◌, slice_get}
use Rattle.rational_theory.specs.Rational.{ℚ}
use Rattle.named_row.specs.declared.leaves.Weight.{Weight}
use Rattle.named_row.specs.declared.names.RowId.{RowId}
use Rattle.search_box.specs.declared.span.At.TheVariants.{Loop, Turn}
use Rattle.plan_text.specs.declared.fault.TextFault.TheVariants.{Ended, Shape, Number, Order}
use Rattle.plan_text.specs.declared.fault.BadText.{BadText}
use Rattle.plan_text.specs.declared.form.LeafForm.{LeafForm}
use Rattle.plan_text.specs.declared.form.LeafForm.TheVariants.{Over, Plain}
use Rattle.plan_text.specs.declared.tree.NodeHead.{NodeHead}
use Rattle.plan_text.specs.declared.tree.NodeHead.TheVariants as heads
use Rattle.certificate_model.specs.declared.certificate.Claim.{Claim}
use Rattle.certificate_model.specs.declared.certificate.Claim.TheVariants.{Best, NoTiming, Stopped}
use Rattle.certificate_model.specs.Words.{is_text}
use Rattle.plan_text.specs.Numbers.{number}
use Rattle.plan_text.specs.Fractions.{integer, exact}
use Rattle.plan_text.specs.Lines.{◌>>=◌, fault, line_at, words_at, fixed_at, ranged}
use Rattle.plan_text.specs.TimingTexts.{TimingText}
use Rattle.certificate_model.specs.Families.{Table, family_in, is_lone_in, is_after}
use Rattle.certificate_model.specs.Warrants.{Node, LeafOf}
use Rattle.plan_text.specs.CertificateText.{best_line, none_line, open_line, no_timing_line, value_key, bound_key, split_key, loop_key, turn_key, leaf_key}
use Rattle.plan_text.specs.SecondText.{rows_key}
use Rattle.plan_text.specs.Namings.{Naming, Named, Listed, fractions_key, is_form}
use Rattle.plan_text.specs.CertificateReading.{or_number, range_of, index_of, fraction_of, lone_row, indexed_row, in_family, row_of, listed_row}
use Rattle.plan_text.specs.CertificateReading.{row_in, over_whole, multiplier_of, cut_last, weight_by, weight_of, read_after, rising_at, own_row}
use Rattle.plan_text.specs.CertificateReading.{last_row, row_of_weight, weights_at, names_at, row_count, rows_at, split_of, leaf_count, above_zero}
use Rattle.plan_text.specs.CertificateReading.{over_head, head_of, formed, with_last, leaf_at, rest_of, node_at, owed_after, nodes_at, Beginning}
use Rattle.plan_text.specs.CertificateReading.{best_at, begins_with, found_at, missing_at, open_at, verdict_of, claim_at}
use Rattle.plan_text.specs.FirstBad.{lines_in}
use Rattle.plan_text.proofs.LeafLines.{last_then, lines_then, leaf_of_none, leaf_of_some}
use Rattle.plan_text.proofs.NodeLines.{node_lengths}
use Rattle.plan_text.proofs.Grown.{Part, Grows, Reaches, IsAt, grows_by, grows_then, reaches_then, at_then, at_if, at_choice, tested, tested_later}
use Rattle.plan_text.proofs.Grown.{chosen, chosen_later, after_line, one_and, numbered, line_grows, line_later, words_grow}
use Rattle.plan_text.proofs.Grown.{words_later, fixed_grows, fixed_later, ranged_here}
use Rattle.plan_text.proofs.TimingLaws.{TimingLaws}

-- ---- the tests of one line

or_number_here : {A : Type 0} (line : ℕ) (o : Option A) → IsAt line (or_number line o)
or_number_here line None = (refl, tt)
or_number_here line (Some x) = tt

index_here : (line : ℕ) (w : List ℕ) → IsAt line (index_of line w)
unfolding index_of
index_here line w = ranged_here (range_of line 1 (2 ^ 32 - 1)) (number w)

fraction_here : (key : List ℕ) (line : ℕ) (ws : List (List ℕ)) → IsAt line (fraction_of key line ws)
unfolding fraction_of
fraction_here key line [] = (refl, tt)
fraction_here key line (k ∷ []) = (refl, tt)
fraction_here key line (k ∷ w ∷ []) = at_if line (is_text k key) Shape (or_number line (exact w)) tt (or_number_here line (exact w))
fraction_here key line (k ∷ w ∷ v ∷ ws) = (refl, tt)

lone_here : (line family : ℕ) (ws : List (List ℕ)) → IsAt line (lone_row line family ws)
unfolding lone_row
lone_here line family [] = tt
lone_here line family (x ∷ ws) = (refl, tt)

indexed_here : (line family : ℕ) (ws : List (List ℕ)) → IsAt line (indexed_row line family ws)
unfolding indexed_row
indexed_here line family [] = (refl, tt)
indexed_here line family (i ∷ []) = at_then line (index_of line i) (λ index. Ok (record { family = family; index = index })) (index_here line i) (λ index. tt)
indexed_here line family (i ∷ x ∷ ws) = (refl, tt)

in_family_here : (table : Table) (line : ℕ) (ws : List (List ℕ)) (o : Option ℕ) → IsAt line (in_family table line ws o)
in_family_here table line ws None = (refl, tt)
in_family_here table line ws (Some family) = at_choice line (is_lone_in table family) (lone_row line family ws) (indexed_row line family ws) (lone_here line family ws) (indexed_here line family ws)

pub row_here : (table : Table) (line : ℕ) (ws : List (List ℕ)) → IsAt line (row_of table line ws)
unfolding row_of
row_here table line [] = (refl, tt)
row_here table line (name ∷ ws) = in_family_here table line ws (family_in table name)

listed_here : (rows : List RowId) (line : ℕ) (ws : List (List ℕ)) → IsAt line (listed_row rows line ws)
unfolding listed_row
listed_here rows line [] = (refl, tt)
listed_here rows line (i ∷ []) =
    at_then line (ranged (range_of line 1 (2 ^ 64 - 1)) (number i)) (λ place. or_number line (slice_get rows (place - 1)))
    (ranged_here (range_of line 1 (2 ^ 64 - 1)) (number i)) (λ place. or_number_here line (slice_get rows (place - 1)))
listed_here rows line (i ∷ x ∷ ws) = (refl, tt)

row_in_here : (names : Naming) (line : ℕ) (ws : List (List ℕ)) → IsAt line (row_in names line ws)
row_in_here (Named table) line ws = row_here table line ws
row_in_here (Listed rows) line ws = listed_here rows line ws

multiplier_here : (form : LeafForm) (line : ℕ) (w : List ℕ) → IsAt line (multiplier_of form line w)
unfolding multiplier_of
multiplier_here Plain line w = or_number_here line (exact w)
multiplier_here (Over d) line w = or_number_here line (over_whole d (exact w))

weight_by_here : (names : Naming) (form : LeafForm) (line : ℕ) (o : Option (List (List ℕ) × List ℕ)) → IsAt line (weight_by names form line o)
weight_by_here names form line None = (refl, tt)
weight_by_here names form line (Some p) =
    at_then line (row_in names line p.0) (λ row. multiplier_of form line p.1 >>= λ by. Ok (record { row = row; by = by })) (row_in_here names line p.0)
    (λ row. at_then line (multiplier_of form line p.1) (λ by. Ok (record { row = row; by = by })) (multiplier_here form line p.1) (λ by. tt))

weight_here : (names : Naming) (form : LeafForm) (line : ℕ) (ws : List (List ℕ)) → IsAt line (weight_of names form line ws)
unfolding weight_of
weight_here names form line ws = weight_by_here names form line (cut_last ws)

split_here : (line : ℕ) (kind i place : List ℕ) → IsAt line (split_of line kind i place)
unfolding split_of
split_here line kind i place =
    at_choice line (is_text kind loop_key) (index_of line i >>= λ link. or_number line (integer place) >>= λ at. Ok (Loop link at))
    (if is_text kind turn_key then (index_of line i >>= λ signal. ranged (range_of line 0 (2 ^ 32 - 1)) (number place) >>= λ rank. Ok (Turn signal rank)) else fault line Shape)
    (at_then line (index_of line i) (λ link. or_number line (integer place) >>= λ at. Ok (Loop link at)) (index_here line i)
    (λ link. at_then line (or_number line (integer place)) (λ at. Ok (Loop link at)) (or_number_here line (integer place)) (λ at. tt)))
    (at_if line (is_text kind turn_key) Shape (index_of line i >>= λ signal. ranged (range_of line 0 (2 ^ 32 - 1)) (number place) >>= λ rank. Ok (Turn signal rank)) tt
    (at_then line (index_of line i) (λ signal. ranged (range_of line 0 (2 ^ 32 - 1)) (number place) >>= λ rank. Ok (Turn signal rank)) (index_here line i)
    (λ signal. at_then line (ranged (range_of line 0 (2 ^ 32 - 1)) (number place)) (λ rank. Ok (Turn signal rank)) (ranged_here (range_of line 0 (2 ^ 32 - 1)) (number place)) (λ rank. tt))))

count_of_leaf : (line : ℕ) (n : List ℕ) (form : LeafForm) → IsAt line (leaf_count line n >>= λ count. Ok (heads.Leaf count form))
count_of_leaf line n form = at_then line (leaf_count line n) (λ count. Ok (heads.Leaf count form)) (ranged_here (range_of line 0 10000) (number n)) (λ count. tt)

over_here : (names : Naming) (line : ℕ) (key d n : List ℕ) → IsAt line (over_head names line key d n)
unfolding over_head
over_here (Named table) line key d n = (refl, tt)
over_here (Listed rows) line key d n =
    at_if line (is_text key leaf_key) Shape (or_number line (above_zero (exact d)) >>= λ denominator. leaf_count line n >>= λ count. Ok (heads.Leaf count (Over denominator))) tt
    (at_then line (or_number line (above_zero (exact d))) (λ denominator. leaf_count line n >>= λ count. Ok (heads.Leaf count (Over denominator)))
    (or_number_here line (above_zero (exact d))) (λ denominator. count_of_leaf line n (Over denominator)))

head_here : (names : Naming) (line : ℕ) (ws : List (List ℕ)) → IsAt line (head_of names line ws)
unfolding head_of
head_here names line [] = (refl, tt)
head_here names line (key ∷ []) = (refl, tt)
head_here names line (key ∷ n ∷ []) = at_if line (is_text key (fractions_key names)) Shape (leaf_count line n >>= λ count. Ok (heads.Leaf count Plain)) tt (count_of_leaf line n Plain)
head_here names line (key ∷ kind ∷ i ∷ []) = over_here names line key kind i
head_here names line (key ∷ kind ∷ i ∷ place ∷ []) =
    at_if line (is_text key split_key) Shape (split_of line kind i place >>= λ at. Ok (heads.Split at)) tt
    (at_then line (split_of line kind i place) (λ at. Ok (heads.Split at)) (split_here line kind i place) (λ at. tt))
head_here names line (key ∷ kind ∷ i ∷ place ∷ x ∷ ws) = (refl, tt)

-- ---- lines whose rows ascend

module _ {A : Type 0} (row : A → RowId) (read : ℕ → List (List ℕ) → Result A BadText) (here : (line : ℕ) (ws : List (List ℕ)) → IsAt line (read line ws)) where
  after_here : (above : Option RowId) (line : ℕ) (ws : List (List ℕ)) → IsAt line (read_after row read above line ws)
  unfolding read_after
  after_here above line ws = at_then line (read line ws) (λ x. if is_after above (row x) then Ok x else fault line Order) (here line ws) (λ x. at_if line (is_after above (row x)) Order (Ok x) tt tt)

  abbrev and_item : A → List A × List ℕ → Result (List A × List ℕ) BadText
  and_item x xs = Ok (x ∷ xs.0, xs.1)

  abbrev items_after : ℕ → ℕ → List ℕ → A → Result (List A × List ℕ) BadText
  items_after n line bytes x = rising_at row read n (Some (row x)) (line + 1) bytes >>= and_item x

  abbrev item_then : ℕ → Option RowId → ℕ → List (List ℕ) × List ℕ → Result (List A × List ℕ) BadText
  item_then n above line l = read_after row read above line l.0 >>= items_after n line l.1

  rising_later : (count : ℕ) (above : Option RowId) (last line : ℕ) (bytes : List ℕ) → last < line → Reaches (one_and (line + count)) last (rising_at row read count above line bytes)
  unfolding rising_at
  rising_later zero above last line bytes late = omega arith
  rising_later (suc n) above last line bytes late =
      reaches_then (one_and (line + 1)) (one_and (line + suc n)) last (words_at line bytes) (item_then n above line) (words_later last line bytes (omega arith))
      (λ l more. tested_later (one_and (line + suc n)) last line (read_after row read above line l.0) (items_after n line l.1) (after_here above line l.0) (omega arith)
      (λ w. reaches_then (one_and (line + 1 + n)) (one_and (line + suc n)) last (rising_at row read n (Some (row w)) (line + 1) l.1) (and_item w)
      (rising_later n (Some (row w)) last (line + 1) l.1 more) (λ ws k. omega arith)))

  rising_grow : (count : ℕ) (above : Option RowId) (last line : ℕ) (bytes z : List ℕ) → line + lines_in bytes ≡ last
      → Grows (one_and (line + count)) last z (rising_at row read count above line bytes) (rising_at row read count above line (bytes ++ z))
  unfolding rising_at
  rising_grow zero above last line bytes z e = (omega arith, refl)
  rising_grow (suc n) above last line bytes z e =
      grows_then (one_and (line + 1)) (one_and (line + suc n)) last z (words_at line bytes) (words_at line (bytes ++ z)) (item_then n above line) (words_grow last line bytes z e)
      (λ l end. tested (one_and (line + suc n)) last line z (read_after row read above line l.0) (items_after n line l.1) (items_after n line (l.1 ++ z)) (after_here above line l.0) (omega arith)
      (λ w. grows_then (one_and (line + 1 + n)) (one_and (line + suc n)) last z (rising_at row read n (Some (row w)) (line + 1) l.1)
      (rising_at row read n (Some (row w)) (line + 1) (l.1 ++ z)) (and_item w) (rising_grow n (Some (row w)) last (line + 1) l.1 z end) (λ ws k. (omega arith, refl)) (λ ws k. omega arith)))
      (λ l more. tested_later (one_and (line + suc n)) last line (read_after row read above line l.0) (items_after n line l.1) (after_here above line l.0) (omega arith)
      (λ w. reaches_then (one_and (line + 1 + n)) (one_and (line + suc n)) last (rising_at row read n (Some (row w)) (line + 1) l.1) (and_item w)
      (rising_later n (Some (row w)) last (line + 1) l.1 more) (λ ws k. omega arith)))

-- ---- the list of rows

row_count_here : (line : ℕ) (ws : List (List ℕ)) → IsAt line (row_count line ws)
unfolding row_count
row_count_here line [] = (refl, tt)
row_count_here line (key ∷ []) = (refl, tt)
row_count_here line (key ∷ n ∷ []) = at_if line (is_text key rows_key) Shape (ranged (range_of line 0 (2 ^ 64 - 1)) (number n)) tt (ranged_here (range_of line 0 (2 ^ 64 - 1)) (number n))
row_count_here line (key ∷ n ∷ x ∷ ws) = (refl, tt)

abbrev as_rows : ℕ → ℕ → List RowId × List ℕ → Result (List RowId × ℕ × List ℕ) BadText
as_rows line n rs = Ok (rs.0, line + 1 + n, rs.1)

abbrev rows_rest : Table → ℕ → List ℕ → ℕ → Result (List RowId × ℕ × List ℕ) BadText
rows_rest table line bytes n = names_at table n None (line + 1) bytes >>= as_rows line n

abbrev rows_then : Table → ℕ → List (List ℕ) × List ℕ → Result (List RowId × ℕ × List ℕ) BadText
rows_then table line l = row_count line l.0 >>= rows_rest table line l.1

rows_then_later : (table : Table) (last line : ℕ) (l : List (List ℕ) × List ℕ) → last < line + 1 → Reaches numbered last (rows_then table line l)
rows_then_later table last line l late =
    tested_later numbered last line (row_count line l.0) (rows_rest table line l.1) (row_count_here line l.0) (omega arith)
    (λ n. reaches_then (one_and (line + 1 + n)) numbered last (names_at table n None (line + 1) l.1) (as_rows line n)
    (rising_later own_row (row_of table) (row_here table) n None last (line + 1) l.1 late) (λ rs k. k))

pub rows_later : (table : Table) (last line : ℕ) (bytes : List ℕ) → last ≤ line → Reaches numbered last (rows_at table line bytes)
unfolding rows_at
rows_later table last line bytes late = reaches_then (one_and (line + 1)) numbered last (words_at line bytes) (rows_then table line) (words_later last line bytes late)
    (rows_then_later table last line)

pub rows_grow : (table : Table) (last line : ℕ) (bytes z : List ℕ) → line + lines_in bytes ≡ last → Grows numbered last z (rows_at table line bytes) (rows_at table line (bytes ++ z))
unfolding rows_at
rows_grow table last line bytes z e =
    grows_then (one_and (line + 1)) numbered last z (words_at line bytes) (words_at line (bytes ++ z)) (rows_then table line) (words_grow last line bytes z e)
    (λ l end. tested numbered last line z (row_count line l.0) (rows_rest table line l.1) (rows_rest table line (l.1 ++ z)) (row_count_here line l.0) (omega arith)
    (λ n. grows_then (one_and (line + 1 + n)) numbered last z (names_at table n None (line + 1) l.1) (names_at table n None (line + 1) (l.1 ++ z))
    (as_rows line n) (rising_grow own_row (row_of table) (row_here table) n None last (line + 1) l.1 z end) (λ rs k. (k, refl)) (λ rs k. k)))
    (rows_then_later table last line)

-- ---- nodes

formed_here : (names : Naming) (form : LeafForm) (line : ℕ) (ws : List Weight) → IsAt line (formed names form line ws)
formed_here names form line ws = at_if line (is_form names form ws) Number (Ok ws) tt tt

last_here : (names : Naming) (form : LeafForm) (line : ℕ) (ws : List Weight) (w : Weight) → IsAt line (with_last names form line ws w)
unfolding with_last
last_here names form line ws w =
    let after = is_after (last_row row_of_weight None ws) w.row in
    at_then line (formed names form line (ws ++ w ∷ [])) (λ all. if after then Ok all else fault line Order) (formed_here names form line (ws ++ w ∷ [])) (λ all. at_if line after Order (Ok all) tt tt)

abbrev and_rest : List ℕ → List Weight → Result (List Weight × List ℕ) BadText
and_rest rest ws = Ok (ws, rest)

abbrev weight_then : Naming → LeafForm → ℕ → List Weight → List ℕ → Weight → Result (List Weight × List ℕ) BadText
weight_then names form line ws rest w = with_last names form line ws w >>= and_rest rest

-- the line after the last one has this number
last_later : (names : Naming) (form : LeafForm) (next line last : ℕ) (ws : List Weight) (l : List (List ℕ) × List ℕ) → next ≡ line + 1 → last < line + 1
    → Reaches (one_and next) last (last_then names form line ws l)
last_later names form next line last ws l is here =
    tested_later (one_and next) last line (weight_of names form line l.0) (weight_then names form line ws l.1) (weight_here names form line l.0) (omega arith)
    (λ w. tested_later (one_and next) last line (with_last names form line ws w) (and_rest l.1) (last_here names form line ws w) (omega arith) (λ all. omega arith))

lines_later : (names : Naming) (form : LeafForm) (next line last : ℕ) (ws : List Weight × List ℕ) → next ≡ line + 1 → last < line + 1 → Reaches (one_and next) last (lines_then names form line ws)
lines_later names form next line last ws is here =
    reaches_then (one_and (line + 1)) (one_and next) last (words_at line ws.1) (last_then names form line ws.0) (words_later last line ws.1 (omega arith))
    (λ l more. last_later names form next line last ws.0 l is more)

lines_grow : (names : Naming) (form : LeafForm) (next line last : ℕ) (ws : List Weight × List ℕ) (z : List ℕ) → next ≡ line + 1 → line + lines_in ws.1 ≡ last
    → Grows (one_and next) last z (lines_then names form line ws) (lines_then names form line (ws.0, ws.1 ++ z))
lines_grow names form next line last ws z is e =
    grows_then (one_and (line + 1)) (one_and next) last z (words_at line ws.1) (words_at line (ws.1 ++ z)) (last_then names form line ws.0) (words_grow last line ws.1 z e)
    (λ l end. tested (one_and next) last line z (weight_of names form line l.0) (weight_then names form line ws.0 l.1) (weight_then names form line ws.0 (l.1 ++ z))
    (weight_here names form line l.0) (omega arith)
    (λ w. tested (one_and next) last line z (with_last names form line ws.0 w) (and_rest l.1) (and_rest (l.1 ++ z)) (last_here names form line ws.0 w) (omega arith) (λ all. (omega arith, refl))))
    (λ l more. last_later names form next line last ws.0 l is more)

leaf_later : (names : Naming) (form : LeafForm) (count last line : ℕ) (bytes : List ℕ) → last < line + 1 → Reaches (one_and (line + 1 + count)) last (leaf_at names form count line bytes)
leaf_later names form zero last line bytes here =
    rw (leaf_of_none names form line bytes) (tested_later (one_and (line + 1 + zero)) last line (formed names form line []) (and_rest bytes)
    (formed_here names form line []) (omega arith) (λ ws. omega arith))
leaf_later names form (suc n) last line bytes here =
    rw (leaf_of_some names form n line bytes) (reaches_then (one_and (line + 1 + n)) (one_and (line + 1 + suc n)) last (weights_at names form n None (line + 1) bytes)
    (lines_then names form (line + suc n)) (rising_later row_of_weight (weight_of names form) (weight_here names form) n None last (line + 1) bytes here)
    (λ ws more. lines_later names form (line + 1 + suc n) (line + suc n) last ws (omega arith) (omega arith)))

leaf_grows : (names : Naming) (form : LeafForm) (count last line : ℕ) (bytes z : List ℕ) → line + 1 + lines_in bytes ≡ last
    → Grows (one_and (line + 1 + count)) last z (leaf_at names form count line bytes) (leaf_at names form count line (bytes ++ z))
leaf_grows names form zero last line bytes z e =
    rw (leaf_of_none names form line bytes, leaf_of_none names form line (bytes ++ z)) (tested (one_and (line + 1 + zero)) last line z (formed names form line [])
    (and_rest bytes) (and_rest (bytes ++ z)) (formed_here names form line []) (omega arith) (λ ws. (omega arith, refl)))
leaf_grows names form (suc n) last line bytes z e =
    rw (leaf_of_some names form n line bytes, leaf_of_some names form n line (bytes ++ z))
    (grows_then (one_and (line + 1 + n)) (one_and (line + 1 + suc n)) last z (weights_at names form n None (line + 1) bytes)
    (weights_at names form n None (line + 1) (bytes ++ z)) (lines_then names form (line + suc n))
    (rising_grow row_of_weight (weight_of names form) (weight_here names form) n None last (line + 1) bytes z e)
    (λ ws end. lines_grow names form (line + 1 + suc n) (line + suc n) last ws z (omega arith) (omega arith))
    (λ ws here. lines_later names form (line + 1 + suc n) (line + suc n) last ws (omega arith) (omega arith)))

abbrev as_leaf : ℕ → ℕ → List Weight × List ℕ → Result (Node × ℕ × List ℕ) BadText
as_leaf line count ws = Ok (LeafOf ws.0, line + 1 + count, ws.1)

rest_later : (names : Naming) (head : NodeHead) (last line : ℕ) (bytes : List ℕ) → last < line + 1 → Reaches numbered last (rest_of names head line bytes)
unfolding rest_of
rest_later names (heads.Split at) last line bytes here = here
rest_later names (heads.Leaf count form) last line bytes here =
    reaches_then (one_and (line + 1 + count)) numbered last (leaf_at names form count line bytes) (as_leaf line count) (leaf_later names form count last line bytes here) (λ ws more. more)

rest_grows : (names : Naming) (head : NodeHead) (last line : ℕ) (bytes z : List ℕ) → line + 1 + lines_in bytes ≡ last
    → Grows numbered last z (rest_of names head line bytes) (rest_of names head line (bytes ++ z))
unfolding rest_of
rest_grows names (heads.Split at) last line bytes z e = (e, refl)
rest_grows names (heads.Leaf count form) last line bytes z e =
    grows_then (one_and (line + 1 + count)) numbered last z (leaf_at names form count line bytes) (leaf_at names form count line (bytes ++ z))
    (as_leaf line count) (leaf_grows names form count last line bytes z e) (λ ws end. (end, refl)) (λ ws here. here)

abbrev head_then : Naming → ℕ → List (List ℕ) × List ℕ → Result (Node × ℕ × List ℕ) BadText
head_then names line l = head_of names line l.0 >>= λ head. rest_of names head line l.1

head_later : (names : Naming) (last line : ℕ) (l : List (List ℕ) × List ℕ) → last < line + 1 → Reaches numbered last (head_then names line l)
head_later names last line l here = tested_later numbered last line (head_of names line l.0) (λ head. rest_of names head line l.1) (head_here names line l.0)
    (omega arith) (λ head. rest_later names head last line l.1 here)

node_later : (names : Naming) (last line : ℕ) (bytes : List ℕ) → last ≤ line → Reaches numbered last (node_at names line bytes)
unfolding node_at
node_later names last line bytes here = reaches_then (one_and (line + 1)) numbered last (words_at line bytes) (head_then names line) (words_later last line bytes here) (head_later names last line)

node_grows : (names : Naming) (last line : ℕ) (bytes z : List ℕ) → line + lines_in bytes ≡ last → Grows numbered last z (node_at names line bytes) (node_at names line (bytes ++ z))
unfolding node_at
node_grows names last line bytes z e =
    grows_then (one_and (line + 1)) numbered last z (words_at line bytes) (words_at line (bytes ++ z)) (head_then names line) (words_grow last line bytes z e)
    (λ l end. tested numbered last line z (head_of names line l.0) (λ head. rest_of names head line l.1) (λ head. rest_of names head line (l.1 ++ z))
    (head_here names line l.0) (omega arith) (λ head. rest_grows names head last line l.1 z end))
    (head_later names last line)

abbrev and_node : Node → List Node × ℕ × List ℕ → Result (List Node × ℕ × List ℕ) BadText
and_node n ns = Ok (n ∷ ns.0, ns.1, ns.2)

abbrev node_then : Naming → ℕ → ℕ → Node × ℕ × List ℕ → Result (List Node × ℕ × List ℕ) BadText
node_then names steps others n = nodes_at names steps (owed_after n.0 others) n.1 n.2 >>= and_node n.0

pub nodes_later : (names : Naming) (steps owed last line : ℕ) (bytes : List ℕ) → last < line → Reaches numbered last (nodes_at names steps owed line bytes)
unfolding nodes_at
nodes_later names zero zero last line bytes here = here
nodes_later names (suc steps) zero last line bytes here = here
nodes_later names zero (suc others) last line bytes here = omega arith
nodes_later names (suc steps) (suc others) last line bytes here =
    reaches_then numbered numbered last (node_at names line bytes) (node_then names steps others) (node_later names last line bytes (omega arith))
    (λ n more. reaches_then numbered numbered last (nodes_at names steps (owed_after n.0 others) n.1 n.2) (and_node n.0)
    (nodes_later names steps (owed_after n.0 others) last n.1 n.2 more) (λ ns k. k))

no_lines : (bytes : List ℕ) → length bytes ≤ 0 → lines_in bytes ≡ 0
no_lines [] none = refl
no_lines (b ∷ bs) none = absurd (omega arith)

pub nodes_grow : (names : Naming) (steps owed last line : ℕ) (bytes z : List ℕ) → length bytes ≤ steps → line + lines_in bytes ≡ last
    → Grows numbered last z (nodes_at names steps owed line bytes) (nodes_at names steps owed line (bytes ++ z))
unfolding nodes_at
nodes_grow names zero zero last line bytes z few e = (e, refl)
nodes_grow names (suc steps) zero last line bytes z few e = (e, refl)
nodes_grow names zero (suc others) last line bytes z few e =
    let none = no_lines bytes few in
    let is : line ≡ last = omega arith in
    inr (ap (λ (n : ℕ). record { line = n; kind = Ended }) is, omega arith)
nodes_grow names (suc steps) (suc others) last line bytes z few e =
    grows_by numbered numbered last z (node_at names line bytes) (node_at names line (bytes ++ z)) (node_then names steps others) (node_then names steps others) (node_grows names last line bytes z e)
    (λ n is end. let shorter = (node_lengths names line bytes n is).shorter in
    grows_then numbered numbered last z (nodes_at names steps (owed_after n.0 others) n.1 n.2) (nodes_at names steps (owed_after n.0 others) n.1 (n.2 ++ z))
    (and_node n.0) (nodes_grow names steps (owed_after n.0 others) last n.1 n.2 z (omega arith) end) (λ ns k. (k, refl)) (λ ns k. k))
    (λ n more. reaches_then numbered numbered last (nodes_at names steps (owed_after n.0 others) n.1 n.2) (and_node n.0)
    (nodes_later names steps (owed_after n.0 others) last n.1 n.2 more) (λ ns k. k))

-- ---- the claim

abbrev pub opened : {T : Type 0} → Part (Beginning T)
opened = record { next = λ x. x.2; rest = λ x. x.3; more = λ z x. (x.0, x.1, x.2, x.3 ++ z) }

module _ {T : Type 0} (text : TimingText T) (laws : TimingLaws text) where
  abbrev with_timing : Claim → ℕ → T × List ℕ → Result (Beginning T) BadText
  with_timing claim line timing = Ok (claim, Some timing.0, line, timing.1)

  abbrev best_then : List (List ℕ) × List ℕ → Result (Beginning T) BadText
  best_then l = fraction_of value_key 3 l.0 >>= λ value. text.read 4 l.1 >>= with_timing (Best value) (4 + text.height)

  timing_grows : (claim : Claim) (last line : ℕ) (bytes z : List ℕ) → line + lines_in bytes ≡ last
      → Grows opened last z (text.read line bytes >>= with_timing claim (line + text.height)) (text.read line (bytes ++ z) >>= with_timing claim (line + text.height))
  timing_grows claim last line bytes z e = grows_then (one_and (line + text.height)) opened last z (text.read line bytes) (text.read line (bytes ++ z))
      (with_timing claim (line + text.height)) ((laws.reads line).grows last bytes z e) (λ t end. (end, refl)) (λ t here. here)

  timing_later : (claim : Claim) (last line : ℕ) (bytes : List ℕ) → last ≤ line → Reaches opened last (text.read line bytes >>= with_timing claim (line + text.height))
  timing_later claim last line bytes here = reaches_then (one_and (line + text.height)) opened last (text.read line bytes) (with_timing claim (line + text.height))
      ((laws.reads line).later last bytes here) (λ t more. more)

  best_grows : (last : ℕ) (bytes z : List ℕ) → 3 + lines_in bytes ≡ last → Grows opened last z (best_at text bytes) (best_at text (bytes ++ z))
  unfolding best_at
  best_grows last bytes z e =
      grows_then (one_and 4) opened last z (words_at 3 bytes) (words_at 3 (bytes ++ z)) best_then (words_grow last 3 bytes z e)
      (λ l end. tested opened last 3 z (fraction_of value_key 3 l.0) (λ value. text.read 4 l.1 >>= with_timing (Best value) (4 + text.height))
      (λ value. text.read 4 (l.1 ++ z) >>= with_timing (Best value) (4 + text.height)) (fraction_here value_key 3 l.0) (omega arith) (λ value. timing_grows (Best value) last 4 l.1 z end))
      (λ l here. tested_later opened last 3 (fraction_of value_key 3 l.0) (λ value. text.read 4 l.1 >>= with_timing (Best value) (4 + text.height))
      (fraction_here value_key 3 l.0) (omega arith) (λ value. timing_later (Best value) last 4 l.1 (omega arith)))

  best_later : (last : ℕ) (bytes : List ℕ) → last ≤ 3 → Reaches opened last (best_at text bytes)
  unfolding best_at
  best_later last bytes before =
      reaches_then (one_and 4) opened last (words_at 3 bytes) best_then (words_later last 3 bytes before)
      (λ l here. tested_later opened last 3 (fraction_of value_key 3 l.0) (λ value. text.read 4 l.1 >>= with_timing (Best value) (4 + text.height))
      (fraction_here value_key 3 l.0) before (λ value. timing_later (Best value) last 4 l.1 (omega arith)))

  found_grows : (bound : ℚ) (ws : List (List ℕ)) (last : ℕ) (bytes z : List ℕ) → 5 + lines_in bytes ≡ last → Grows opened last z (found_at text bound ws bytes) (found_at text bound ws (bytes ++ z))
  unfolding found_at
  found_grows bound ws last bytes z e =
      tested opened last 4 z (fraction_of value_key 4 ws) (λ value. text.read 5 bytes >>= with_timing (Stopped bound (Some value)) (5 + text.height))
      (λ value. text.read 5 (bytes ++ z) >>= with_timing (Stopped bound (Some value)) (5 + text.height)) (fraction_here value_key 4 ws) (omega arith)
      (λ value. timing_grows (Stopped bound (Some value)) last 5 bytes z e)

  found_later : (bound : ℚ) (ws : List (List ℕ)) (last : ℕ) (bytes : List ℕ) → last ≤ 4 → Reaches opened last (found_at text bound ws bytes)
  unfolding found_at
  found_later bound ws last bytes before =
      tested_later opened last 4 (fraction_of value_key 4 ws) (λ value. text.read 5 bytes >>= with_timing (Stopped bound (Some value)) (5 + text.height))
      (fraction_here value_key 4 ws) before (λ value. timing_later (Stopped bound (Some value)) last 5 bytes (omega arith))

  abbrev as_missing : ℚ → List ℕ → Result (Beginning T) BadText
  as_missing bound rest = Ok (Stopped bound None, None, 5, rest)

  missing_grows : (bound : ℚ) (last : ℕ) (bytes z : List ℕ) → 4 + lines_in bytes ≡ last → Grows (opened {T = T}) last z (missing_at bound bytes) (missing_at bound (bytes ++ z))
  unfolding missing_at
  missing_grows bound last bytes z e = grows_then (after_line 5) (opened {T = T}) last z (fixed_at 4 no_timing_line bytes) (fixed_at 4 no_timing_line (bytes ++ z))
      (as_missing bound) (fixed_grows last 4 no_timing_line bytes z e) (λ r end. (end, refl)) (λ r here. here)

  missing_later : (bound : ℚ) (last : ℕ) (bytes : List ℕ) → last ≤ 4 → Reaches (opened {T = T}) last (missing_at bound bytes)
  unfolding missing_at
  missing_later bound last bytes before = reaches_then (after_line 5) (opened {T = T}) last (fixed_at 4 no_timing_line bytes) (as_missing bound)
      (fixed_later last 4 no_timing_line bytes before) (λ r here. here)

  abbrev value_or_not : ℚ → List ℕ → List (List ℕ) × List ℕ → Result (Beginning T) BadText
  value_or_not bound bytes m = if begins_with value_key m.0 then found_at text bound m.0 m.1 else missing_at bound bytes

  abbrev bound_then : List ℕ → ℚ → Result (Beginning T) BadText
  bound_then bytes bound = words_at 4 bytes >>= value_or_not bound bytes

  value_later : (bound : ℚ) (last : ℕ) (bytes : List ℕ) (m : List (List ℕ) × List ℕ) → last ≤ 4 → Reaches opened last (value_or_not bound bytes m)
  value_later bound last bytes m before = chosen_later opened last (begins_with value_key m.0) (found_at text bound m.0 m.1) (missing_at bound bytes)
      (found_later bound m.0 last m.1 before) (missing_later bound last bytes before)

  bound_grows : (bound : ℚ) (last : ℕ) (bytes z : List ℕ) → 4 + lines_in bytes ≡ last → Grows opened last z (bound_then bytes bound) (bound_then (bytes ++ z) bound)
  bound_grows bound last bytes z e =
      grows_by (one_and 5) opened last z (words_at 4 bytes) (words_at 4 (bytes ++ z)) (value_or_not bound bytes) (value_or_not bound (bytes ++ z)) (words_grow last 4 bytes z e)
      (λ m is end. chosen opened last z (begins_with value_key m.0) (found_at text bound m.0 m.1) (found_at text bound m.0 (m.1 ++ z)) (missing_at bound bytes)
      (missing_at bound (bytes ++ z)) (found_grows bound m.0 last m.1 z end) (missing_grows bound last bytes z e))
      (λ m here. value_later bound last (bytes ++ z) m (omega arith))

  bound_later : (bound : ℚ) (last : ℕ) (bytes : List ℕ) → last ≤ 4 → Reaches opened last (bound_then bytes bound)
  bound_later bound last bytes before = reaches_then (one_and 5) opened last (words_at 4 bytes) (value_or_not bound bytes) (words_later last 4 bytes before)
      (λ m here. value_later bound last bytes m before)

  open_grows : (last : ℕ) (bytes z : List ℕ) → 3 + lines_in bytes ≡ last → Grows opened last z (open_at text bytes) (open_at text (bytes ++ z))
  unfolding open_at
  open_grows last bytes z e =
      grows_then (one_and 4) opened last z (words_at 3 bytes) (words_at 3 (bytes ++ z)) (λ l. fraction_of bound_key 3 l.0 >>= bound_then l.1) (words_grow last 3 bytes z e)
      (λ l end. tested opened last 3 z (fraction_of bound_key 3 l.0) (bound_then l.1) (bound_then (l.1 ++ z)) (fraction_here bound_key 3 l.0) (omega arith) (λ bound. bound_grows bound last l.1 z end))
      (λ l here. tested_later opened last 3 (fraction_of bound_key 3 l.0) (bound_then l.1) (fraction_here bound_key 3 l.0) (omega arith) (λ bound. bound_later bound last l.1 (omega arith)))

  open_later : (last : ℕ) (bytes : List ℕ) → last ≤ 3 → Reaches opened last (open_at text bytes)
  unfolding open_at
  open_later last bytes before =
      reaches_then (one_and 4) opened last (words_at 3 bytes) (λ l. fraction_of bound_key 3 l.0 >>= bound_then l.1) (words_later last 3 bytes before)
      (λ l here. tested_later opened last 3 (fraction_of bound_key 3 l.0) (bound_then l.1) (fraction_here bound_key 3 l.0) before (λ bound. bound_later bound last l.1 (omega arith)))

  abbrev none_at : List ℕ → Result (Beginning T) BadText
  none_at bytes = Ok (NoTiming, None, 3, bytes)

  verdict_grows : (verdict : List ℕ) (last : ℕ) (bytes z : List ℕ) → 3 + lines_in bytes ≡ last → Grows opened last z (verdict_of text verdict bytes) (verdict_of text verdict (bytes ++ z))
  unfolding verdict_of
  verdict_grows verdict last bytes z e =
      let other = bytes ++ z in
      chosen opened last z (is_text verdict best_line) (best_at text bytes) (best_at text other) (if is_text verdict none_line then none_at bytes else
      (if is_text verdict open_line then open_at text bytes else fault 2 Shape)) (if is_text verdict none_line then none_at other else
      (if is_text verdict open_line then open_at text other else fault 2 Shape))
      (best_grows last bytes z e)
      (chosen opened last z (is_text verdict none_line) (none_at bytes) (none_at other) (if is_text verdict open_line then open_at text bytes else fault 2 Shape)
      (if is_text verdict open_line then open_at text other else fault 2 Shape)
      (e, refl)
      (chosen opened last z (is_text verdict open_line) (open_at text bytes) (open_at text other) (fault 2 Shape) (fault 2 Shape) (open_grows last bytes z e) (inl (tt, omega arith, refl))))

  verdict_later : (verdict : List ℕ) (last : ℕ) (bytes : List ℕ) → last ≤ 2 → Reaches opened last (verdict_of text verdict bytes)
  unfolding verdict_of
  verdict_later verdict last bytes before =
      chosen_later opened last (is_text verdict best_line) (best_at text bytes) (if is_text verdict none_line then none_at bytes else
      (if is_text verdict open_line then open_at text bytes else fault 2 Shape))
      (best_later last bytes (omega arith))
      (chosen_later opened last (is_text verdict none_line) (none_at bytes) (if is_text verdict open_line then open_at text bytes else fault 2 Shape)
      (omega arith)
      (chosen_later opened last (is_text verdict open_line) (open_at text bytes) (fault 2 Shape) (open_later last bytes (omega arith)) before))

  pub claim_grows : (last : ℕ) (bytes z : List ℕ) → 2 + lines_in bytes ≡ last → Grows opened last z (claim_at text bytes) (claim_at text (bytes ++ z))
  unfolding claim_at
  claim_grows last bytes z e =
      grows_then (one_and 3) opened last z (line_at 2 bytes) (line_at 2 (bytes ++ z)) (λ l. verdict_of text l.0 l.1) (line_grows last 2 bytes z e)
      (λ l end. verdict_grows l.0 last l.1 z end) (λ l here. verdict_later l.0 last l.1 (omega arith))

  pub claim_later : (last : ℕ) (bytes : List ℕ) → last ≤ 2 → Reaches opened last (claim_at text bytes)
  unfolding claim_at
  claim_later last bytes before = reaches_then (one_and 3) opened last (line_at 2 bytes) (λ l. verdict_of text l.0 l.1) (line_later last 2 bytes before) (λ l here. verdict_later l.0 last l.1 before)
