-- Reading the text of a certificate from its first line on.
use Rattle.std.specs.Prelude.{ℕ, pos, ◌==◌, ◌&&◌, int_lt, unsigned_abs, slice_get, ◌+◌, ◌-◌, ◌^◌, suc, zero, List, [], ◌∷◌, ◌++◌, length, Bool, false, Option, None, Some, Result, Ok, if◌then◌else◌}
use Rattle.rational_theory.specs.Rational.{ℚ, over}
use Rattle.named_row.specs.declared.leaves.Weight.{Weight}
use Rattle.named_row.specs.declared.names.RowId.{RowId}
use Rattle.search_box.specs.declared.span.At.{At}
use Rattle.search_box.specs.declared.span.At.TheVariants.{Loop, Turn}
use Rattle.plan_text.specs.declared.fault.TextFault.TheVariants.{Ended, Shape, Number, Order}
use Rattle.plan_text.specs.declared.fault.BadText.{BadText}
use Rattle.plan_text.specs.declared.lines.NumberLine.{NumberLine}
use Rattle.plan_text.specs.declared.tree.NodeHead.{NodeHead}
use Rattle.plan_text.specs.declared.tree.NodeHead.TheVariants as heads
use Rattle.certificate_model.specs.declared.certificate.Claim.{Claim}
use Rattle.certificate_model.specs.declared.certificate.Claim.TheVariants.{Best, NoTiming, Stopped}
use Rattle.plan_text.specs.declared.form.LeafForm.{LeafForm}
use Rattle.plan_text.specs.declared.form.LeafForm.TheVariants.{Over, Plain}
use Rattle.certificate_model.specs.Words.{is_text}
use Rattle.plan_text.specs.Numbers.{number}
use Rattle.plan_text.specs.Fractions.{integer, exact}
use Rattle.plan_text.specs.Spelling.{end_line}
use Rattle.plan_text.specs.Lines.{◌>>=◌, fault, line_at, words_at, fixed_at, nothing_at, ranged}
use Rattle.plan_text.specs.TimingTexts.{TimingText, one_band}
use Rattle.certificate_model.specs.Families.{Table, ordinary, family_in, is_lone_in, is_after}
use Rattle.certificate_model.specs.Warrants.{Node, SplitAt, LeafOf, WarrantWith, Warrant}
use Rattle.plan_text.specs.SecondText.{second_line, rows_key}
use Rattle.plan_text.specs.Namings.{Naming, Named, Listed, fractions_key, IsFormed, is_form, is_list}
use Rattle.plan_text.specs.CertificateText.{certificate_line, best_line, none_line, open_line, no_timing_line, tree_line, value_key, bound_key, split_key, loop_key, turn_key, leaf_key}

-- a value, or a bad number in this line
abbrev pub or_number : {A : Type 0} → ℕ → Option A → Result A BadText
or_number line None = fault line Number
or_number line (Some x) = Ok x

-- one number of a line, within a range
abbrev pub range_of : ℕ → ℕ → ℕ → NumberLine
range_of line least greatest = record { line = line; fewest = 1; most = 1; least = least; greatest = greatest }

-- the number of a link or signal, from 1 on
unfoldable pub index_of : ℕ → List ℕ → Result ℕ BadText
index_of line w = ranged (range_of line 1 (2 ^ 32 - 1)) (number w)

-- ---- a line with a fraction

unfoldable pub fraction_of : List ℕ → ℕ → List (List ℕ) → Result ℚ BadText
fraction_of key line (k ∷ w ∷ []) = if is_text k key then or_number line (exact w) else fault line Shape
fraction_of key line ws = fault line Shape

-- ---- a row of a leaf

-- the row of a family with one row, and one of another family, by the words after the family's name
unfoldable pub lone_row : ℕ → ℕ → List (List ℕ) → Result RowId BadText
lone_row line family [] = Ok (record { family = family; index = 0 })
lone_row line family ws = fault line Shape

unfoldable pub indexed_row : ℕ → ℕ → List (List ℕ) → Result RowId BadText
indexed_row line family (i ∷ []) = do
  index ← index_of line i
  Ok (record { family = family; index = index })
indexed_row line family ws = fault line Shape

abbrev pub in_family : Table → ℕ → List (List ℕ) → Option ℕ → Result RowId BadText
in_family table line ws None = fault line Shape
in_family table line ws (Some family) = if is_lone_in table family then lone_row line family ws else indexed_row line family ws

-- the row of this name
unfoldable pub row_of : Table → ℕ → List (List ℕ) → Result RowId BadText
row_of table line [] = fault line Shape
row_of table line (name ∷ ws) = in_family table line ws (family_in table name)

-- the row at this place of a list
unfoldable pub listed_row : List RowId → ℕ → List (List ℕ) → Result RowId BadText
listed_row rows line (i ∷ []) = do
  place ← ranged (range_of line 1 (2 ^ 64 - 1)) (number i)
  or_number line (slice_get rows (place - 1))
listed_row rows line ws = fault line Shape

abbrev pub row_in : Naming → ℕ → List (List ℕ) → Result RowId BadText
row_in (Named table) line ws = row_of table line ws
row_in (Listed rows) line ws = listed_row rows line ws

-- a whole number over a denominator
abbrev pub over_whole : ℕ → Option ℚ → Option ℚ
over_whole d None = None
over_whole d (Some x) = if x.den == 1 then Some (over x.num d) else None

unfoldable pub multiplier_of : LeafForm → ℕ → List ℕ → Result ℚ BadText
multiplier_of Plain line w = or_number line (exact w)
multiplier_of (Over d) line w = or_number line (over_whole d (exact w))

-- the words before the last one, and the last one
abbrev pub last_after : List ℕ → Option (List (List ℕ) × List ℕ) → Option (List (List ℕ) × List ℕ)
last_after w None = Some ([], w)
last_after w (Some p) = Some (w ∷ p.0, p.1)

abbrev pub cut_last : List (List ℕ) → Option (List (List ℕ) × List ℕ)
cut_last [] = None
cut_last (w ∷ ws) = last_after w (cut_last ws)

-- a row, and its multiplier as the last word
abbrev pub weight_by : Naming → LeafForm → ℕ → Option (List (List ℕ) × List ℕ) → Result Weight BadText
weight_by names form line None = fault line Shape
weight_by names form line (Some p) = do
  row ← row_in names line p.0
  by ← multiplier_of form line p.1
  Ok (record { row = row; by = by })

unfoldable pub weight_of : Naming → LeafForm → ℕ → List (List ℕ) → Result Weight BadText
weight_of names form line ws = weight_by names form line (cut_last ws)

-- ---- lines whose rows ascend

unfoldable pub read_after : {A : Type 0} → (A → RowId) → (ℕ → List (List ℕ) → Result A BadText) → Option RowId → ℕ → List (List ℕ) → Result A BadText
read_after row read last line ws = do
  x ← read line ws
  if is_after last (row x) then Ok x else fault line Order

-- so many lines, each with a row after that of the line before
unfoldable pub rising_at : {A : Type 0} → (A → RowId) → (ℕ → List (List ℕ) → Result A BadText) → ℕ → Option RowId → ℕ → List ℕ → Result (List A × List ℕ) BadText
rising_at row read zero last line bytes = Ok ([], bytes)
rising_at row read (suc n) last line bytes = do
  l ← words_at line bytes
  x ← read_after row read last line l.0
  xs ← rising_at row read n (Some (row x)) (line + 1) l.1
  Ok (x ∷ xs.0, xs.1)

-- the row of the last of some items, or the one before them
abbrev pub last_row : {A : Type 0} → (A → RowId) → Option RowId → List A → Option RowId
last_row row last [] = last
last_row row last (x ∷ xs) = last_row row (Some (row x)) xs

abbrev pub own_row : RowId → RowId
own_row row = row

abbrev pub row_of_weight : Weight → RowId
row_of_weight w = w.row

-- the rows of a leaf, so many
abbrev pub weights_at : Naming → LeafForm → ℕ → Option RowId → ℕ → List ℕ → Result (List Weight × List ℕ) BadText
weights_at names form n last line bytes = rising_at row_of_weight (weight_of names form) n last line bytes

-- and so many names of rows
abbrev pub names_at : Table → ℕ → Option RowId → ℕ → List ℕ → Result (List RowId × List ℕ) BadText
names_at table n last line bytes = rising_at own_row (row_of table) n last line bytes

-- ---- a list of rows

unfoldable pub row_count : ℕ → List (List ℕ) → Result ℕ BadText
row_count line (key ∷ n ∷ []) = if is_text key rows_key then ranged (range_of line 0 (2 ^ 64 - 1)) (number n) else fault line Shape
row_count line ws = fault line Shape

-- how many there are, and their names
unfoldable pub rows_at : Table → ℕ → List ℕ → Result (List RowId × ℕ × List ℕ) BadText
rows_at table line bytes = do
  l ← words_at line bytes
  count ← row_count line l.0
  rows ← names_at table count None (line + 1) l.1
  Ok (rows.0, line + 1 + count, rows.1)

-- ---- a node

unfoldable pub split_of : ℕ → List ℕ → List ℕ → List ℕ → Result At BadText
split_of line kind i place =
    if is_text kind loop_key then (index_of line i >>= λ link. or_number line (integer place) >>= λ at. Ok (Loop link at))
    else (if is_text kind turn_key then (index_of line i >>= λ signal. ranged (range_of line 0 (2 ^ 32 - 1)) (number place) >>= λ rank. Ok (Turn signal rank)) else fault line Shape)

abbrev pub leaf_count : ℕ → List ℕ → Result ℕ BadText
leaf_count line n = ranged (range_of line 0 10000) (number n)

abbrev pub above_zero : Option ℚ → Option ℕ
above_zero None = None
above_zero (Some x) = if (x.den == 1) && int_lt (pos 0) x.num then Some (unsigned_abs x.num) else None

-- a leaf with so many rows, whose multipliers are whole numbers over a denominator
unfoldable pub over_head : Naming → ℕ → List ℕ → List ℕ → List ℕ → Result NodeHead BadText
over_head (Named table) line key d n = fault line Shape
over_head (Listed rows) line key d n =
    if is_text key leaf_key then (or_number line (above_zero (exact d)) >>= λ denominator. leaf_count line n >>= λ count. Ok (heads.Leaf count (Over denominator))) else fault line Shape

-- a split, or a leaf with so many rows
unfoldable pub head_of : Naming → ℕ → List (List ℕ) → Result NodeHead BadText
head_of names line (key ∷ n ∷ []) = if is_text key (fractions_key names) then (leaf_count line n >>= λ count. Ok (heads.Leaf count Plain)) else fault line Shape
head_of names line (key ∷ d ∷ n ∷ []) = over_head names line key d n
head_of names line (key ∷ kind ∷ i ∷ place ∷ []) = if is_text key split_key then (split_of line kind i place >>= λ at. Ok (heads.Split at)) else fault line Shape
head_of names line ws = fault line Shape

abbrev pub IsHead : NodeHead → Type 0
IsHead (heads.Split at) = Unit {0}
IsHead (heads.Leaf count form) = IsFormed form

-- ---- a leaf

-- these rows of a leaf, where it has to be written so; else a number of its last line is bad
abbrev pub formed : Naming → LeafForm → ℕ → List Weight → Result (List Weight) BadText
formed names form line ws = if is_form names form ws then Ok ws else fault line Number

-- these rows and that of the last line, of which the order comes last
unfoldable pub with_last : Naming → LeafForm → ℕ → List Weight → Weight → Result (List Weight) BadText
with_last names form line ws w = do
  all ← formed names form line (ws ++ w ∷ [])
  if is_after (last_row row_of_weight None ws) w.row then Ok all else fault line Order

-- so many rows of a leaf whose first line has this number
unfoldable pub leaf_at : Naming → LeafForm → ℕ → ℕ → List ℕ → Result (List Weight × List ℕ) BadText
leaf_at names form count line bytes =
    if count == 0 then (formed names form line [] >>= λ none. Ok (none, bytes))
    else (do
      ws ← weights_at names form (count - 1) None (line + 1) bytes
      l ← words_at (line + count) ws.1
      w ← weight_of names form (line + count) l.0
      all ← with_last names form (line + count) ws.0 w
      Ok (all, l.1))

-- the node that begins so at this line, the number of the line after it, and what follows
unfoldable pub rest_of : Naming → NodeHead → ℕ → List ℕ → Result (Node × ℕ × List ℕ) BadText
rest_of names (heads.Split at) line bytes = Ok (SplitAt at, line + 1, bytes)
rest_of names (heads.Leaf count form) line bytes = do
  ws ← leaf_at names form count line bytes
  Ok (LeafOf ws.0, line + 1 + count, ws.1)

unfoldable pub node_at : Naming → ℕ → List ℕ → Result (Node × ℕ × List ℕ) BadText
node_at names line bytes = do
  l ← words_at line bytes
  head ← head_of names line l.0
  rest_of names head line l.1

-- how many trees are owed after the first node of one, when so many others were
abbrev pub owed_after : Node → ℕ → ℕ
owed_after (SplitAt at) others = suc (suc others)
owed_after (LeafOf ws) others = others

-- the nodes of so many trees; a node takes at least one byte, so as many steps as there are bytes are enough
unfoldable pub nodes_at : Naming → ℕ → ℕ → ℕ → List ℕ → Result (List Node × ℕ × List ℕ) BadText
nodes_at names steps zero line bytes = Ok ([], line, bytes)
nodes_at names zero (suc others) line bytes = fault line Ended
nodes_at names (suc steps) (suc others) line bytes = do
  n ← node_at names line bytes
  ns ← nodes_at names steps (owed_after n.0 others) n.1 n.2
  Ok (n.0 ∷ ns.0, ns.1, ns.2)

-- ---- the claim

-- a claim and its timing, the number of the line after them, and what follows
abbrev pub Beginning : Type 0 → Type 0
Beginning T = Claim × Option T × ℕ × List ℕ

-- of a timing with this value, beside a bound or best without one
abbrev pub claim_with : Option ℚ → ℚ → Claim
claim_with None value = Best value
claim_with (Some bound) value = Stopped bound (Some value)

-- the value in the words of a line, and its timing in the lines after it
abbrev pub valued_at : {T : Type 0} → TimingText T → Option ℚ → ℕ → List (List ℕ) → List ℕ → Result (Beginning T) BadText
valued_at text bound line ws bytes = do
  value ← fraction_of value_key line ws
  timing ← text.read (line + 1) bytes
  Ok (claim_with bound value, Some timing.0, line + 1 + text.height, timing.1)

unfoldable pub best_at : {T : Type 0} → TimingText T → List ℕ → Result (Beginning T) BadText
best_at text bytes = do
  l ← words_at 3 bytes
  valued_at text None 3 l.0 l.1

-- the fourth line begins with `value`, or it is `no timing`
abbrev pub begins_with : List ℕ → List (List ℕ) → Bool
begins_with key [] = false
begins_with key (w ∷ ws) = is_text w key

unfoldable pub found_at : {T : Type 0} → TimingText T → ℚ → List (List ℕ) → List ℕ → Result (Beginning T) BadText
found_at text bound ws bytes = valued_at text (Some bound) 4 ws bytes

unfoldable pub missing_at : {T : Type 0} → ℚ → List ℕ → Result (Beginning T) BadText
missing_at bound bytes = do
  rest ← fixed_at 4 no_timing_line bytes
  Ok (Stopped bound None, None, 5, rest)

unfoldable pub open_at : {T : Type 0} → TimingText T → List ℕ → Result (Beginning T) BadText
open_at text bytes = do
  l ← words_at 3 bytes
  bound ← fraction_of bound_key 3 l.0
  m ← words_at 4 l.1
  if begins_with value_key m.0 then found_at text bound m.0 m.1 else missing_at bound l.1

unfoldable pub verdict_of : {T : Type 0} → TimingText T → List ℕ → List ℕ → Result (Beginning T) BadText
verdict_of text verdict bytes =
    if is_text verdict best_line then best_at text bytes
    else (if is_text verdict none_line then Ok (NoTiming, None, 3, bytes) else (if is_text verdict open_line then open_at text bytes else fault 2 Shape))

unfoldable pub claim_at : {T : Type 0} → TimingText T → List ℕ → Result (Beginning T) BadText
claim_at text bytes = do
  l ← line_at 2 bytes
  verdict_of text l.0 l.1

-- ---- the whole

-- that the list of rows is that of the nodes, and that nothing stands after the line `end`, which has this number
abbrev pub ends_after : Naming → List Node → ℕ → List ℕ → Result (List Node) BadText
ends_after names ns line bytes = if is_list names ns then (nothing_at (line + 1) bytes >>= λ nothing. Ok ns) else fault line Shape

-- the line `tree`, one tree, and the line `end`
unfoldable pub tree_at : Naming → ℕ → List ℕ → Result (List Node) BadText
tree_at names line bytes = do
  rest ← fixed_at line tree_line bytes
  nodes ← nodes_at names (length rest) 1 (line + 1) rest
  more ← fixed_at nodes.1 end_line nodes.2
  ends_after names nodes.0 nodes.1 more

-- what follows the first line of the first text, which names its rows over a table
unfoldable pub first_of : {T : Type 0} → TimingText T → Table → List ℕ → Result (WarrantWith T) BadText
first_of text table bytes = do
  opening ← claim_at text bytes
  nodes ← tree_at (Named table) opening.2 opening.3
  Ok (record { claim = opening.0; timing = opening.1; nodes = nodes })

-- and what follows that of the second

unfoldable pub second_of : List ℕ → Result Warrant BadText
second_of bytes = do
  opening ← claim_at one_band bytes
  rows ← rows_at ordinary opening.2 opening.3
  nodes ← tree_at (Listed rows.0) rows.1 rows.2
  Ok (record { claim = opening.0; timing = opening.1; nodes = nodes })

abbrev pub text_by : List ℕ × List ℕ → Result Warrant BadText
text_by l = if is_text l.0 certificate_line then first_of one_band ordinary l.1 else (if is_text l.0 second_line then second_of l.1 else fault 1 Shape)

unfoldable pub certificate_of : List ℕ → Result Warrant BadText
certificate_of bytes = do
  l ← line_at 1 bytes
  text_by l

-- a text that has this first line and names its rows over a table, and no second one
unfoldable pub headed_of : {T : Type 0} → TimingText T → Table → List ℕ → List ℕ → Result (WarrantWith T) BadText
headed_of text table head bytes = do
  rest ← fixed_at 1 head bytes
  first_of text table rest
