-- How the leaves of a tree name their rows, by their names over a table of families or by their places in a list of rows, counted from 1; and the lines of a
-- tree by either.
use Rattle.std.specs.Prelude.{ℕ, ◌<◌, ◌≤◌, ◌^◌, ◌==◌, ◌&&◌, List, [], ◌∷◌, ◌++◌, length, map, flat_map, All, codes, Bool, true, false, None}
use Rattle.std.specs.Fmt.{decimal}
use Rattle.std.specs.Cmp.Lexicographic.{pointwise}
use Rattle.named_row.specs.declared.leaves.Weight.{Weight}
use Rattle.named_row.specs.declared.names.RowId.{RowId}
use Rattle.plan_text.specs.declared.form.LeafForm.{LeafForm}
use Rattle.plan_text.specs.declared.form.LeafForm.TheVariants.{Over, Plain}
use Rattle.plan_text.specs.declared.naming.Naming as code
use Rattle.plan_text.specs.declared.naming.Naming.TheVariants as codes
use Rattle.certificate_model.specs.Words.{line_of}
use Rattle.plan_text.specs.Spelling.{end_line}
use Rattle.certificate_model.specs.Families.{Table, table_of, IsNamedIn, row_words_in}
use Rattle.certificate_model.specs.Warrants.{Node, SplitAt, LeafOf, IsNodeIn}
use Rattle.plan_text.specs.CertificateText.{split_words, tree_line, leaf_key}
use Rattle.plan_text.specs.Leaves.{rows_of, AscendRows, place_of_row, form_of, multiplier_word}

pub data Naming : Type 0 where
  Named : Table → Naming
  Listed : List RowId → Naming

abbrev pub naming_of : code.Naming → Naming
naming_of (codes.Named table) = Named (table_of table.now)
naming_of (codes.Listed rows) = Listed rows.now

-- families have numbers of 8 bits
abbrev pub IsSmall : code.Naming → Type 0
IsSmall (codes.Named table) = length table.now < 2 ^ 8
IsSmall (codes.Listed rows) = Unit {0}

abbrev pub plain_key : List ℕ
plain_key = codes "plain"

-- the first word of a leaf of fractions
abbrev pub fractions_key : Naming → List ℕ
fractions_key (Named table) = leaf_key
fractions_key (Listed rows) = plain_key

-- a denominator of 128 bits with a sign
abbrev pub IsFormed : LeafForm → Type 0
IsFormed Plain = Unit {0}
IsFormed (Over d) = (1 ≤ d) × (d < 2 ^ 127)

abbrev pub same_form : LeafForm → LeafForm → Bool
same_form Plain Plain = true
same_form Plain (Over d) = false
same_form (Over d) Plain = false
same_form (Over d) (Over e) = d == e

-- a leaf with these rows has to be written so: by names always as fractions
abbrev pub is_form : Naming → LeafForm → List Weight → Bool
is_form (Named table) form ws = true
is_form (Listed rows) form ws = same_form (form_of ws) form

abbrev pub same_row : RowId → RowId → Bool
same_row r s = (r.family == s.family) && (r.index == s.index)

-- the list has the rows of these nodes
abbrev pub is_list : Naming → List Node → Bool
is_list (Named table) ns = true
is_list (Listed rows) ns = pointwise same_row (rows_of ns) rows

-- ---- lines
-- a row by its name, or by its place
abbrev pub name_words : Naming → RowId → List (List ℕ)
name_words (Named table) row = row_words_in table row
name_words (Listed rows) row = decimal (place_of_row rows row) ∷ []

-- and its multiplier
abbrev pub weight_words : Naming → LeafForm → Weight → List (List ℕ)
weight_words names form w = name_words names w.row ++ multiplier_word form w ∷ []

abbrev pub weight_line : Naming → LeafForm → Weight → List ℕ
weight_line names form w = line_of (weight_words names form w)

-- the words of a leaf's first line
abbrev pub first_words : Naming → LeafForm → ℕ → List (List ℕ)
first_words names Plain n = fractions_key names ∷ decimal n ∷ []
first_words names (Over d) n = leaf_key ∷ decimal d ∷ decimal n ∷ []

abbrev pub leaf_lines : Naming → LeafForm → List Weight → List (List ℕ)
leaf_lines names form ws = line_of (first_words names form (length ws)) ∷ map (weight_line names form) ws

-- the form of a leaf, which by names is always of fractions
abbrev pub form_by : Naming → List Weight → LeafForm
form_by (Named table) ws = Plain
form_by (Listed rows) ws = form_of ws

unfoldable pub node_lines : Naming → Node → List (List ℕ)
node_lines names (SplitAt at) = line_of (split_words at) ∷ []
node_lines names (LeafOf ws) = leaf_lines names (form_by names ws) ws

-- the line `tree`, the nodes, and the line `end`
abbrev pub tree_lines : Naming → List Node → List (List ℕ)
tree_lines names ns = tree_line ∷ (flat_map (node_lines names) ns ++ end_line ∷ [])

-- ---- what can be written so: rows have names, or those of the list ascend, so that each has a place
abbrev pub HasWords : Naming → RowId → Type 0
HasWords (Named table) row = IsNamedIn table row
HasWords (Listed rows) row = AscendRows None rows

abbrev pub IsWritableNode : Naming → Node → Type 0
IsWritableNode (Named table) n = IsNodeIn table n
IsWritableNode (Listed rows) n = AscendRows None rows

abbrev pub AreWritable : Naming → List Node → Type 0
AreWritable (Named table) ns = All (IsNodeIn table) ns
AreWritable (Listed rows) ns = AscendRows None rows
