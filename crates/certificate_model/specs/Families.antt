-- The names of rows as texts spell them, over a table of families: a family's number, from 1 on, and the number of a signal or link, or 0 in a family of one
-- row. The families of an ordinary certificate, by which texts they go, and which of them have one row, are those of the linear model's table.
use Rattle.std.specs.Fmt.{decimal}
use Rattle.std.specs.Prelude.{◌≡◌, ℕ, ◌+◌, ◌-◌, ◌≤◌, ◌==◌, ◌||◌, List, [], ◌∷◌, length, map, Bool, true, false, Option, None, Some, slice_index_or, if◌then◌else◌}
use Rattle.linear_theory.specs.Names as rows
use Rattle.named_row.specs.Order.{is_below}
use Rattle.named_row.specs.declared.names.RowId.{RowId}
use Rattle.certificate_model.specs.declared.family.FamilyName.{FamilyName}
use Rattle.certificate_model.specs.Words.{is_text}

-- a family as texts name it, and whether it has one row alone, which has no index there
pub record Family : Type 0 where
  pub text : List ℕ
  pub lone : Bool

-- families by their numbers from 1 on
abbrev pub Table : Type 0
Table = List Family

abbrev pub named : FamilyName → Family
named f = record { text = f.text.now; lone = f.is_lone }

abbrev pub table_of : List FamilyName → Table
table_of fs = map named fs

-- the names of families of rows
abbrev pub names_of : {N : Type 0} → List (rows.FamilyOf N) → Table
names_of {N} fs = map (λ (f : rows.FamilyOf N). record { text = f.text; lone = f.lone }) fs

abbrev pub texts : Table → List (List ℕ)
texts table = map (λ (f : Family). f.text) table

abbrev pub family_name_in : Table → ℕ → List ℕ
family_name_in table family = slice_index_or (texts table) (family - 1) []

-- a family has one row alone, where the first has this number
abbrev pub lone_among : ℕ → Table → ℕ → Bool
lone_among n [] family = false
lone_among n (f ∷ fs) family = if f.lone then (family == n) || lone_among (n + 1) fs family else lone_among (n + 1) fs family

abbrev pub is_lone_in : Table → ℕ → Bool
is_lone_in table family = lone_among 1 table family

-- the number of the first of these names that is the word, the first name having this number
abbrev pub number_in : ℕ → List (List ℕ) → List ℕ → Option ℕ
number_in n [] w = None
number_in n (name ∷ names) w = if is_text name w then Some n else number_in (n + 1) names w

abbrev pub family_in : Table → List ℕ → Option ℕ
family_in table w = number_in 1 (texts table) w

-- a row's name: its family's, and its index where the family has one
abbrev pub row_words_in : Table → RowId → List (List ℕ)
row_words_in table row = if is_lone_in table row.family then family_name_in table row.family ∷ [] else family_name_in table row.family ∷ decimal row.index ∷ []

-- a row has a name: its family is there, and it has an index exactly where it isn't the family's only row
pub record IsNamedIn (table : Table) (row : RowId) : Type 0 where
  pub first : 1 ≤ row.family
  pub last : row.family ≤ length table
  pub lone : is_lone_in table row.family ≡ true → row.index ≡ 0
  pub indexed : is_lone_in table row.family ≡ false → 1 ≤ row.index

-- ---- an ordinary certificate
unfoldable pub ordinary : Table
ordinary = names_of rows.families

abbrev pub IsNamed : RowId → Type 0
IsNamed row = IsNamedIn ordinary row

abbrev pub row_words : RowId → List (List ℕ)
row_words row = row_words_in ordinary row

-- ---- the order of rows
-- a row comes after the last one, if there is one
abbrev pub is_after : Option RowId → RowId → Bool
is_after None row = true
is_after (Some last) row = is_below last row
