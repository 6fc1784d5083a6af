-- The cells of names in a table for spreadsheets.
use Rattle.std.specs.Prelude.{ℕ, List, [], ◌∷◌, ◌==◌, ◌||◌, Bool, false, if◌then◌else◌}

-- a spreadsheet takes a text for a formula that begins with `=`, `+`, `-` or `@`
abbrev pub is_formula : List ℕ → Bool
is_formula [] = false
is_formula (c ∷ cs) = (c == 61) || ((c == 43) || ((c == 45) || (c == 64)))

-- such a name stands behind an apostrophe, the byte 39, so that it stays text
abbrev pub name_cell : List ℕ → List ℕ
name_cell name = if is_formula name then 39 ∷ name else name
