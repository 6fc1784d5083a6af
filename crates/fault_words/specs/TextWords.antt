-- The lines about bytes that are no document. The place and the reason that the reader of TOML gives are its own.
use Rattle.std.specs.Prelude.{◌≡◌, ◌⊎◌, ℕ, ◌+◌, ◌≤◌, ◌==◌, ◌/◌, ◌||◌, nat_le, nat_lt, List, [], ◌∷◌, ◌++◌, length, map, take, drop, fold, count_by, Bool, true, false, None, Some, IsUtf8, codes, if◌then◌else◌}
use Rattle.std.specs.Fmt.{decimal}
use Rattle.std.specs.List.{before_first}
use Rattle.std.specs.Str.Lossy.{utf8_valid_len}
use Rattle.toml.specs.Data.{table, Members}
use Rattle.toml.specs.Parse.{parse_document}
use Rattle.artery_model.specs.Faults.{Fault}
use Rattle.artery_model.specs.declared.kind.Kind.TheVariants.{NotUtf8, NotToml}
use Rattle.fault_words.specs.FaultWords.{fault_words}
use Rattle.fault_words.specs.Sentences.{kind_line}
use Rattle.fault_words.specs.Shown.{plain}
use Rattle.fault_words.specs.declared.place.Document.{Document}

abbrev pub is_feed : ℕ → Bool
is_feed b = b == 10

-- a character begins at each byte that doesn't continue one; a line feed begins a line
abbrev pub next_column : ℕ → ℕ → ℕ
next_column n b = if is_feed b then 0 else (if b / 64 == 2 then n else n + 1)

-- the line and the column of what comes behind these bytes, both counted from 1, the column in characters
unfoldable pub position_of : List ℕ → List ℕ
position_of front = codes "at line " ++ (decimal (count_by is_feed front + 1) ++ (codes ", column " ++ (decimal (fold next_column 0 front + 1) ++ codes "\n")))

abbrev pub position_line : List ℕ → ℕ → List ℕ
position_line bytes at = position_of (take at bytes)

-- the line that the place is in, as far as it goes there, and behind
abbrev pub next_line : List ℕ → ℕ → List ℕ
next_line line b = if is_feed b then [] else line ++ b ∷ []

abbrev pub last_line : List ℕ → List ℕ
last_line front = fold next_line [] front

abbrev pub line_before : List ℕ → ℕ → List ℕ
line_before bytes at = last_line (take at bytes)

abbrev pub line_behind : List ℕ → ℕ → List ℕ
line_behind bytes at = before_first is_feed (drop at bytes)

-- the most bytes of a line that is told
abbrev pub most_line : ℕ
most_line = 120

-- a byte of a line: a tab or what ends a line of Windows is told as a blank, and of bytes that are no text all beyond ASCII as a question mark
abbrev pub line_byte : Bool → ℕ → ℕ
line_byte is_text b = if is_text || nat_lt b 128 then plain 32 b else 63

unfoldable pub told_line : Bool → List ℕ → List ℕ
told_line is_text line =
    if nat_le (length line) most_line then codes "this line: " ++ (map (line_byte is_text) line ++ codes "\n")
    else codes "a line of " ++ (decimal (length line) ++ codes " bytes\n")

unfoldable pub line_words : Bool → List ℕ → ℕ → List ℕ
line_words is_text bytes at = told_line is_text (line_before bytes at ++ line_behind bytes at)

unfoldable pub place_lines : Bool → List ℕ → ℕ → List ℕ
place_lines is_text bytes at = position_line bytes at ++ line_words is_text bytes at

-- bytes that are no text from a place on
unfoldable pub not_utf8_words : List ℕ → ℕ → List ℕ
not_utf8_words bytes at = kind_line NotUtf8 ++ place_lines false bytes at

-- a text that is no document, by a place in it and a reason
unfoldable pub not_toml_words : List ℕ → ℕ → List ℕ → List ℕ
not_toml_words bytes at reason = kind_line NotToml ++ (place_lines true bytes at ++ (codes "the reader of TOML says: " ++ (reason ++ codes "\n")))

-- a place within the text, and a reason, which are those of the reader of TOML
pub record IsNoToml (bytes lines : List ℕ) : Type 0 where
  pub at : ℕ
  pub reason : List ℕ
  pub within : at ≤ length bytes
  pub is : lines ≡ not_toml_words bytes at reason

-- the lines about a text that is refused for this fault as such a document
abbrev pub IsTextExplained : Document → List ℕ → Fault → List ℕ → Type 0
IsTextExplained document text f lines =
    ((parse_document text ≡ None) × IsNoToml text lines)
    ⊎ ((root : Members) × (parse_document text ≡ Some root) × (lines ≡ fault_words document (table root) f))

-- and about such bytes
abbrev pub IsExplained : Document → List ℕ → Fault → List ℕ → Type 0
IsExplained document bytes f lines = (¬ IsUtf8 bytes × (lines ≡ not_utf8_words bytes (utf8_valid_len bytes))) ⊎ (IsUtf8 bytes × IsTextExplained document bytes f lines)

-- lines were added of which this holds
pub record Adds (P : List ℕ → Type 0) (old new : List ℕ) : Type 0 where
  pub lines : List ℕ
  pub said : P lines
  pub added : new ≡ old ++ lines
