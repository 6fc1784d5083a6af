-- A line of a text, as it is shown: at most 200 bytes of it, and a question mark for each byte that is no plain letter, digit, mark or blank.
use Rattle.std.specs.Prelude.{ℕ, zero, suc, ◌-◌, ◌==◌, nat_le, nat_lt, ◌&&◌, if◌then◌else◌, Bool, List, ◌++◌, length, map, take, count_by, codes}
use Rattle.std.specs.List.{before_first, after_first}
use Rattle.file_kind.specs.Kinds.{is_feed}

-- what follows the first n line feeds
abbrev pub from_line : List ℕ → ℕ → List ℕ
from_line bytes zero = bytes
from_line bytes (suc n) = after_first is_feed (from_line bytes n)

-- the line with this number, counted from 1, without its line feed; empty where there are fewer
abbrev pub line_of_text : List ℕ → ℕ → List ℕ
line_of_text bytes line = before_first is_feed (from_line bytes (line - 1))

-- what stands between two words
abbrev pub is_blank : ℕ → Bool
is_blank b = b == 32

abbrev pub first_word : List ℕ → List ℕ
first_word line = before_first is_blank line

abbrev pub after_word : List ℕ → List ℕ
after_word line = after_first is_blank line

-- the last one of two or three
abbrev pub last_word : List ℕ → List ℕ
last_word line = if count_by is_blank line == 1 then after_word line else after_word (after_word line)

abbrev pub most_shown : ℕ
most_shown = 200

abbrev pub visible : ℕ → ℕ
visible b = if nat_le 32 b && nat_lt b 127 then b else 63

abbrev pub after_shown : List ℕ → List ℕ
after_shown line = if nat_lt most_shown (length line) then codes " ..\n" else codes "\n"

unfoldable pub shown_text : List ℕ → List ℕ
shown_text line = map visible (take most_shown line) ++ after_shown line
