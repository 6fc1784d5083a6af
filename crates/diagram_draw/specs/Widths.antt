-- How wide texts are, in thousandths of the size of their letters: by what Helvetica, Arial, Liberation Sans and DejaVu Sans take at most for three
-- kinds of ASCII's letters. Each other letter counts as a whole.
use Rattle.std.specs.Prelude.{ℕ, ◌+◌, ◌*◌, ◌/◌, min, max, nat_le, ◌==◌, ◌&&◌, if◌then◌else◌, Bool, List, [], ◌∷◌, codes}
use Rattle.std.specs.List.{list_any}

abbrev pub narrow : List ℕ
narrow = codes " !'(),-./:;I[\\]fijlrt|"

abbrev pub middle : List ℕ
middle = codes "\"$*0123456789?FJLT_`abcdeghknopqsuvxyz{}"

abbrev pub broad : List ℕ
broad = codes "#&+<=>ABCDEGHKNOPQRSUVXYZ^w~"

abbrev pub is_among : List ℕ → ℕ → Bool
is_among letters b = list_any (λ c. c == b) letters

-- A byte of UTF-8: those from 128 to 191 go on with a letter.
abbrev pub byte_width : ℕ → ℕ
byte_width b = if is_among narrow b then 420 else if is_among middle b then 640 else if is_among broad b then 840 else if nat_le 128 b && nat_le b 191 then 0 else 1000

abbrev pub text_width : List ℕ → ℕ
text_width [] = 0
text_width (b ∷ text) = byte_width b + text_width text

-- ---- sizes
abbrev pub title_size : ℕ
title_size = 330

abbrev pub subtitle_size : ℕ
subtitle_size = 220

abbrev pub facts_size : ℕ
facts_size = 165

abbrev pub name_size : ℕ
name_size = 150

-- the size of letters in which a text of this width fits into so much room: the usual size, or a smaller one
abbrev pub fitting : ℕ → ℕ → ℕ → ℕ
fitting usual room width = min usual (room * 1000 / max 1 width)
