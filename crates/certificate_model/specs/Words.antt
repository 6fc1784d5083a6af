-- Bytes cut at a byte, and the words of a line.
use Rattle.std.specs.Prelude.{ℕ, ◌==◌, nat_eq, List, [], ◌∷◌, ◌++◌, Bool, Option, None, Some, option_map, if◌then◌else◌}
use Rattle.std.specs.Cmp.Lexicographic.{pointwise}

-- two texts have the same bytes
abbrev pub is_text : List ℕ → List ℕ → Bool
is_text x y = pointwise nat_eq x y

-- what stands before the first of these bytes, and what follows it
abbrev pub cut : ℕ → List ℕ → Option (List ℕ × List ℕ)
cut b [] = None
cut b (x ∷ xs) = if x == b then Some ([], xs) else option_map (λ (p : List ℕ × List ℕ). (x ∷ p.0, p.1)) (cut b xs)

-- the words with a byte before the first of them
abbrev pub with_byte : ℕ → List (List ℕ) → List (List ℕ)
with_byte b [] = (b ∷ []) ∷ []
with_byte b (w ∷ ws) = (b ∷ w) ∷ ws

-- words are parted by one space each, so between two spaces there is an empty word
abbrev pub words : List ℕ → List (List ℕ)
words [] = [] ∷ []
words (b ∷ bs) = if b == 32 then [] ∷ words bs else with_byte b (words bs)

-- the line of these words, one space between each two
abbrev pub after_space : List (List ℕ) → List ℕ
after_space [] = []
after_space (w ∷ ws) = 32 ∷ (w ++ after_space ws)

abbrev pub line_of : List (List ℕ) → List ℕ
line_of [] = []
line_of (w ∷ ws) = w ++ after_space ws
