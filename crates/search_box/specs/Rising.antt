-- Up to four numbers in rising order.
use Rattle.std.specs.Prelude.{ℕ, List, [], ◌∷◌}
use Rattle.search_box.specs.declared.shifts.Rising.{Rising}
use Rattle.search_box.specs.declared.shifts.Rising.TheVariants as rising

abbrev pub list_of : Rising → List ℕ
list_of rising.None = []
list_of (rising.One a) = a ∷ []
list_of (rising.Two a b) = a ∷ b ∷ []
list_of (rising.Three a b c) = a ∷ b ∷ c ∷ []
list_of (rising.Four a b c d) = a ∷ b ∷ c ∷ d ∷ []
