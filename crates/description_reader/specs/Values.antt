-- What a look into a TOML value finds.
use Rattle.std.specs.Prelude.{ℕ, List, [], ◌∷◌, Bool, false, is_some, unwrap_or, option_map}
use Rattle.toml.specs.Data.{Data, array, Items, no_items, item, Members, no_members, member, get, as_array, as_bool, as_str, as_table}

-- a table has a key
abbrev pub has : Data → List ℕ → Bool
has d name = is_some (get name d)

-- the value at a key; where there is none, one that reads as no text, no items, no keys, the number 0 and false
abbrev pub at_key : Data → List ℕ → Data
at_key d name = unwrap_or (get name d) (array no_items)

abbrev pub list_of : Items → List Data
list_of no_items = []
list_of (item d ds) = d ∷ list_of ds

-- the items of an array, none of any other value
abbrev pub items_in : Data → List Data
items_in d = unwrap_or (option_map list_of (as_array d)) []

-- the text of a value, empty for any other value
abbrev pub text_in : Data → List ℕ
text_in d = unwrap_or (as_str d) []

-- the truth of a boolean, false of any other value
abbrev pub flag_in : Data → Bool
flag_in d = unwrap_or (as_bool d) false

-- the keys of a table, in the order of their bytes
abbrev pub keys_of_members : Members → List (List ℕ)
keys_of_members no_members = []
keys_of_members (member key d ms) = key ∷ keys_of_members ms

abbrev pub keys_in : Data → List (List ℕ)
keys_in d = unwrap_or (option_map keys_of_members (as_table d)) []
