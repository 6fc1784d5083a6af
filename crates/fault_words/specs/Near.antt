-- Which key was meant by one that isn't known.
use Rattle.std.specs.Prelude.{ℕ, ◌&&◌, ◌||◌, not, nat_eq, nat_le, List, [], ◌∷◌, length, Bool, Option, None, Some, is_some, unwrap_or}
use Rattle.std.specs.Str.{chars}
use Rattle.std.specs.List.{find, list_all}
use Rattle.strsim.specs.Edits.{levenshtein_row}
use Rattle.toml.specs.Data.{Data}
use Rattle.artery_model.specs.Limits.{is_text}
use Rattle.artery_model.specs.declared.kind.Kind.{Kind}
use Rattle.artery_model.specs.declared.kind.Kind.TheVariants.{UnknownKey}
use Rattle.description_reader.specs.KeyTable.{Key, keys_of, is_in}
use Rattle.description_reader.specs.Keys.{may_stand}
use Rattle.description_reader.specs.Values.{keys_in}
use Rattle.description_reader.specs.declared.place.TableFacts.{TableFacts}
use Rattle.description_reader.specs.declared.place.Section.{Section}
use Rattle.description_reader.specs.declared.place.Section.TheVariants.{Root, Artery, Signal, Link, PlanRoot, Plan}

-- how many letters are to be changed, left out or put in
abbrev pub distance : List ℕ → List ℕ → ℕ
distance a b = levenshtein_row nat_eq (chars a) (chars b) (length (chars b))

-- the most such letters
abbrev pub most_letters : ℕ
most_letters = 2

-- a table of the section may have the key
abbrev pub is_here : TableFacts → Section → Key → Bool
is_here facts section k = is_in facts k.when && may_stand facts.links section k.presence

-- the key of this name that a table of the section may have, and one that it has in some file
abbrev pub known_key : TableFacts → Section → List ℕ → Option Key
known_key facts section name = find (λ k. is_text name k.name && is_here facts section k) (keys_of section)

abbrev pub named_key : Section → List ℕ → Option Key
named_key section name = find (λ k. is_text name k.name) (keys_of section)

-- no key that may stand there is nearer
abbrev pub is_nearest : TableFacts → Section → List ℕ → ℕ → Bool
is_nearest facts section name far = list_all (λ k. not (is_here facts section k) || nat_le far (distance name k.name)) (keys_of section)

abbrev pub is_meant : TableFacts → Section → List ℕ → Key → Bool
is_meant facts section name k =
    is_here facts section k && (nat_le (distance name k.name) most_letters && is_nearest facts section name (distance name k.name))

-- the first of the nearest keys, where they are near
unfoldable pub meant_key : TableFacts → Section → List ℕ → Option Key
meant_key facts section name = find (is_meant facts section name) (keys_of section)

-- ---- a key of another table
-- the tables of the form that a table is one of, in the order in which they are read
abbrev pub tables_beside : Section → List Section
tables_beside PlanRoot = PlanRoot ∷ Plan ∷ []
tables_beside Plan = PlanRoot ∷ Plan ∷ []
tables_beside _ = Root ∷ Artery ∷ Signal 1 ∷ Link 1 ∷ []

-- the first that has a key of this name in some file
abbrev pub home_of : Section → List ℕ → Option Section
home_of section name = find (λ s. is_some (named_key s name)) (tables_beside section)

-- ---- a key as it stands in the file
-- the first of a table that isn't known
abbrev pub unknown_in : TableFacts → Section → Option Data → Option (List ℕ)
unknown_in facts section None = None
unknown_in facts section (Some d) = find (λ name. not (is_some (known_key facts section name))) (keys_in d)

-- the path of a key that isn't known has a question mark where the key has other letters than a printed key may have
abbrev pub key_meant : Kind → TableFacts → Section → Option Data → List ℕ → List ℕ
key_meant UnknownKey facts section d key = unwrap_or (unknown_in facts section d) key
key_meant kind facts section d key = key
