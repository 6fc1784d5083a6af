-- Keys that no description has.
use Rattle.std.specs.Prelude.{◌&&◌, ◌||◌, ◌==◌, not, ℕ, List, length, map, Bool, true, Option, codes, if◌then◌else◌}
use Rattle.std.specs.Char.{is_ascii_alphanumeric}
use Rattle.std.specs.List.{list_all, list_any}
use Rattle.toml.specs.Data.{Data}
use Rattle.artery_model.specs.Faults.{Fault, first_fault, unless}
use Rattle.artery_model.specs.Limits.{in_range, is_text}
use Rattle.artery_model.specs.declared.kind.Kind.TheVariants as kind
use Rattle.description_reader.specs.KeyTable.{keys_of, is_in}
use Rattle.description_reader.specs.Values.{keys_in}
use Rattle.description_reader.specs.Places.{key_place}
use Rattle.description_reader.specs.declared.key_table.Presence.{Presence}
use Rattle.description_reader.specs.declared.key_table.Presence.TheVariants.{NotLast}
use Rattle.description_reader.specs.declared.place.TableFacts.{TableFacts}
use Rattle.description_reader.specs.declared.place.Section.{Section}
use Rattle.description_reader.specs.declared.place.Section.TheVariants.{Link}

-- a key may stand in a table of its section; the last of the links has no limits of a change to the next
abbrev pub may_stand : ℕ → Section → Presence → Bool
may_stand links (Link i) NotLast = not (i == links)
may_stand links section presence = true

-- the keys of a table
abbrev pub is_known : TableFacts → Section → List ℕ → Bool
is_known facts section name = list_any (λ k. is_text name k.name && is_in facts k.when && may_stand facts.links section k.presence) (keys_of section)

-- letters, digits, `_` and `-`
abbrev pub is_key_character : ℕ → Bool
is_key_character b = is_ascii_alphanumeric b || (b == 95 || b == 45)

-- a key as it is printed: `?` where it has other characters, is empty or is longer than 40 bytes
abbrev pub printed : List ℕ → List ℕ
printed name = if in_range 1 40 (length name) && list_all is_key_character name then name else codes "?"

abbrev pub unknown_fault : TableFacts → Section → List ℕ → Option Fault
unknown_fault facts section name = unless (is_known facts section name) kind.UnknownKey (key_place section (printed name))

-- the first unknown key of a table, by the order of bytes
abbrev pub unknown_key : TableFacts → Section → Data → Option Fault
unknown_key facts section d = first_fault (map (unknown_fault facts section) (keys_in d))
