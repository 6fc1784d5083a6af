-- What a value of a description must be, and the faults of values that aren't.
use Rattle.std.specs.Prelude.{◌&&◌, ◌||◌, ℕ, List, [], ◌∷◌, length, Bool, true, Option, None, is_some, unwrap_or, option_map, ℤ, int_lt, int_le, codes}
use Rattle.toml.specs.Data.{Data, get, as_integer, as_bool, as_str, as_array, as_table}
use Rattle.rational_theory.specs.Rational.{whole}
use Rattle.artery_model.specs.Faults.{Fault, first_fault, unless, each_numbered}
use Rattle.artery_model.specs.Limits.{at_most, is_name, in_range, is_text, within}
use Rattle.artery_model.specs.declared.kind.Kind.{Kind}
use Rattle.artery_model.specs.declared.kind.Kind.TheVariants as kind
use Rattle.description_reader.specs.Quantity.{quantity_in, number_in, integer_in}
use Rattle.description_reader.specs.References.{reference_named}
use Rattle.description_reader.specs.Values.{has, at_key, items_in, text_in}
use Rattle.description_reader.specs.KeyTable.{both}
use Rattle.description_reader.specs.Places.{key_place, item_place}
use Rattle.description_reader.specs.declared.place.Section.{Section}
use Rattle.description_reader.specs.declared.key_table.Demands.{Demands}
use Rattle.description_reader.specs.declared.key_table.Presence.{Presence}
use Rattle.description_reader.specs.declared.key_table.Presence.TheVariants.{Needed}
use Rattle.description_reader.specs.declared.demand.Demand.{Demand}
use Rattle.description_reader.specs.declared.demand.Demand.TheVariants as demand

-- the value is what it must be, where the cycle has this many parts
abbrev pub meets : ℤ → Demand → Data → Bool
meets parts demand.Anything d = true
meets parts demand.Table d = is_some (as_table d)
meets parts demand.Array d = is_some (as_array d)
meets parts (demand.Length least most) d = in_range least most (length (items_in d))
meets parts demand.Integer d = is_some (as_integer d)
meets parts demand.Boolean d = is_some (as_bool d)
meets parts demand.Text d = is_some (as_str d)
meets parts demand.Quantity d = is_some (as_integer d) || is_some (as_str d)
meets parts demand.Number d = is_some (quantity_in d)
meets parts demand.Units d = is_text (text_in d) (codes "metric") || is_text (text_in d) (codes "english")
meets parts demand.Reference d = is_some (reference_named (text_in d))
meets parts demand.Name d = is_name (text_in d)
meets parts (demand.Between least most) d = int_le least (integer_in d) && int_le (integer_in d) most
meets parts (demand.BelowParts least) d = int_le least (integer_in d) && int_lt (integer_in d) parts
meets parts (demand.Within least most) d = within (whole least) (whole most) (number_in d)
meets parts (demand.Written least most) d = at_most (whole least) (number_in d) && at_most (number_in d) (whole most)

-- where a quantity stands, a text must be of the grammar of quantities
abbrev pub number_of : Demand → Demand
number_of demand.Quantity = demand.Number
number_of _ = demand.Anything

abbrev pub numbers_of : Demands → Demands
numbers_of types = both (number_of types.value) (number_of types.item)

-- a needed key is absent
abbrev pub missing : Presence → Section → List ℕ → Data → Option Fault
missing Needed section name d = unless (has d name) kind.Missing (key_place section name)
missing _ section name d = None

module _ (kind : Kind) (parts : ℤ) (section : Section) where
  -- the value at a key, where there is one, isn't what it must be
  unfoldable pub value_fault : Demand → List ℕ → Data → Option Fault
  value_fault demand name d = unless (unwrap_or (option_map (meets parts demand) (get name d)) true) kind (key_place section name)

  abbrev pub item_fault : Demand → List ℕ → ℕ → Data → Option Fault
  item_fault demand name i d = unless (meets parts demand d) kind (item_place section name i)

  -- the first item of the array at a key that isn't what it must be
  unfoldable pub items_fault : Demand → List ℕ → Data → Option Fault
  items_fault demand name d = first_fault (each_numbered (item_fault demand name) 1 (items_in (at_key d name)))

  -- the value at a key, and then its items
  abbrev pub demands_fault : Demands → List ℕ → Data → Option Fault
  demands_fault demands name d = first_fault (value_fault demands.value name d ∷ items_fault demands.item name d ∷ [])
