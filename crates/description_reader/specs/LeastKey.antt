-- Which unknown key of a table is named.
use Rattle.std.specs.Prelude.{◌≡◌, ℕ, List, true, false, None, Some}
use Rattle.std.specs.Ordering.{nat_cmp, is_le}
use Rattle.std.specs.Cmp.Lexicographic.{slice_cmp}
use Rattle.toml.specs.Data.{Data, Members, table, members_are_sorted}
use Rattle.artery_model.specs.Faults.{Fault}
use Rattle.artery_model.specs.declared.kind.Kind.TheVariants.{UnknownKey}
use Rattle.description_reader.specs.Values.{has}
use Rattle.description_reader.specs.Places.{key_place}
use Rattle.description_reader.specs.Keys.{is_known, printed, unknown_key}
use Rattle.description_reader.specs.declared.place.TableFacts.{TableFacts}
use Rattle.description_reader.specs.declared.place.Section.{Section}

-- a key of the table that no description has, and the least such key by its bytes
pub record IsLeastUnknown (facts : TableFacts) (section : Section) (d : Data) (key : List ℕ) : Type 0 where
  pub stands : has d key ≡ true
  pub unknown : is_known facts section key ≡ false
  pub least : (other : List ℕ) → has d other ≡ true → is_known facts section other ≡ false → is_le (slice_cmp nat_cmp key other) ≡ true

-- the fault is that of such a key
abbrev pub IsOfLeast : TableFacts → Section → Data → Fault → Type 0
IsOfLeast facts section d f = (key : List ℕ) × IsLeastUnknown facts section d key × (f ≡ record { kind = UnknownKey; place = key_place section (printed key) })

-- a table has no fault of its keys where each is known, and else, where its keys ascend as those of every table do, that of the least
pub record KeysAreJudged : Type 0 where
  pub known : (facts : TableFacts) (section : Section) (ms : Members) → unknown_key facts section (table ms) ≡ None
      → (key : List ℕ) → has (table ms) key ≡ true → is_known facts section key ≡ true
  pub least : (facts : TableFacts) (section : Section) (ms : Members) (f : Fault) → members_are_sorted ms ≡ true → unknown_key facts section (table ms) ≡ Some f
      → IsOfLeast facts section (table ms) f
