-- That no kind of fault and no key is without its words, and that what is told is about the fault's own place.
use Rattle.std.specs.Prelude.{◌≡◌, ◌<◌, ◌&&◌, ◌||◌, ◌==◌, not, nat_lt, slice_index, ℕ, List, [], ◌∷◌, length, map, Bool, true, false, Option, None, Some, option_and_then, ℤ, pos, codes, if◌then◌else◌}
use Rattle.std.specs.List.{list_all, list_any}
use Rattle.toml.specs.Data.{Data, get, table}
use Rattle.toml.specs.Parse.{parse_document}
use Rattle.artery_model.specs.Faults.{Fault}
use Rattle.artery_model.specs.Limits.{is_text}
use Rattle.artery_model.specs.declared.kind.Kind.{Kind}
use Rattle.artery_model.specs.declared.kind.Kind.TheVariants.{UnknownKey}
use Rattle.description_reader.specs.Checks.{meets}
use Rattle.description_reader.specs.KeyTable.{Key, keys_of}
use Rattle.description_reader.specs.Keys.{printed, unknown_key}
use Rattle.description_reader.specs.Places.{key_place, item_place}
use Rattle.description_reader.specs.Values.{items_in}
use Rattle.description_reader.specs.declared.key_table.Demands.{Demands}
use Rattle.description_reader.specs.declared.key_table.When.{When}
use Rattle.description_reader.specs.declared.place.Section.{Section}
use Rattle.description_reader.specs.declared.place.Section.TheVariants.{Root, Artery, Signal, Link, PlanRoot, Plan}
use Rattle.description_reader.specs.declared.place.TableFacts.{TableFacts}
use Rattle.fault_words.specs.Examples.{Sample, sample_at, unit_in}
use Rattle.fault_words.specs.Near.{key_meant}
use Rattle.fault_words.specs.Places.{section_at, key_at, item_at, section_number}
use Rattle.fault_words.specs.Sentences.{kind_line, absent_line}
use Rattle.fault_words.specs.TextWords.{line_byte}
use Rattle.fault_words.specs.Wants.{type_words}
use Rattle.fault_words.specs.declared.place.Document.{Document}
use Rattle.fault_words.specs.declared.place.Document.TheVariants as document

-- a value and its items are what they must be, where the cycle has this many parts
abbrev pub keeps : ℤ → Demands → Data → Bool
keeps parts demands d = meets parts demands.value d && list_all (meets parts demands.item) (items_in d)

-- the value that the lines of an example give its key
abbrev pub given_by : List ℕ → Option Sample → Option Data
given_by name None = None
given_by name (Some s) = option_and_then (λ ms. get name (table ms)) (parse_document s.lines)

abbrev pub is_kept : (Data → Bool) → Option Data → Bool
is_kept test None = false
is_kept test (Some d) = test d

-- the example of a key is a document in which it has a value of its types, and one within its limits
abbrev pub is_typed : Section → Key → Bool
is_typed section k = is_kept (keeps (pos 100) k.types) (given_by k.name (sample_at section k.name))

abbrev pub is_limited : Section → Key → Bool
is_limited section k = is_kept (keeps (pos 100) k.ranges) (given_by k.name (sample_at section k.name))

abbrev pub has_words : Key → Bool
has_words k = slice_index (type_words k.types.value) 0 == 32

-- ---- places
-- the mark is none of these bytes
abbrev pub lacks : ℕ → List ℕ → Bool
lacks mark bytes = list_all (λ b. not (b == mark)) bytes

-- a key that a path can name: not empty, and without a point and a bracket
abbrev pub can_stand : List ℕ → Bool
can_stand key = nat_lt 0 (length key) && (lacks 46 key && lacks 91 key)

-- a document has such a table
abbrev pub is_of : Document → Section → Bool
is_of document.Street PlanRoot = false
is_of document.Plan Root = false
is_of document section = true

-- the path is taken for that of this table, key and item, counted from 1 or 0 for the value itself
pub record IsToldAs (document : Document) (path : List ℕ) (section : Section) (key : List ℕ) (item : ℕ) : Type 0 where
  pub table : section_at document path ≡ section
  pub name : key_at path ≡ key
  pub number : item_at path ≡ item

-- the place that is told is that of the fault, up to ten million signals, links and values
pub record PlacesAreTold : Type 0 where
  pub keys : (document : Document) (section : Section) (key : List ℕ) → is_of document section ≡ true → section_number section < 10000000 → can_stand key ≡ true
      → IsToldAs document (key_place section key) section key 0
  pub items : (document : Document) (section : Section) (key : List ℕ) (i : ℕ) → is_of document section ≡ true → section_number section < 10000000 → can_stand key ≡ true
      → i < 10000000 → IsToldAs document (item_place section key i) section key i

-- the key that is told of a table whose keys have a fault: that of which the fault is, whatever the path shows in its place
pub record UnknownIsTold : Type 0 where
  pub named : (facts : TableFacts) (section : Section) (d : Data) (shown : List ℕ) (f : Fault) → unknown_key facts section d ≡ Some f
      → f ≡ record { kind = UnknownKey; place = key_place section (printed (key_meant UnknownKey facts section (Some d) shown)) }

-- of bytes that are no text nothing beyond ASCII is told
abbrev pub is_ascii : ℕ → Bool
is_ascii b = nat_lt b 128

abbrev pub LinesAreAscii : Type 0
LinesAreAscii = (line : List ℕ) → list_all is_ascii (map (line_byte false) line) ≡ true

-- ---- words
-- the keys whose numbers have a unit; those of the others are parts of the cycle, patterns, versions or a ratio
abbrev pub measured_keys : List (List ℕ)
measured_keys =
    codes "cycle" ∷ codes "offset" ∷ codes "travel_out" ∷ codes "travel_in" ∷ codes "least_out" ∷ codes "least_in" ∷ codes "distance_out" ∷ codes "distance_in"
    ∷ codes "speed_out" ∷ codes "speed_in" ∷ codes "change_out" ∷ codes "change_in" ∷ []

-- just these keys have the words of a unit
abbrev pub has_its_unit : Section → Key → Bool
has_its_unit section k =
    let size = length (unit_in (sample_at section k.name)) in if list_any (is_text k.name) measured_keys then nat_lt 0 size else size == 0

-- of a key that is a list of tables the example is one of them, and of a street's signals one is too few
abbrev pub is_limited_but_signal : Key → Bool
is_limited_but_signal k = is_text k.name (codes "signal") || is_limited Root k

-- each kind and each reason has its sentence; each key says what it wants, in its unit, and has an example of its types and, but for `signal`, within its limits
pub record AllHaveWords : Type 0 where
  pub kinds : (kind : Kind) → 0 < length (kind_line kind)
  pub reasons : (when : When) → 0 < length (absent_line when)
  pub wanted : (section : Section) → list_all has_words (keys_of section) ≡ true
  pub typed : (section : Section) → list_all (is_typed section) (keys_of section) ≡ true
  pub units : (section : Section) → list_all (has_its_unit section) (keys_of section) ≡ true
  pub root : list_all is_limited_but_signal (keys_of Root) ≡ true
  pub artery : list_all (is_limited Artery) (keys_of Artery) ≡ true
  pub signal : (i : ℕ) → list_all (is_limited (Signal i)) (keys_of (Signal i)) ≡ true
  pub link : (i : ℕ) → list_all (is_limited (Link i)) (keys_of (Link i)) ≡ true
  pub plan_root : list_all (is_limited PlanRoot) (keys_of PlanRoot) ≡ true
  pub plan : list_all (is_limited Plan) (keys_of Plan) ≡ true
