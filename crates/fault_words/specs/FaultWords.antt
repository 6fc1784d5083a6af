-- The lines about a fault of a document.
use Rattle.std.specs.Prelude.{ℕ, ◌+◌, ◌-◌, ◌==◌, nat_lt, List, [], ◌∷◌, ◌++◌, length, Option, None, Some, unwrap_or, ℤ, codes, if◌then◌else◌}
use Rattle.std.specs.Fmt.{decimal, signed_decimal}
use Rattle.std.specs.List.{flat_map}
use Rattle.toml.specs.Data.{Data, array, no_items}
use Rattle.artery_model.specs.Faults.{Fault}
use Rattle.artery_model.specs.declared.kind.Kind.{Kind}
use Rattle.artery_model.specs.Bounds.{least_signals}
use Rattle.artery_model.specs.Limits.{is_text}
use Rattle.artery_model.specs.declared.kind.Kind.TheVariants.{Missing, CountMismatch, RepeatedName, NoGreen}
use Rattle.description_reader.specs.Judgement.{facts_of}
use Rattle.description_reader.specs.KeyTable.{Key, keys_of}
use Rattle.description_reader.specs.Quantity.{integer_in}
use Rattle.description_reader.specs.Values.{at_key, items_in}
use Rattle.description_reader.specs.declared.place.TableFacts.{TableFacts}
use Rattle.description_reader.specs.declared.place.Section.{Section}
use Rattle.fault_words.specs.Examples.{sample_at, unit_in, example_in}
use Rattle.fault_words.specs.Near.{is_here, known_key, named_key, meant_key, home_of, key_meant}
use Rattle.fault_words.specs.Places.{section_at, key_at, item_at, table_of, value_of}
use Rattle.fault_words.specs.Sentences.{kind_line, absent_line, other_line}
use Rattle.fault_words.specs.Shown.{key_words, name_in, heading, section_words, value_words}
use Rattle.fault_words.specs.Wants.{wants, fineness}
use Rattle.fault_words.specs.declared.place.Document.{Document}
use Rattle.fault_words.specs.declared.place.Document.TheVariants as document

-- ---- where, and what stands there
abbrev pub item_suffix : ℕ → List ℕ
item_suffix item = if item == 0 then [] else codes ", value " ++ decimal item

unfoldable pub where_line : Data → Section → List ℕ → ℕ → List ℕ
where_line root section key item = codes "at " ++ (section_words root section ++ (codes ": " ++ (key_words key ++ (item_suffix item ++ codes "\n"))))

abbrev pub stands_line : Option Data → List ℕ
stands_line None = []
stands_line (Some d) = codes "there stands " ++ (value_words d ++ codes "\n")

-- ---- a key that is known
unfoldable pub wants_line : ℤ → Section → Key → List ℕ
wants_line parts section k = codes "wanted is" ++ (wants parts k ++ (unit_in (sample_at section k.name) ++ (fineness k ++ codes "\n")))

unfoldable pub known_lines : ℤ → Section → Key → List ℕ
known_lines parts section k = wants_line parts section k ++ (example_in (sample_at section k.name) ++ other_line k.when)

-- ---- and one that isn't
-- a key of another table
abbrev pub home_line : Option Section → List ℕ
home_line None = []
home_line (Some section) = codes "this key is one of " ++ (heading section ++ codes "\n")

-- the key that was meant, or else the table that has one of this name
abbrev pub meant_line : Section → List ℕ → Option Key → List ℕ
meant_line section name None = home_line (home_of section name)
meant_line section name (Some k) = codes "the nearest key here is " ++ (k.name ++ codes "\n")

-- a key of other files says why it is none of this one
abbrev pub reason_line : TableFacts → Section → List ℕ → Option Key → List ℕ
reason_line facts section name None = meant_line section name (meant_key facts section name)
reason_line facts section name (Some k) = absent_line k.when

abbrev pub key_here : TableFacts → Section → Key → List ℕ
key_here facts section k = if is_here facts section k then codes " " ++ k.name else []

unfoldable pub keys_line : TableFacts → Section → List ℕ
keys_line facts section = codes "the keys here are" ++ (flat_map (key_here facts section) (keys_of section) ++ codes "\n")

unfoldable pub unknown_lines : TableFacts → Section → List ℕ → List ℕ
unknown_lines facts section name = reason_line facts section name (named_key section name) ++ keys_line facts section

abbrev pub key_lines : TableFacts → Section → List ℕ → Option Key → List ℕ
key_lines facts section name None = unknown_lines facts section name
key_lines facts section name (Some k) = known_lines facts.parts section k

-- ---- numbers beside it
abbrev pub parts_at : Option Data → List ℕ → ℤ
parts_at d key = integer_in (at_key (unwrap_or d (array no_items)) key)

unfoldable pub parts_line : ℤ → List ℕ
parts_line parts = codes " together have to be less than the " ++ (signed_decimal parts ++ codes " parts of the cycle\n")

unfoldable pub sum_line : ℤ → Option Data → List ℕ → List ℕ
sum_line parts d key =
    codes "its red of " ++ (signed_decimal (parts_at d (codes "red")) ++ (codes " and this of " ++ (signed_decimal (parts_at d key) ++ parts_line parts)))

-- the number of the first signal with this name, counted from n
abbrev pub first_named : List ℕ → ℕ → List Data → Option ℕ
first_named name n [] = None
first_named name n (d ∷ ds) = if is_text name (name_in (Some d)) then Some n else first_named name (n + 1) ds

unfoldable pub twin_words : ℕ → List ℕ
twin_words i = codes "signal " ++ (decimal i ++ codes " has this name\n")

abbrev pub twin_line : Option ℕ → List ℕ
twin_line None = []
twin_line (Some i) = twin_words i

-- how many links a street with so many signals has
abbrev pub count_at : Data → List ℕ → ℕ
count_at d key = length (items_in (at_key d key))

unfoldable pub links_words : ℕ → List ℕ
links_words signals = codes "links wanted: " ++ (decimal (signals - 1) ++ (codes ", one fewer than the " ++ (decimal signals ++ codes " signals\n")))

-- not where there are too few signals for a street
abbrev pub links_line : ℕ → List ℕ
links_line signals = if nat_lt signals least_signals then [] else links_words signals

abbrev pub links_if_missing : List ℕ → ℕ → List ℕ
links_if_missing key signals = if is_text key (codes "link") then links_line signals else []

abbrev pub number_lines : Kind → ℤ → Data → Section → List ℕ → List ℕ
number_lines NoGreen parts root section key = sum_line parts (table_of root section) key
number_lines RepeatedName parts root section key = twin_line (first_named (name_in (table_of root section)) 1 (items_in (at_key root (codes "signal"))))
number_lines CountMismatch parts root section key = links_line (count_at root (codes "signal"))
number_lines Missing parts root section key = links_if_missing key (count_at root (codes "signal"))
number_lines kind parts root section key = []

-- ---- how many there are

unfoldable pub street_counts : Data → List ℕ
street_counts root = codes "counted: signal " ++ (decimal (count_at root (codes "signal")) ++ (codes ", link " ++ (decimal (count_at root (codes "link")) ++ codes "\n")))

-- how many values a list of the plan has
abbrev pub planned : Data → List ℕ → ℕ
planned root key = count_at (at_key root (codes "plan")) key

unfoldable pub list_count : Data → List ℕ → List ℕ
list_count root key = codes ", " ++ (key ++ (codes " " ++ decimal (planned root key)))

abbrev pub out_key : TableFacts → List ℕ
out_key facts = if facts.timed_out then codes "travel_out" else codes "speed_out"

abbrev pub back_key : TableFacts → List ℕ
back_key facts = if facts.timed_in then codes "travel_in" else codes "speed_in"

unfoldable pub plan_counts : TableFacts → Data → List ℕ
plan_counts facts root =
    codes "counted: offset " ++ (decimal (planned root (codes "offset")) ++ (list_count root (codes "patterns") ++ (list_count root (out_key facts)
    ++ (list_count root (back_key facts) ++ codes "\n"))))

abbrev pub count_lines : Document → TableFacts → Data → List ℕ
count_lines document.Street facts root = street_counts root
count_lines document.Plan facts root = plan_counts facts root

-- ---- the whole
-- at one place
unfoldable pub place_words : Data → TableFacts → Kind → Section → List ℕ → ℕ → List ℕ
place_words root facts kind section key item =
    where_line root section key item
    ++ (kind_line kind
    ++ (stands_line (value_of root section key item)
    ++ (key_lines facts section key (known_key facts section key)
    ++ number_lines kind facts.parts root section key)))

-- at the place of a table, of a key by its path, and of an item
abbrev pub path_words : Data → TableFacts → Kind → Section → List ℕ → ℕ → List ℕ
path_words root facts kind section key item = place_words root facts kind section (key_meant kind facts section (table_of root section) key) item

unfoldable pub fault_words : Document → Data → Fault → List ℕ
fault_words document root f = path_words root (facts_of root) f.kind (section_at document f.place) (key_at f.place) (item_at f.place) ++ count_lines document (facts_of root) root
