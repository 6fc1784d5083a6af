-- How a value is told, and what a table is called.
use Rattle.std.specs.Prelude.{ℕ, ◌+◌, ◌==◌, ◌&&◌, ◌||◌, nat_lt, nat_le, List, [], ◌++◌, length, map, Bool, true, false, Option, None, Some, codes, if◌then◌else◌}
use Rattle.std.specs.Fmt.{decimal, signed_decimal}
use Rattle.std.specs.List.{flat_map, list_all}
use Rattle.toml.specs.Data.{Data, string, integer, float, boolean, datetime, array, table}
use Rattle.description_reader.specs.Keys.{is_key_character}
use Rattle.description_reader.specs.Values.{at_key, items_in, text_in}
use Rattle.description_reader.specs.declared.place.Section.{Section}
use Rattle.description_reader.specs.declared.place.Section.TheVariants.{Root, Artery, Signal, Link, PlanRoot, Plan}
use Rattle.fault_words.specs.Places.{table_of}

-- the most bytes of a text that is told, and the most items of a list that are
abbrev pub most_told : ℕ
most_told = 60

abbrev pub most_listed : ℕ
most_listed = 4

-- a control character is told as this byte
abbrev pub plain : ℕ → ℕ → ℕ
plain mark b = if nat_lt b 32 || b == 127 then mark else b

-- a text without control characters: each is a question mark
abbrev pub plain_text : List ℕ → List ℕ
plain_text text = map (plain 63) text

-- a text between quotes, or how long it is
unfoldable pub quoted : List ℕ → List ℕ
quoted text =
    if nat_le (length text) most_told then codes "\"" ++ (plain_text text ++ codes "\"") else codes "a text of " ++ (decimal (length text) ++ codes " bytes")

abbrev pub truth : Bool → List ℕ
truth true = codes "true"
truth false = codes "false"

-- how many values a list has
unfoldable pub list_size : ℕ → List ℕ
list_size n = codes "a list of " ++ (decimal n ++ (if n == 1 then codes " value" else codes " values"))

-- a value, of a list only how many it has
abbrev pub item_words : Data → List ℕ
item_words (string text) = quoted text
item_words (integer z) = signed_decimal z
item_words (float x) = codes "a number with a point, without quotes"
item_words (boolean b) = truth b
item_words (datetime when) = codes "a date or a time"
item_words (array ds) = list_size (length (items_in (array ds)))
item_words (table ms) = codes "a table"

-- the items of a short list
unfoldable pub listed : List Data → List ℕ
listed ds = if nat_le (length ds) most_listed then flat_map (λ d. codes ", " ++ item_words d) ds else []

-- a value, with the items of a short list
unfoldable pub value_words : Data → List ℕ
value_words d = item_words d ++ listed (items_in d)

-- a key as it is typed: between quotes where it has other letters than those of a bare key, or is long
abbrev pub is_bare : List ℕ → Bool
is_bare key = nat_lt 0 (length key) && (nat_le (length key) most_told && list_all is_key_character key)

unfoldable pub key_words : List ℕ → List ℕ
key_words key = if is_bare key then key else quoted key

-- ---- tables
-- the name in a table
abbrev pub name_in : Option Data → List ℕ
name_in None = []
name_in (Some d) = text_in (at_key d (codes "name"))

-- a name that can be told
abbrev pub has_name : List ℕ → Bool
has_name name = nat_lt 0 (length name) && nat_le (length name) most_told

-- a signal by its name, or else by its number
unfoldable pub called : Data → ℕ → List ℕ
called root i =
    let name = name_in (table_of root (Signal i)) in if has_name name then plain_text name else codes "signal " ++ decimal i

-- a signal with both
unfoldable pub signal_words : Data → ℕ → List ℕ
signal_words root i =
    let name = name_in (table_of root (Signal i)) in codes "signal " ++ (decimal i ++ (if has_name name then codes ", " ++ plain_text name else []))

unfoldable pub link_words : Data → ℕ → List ℕ
link_words root i = codes "link " ++ (decimal i ++ (codes ", " ++ (called root i ++ (codes " to " ++ called root (i + 1)))))

-- how a table is headed
abbrev pub heading : Section → List ℕ
heading Root = codes "the top of the file"
heading PlanRoot = codes "the top of the file"
heading Artery = codes "[artery]"
heading Plan = codes "[plan]"
heading (Signal i) = codes "[[signal]]"
heading (Link i) = codes "[[link]]"

abbrev pub section_words : Data → Section → List ℕ
section_words root (Signal i) = signal_words root i
section_words root (Link i) = link_words root i
section_words root section = heading section
