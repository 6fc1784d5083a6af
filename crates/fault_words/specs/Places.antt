-- Which table, key and item the path of a place names, and what stands there.
use Rattle.std.specs.Prelude.{ℕ, zero, suc, ◌+◌, ◌-◌, ◌*◌, ◌==◌, ◌&&◌, nat_lt, List, length, fold, Bool, Option, None, Some, option_and_then, slice_get, codes, bytes_eq, if◌then◌else◌}
use Rattle.std.specs.Char.{is_ascii_digit}
use Rattle.std.specs.List.{before_first, after_first}
use Rattle.toml.specs.Data.{Data, get}
use Rattle.description_reader.specs.Values.{at_key, items_in}
use Rattle.description_reader.specs.declared.place.Section.{Section}
use Rattle.description_reader.specs.declared.place.Section.TheVariants.{Root, Artery, Signal, Link, PlanRoot, Plan}
use Rattle.fault_words.specs.declared.place.Document.{Document}
use Rattle.fault_words.specs.declared.place.Document.TheVariants as document

-- what stands before the first such mark, all where there is none, and behind it, nothing where there is none
abbrev pub before : ℕ → List ℕ → List ℕ
before mark path = before_first (λ b. b == mark) path

abbrev pub behind : ℕ → List ℕ → List ℕ
behind mark path = after_first (λ b. b == mark) path

-- a path is that of a table, a dot and that of a key, or of a key alone
abbrev pub has_table : List ℕ → Bool
has_table path = nat_lt 0 (length (behind 46 path))

abbrev pub table_path : List ℕ → List ℕ
table_path path = if has_table path then before 46 path else codes ""

abbrev pub key_path : List ℕ → List ℕ
key_path path = if has_table path then behind 46 path else path

-- `speed_in[2]` has the name before the bracket and the number behind it; without one the number is 0
abbrev pub name_of : List ℕ → List ℕ
name_of path = before 91 path

-- a digit more, in numbers of at most seven
abbrev pub with_digit : ℕ → ℕ → ℕ
with_digit n b = if is_ascii_digit b && nat_lt n 1000000 then 10 * n + (b - 48) else n

abbrev pub number_of : List ℕ → ℕ
number_of path = fold with_digit 0 (behind 91 path)

-- ---- the three parts of a place
abbrev pub root_of : Document → Section
root_of document.Street = Root
root_of document.Plan = PlanRoot

abbrev pub section_named : Document → List ℕ → ℕ → Section
section_named document name i =
    if bytes_eq name (codes "signal") then Signal i
    else (if bytes_eq name (codes "link") then Link i
    else (if bytes_eq name (codes "artery") then Artery
    else (if bytes_eq name (codes "plan") then Plan
    else root_of document)))

abbrev pub section_at : Document → List ℕ → Section
section_at document path = section_named document (name_of (table_path path)) (number_of (table_path path))

abbrev pub key_at : List ℕ → List ℕ
key_at path = name_of (key_path path)

-- counted from 1, and 0 for the value itself
abbrev pub item_at : List ℕ → ℕ
item_at path = number_of (key_path path)

-- ---- what stands there
-- an item of a list, counted from 1
abbrev pub numbered : ℕ → List Data → Option Data
numbered zero ds = None
numbered (suc i) ds = slice_get ds i

abbrev pub table_of : Data → Section → Option Data
table_of root Root = Some root
table_of root PlanRoot = Some root
table_of root Artery = get (codes "artery") root
table_of root Plan = get (codes "plan") root
table_of root (Signal i) = numbered i (items_in (at_key root (codes "signal")))
table_of root (Link i) = numbered i (items_in (at_key root (codes "link")))

abbrev pub value_in : List ℕ → ℕ → Data → Option Data
value_in key zero d = get key d
value_in key (suc i) d = slice_get (items_in (at_key d key)) i

abbrev pub value_of : Data → Section → List ℕ → ℕ → Option Data
value_of root section key item = option_and_then (value_in key item) (table_of root section)

-- the number of a signal or a link, 0 of any other table
abbrev pub section_number : Section → ℕ
section_number (Signal i) = i
section_number (Link i) = i
section_number _ = 0
