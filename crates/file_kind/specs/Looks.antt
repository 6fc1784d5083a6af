-- What bytes look like that are no text and no document of maxband, by what they begin with.
use Rattle.std.specs.Prelude.{ℕ, ◌==◌, ◌-◌, ◌||◌, nat_eq, List, [], ◌∷◌, length, Bool, slice_index, codes, if◌then◌else◌}
use Rattle.std.specs.List.{starts_with}
use Rattle.file_kind.specs.Kinds.{first_line}
use Rattle.file_kind.specs.declared.look.Look.{Look}
use Rattle.file_kind.specs.declared.look.Look.TheVariants.{Empty, Utf16, Marked, WindowsLines, OtherText, Picture, Table, Other}

abbrev pub begins : List ℕ → List ℕ → Bool
begins bytes start = starts_with nat_eq bytes start

-- the mark that texts of sixteen bits begin with, in either order
abbrev pub is_utf16 : List ℕ → Bool
is_utf16 bytes = begins bytes (255 ∷ 254 ∷ []) || begins bytes (254 ∷ 255 ∷ [])

-- a text of maxband behind the mark of three bytes that some editors put before a text
abbrev pub is_marked : List ℕ → Bool
is_marked bytes = begins bytes (239 ∷ 187 ∷ 191 ∷ codes "maxband-")

-- the first line ends as on Windows
abbrev pub has_return : List ℕ → Bool
has_return bytes = slice_index (first_line bytes) (length (first_line bytes) - 1) == 13

abbrev pub is_picture : List ℕ → Bool
is_picture bytes = begins bytes (codes "<svg") || begins bytes (codes "<?xml")

-- the first fields of the tables of `sweep`, `sensitivity` and `sheet`
abbrev pub is_table : List ℕ → Bool
is_table bytes = begins bytes (codes "cycle,verdict,") || (begins bytes (codes "change,place,") || begins bytes (codes "signal,name,"))

-- the first of these that holds
abbrev pub look_of : List ℕ → Look
look_of bytes =
    if length bytes == 0 then Empty
    else (if is_utf16 bytes then Utf16
    else (if is_marked bytes then Marked
    else (if begins bytes (codes "maxband-") then (if has_return bytes then WindowsLines else OtherText)
    else (if is_picture bytes then Picture
    else (if is_table bytes then Table
    else Other)))))

abbrev pub look_line : Look → List ℕ
look_line Empty = codes "the file is empty\n"
look_line Utf16 = codes "it looks like UTF-16, which some editors write: save it as UTF-8\n"
look_line Marked = codes "it looks like a text of maxband behind a byte order mark, as some editors write one: save it as UTF-8 without the mark, with line feeds alone\n"
look_line WindowsLines = codes "it looks like a text of maxband whose lines end as on Windows: a text has line feeds alone\n"
look_line OtherText = codes "it begins as a text of maxband, but of no kind and version that this program reads\n"
look_line Picture = codes "it looks like a picture, as draw puts one: a picture can't be read back\n"
look_line Table = codes "it looks like a table, as sweep, sensitivity and sheet put one: a table can't be read back\n"
look_line Other = []
