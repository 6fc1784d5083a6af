-- How a command is asked for, its line of the help, and what the help has of it alone.
use Rattle.std.specs.Prelude.{ℕ, ◌-◌, List, [], ◌∷◌, ◌++◌, length, replicate, codes, map, flat_map, if◌then◌else◌}
use Rattle.std.specs.Fmt.{decimal}
use Rattle.run_inputs.specs.Labels.{Label, reader_label}
use Rattle.run_inputs.specs.Reading.{most_bytes}
use Rattle.run_inputs.specs.declared.reader.ReadAs.{ReadAs}
use Rattle.run_commands.specs.Settings.{setting_label}
use Rattle.run_commands.specs.Rows.{Row, Page}
use Rattle.run_commands.specs.declared.page.TheConstants.{COMMON_LINES}

-- a file that is read, with the most bytes that it may have
abbrev pub file_label : ReadAs → Label
file_label r = record { name = (reader_label r).name; text = (reader_label r).text ++ (codes ", at most " ++ (decimal (most_bytes r) ++ codes " bytes")) }

-- the file that is put, where there is one
abbrev pub put_labels : Row → Page → List Label
put_labels r p = if r.puts then record { name = r.put_name; text = p.put } ∷ [] else []

-- this of each word behind a command's, in their order
abbrev pub each_word : (Label → List ℕ) → Row → Page → List ℕ
each_word f r p = flat_map f (map file_label r.reads) ++ (flat_map f (put_labels r p) ++ flat_map f (map setting_label r.settings))

abbrev pub name_text : Label → List ℕ
name_text l = 32 ∷ l.name

abbrev pub label_line : Label → List ℕ
label_line l = l.name ++ (codes ": " ++ (l.text ++ codes "\n"))

-- how it is asked for
abbrev pub usage_text : Row → Page → List ℕ
usage_text r p = codes "maxband " ++ (r.word ++ each_word name_text r p)

-- so, with blanks behind it up to so many bytes, but at least one
abbrev pub column : Row → Page → List ℕ
column r p = let text = usage_text r p ++ codes " " in text ++ replicate (46 - length text) 32

-- and what it does
abbrev pub help_line : Row → Page → List ℕ
help_line r p = column r p ++ (r.does ++ codes "\n")

abbrev pub paragraph : List ℕ → List ℕ
paragraph text = 10 ∷ text

-- its line, what each of its words is, and what it prints by status, what any command does, and examples
abbrev pub page_text : Row → Page → List ℕ
page_text r p =
    (help_line r p ++ paragraph (each_word label_line r p)) ++ (paragraph p.prints ++ (paragraph COMMON_LINES.now ++ paragraph p.examples))
