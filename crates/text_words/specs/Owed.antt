-- What a text still owes after some of its lines: the lines of its tree, and the line `end`.
use Rattle.std.specs.Prelude.{ℕ, zero, suc, ◌+◌, ◌-◌, ◌==◌, if◌then◌else◌, List, Option, None, Some}
use Rattle.std.specs.List.{before_first}
use Rattle.certificate_model.specs.Words.{is_text}
use Rattle.plan_text.specs.Numbers.{number}
use Rattle.plan_text.specs.CertificateText.{split_key}
use Rattle.file_kind.specs.Kinds.{is_feed}
use Rattle.text_words.specs.Lines.{from_line, first_word, last_word}
use Rattle.text_words.specs.declared.walk.OwedLines.{OwedLines}
use Rattle.text_words.specs.declared.walk.OwedLines.TheVariants.{Rows, Names, Trees, Nothing}

abbrev pub or_zero : Option ℕ → ℕ
or_zero None = 0
or_zero (Some n) = n

-- the number that the line `rows N`, or the first one of a leaf, ends with
abbrev pub lines_after : List ℕ → ℕ
lines_after line = or_zero (number (last_word line))

-- after the first line of a node, beside so many other trees: a split has two
abbrev pub after_node : List ℕ → ℕ → OwedLines
after_node line others = if is_text (first_word line) split_key then Trees 0 (others + 2) else Trees (lines_after line) others

abbrev pub next_tree : List ℕ → ℕ → OwedLines
next_tree line trees = if trees == 0 then Nothing else after_node line (trees - 1)

abbrev pub in_trees : List ℕ → ℕ → ℕ → OwedLines
in_trees line lines trees = if lines == 0 then next_tree line trees else Trees (lines - 1) trees

-- after the last name the line `tree` is owed
abbrev pub in_names : ℕ → OwedLines
in_names names = if names == 0 then Trees 0 1 else Names (names - 1)

-- after one line more
abbrev pub after_line : List ℕ → OwedLines → OwedLines
after_line line Rows = Names (lines_after line)
after_line line (Names names) = in_names names
after_line line (Trees lines trees) = in_trees line lines trees
after_line line Nothing = Nothing

-- after so many lines
abbrev pub owed_after : List ℕ → OwedLines → ℕ → OwedLines
owed_after bytes start zero = start
owed_after bytes start (suc n) = after_line (before_first is_feed (from_line bytes n)) (owed_after bytes start n)

abbrev pub trees_of : OwedLines → ℕ
trees_of (Trees lines trees) = trees
trees_of owed = 0
