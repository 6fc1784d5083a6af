-- A text that is refused, in words: its first bad line, what is wrong with it, and what the grammar wants there.
use Rattle.std.specs.Prelude.{ℕ, ◌-◌, ◌==◌, if◌then◌else◌, List, ◌++◌, codes}
use Rattle.std.specs.Fmt.{decimal}
use Rattle.certificate_model.specs.Words.{is_text}
use Rattle.plan_text.specs.Spelling.{end_line}
use Rattle.plan_text.specs.declared.fault.TextFault.{TextFault}
use Rattle.plan_text.specs.declared.fault.TextFault.TheVariants.{Ended, Shape, Number, Order}
use Rattle.plan_text.specs.declared.fault.BadText.{BadText}
use Rattle.text_words.specs.Lines.{line_of_text, shown_text}
use Rattle.text_words.specs.Grammar.{wanted_at, signals_in}
use Rattle.text_words.specs.declared.wants.Wanted.{Wanted}
use Rattle.text_words.specs.declared.wants.Wanted.TheVariants as want
use Rattle.text_words.specs.declared.wants.ClaimLine.{ClaimLine}
use Rattle.text_words.specs.declared.wants.ClaimLine.TheVariants.{FirstLine, Verdict, Value, Bound, ValueOrNone}
use Rattle.text_words.specs.declared.wants.NumberKey.{NumberKey}
use Rattle.text_words.specs.declared.wants.NumberKey.TheVariants.{Grid, Unit, Red, RunOut, RunIn, First, Band, HalfOut, HalfIn}
use Rattle.text_words.specs.declared.wants.TreeLine.{TreeLine}
use Rattle.text_words.specs.declared.wants.TreeLine.TheVariants as tree

-- ---- what is wrong with a line where this is wanted
abbrev pub shape_line : Wanted → List ℕ
shape_line (want.Tree tree.OwnRows) = codes "the rows that are listed before the tree are not just those that its leaves name\n"
shape_line w = codes "its words, or how many they are, are not those of this place; one space stands between two words\n"

abbrev pub number_line : Wanted → List ℕ
number_line (want.Tree tree.ListedLast) = codes "a number is outside its range or not in its one spelling, or the W and the whole numbers of this leaf have a common divisor, or it is `plain` without need\n"
number_line w = codes "a number is outside its range or not in its one spelling: no sign +, no zero in front, fractions in lowest terms\n"

-- by the kind of the fault
abbrev pub kind_line : TextFault → Wanted → List ℕ
kind_line Ended w = codes "the text ends before this line does: each line ends with a line feed, and the last one is `end`\n"
kind_line Shape w = shape_line w
kind_line Number w = number_line w
kind_line Order w = codes "its row has to come after the row of the line before\n"

-- whatever stands behind the line `end` is too much
abbrev pub fault_line : TextFault → Wanted → List ℕ
fault_line kind want.Nothing = codes "the text goes on behind its line `end`\n"
fault_line kind w = kind_line kind w

-- ---- the sentence of each thing that may be wanted
abbrev pub claim_line : ClaimLine → List ℕ
claim_line FirstLine = codes "wanted: `maxband-timing 1`, `maxband-certificate 1`, `maxband-certificate 2` or `maxband-links 1`\n"
claim_line Verdict = codes "wanted: `verdict best`, `verdict none` or `verdict open`\n"
claim_line Value = codes "wanted: `value X`, what the timing is worth: a whole number or a fraction, as `1/2`, that fits 128 bits\n"
claim_line Bound = codes "wanted: `bound X`, above which no timing is: a whole number or a fraction, as `1/2`, that fits 128 bits\n"
claim_line ValueOrNone = codes "wanted: `no timing`, or `value X`, what the timing is worth: a whole number or a fraction that fits 128 bits\n"

abbrev pub key_text : NumberKey → List ℕ
key_text Grid = codes "wanted: `grid N`, the ticks of a second"
key_text Unit = codes "wanted: `unit N`, the ticks of a part of the cycle"
key_text Red = codes "wanted: `red N ..`, the tick at which the common red of each signal starts"
key_text RunOut = codes "wanted: `run_out N ..`, the ticks of travel outbound on each link"
key_text RunIn = codes "wanted: `run_in N ..`, the ticks of travel inbound on each link"
key_text First = codes "wanted: `first N N`, the ticks at which the outbound line crosses signal 1 and the inbound line the last signal"
key_text Band = codes "wanted: `band N N`, the ticks of the outbound band and of the inbound one"
key_text HalfOut = codes "wanted: `half_out N ..`, the ticks of half the outbound band of each link"
key_text HalfIn = codes "wanted: `half_in N ..`, the ticks of half the inbound band of each link"

-- how many numbers a line has, on a street of so many signals
abbrev pub count_of : NumberKey → ℕ → ℕ
count_of Grid n = 1
count_of Unit n = 1
count_of Red n = n
count_of First n = 2
count_of Band n = 2
count_of _ n = n - 1

-- the least of them that there may be
abbrev pub least_of : NumberKey → ℕ
least_of Grid = 1
least_of Unit = 2
least_of _ = 0

unfoldable pub several_text : ℕ → List ℕ
several_text count = codes ": " ++ (decimal count ++ codes " whole numbers of at least ")

abbrev pub count_text : ℕ → List ℕ
count_text count = if count == 1 then codes ": a whole number of at least " else several_text count

unfoldable pub numbers_line : NumberKey → ℕ → List ℕ
numbers_line key signals = key_text key ++ (count_text (count_of key signals) ++ (decimal (least_of key) ++ codes " and below 2^80 (2 to the 80th)\n"))

abbrev pub tree_line : TreeLine → List ℕ
tree_line tree.Rows = codes "wanted: `rows N`, how many names of rows follow: a whole number of at least 0 and below 2^64 (2 to the 64th)\n"
tree_line tree.Name = codes "wanted: the name of a row, as `wout 1` or `cycle_low`, in their order: a signal or link has a number of at least 1 and below 2^32\n"
tree_line tree.OwnRows = codes "wanted: before the tree `rows N`, and the N rows that its leaves name, each once and in their order\n"
tree_line tree.Root = codes "wanted: `tree`\n"
tree_line tree.Node = codes "wanted: `split loop I S` or `split turn I N` (I at least 1, I and N below 2^32, S of 64 bits), or `leaf N` (N lines as `cycle_low 1/2`, at most 10000)\n"
tree_line tree.ListedNode = codes "wanted: `split loop I S` or `split turn I N` (I at least 1, I and N below 2^32, S of 64 bits), or `leaf W N` or `plain N` (N lines as `2 50`, at most 10000; W at least 1, without lines 1)\n"
tree_line tree.Weight = codes "wanted: a line of the leaf, as `cycle_low 1/2`: the name of a row, and its multiplier, which fits 128 bits: a whole number or a fraction\n"
tree_line _ = codes "wanted: a line of the leaf, as `2 50`: the place of a row in the list, counted from 1, and its multiplier, which fits 128 bits: a whole number, in a plain leaf also a fraction\n"

abbrev pub wanted_line : ℕ → Wanted → List ℕ
wanted_line signals (want.Claim line) = claim_line line
wanted_line signals want.Pattern = codes "wanted: `pattern P ..`, the left turn pattern of each of 2 to 24 signals: 1, 2, 3 or 4\n"
wanted_line signals (want.Numbers key) = numbers_line key signals
wanted_line signals (want.Tree line) = tree_line line
wanted_line signals want.End = codes "wanted: `end`\n"
wanted_line signals want.Nothing = codes "wanted: nothing, since the line `end` is the last one\n"

-- ---- all that is said
-- a line `end` that is refused at its own place stands below a wrong list of rows
abbrev pub end_want : List ℕ → Wanted
end_want line = if is_text line end_line then want.Tree tree.OwnRows else want.End

abbrev pub meant : TextFault → List ℕ → Wanted → Wanted
meant Shape line want.End = end_want line
meant kind line w = w

abbrev pub bad_want : List ℕ → BadText → Wanted
bad_want bytes bad = meant bad.kind (line_of_text bytes bad.line) (wanted_at bytes bad.line)

unfoldable pub line_words : List ℕ → ℕ → List ℕ
line_words bytes line = codes "line " ++ (decimal line ++ (codes " is: " ++ shown_text (line_of_text bytes line)))

unfoldable pub bad_text_words : List ℕ → BadText → List ℕ
bad_text_words bytes bad = line_words bytes bad.line ++ (fault_line bad.kind (bad_want bytes bad) ++ wanted_line (signals_in bytes) (bad_want bytes bad))
