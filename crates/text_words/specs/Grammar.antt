-- What the grammar of a text wants at each line: by the first line which format it is, in a certificate by the second and the fourth how it goes on, and then by
-- the lines of its tree so far.
use Rattle.std.specs.Prelude.{ℕ, suc, ◌-◌, ◌==◌, if◌then◌else◌, Bool, true, false, List, [], ◌∷◌, ◌++◌, length, slice_index_or, count_by, Option, None, Some}
use Rattle.std.specs.List.{position}
use Rattle.certificate_model.specs.Words.{is_text}
use Rattle.plan_text.specs.CertificateText.{best_line, none_line, open_line, value_key}
use Rattle.file_kind.specs.Kinds.{text_format}
use Rattle.file_kind.specs.declared.kind.TextFormat.{TextFormat}
use Rattle.file_kind.specs.declared.kind.TextFormat.TheVariants.{Timing, SecondCertificate, Links}
use Rattle.text_words.specs.Lines.{from_line, line_of_text, first_word, is_blank}
use Rattle.text_words.specs.Owed.{owed_after}
use Rattle.text_words.specs.declared.grammar.Opening.{Opening}
use Rattle.text_words.specs.declared.grammar.Opening.TheVariants.{Best, Nothing, OpenValue, OpenNone, Unknown}
use Rattle.text_words.specs.declared.walk.OwedLines.{OwedLines}
use Rattle.text_words.specs.declared.walk.OwedLines.TheVariants as owed
use Rattle.text_words.specs.declared.wants.Wanted.{Wanted}
use Rattle.text_words.specs.declared.wants.Wanted.TheVariants as want
use Rattle.text_words.specs.declared.wants.ClaimLine.TheVariants.{FirstLine, Verdict, Value, Bound, ValueOrNone}
use Rattle.text_words.specs.declared.wants.NumberKey.TheVariants.{Grid, Unit, Red, RunOut, RunIn, First, Band, HalfOut, HalfIn}
use Rattle.text_words.specs.declared.wants.TreeLine.{TreeLine}
use Rattle.text_words.specs.declared.wants.TreeLine.TheVariants as tree

-- ---- how a certificate begins: by its second line, and where that is open by the first word of the fourth
abbrev pub open_of : List ℕ → Opening
open_of fourth = if is_text (first_word fourth) value_key then OpenValue else OpenNone

abbrev pub opening_of : List ℕ → Opening
opening_of bytes = let verdict = line_of_text bytes 2 in
    if is_text verdict best_line then Best
    else (if is_text verdict none_line then Nothing else (if is_text verdict open_line then open_of (line_of_text bytes 4) else Unknown))

-- ---- the lines of a timing, and those of a link timing
abbrev pub base_wants : List Wanted
base_wants = want.Numbers Grid ∷ want.Numbers Unit ∷ want.Pattern ∷ want.Numbers Red ∷ want.Numbers RunOut ∷ want.Numbers RunIn ∷ want.Numbers First ∷ []

abbrev pub timing_wants : TextFormat → List Wanted
timing_wants Links = base_wants ++ want.Numbers HalfOut ∷ want.Numbers HalfIn ∷ []
timing_wants _ = base_wants ++ want.Numbers Band ∷ []

-- ---- from the third line of a certificate on, up to its tree
abbrev pub claim_wants : TextFormat → Opening → List Wanted
claim_wants f Best = want.Claim Value ∷ timing_wants f
claim_wants f OpenValue = want.Claim Bound ∷ want.Claim ValueOrNone ∷ timing_wants f
claim_wants f OpenNone = want.Claim Bound ∷ want.Claim ValueOrNone ∷ []
claim_wants f _ = []

-- from the first line on, as long as one line wants one thing
abbrev pub head_wants : TextFormat → Opening → List Wanted
head_wants Timing o = want.Claim FirstLine ∷ timing_wants Timing
head_wants f o = want.Claim FirstLine ∷ want.Claim Verdict ∷ claim_wants f o

-- ---- what is owed after them, and what of it comes first
abbrev pub first_owed : TextFormat → OwedLines
first_owed Timing = owed.Trees 0 0
first_owed SecondCertificate = owed.Rows
first_owed _ = owed.Names 0

-- a node, by how rows are named
abbrev pub node_line : TextFormat → TreeLine
node_line SecondCertificate = tree.ListedNode
node_line _ = tree.Node

-- a line of a leaf of which so many are owed
abbrev pub weight_line : TextFormat → ℕ → TreeLine
weight_line SecondCertificate n = if n == 1 then tree.ListedLast else tree.ListedWeight
weight_line _ n = tree.Weight

-- a name, or the line behind them
abbrev pub name_line : ℕ → TreeLine
name_line names = if names == 0 then tree.Root else tree.Name

abbrev pub next_want : TextFormat → ℕ → Wanted
next_want f trees = if trees == 0 then want.End else want.Tree (node_line f)

abbrev pub trees_want : TextFormat → ℕ → ℕ → Wanted
trees_want f lines trees = if lines == 0 then next_want f trees else want.Tree (weight_line f lines)

abbrev pub owed_want : TextFormat → OwedLines → Wanted
owed_want f owed.Rows = want.Tree tree.Rows
owed_want f (owed.Names names) = want.Tree (name_line names)
owed_want f (owed.Trees lines trees) = trees_want f lines trees
owed_want f owed.Nothing = want.Nothing

-- the line so many after them
abbrev pub rest_wants : TextFormat → List ℕ → ℕ → Wanted
rest_wants f rest n = owed_want f (owed_after rest (first_owed f) n)

-- of a text of this format whose first lines want these
abbrev pub wanted_in : List ℕ → TextFormat → List Wanted → ℕ → Wanted
wanted_in bytes f head n = slice_index_or head n (rest_wants f (from_line bytes (length head)) (n - length head))

abbrev pub wanted_as : List ℕ → Option TextFormat → ℕ → Wanted
wanted_as bytes None n = want.Claim FirstLine
wanted_as bytes (Some f) n = wanted_in bytes f (head_wants f (opening_of bytes)) n

-- what is wanted at a line, counted from 1
abbrev pub wanted_at : List ℕ → ℕ → Wanted
wanted_at bytes line = wanted_as bytes (text_format bytes) (line - 1)

-- ---- how many signals there are: as many as patterns
abbrev pub is_pattern : Wanted → Bool
is_pattern want.Pattern = true
is_pattern w = false

abbrev pub patterns_in : List ℕ → Option ℕ → ℕ
patterns_in bytes None = 0
patterns_in bytes (Some n) = count_by is_blank (line_of_text bytes (suc n))

abbrev pub signals_as : List ℕ → Option TextFormat → ℕ
signals_as bytes None = 0
signals_as bytes (Some f) = patterns_in bytes (position is_pattern (head_wants f (opening_of bytes)))

abbrev pub signals_in : List ℕ → ℕ
signals_in bytes = signals_as bytes (text_format bytes)
