-- The second text of a certificate. The rows that its leaves name are listed once, each by its name, in their order, and a leaf names a row by its place in
-- that list, counted from 1. A leaf's multipliers are whole numbers over their least common denominator; where these numbers aren't all of 128 bits the leaf
-- is plain and has fractions.
use Rattle.std.specs.Prelude.{ℕ, List, [], ◌∷◌, ◌++◌, length, map, codes}
use Rattle.std.specs.Fmt.{decimal}
use Rattle.named_row.specs.declared.names.RowId.{RowId}
use Rattle.certificate_model.specs.Words.{line_of}
use Rattle.plan_text.specs.Spelling.{ended}
use Rattle.plan_text.specs.TimingTexts.{one_band}
use Rattle.certificate_model.specs.Warrants.{Warrant}
use Rattle.certificate_model.specs.Families.{row_words}
use Rattle.plan_text.specs.CertificateText.{claim_lines}
use Rattle.plan_text.specs.Leaves.{rows_of}
use Rattle.plan_text.specs.Namings.{Listed, tree_lines}

abbrev pub second_line : List ℕ
second_line = codes "maxband-certificate 2"

abbrev pub rows_key : List ℕ
rows_key = codes "rows"

abbrev pub row_line : RowId → List ℕ
row_line row = line_of (row_words row)

-- the number of rows, and their names
abbrev pub row_lines : List RowId → List (List ℕ)
row_lines rows = line_of (rows_key ∷ decimal (length rows) ∷ []) ∷ map row_line rows

abbrev pub second_lines : Warrant → List (List ℕ)
second_lines c = second_line ∷ (claim_lines one_band c.claim c.timing ++ (row_lines (rows_of c.nodes) ++ tree_lines (Listed (rows_of c.nodes)) c.nodes))

abbrev pub second_text : Warrant → List ℕ
second_text c = ended (second_lines c)
