-- The names of rows and columns, as they are printed.
use Rattle.std.specs.Prelude.{ℕ, ◌-◌, List, [], ◌++◌, map, codes, slice_index_or}
use Rattle.std.specs.Fmt.{decimal}
use Rattle.progression.specs.declared.parts.Dir.{Dir}
use Rattle.progression.specs.declared.parts.Dir.TheVariants.{Outbound, Inbound}
use Rattle.progression.specs.Columns as places
use Rattle.progression.specs.Columns.{Column, BandOf, Frequency, WaitOf, RunOf, ShiftOf, columns}
use Rattle.named_row.specs.declared.names.RowId.{RowId}
use Rattle.named_row.specs.declared.names.Place.{Place}
use Rattle.named_row.specs.declared.names.Place.TheVariants.{Cell, Bound}
use Rattle.certificate_model.specs.Words.{line_of}
use Rattle.certificate_model.specs.Families.{Table, row_words_in}

-- a row, as certificates over a table of families name it
abbrev pub row_text_in : Table → RowId → List ℕ
row_text_in table row = line_of (row_words_in table row)

-- a name with a number
abbrev pub numbered : List ℕ → ℕ → List ℕ
numbered name number = name ++ (codes " " ++ decimal number)

-- a column; `out` or `in` is its direction, and a number that of its signal or link
abbrev pub column_name : Column → List ℕ
column_name (BandOf Outbound) = codes "b_out"
column_name (BandOf Inbound) = codes "b_in"
column_name Frequency = codes "z"
column_name (WaitOf Outbound i) = numbered (codes "w_out") i
column_name (WaitOf Inbound i) = numbered (codes "w_in") i
column_name (RunOf Outbound i) = numbered (codes "y_out") i
column_name (RunOf Inbound i) = numbered (codes "y_in") i
column_name (ShiftOf i) = numbered (codes "s") i

-- the column of half the band of a link, which stands only where links have bands of their own
abbrev pub half_name : Dir → ℕ → List ℕ
half_name Outbound i = numbered (codes "h_out") i
half_name Inbound i = numbered (codes "h_in") i

-- the halves of the links of so many signals, outbound and inbound
abbrev pub half_names : ℕ → List (List ℕ)
half_names signals = places.numbered (signals - 1) 1 (half_name Outbound) ++ places.numbered (signals - 1) 1 (half_name Inbound)

-- the column with this number, from 0, among those of so many signals; the halves come last
abbrev pub column_text : ℕ → ℕ → List ℕ
column_text signals number = slice_index_or (map column_name (columns signals) ++ half_names signals) number []

abbrev pub place_text : ℕ → Place → List ℕ
place_text signals (Cell number) = column_text signals number
place_text signals Bound = codes "bound"
