-- An entry that is remembered for another box with the same basis: what is noted of its pivots, and what the pivots make of bounds alone.
use Rattle.std.specs.Prelude.{◌≡◌, ℕ, true, None, List, length, slice_index_or, ◌+◌, ◌<◌, ◌≤◌}
use Rattle.rational_theory.specs.Rational.{ℚ, neg_ℚ, inverse_ℚ, ◌+ℚ◌, ◌*ℚ◌}
use Rattle.progression.specs.Street.{Street}
use Rattle.linear_theory.specs.Boxes.{Area}
use Rattle.simplex_theory.specs.Tableau.{Tableau, height, width, IsShaped}
use Rattle.narrow_fraction.specs.Past128.{Fits128}
use Rattle.narrow_fraction.specs.declared.wide.Op.TheVariants.{Mul, Div, Sub}
use Rattle.fraction_tableau.specs.KeptCells.{number_in}
use Rattle.fraction_tableau.specs.NamedTableaus.{NamedTableau, number_at}
use Rattle.entry_theory.specs.Entry.{variable_at, entry_row, entry_after, entry}
use Rattle.entry_theory.specs.Ready.{IsReady}
use Rattle.entry_theory.specs.SameCells.{HaveSameCells}
use Rattle.program_builder.specs.BoxRows.{rows_of}
use Rattle.program_builder.specs.Opening.{loaded}
use Rattle.program_builder.specs.Building.{IsMadeFor}
use Rattle.program_builder.specs.EntryRefusals.{entry_refusal}
use Rattle.program_builder.specs.Entry.{entered_box}
use Rattle.program_builder.specs.declared.noting.NotedPivot.{NotedPivot}
use Rattle.program_builder.specs.declared.remembering.EntryMemory.{EntryMemory}

-- ---- bounds
-- the bounds of the rows, and the goal row's last
pub record AreBoundsOf (t : Tableau) (list : List ℚ) : Type 0 where
  pub count : length list ≡ height t + 1
  pub bounds : (i : ℕ) → i ≤ height t → number_in list i ≡ number_at t i (width t)

-- a bound less the factor times the pivot row's new one, where neither operation leaves 128 bits
pub record IsLess (factor own old new : ℚ) : Type 0 where
  pub value : new ≡ old +ℚ neg_ℚ (factor *ℚ own)
  pub product : Fits128 Mul factor own
  pub difference : Fits128 Sub old (factor *ℚ own)

-- what a pivot on row r, at whose place the rows have the numbers of the column, makes of bounds, where no operation leaves 128 bits
pub record ArePivoted (r : ℕ) (column old new : List ℚ) : Type 0 where
  pub count : length new ≡ length old
  pub own : number_in new r ≡ number_in old r *ℚ inverse_ℚ (number_in column r)
  pub quotient : Fits128 Div (number_in old r) (number_in column r)
  pub others : (i : ℕ) → i < length old → (i ≡ r → ⊥) → IsLess (number_in column i) (number_in new r) (number_in old i) (number_in new i)

-- t is s with these bounds, the goal row's last
pub record HasBounds (list : List ℚ) (s t : NamedTableau) : Type 0 where
  pub shaped : IsShaped t.table
  pub cells : HaveSameCells s.table t.table
  pub bounds : AreBoundsOf t.table list
  pub names : t.names ≡ s.names
  pub spent : t.spent ≡ s.spent

-- ---- notes
-- of a pivot on row r and place j: the row, and what the rows and the goal row have at the place
pub record IsNoteOf (t : Tableau) (r j : ℕ) (noted : NotedPivot) : Type 0 where
  pub row : noted.row ≡ r
  pub numbers : (i : ℕ) → i ≤ height t → number_in noted.column.items i ≡ number_at t i j

-- of the pivots of an entry's columns, as many as there is room for
abbrev pub AreNotesOf : List ℕ → Tableau → List NotedPivot → Type 0
AreNotesOf vs t pivots = (k : ℕ) (d : NotedPivot) → k < length vs → k < length pivots → variable_at vs k < width (entry_after vs t k)
    → IsNoteOf (entry_after vs t k) (entry_row vs (entry_after vs t k) (variable_at vs k)) (variable_at vs k) (slice_index_or pivots k d)

-- each note has room for so many numbers
abbrev pub HaveRoom : List NotedPivot → ℕ → Type 0
HaveRoom pivots n = (k : ℕ) (d : NotedPivot) → k < length pivots → length (slice_index_or pivots k d).column.items ≡ n

-- ---- what is remembered
-- the notes of an entry that was not refused, from a tableau with the same cells
pub record IsRemembered (vs : List ℕ) (pivots : List NotedPivot) (t : Tableau) : Type 0 where
  pub table : Tableau
  pub ready : IsReady vs table
  pub cells : HaveSameCells table t
  pub passed : entry_refusal vs table ≡ None
  pub notes : AreNotesOf vs table pivots

-- the tableau is the entry of one with the same cells, and has the names of the other
pub record IsEntryOf (vs : List ℕ) (t u : NamedTableau) : Type 0 where
  pub table : Tableau
  pub ready : IsReady vs table
  pub cells : HaveSameCells table u.table
  pub is : t ≡ record { table = entry vs table; names = u.names; spent = u.spent }

-- the entry of a box of the artery: its notes and its tableau
pub record IsKept (a : Street) (m : EntryMemory) : Type 0 where
  pub box : Area
  pub passed : entry_refusal m.basis.items (loaded a box) ≡ None
  pub notes : AreNotesOf m.basis.items (loaded a box) m.pivots.items
  pub tableau : m.tableau ≡ entered_box a box m.basis.items

-- a memory that was made for the artery
pub record IsMemoryOf (a : Street) (m : EntryMemory) : Type 0 where
  pub made : IsMadeFor a m.tableau
  pub columns : HaveRoom m.pivots.items (length (rows_of a) + 1)
  pub bounds : length m.bounds.items ≡ length (rows_of a) + 1
  pub kept : m.is_kept ≡ true → IsKept a m
