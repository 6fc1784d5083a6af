-- The first operation of an entry's pivots that leaves 128 bits.
use Rattle.std.proofs.Common.{ℕ, cond, ltb, Option, None, List, length, ◌<◌}
use Rattle.simplex_theory.specs.Tableau.{Tableau, width}
use Rattle.narrow_fraction.specs.Attempt.{first_below}
use Rattle.entry_theory.specs.Entry.{variable_at, entry_row, entry_after}
use Rattle.fraction_tableau.specs.Refusals.{pivot_refusal}
use Rattle.fraction_tableau.specs.NamedTableaus.{NamedTableau, IsSpentFrom}
use Rattle.fraction_tableau.specs.declared.wide_cell.WideCell.{WideCell}

-- at a variable of the list: that of the column's pivot, and none for a slack
unfoldable pub variable_refusal : List ℕ → Tableau → ℕ → Option WideCell
variable_refusal vs t v = cond (ltb v (width t)) (pivot_refusal (entry_row vs t v) v t.rows t.goal) None

-- at variable k of the list
abbrev pub refusal_at : List ℕ → Tableau → ℕ → Option WideCell
refusal_at vs t k = variable_refusal vs (entry_after vs t k) (variable_at vs k)

-- the first of all pivots
unfoldable pub entry_refusal : List ℕ → Tableau → Option WideCell
entry_refusal vs t = first_below (refusal_at vs t) (length vs)

-- t after a pivot of the entry from s was refused
pub record IsSpentOnTheWay (vs : List ℕ) (s t : NamedTableau) : Type 0 where
  pub pivots : ℕ
  pub within : pivots < length vs
  pub spent : IsSpentFrom (record { table = entry_after vs s.table pivots; names = s.names; spent = s.spent }) t
