-- What a pivot needs, and what comes of it.
use Rattle.std.specs.Prelude.{◌≡◌, ℕ, ◌<◌, pos, false, Result, IfOk, IfErr}
use Rattle.rational_theory.specs.Rational.{whole}
use Rattle.simplex_theory.specs.Tableau.{cell, height, width, exchange}
use Rattle.narrow_fraction.specs.Attempt.{attempt}
use Rattle.fraction_tableau.specs.Refusals.{pivot_refusal}
use Rattle.fraction_tableau.specs.NamedTableaus.{NamedTableau, IsSpentFrom}
use Rattle.fraction_tableau.specs.declared.wide_cell.WideCell.{WideCell}

-- t isn't spent, and its cell of row r at place j isn't 0
pub record CanPivot (r j : ℕ) (t : NamedTableau) : Type 0 where
  pub row : r < height t.table
  pub col : j < width t.table
  pub pivot : cell t.table r j ≡ whole (pos 0) → ⊥
  pub unspent : t.spent ≡ false

-- `new` is `old` after the exchange on row r and place j, or spent by the refusal of the first operation that leaves 128 bits
pub record Pivots (r j : ℕ) (o : Result Unit WideCell) (old new : NamedTableau) : Type 0 where
  pub outcome : o ≡ attempt (pivot_refusal r j old.table.rows old.table.goal) tt
  pub exchanged : IfOk o (λ _. new ≡ record old { table = exchange r j old.table })
  pub spent : IfErr o (λ _. IsSpentFrom old new)
