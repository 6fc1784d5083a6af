-- Marks of the places of cells in one word: a place has the bit of its rest by 64.
use Rattle.std.specs.Prelude.{◌≡◌, ℕ, pos, List, ◌%◌}
use Rattle.std.specs.Int.{bit_at}
use Rattle.rational_theory.specs.Rational.{whole}
use Rattle.fraction_tableau.specs.KeptCells.{cell_in}
use Rattle.fraction_tableau.specs.declared.kept.Kept.{Kept}

-- no cell of the list stands at a place whose bit is clear; of one whose bit is set nothing is said
pub record AreMarked (marks : ℕ) (cells : List Kept) : Type 0 where
  pub empty : (k : ℕ) → bit_at marks (k % 64) ≡ 0 → cell_in cells k ≡ whole (pos 0)
