-- What dividing and clearing a row need, and what comes of them.
use Rattle.std.specs.Prelude.{◌≡◌, ℕ, ◌+◌, ◌<◌, ◌^◌, pos, List, Result, IfOk, length}
use Rattle.rational_theory.specs.Rational.{ℚ, whole, inverse_ℚ}
use Rattle.simplex_theory.specs.Lines.{divided, cleared}
use Rattle.narrow_fraction.specs.Attempt.{attempt}
use Rattle.fraction_tableau.specs.Narrow.{IsNarrow}
use Rattle.fraction_tableau.specs.Refusals.{divide_refusal, clear_refusal}
use Rattle.fraction_tableau.specs.KeptCells.{number_in}
use Rattle.fraction_tableau.specs.declared.wide_cell.WideCell.{WideCell}

-- the row c of w numbers can be divided at place j
pub record CanDivide (w : ℕ) (c : List ℚ) (j : ℕ) : Type 0 where
  pub width : length c ≡ w
  pub place : j + 1 < length c
  pub pivot : number_in c j ≡ whole (pos 0) → ⊥
  pub short : length c < 2 ^ 32
  pub narrow : IsNarrow c

-- what is made of the row `old` is the row c, of number i, divided at place j, or the refusal of the first operation that leaves 128 bits
pub record Divides (i j : ℕ) (c : List ℚ) (o : Result Unit WideCell) (old new : List ℚ) : Type 0 where
  pub outcome : o ≡ attempt (divide_refusal i j c) tt
  pub divided : IfOk o (λ _. new ≡ divided j c)
  pub width : length new ≡ length old
  pub narrow : IfOk o (λ _. IsNarrow new)

-- e is a row that was divided at place j by the pivot p
pub record IsPivoted (e : List ℚ) (j : ℕ) (p : ℚ) : Type 0 where
  pub place : j + 1 < length e
  pub some : p ≡ whole (pos 0) → ⊥
  pub own : number_in e j ≡ inverse_ℚ p
  pub short : length e < 2 ^ 32

-- the row d of w numbers can be cleared at place j by the divided row e and the pivot p, f being its own number there
pub record CanClear (w : ℕ) (d e : List ℚ) (j : ℕ) (p f : ℚ) : Type 0 where
  pub width : length d ≡ w
  pub widths : length e ≡ length d
  pub place : j + 1 < length d
  pub pivot : p ≡ whole (pos 0) → ⊥
  pub factor : f ≡ number_in d j
  pub own : number_in e j ≡ inverse_ℚ p
  pub short : length d < 2 ^ 32
  pub narrow : IsNarrow d

-- what is made of the row `old` is the row d, of number i, cleared so, or the refusal of the first operation that leaves 128 bits
pub record Clears (i j : ℕ) (d e : List ℚ) (p : ℚ) (o : Result Unit WideCell) (old new : List ℚ) : Type 0 where
  pub outcome : o ≡ attempt (clear_refusal i j e d p) tt
  pub cleared : IfOk o (λ _. new ≡ cleared j e d)
  pub width : length new ≡ length old
  pub narrow : IfOk o (λ _. IsNarrow new)
