-- A row as contracts see it: its coefficients, its bound, and whether it is spent. It means that the sum of coefficient
-- times column is at most the bound, for columns that are at least 0.
use Rattle.std.specs.Prelude.{ℕ, Bool, false, List, slice_set, slice_index_or, replicate, ◌<◌, pos, true, ◌++◌, take, drop}
use Rattle.rational_theory.specs.Rational.{ℚ, whole, ◌+ℚ◌, ◌*ℚ◌}
use Rattle.rational_theory.specs.Rows as maths
use Rattle.named_row.specs.declared.names.Place.{Place}
use Rattle.named_row.specs.declared.names.Place.TheVariants.{Cell, Bound}

pub record Sheet : Type 0 where
  pub coefs : List ℚ
  pub bound : ℚ
  pub spent : Bool

-- the row that a sheet stands for
abbrev pub row_of : Sheet → maths.Row
row_of r = record { coefs = r.coefs; bound = r.bound }

-- n coefficients of 0, the bound 0, not spent
unfoldable pub blank : ℕ → Sheet
blank n = record { coefs = replicate n (whole (pos 0)); bound = whole (pos 0); spent = false }

-- the number at a place, and another number there
unfoldable pub at_place : Place → Sheet → ℚ
at_place (Cell j) r = slice_index_or r.coefs j (whole (pos 0))
at_place Bound r = r.bound

unfoldable pub with_place : Place → ℚ → Sheet → Sheet
with_place (Cell j) v r = record { coefs = slice_set r.coefs j v; bound = r.bound; spent = r.spent }
with_place Bound v r = record { coefs = r.coefs; bound = v; spent = r.spent }

-- r with k times s added, as rows
unfoldable pub with_times : ℚ → Sheet → Sheet → Sheet
with_times k s r = record { coefs = maths.add r.coefs (maths.scale k s.coefs); bound = r.bound +ℚ k *ℚ s.bound; spent = r.spent }

-- What a sum that is refused at a place leaves: before it the sum's coefficients, and from it on those that the row had.
unfoldable pub coefs_left : Place → ℚ → List ℚ → List ℚ → List ℚ
coefs_left (Cell j) k xs cs = take j (maths.add xs (maths.scale k cs)) ++ drop j xs
coefs_left Bound k xs cs = maths.add xs (maths.scale k cs)

unfoldable pub left_at : Place → ℚ → Sheet → Sheet → Sheet
left_at p k s r = record { coefs = coefs_left p k r.coefs s.coefs; bound = r.bound; spent = true }

-- a cell's column is below the width
abbrev pub IsWithin : Place → ℕ → Type 0
IsWithin (Cell j) n = j < n
IsWithin Bound n = Unit {0}
