-- What the entry promises, as an outsider reads it.
use Rattle.std.proofs.Common.{◌≡◌, ℕ, List, map, length}
use Rattle.std.specs.List.Sorted.{IsPermutation, IsSorted}
use Rattle.std.specs.Ordering.{nat_cmp}
use Rattle.rational_theory.specs.Rational.{ℚ}
use Rattle.rational_theory.specs.Rows.{Row}
use Rattle.simplex_theory.specs.Tableau.{IsShaped, Tableau, width}
use Rattle.simplex_theory.specs.DualSteps.{IsPlaced, IsDual}
use Rattle.simplex_theory.specs.RowLists.{StandsForRows}
use Rattle.entry_theory.specs.Entry.{NamesBasics, IsEntry, entry_rows, entry_after, entry}
use Rattle.entry_theory.specs.Ready.{IsFresh}
use Rattle.entry_theory.specs.Basics.{basics_of}

-- the rows differ in their bounds alone
abbrev pub coefs_of : Row → List ℚ
coefs_of r = r.coefs

abbrev pub HaveSameCoefs : List Row → List Row → Type 0
HaveSameCoefs rows others = map coefs_of rows ≡ map coefs_of others

-- a dual feasible tableau, of some rows with these coefficients and this goal, has the variables of the list basic
pub record IsBasisFor (vs : List ℕ) (rows : List Row) (goal : List ℚ) (w : ℕ) : Type 0 where
  pub table : Tableau
  pub others : List Row
  pub columns : width table ≡ w
  pub coefs : HaveSameCoefs rows others
  pub dual : IsDual table
  pub stands : StandsForRows table others goal
  pub names : NamesBasics vs table

-- the entry is an entry by the rule, and each by the rule ends with its tableau; it has exactly the listed variables basic, is dual
-- feasible, and stands for the rows and the goal
pub record IsEntered (vs : List ℕ) (t : Tableau) (rows : List Row) (goal : List ℚ) : Type 0 where
  pub by_rule : IsEntry vs (entry_after vs t) (entry_rows vs t)
  pub only : (p : ℕ → Tableau) (r : ℕ → ℕ) → IsEntry vs p r → p 0 ≡ t → p (length vs) ≡ entry vs t
  pub names : NamesBasics vs (entry vs t)
  pub dual : IsDual (entry vs t)
  pub stands : StandsForRows (entry vs t) rows goal

-- from a tableau of the rows and the goal as they were loaded
abbrev pub EntryKeeps : Type 0
EntryKeeps = (vs : List ℕ) (t : Tableau) (rows : List Row) (goal : List ℚ) → IsFresh t → StandsForRows t rows goal → IsBasisFor vs rows goal (width t) → IsEntered vs t rows goal

-- the list of the basic variables names them in ascending order; it is the only list that does, and what a sort of them gives
pub record IsListed (t : Tableau) : Type 0 where
  pub names : NamesBasics (basics_of t) t
  pub only : (vs : List ℕ) → NamesBasics vs t → vs ≡ basics_of t
  pub sorted : (vs : List ℕ) → IsPermutation t.basic vs → IsSorted nat_cmp vs → vs ≡ basics_of t

abbrev pub BasicsAreListed : Type 0
BasicsAreListed = (t : Tableau) → IsShaped t → IsPlaced t → IsListed t
