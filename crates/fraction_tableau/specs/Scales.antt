-- Narrow rows: all numbers of the row, its bound included, are whole numbers over one denominator, and none is great.
use Rattle.std.specs.Prelude.{◌≡◌, ℕ, ℤ, pos, List, Option, Some, None, ◌*ℤ◌, ◌*◌, ◌/◌, ◌+◌, ◌<◌, ◌≤◌, ◌^◌, get_or, length, take, unsigned_abs}
use Rattle.rational_theory.specs.Rational.{ℚ, whole, over}
use Rattle.fraction_tableau.specs.KeptCells.{number_in, kept_below}
use Rattle.fraction_tableau.specs.Marks.{AreMarked}
use Rattle.fraction_tableau.specs.declared.kept.Kept.{Kept}
use Rattle.fraction_tableau.specs.declared.merging.Merged.{Merged}
use Rattle.fraction_tableau.specs.declared.scale.Scale.{Scale}
use Rattle.fraction_tableau.specs.declared.scale.Rescaling.{Rescaling}
use Rattle.fraction_tableau.specs.declared.joining.Joining.{Joining}
use Rattle.fraction_tableau.specs.declared.whole_dividing.Dividing.{Dividing}

-- the numerator of x over d, where it has one
abbrev pub numerator : ℕ → ℚ → ℤ
numerator d x = x.num *ℤ pos (d / x.den)

-- x is a whole number over d, of a size of at most b
pub record IsOver (d b : ℕ) (x : ℚ) : Type 0 where
  pub same : over (numerator d x) d ≡ x
  pub size : unsigned_abs (numerator d x) ≤ b

-- the number of the cell at a place of a list, 0 past its end
abbrev pub cell_at : List Kept → ℕ → ℚ
cell_at cells i = (get_or cells i (record { place = 0; cell = whole (pos 0) })).cell

-- the row is narrow, at this scale
pub record IsScaled (s : Scale) (row : List ℚ) : Type 0 where
  pub above : 0 < s.denominator
  pub denominator : s.denominator ≤ s.most
  pub short : s.most < 2 ^ 42
  pub numbers : (k : ℕ) → IsOver s.denominator s.most (number_in row k)

-- the row is narrow, where it has a scale
abbrev pub HasScale : Option Scale → List ℚ → Type 0
HasScale None row = Unit {0}
HasScale (Some s) row = IsScaled s row

-- ---- numbers over another denominator
-- x, which is over r.from, is over r.to too, as so many times the numerator
pub record IsRescaled (r : Rescaling) (x : ℚ) : Type 0 where
  pub above : 0 < r.from
  pub times : 0 < r.times
  pub to : r.to ≡ r.from * r.times
  pub short : r.to < 2 ^ 62
  pub same : over (numerator r.from x) r.from ≡ x
  pub size : unsigned_abs (numerator r.from x) * r.times < 2 ^ 62

-- where that is once the numerator, any x will do
abbrev pub CanRescale : Rescaling → ℚ → Type 0
CanRescale r x = (r.times ≡ 1 → ⊥) → IsRescaled r x

-- ---- clearing
-- the number of the row at the pivot's place
abbrev pub factor_of : Joining → ℚ
factor_of j = over (j.part *ℤ pos j.shared) j.row.denominator

-- no number of more than 62 bits is met where a row at scale j.row is cleared by a divided row at scale j.divided
pub record IsJoining (j : Joining) : Type 0 where
  pub from : j.rescaling.from ≡ j.row.denominator
  pub to : j.rescaling.to ≡ j.row.denominator * j.rescaling.times
  pub above : 0 < j.row.denominator
  pub times : 0 < j.rescaling.times
  pub shared : 0 < j.shared
  pub divided : j.rescaling.times * j.shared ≡ j.divided.denominator
  pub least : j.row.denominator ≤ j.row.most
  pub divided_least : j.divided.denominator ≤ j.divided.most
  pub most : j.row.most * j.rescaling.times + unsigned_abs j.part * j.divided.most ≡ j.most
  pub short : j.most < 2 ^ 62

-- of the row `target`, made of the row d, the cells at the places below done.below are made
pub record IsJoined (target d : List ℚ) (cells : List Kept) (done : Merged) : Type 0 where
  pub inside : done.below ≤ length cells
  pub taken : done.taken ≡ length (kept_below (number_in d) done.below)
  pub made : done.made ≤ done.below
  pub joined : take done.made cells ≡ kept_below (number_in target) done.below
  pub marked : AreMarked done.marks (take done.made cells)

-- ---- dividing
-- the pivot
abbrev pub pivot_of : Dividing → ℚ
pivot_of t = over t.pivot t.row.denominator

-- the pivot isn't 0, and its numerator is one of the row's
pub record IsDividing (t : Dividing) : Type 0 where
  pub above : 0 < t.row.denominator
  pub least : t.row.denominator ≤ t.row.most
  pub short : t.row.most < 2 ^ 42
  pub size : unsigned_abs t.pivot ≤ t.row.most
  pub some : t.pivot ≡ pos 0 → ⊥
