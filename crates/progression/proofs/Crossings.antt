-- The crossings of a line, one after the other.
use Rattle.std.proofs.Common.{◌≡◌, ℕ, ◌+◌, ap, add-one}
use Rattle.std.specs.Prelude.{ℤ, ◌+ℤ◌}
use Rattle.progression.specs.Street.{Street}
use Rattle.progression.specs.BaseRecord.{BaseRecord}
use Rattle.progression.specs.Lines.{crossing_from, advance}
use Rattle.progression.specs.declared.parts.Dir.{Dir}

-- a crossing and the advance to the next
pub crossing_next : (a : Street) (b : BaseRecord) (d : Dir) (x : ℤ) (j : ℕ) → crossing_from a b d x (j + 1) ≡ crossing_from a b d x j +ℤ advance a b d j
crossing_next a b d x j = ap (crossing_from a b d x) (add-one j)
