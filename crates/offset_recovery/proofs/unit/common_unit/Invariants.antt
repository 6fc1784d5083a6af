use Rattle.std.proofs.Common.{◌≡◌, None}
use Rattle.narrow_fraction.specs.Attempt.{first_below}
use Rattle.offset_recovery.specs.Tests.{product_test}
use Rattle.offset_recovery.specs.Numbers.{IsCommon}
use Rattle.offset_recovery.proofs.unit.common_unit.Given as goal

-- the products so far fit, and this is their least common denominator
abbrev pub invariant-loop-column : goal.invariant-loop-column
invariant-loop-column l = record {
  products : first_below (product_test l.artery l.point.values.items) l.column ≡ None;
  common : IsCommon l.artery l.point.values.items l.column l.common;
}
