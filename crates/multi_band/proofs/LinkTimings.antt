-- The halves of a link timing, of columns that fit and of a timing that is copied.
use Rattle.std.proofs.Common.{◌≡◌, ℕ, ◌+◌, ◌-◌, ◌<◌, ◌≤◌, ◌^◌, List, length, None, arith}
use Rattle.std.specs.Prelude.{All}
use Rattle.rational_theory.specs.Rational.{ℚ}
use Rattle.narrow_fraction.specs.Attempt.{earlier}
use Rattle.narrow_fraction.proofs.Attempt.{neither}
use Rattle.progression.specs.Street.{Street, count}
use Rattle.progression.specs.BaseRecord.{BaseRecord}
use Rattle.progression.specs.declared.parts.Dir.{Dir}
use Rattle.progression.specs.declared.parts.Dir.TheVariants.{Outbound, Inbound}
use Rattle.linear_theory.proofs.Points.{length-numbered}
use Rattle.recovery_theory.specs.Placing.{pattern_at}
use Rattle.link_theory.specs.LinkColumns.{half_place}
use Rattle.link_theory.specs.LinkVertices.{half_ticks}
use Rattle.link_space.specs.LinkTiming.{AreHalves}
use Rattle.offset_recovery.specs.Recovered.{line_tests}
use Rattle.offset_recovery.specs.Numbers.{patterns_at, base_at}
use Rattle.offset_recovery.proofs.Making.{each_link}
use Rattle.multi_band.specs.LinkRecovered.{half_tests, link_column_tests, halves_at}

module _ (a : Street) (x : List ℚ) where
  module _ (h : link_column_tests a x ≡ None) where
    abbrev both : (line_tests a x ≡ None) × (earlier (half_tests a x Outbound) (half_tests a x Inbound) ≡ None)
    both = neither (line_tests a x) (earlier (half_tests a x Outbound) (half_tests a x Inbound)) h

    fit : (d : Dir) → half_tests a x d ≡ None
    fit Outbound = (neither (half_tests a x Outbound) (half_tests a x Inbound) both.1).0
    fit Inbound = (neither (half_tests a x Outbound) (half_tests a x Inbound) both.1).1

    are_halves : 2 ≤ count a → (d : Dir) → AreHalves (patterns_at a x) (halves_at a x d)
    are_halves few d =
        let n = length-numbered (count a) 1 (pattern_at a x) in
        let m = length-numbered (count a - 1) 1 (half_ticks a x d) in
        record { count = omega arith; each = each_link a x (half_place (count a) d) (fit d) }

    -- they are halves of the base that was placed
    pub halves_fit : (d : Dir) (base : BaseRecord) (halves : List ℕ) → 2 ≤ count a → base ≡ base_at a x → halves ≡ halves_at a x d → AreHalves base.patterns halves
    halves_fit d base halves few e f = rw (e, f) (are_halves few d)

-- and of a base that is copied
pub halves_copied : (b base : BaseRecord) (halves copy : List ℕ) → base ≡ b → copy ≡ halves → length halves + 1 ≡ length b.patterns → All (λ n. n < 2 ^ 80) halves
    → AreHalves base.patterns copy
halves_copied b base halves copy e f count each = rw (e, f) (record { count = count; each = each })
