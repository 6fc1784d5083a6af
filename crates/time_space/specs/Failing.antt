-- What it means that a failing fails, and which failing of a timing is the first.
use Rattle.std.specs.Prelude.{◌≡◌, ◌≢◌, length, false}
use Rattle.rational_theory.specs.Rational.{◌*ℚ◌, ◌≤ℚ◌}
use Rattle.progression.specs.Street.{Street, count, HasSignal, HasLink, allows}
use Rattle.progression.specs.Speeds.{number}
use Rattle.progression.specs.TimingRecord.{TimingRecord, base}
use Rattle.progression.specs.BaseRecord.{BaseRecord, cycle, pattern_of}
use Rattle.progression.specs.Good.{Good, RatioHolds, HasLeastBand, HasEqualBands}
use Rattle.progression.specs.declared.parts.Dir.TheVariants.{Outbound, Inbound}
use Rattle.time_space.specs.Blocked.{IsBlockedSomewhere}
use Rattle.time_space.specs.LinkRules.{LinkBreaks}
use Rattle.time_space.specs.declared.links.LinkRule.TheVariants as rule
use Rattle.time_space.specs.declared.failing.Failing.{Failing}
use Rattle.time_space.specs.declared.failing.Failing.TheVariants as failing

-- a failing names a rule of a base, which doesn't hold there
abbrev pub BaseFails : Street → BaseRecord → Failing → Type 0
BaseFails a b failing.Shape = length b.patterns ≢ count a
BaseFails a b (failing.Pattern i) = HasSignal a i × (allows a i (pattern_of b i) ≡ false)
BaseFails a b failing.CycleShort = ¬ ((a.head.cycle.least *ℚ number b.grid) ≤ℚ number (cycle a b))
BaseFails a b failing.CycleLong = ¬ (number (cycle a b) ≤ℚ (a.head.cycle.most *ℚ number b.grid))
BaseFails a b (failing.Fast d i) = HasLink a i × LinkBreaks a b rule.Fast d i
BaseFails a b (failing.Slow d i) = HasLink a i × LinkBreaks a b rule.Slow d i
BaseFails a b (failing.Rise d i) = HasLink a i × LinkBreaks a b rule.Rise d i
BaseFails a b (failing.Drop d i) = HasLink a i × LinkBreaks a b rule.Drop d i
BaseFails a b f = ⊥

-- the rule that a failing names doesn't hold there
abbrev pub Fails : Street → TimingRecord → Failing → Type 0
Fails a t failing.Ratio = ¬ RatioHolds a.head.ratio t.band_out t.band_in
Fails a t (failing.Least d) = ¬ HasLeastBand a t d
Fails a t failing.Equal = ¬ HasEqualBands a t
Fails a t (failing.Outbound i tick) = IsBlockedSomewhere a t Outbound i tick
Fails a t (failing.Inbound i tick) = IsBlockedSomewhere a t Inbound i tick
Fails a t f = BaseFails a (base t) f

-- no timing is good where a rule fails
abbrev pub FailsRulesOut : Type 0
FailsRulesOut = (a : Street) (t : TimingRecord) (f : Failing) → Fails a t f → ¬ Good a t
