-- Which failing of a timing is the first: rule after rule.
use Rattle.std.proofs.Common.{◌≡◌, ℕ, ◌+◌, ◌<◌, ◌≤◌, length, arith, inl, inr}
use Rattle.std.specs.Prelude.{IsTrue, ℤ, false}
use Rattle.std.proofs.lemmas.Bool.{cases_lt}
use Rattle.rational_theory.specs.Rational.{◌*ℚ◌, ◌≤ℚ◌}
use Rattle.progression.specs.Street.{Street, count, allows, HasSignal, HasLink}
use Rattle.progression.specs.Speeds.{number}
use Rattle.progression.specs.TimingRecord.{TimingRecord, base}
use Rattle.progression.specs.BaseRecord.{BaseRecord, cycle, pattern_of}
use Rattle.progression.specs.Lines.{IsGreenWay, IsGreenAt}
use Rattle.progression.specs.Good.{IsBase, RatioHolds, HasLeastBand, HasEqualBands}
use Rattle.progression.specs.declared.parts.Dir.{Dir}
use Rattle.progression.specs.declared.parts.Dir.TheVariants.{Outbound, Inbound}
use Rattle.time_space.specs.Blocked.{IsBlockedAt, IsBlockedSomewhere, IsFirstBlocked}
use Rattle.time_space.specs.LinkRules.{LinkHolds, LinkBreaks, AllLinks, IsFirstBroken}
use Rattle.time_space.specs.Failing.{BaseFails, Fails}
use Rattle.time_space.specs.FirstFailing.{rule_order, direction_order, dir_order, place_order, IsNoLater, IsFirstOf, IsFirstBaseFailing, IsFirstFailing, NoneBefore, link_order, link_failing}
use Rattle.time_space.specs.declared.links.LinkRule.{LinkRule}
use Rattle.time_space.specs.declared.links.LinkRule.TheVariants as rule
use Rattle.time_space.specs.declared.failing.Failing.{Failing}
use Rattle.time_space.specs.declared.failing.Failing.TheVariants as failing

-- the band isn't both green and blocked at a signal
pub not_both : (a : Street) (t : TimingRecord) (d : Dir) (j after : ℕ) → IsGreenAt a t d j → IsBlockedAt a t d j after → ⊥
not_both a t d j after g b = let yes = g after b.within in let no = b.red_there in cc

-- a link doesn't both keep and break a limit
pub clash : (a : Street) (t : BaseRecord) (r : LinkRule) (d : Dir) (i : ℕ) → LinkHolds a t r d i → LinkBreaks a t r d i → ⊥
clash a t rule.Fast d i h b = b h
clash a t rule.Slow d i h b = b h
clash a t rule.Rise d i h b = b.1 (h b.0)
clash a t rule.Drop d i h b = b.1 (h b.0)

-- a rule that fails rules out that the base keeps its rules
pub rules_out_base : (a : Street) (t : BaseRecord) (f : Failing) → BaseFails a t f → ¬ IsBase a t
rules_out_base a t failing.Shape w b = w b.shape
rules_out_base a t (failing.Pattern i) w b = let yes = b.patterns i w.0 in let no = w.1 in absurd (cc)
rules_out_base a t failing.CycleShort w b = w b.cycle_least
rules_out_base a t failing.CycleLong w b = w b.cycle_most
rules_out_base a t (failing.Fast d i) w b = w.1 (b.fast d i w.0)
rules_out_base a t (failing.Slow d i) w b = w.1 (b.slow d i w.0)
rules_out_base a t (failing.Rise d i) w b = w.1.1 (b.rise d i w.0 w.1.0)
rules_out_base a t (failing.Drop d i) w b = w.1.1 (b.drop d i w.0 w.1.0)
rules_out_base a t f w b = w

-- ---- failings of any kind
module _ (a : Street) (Fail : Failing → Type 0) where
  pub none_before : NoneBefore Fail 0
  none_before g w = omega arith

  -- rules that name no place
  pub first_lone : (f : Failing) → direction_order f ≡ 0 → place_order a f ≡ 0 → NoneBefore Fail (rule_order f) → Fail f → IsFirstOf a Fail f
  first_lone f d p b w = record { fails = w; first = λ g v. record { rule = b g v; direction = λ e. omega arith; place = λ e k. omega arith } }

module _ (a : Street) (t : BaseRecord) where
  pub after_shape : length t.patterns ≡ count a → NoneBefore (BaseFails a t) 1
  after_shape h failing.Shape w = absurd (w h)
  after_shape h g w = omega arith

  pub after_cycle_least : NoneBefore (BaseFails a t) 2 → (a.head.cycle.least *ℚ number t.grid) ≤ℚ number (cycle a t) → NoneBefore (BaseFails a t) 3
  after_cycle_least b h failing.CycleShort w = absurd (w h)
  after_cycle_least b h g w = omega (arith, b g w)

  pub after_cycle_most : NoneBefore (BaseFails a t) 3 → number (cycle a t) ≤ℚ (a.head.cycle.most *ℚ number t.grid) → NoneBefore (BaseFails a t) 4
  after_cycle_most b h failing.CycleLong w = absurd (w h)
  after_cycle_most b h g w = omega (arith, b g w)

  -- ---- patterns
  pub after_patterns : NoneBefore (BaseFails a t) 1 → ((i : ℕ) → HasSignal a i → IsTrue (allows a i (pattern_of t i))) → NoneBefore (BaseFails a t) 2
  after_patterns b h (failing.Pattern i) w = let yes = h i w.0 in let no = w.1 in absurd (cc)
  after_patterns b h g w = omega (arith, b g w)

  no_later_pattern : NoneBefore (BaseFails a t) 1 → (i : ℕ) → ((k : ℕ) → 1 ≤ k → k < i → IsTrue (allows a k (pattern_of t k))) → (g : Failing) → BaseFails a t g → IsNoLater a (failing.Pattern i) g
  no_later_pattern b i h (failing.Pattern k) w = record {
    rule = omega arith;
    direction = λ e. omega arith;
    place = λ e f. elim (cases_lt k i) [ inl l ↦ let yes = h k w.0.0 l in let no = w.1 in absurd (cc) | inr l ↦ l ];
  }
  no_later_pattern b i h g w = record { rule = b g w; direction = λ e. absurd (omega (arith, e)); place = λ e f. absurd (omega (arith, e)) }

  pub first_pattern : NoneBefore (BaseFails a t) 1 → (i : ℕ) → HasSignal a i → allows a i (pattern_of t i) ≡ false → ((k : ℕ) → 1 ≤ k → k < i → IsTrue (allows a k (pattern_of t k)))
      → IsFirstBaseFailing a t (failing.Pattern i)
  first_pattern b i has refused h = record { fails = (has, refused); first = no_later_pattern b i h }

  -- ---- links
  pub after_links : (r : LinkRule) → NoneBefore (BaseFails a t) (link_order r) → ((d : Dir) → AllLinks a t r d) → NoneBefore (BaseFails a t) (link_order r + 1)
  after_links rule.Fast b h (failing.Fast d i) w = absurd (clash a t rule.Fast d i (h d i w.0) w.1)
  after_links rule.Fast b h g w = omega (arith, b g w)
  after_links rule.Slow b h (failing.Slow d i) w = absurd (clash a t rule.Slow d i (h d i w.0) w.1)
  after_links rule.Slow b h g w = omega (arith, b g w)
  after_links rule.Rise b h (failing.Rise d i) w = absurd (clash a t rule.Rise d i (h d i w.0) w.1)
  after_links rule.Rise b h g w = omega (arith, b g w)
  after_links rule.Drop b h (failing.Drop d i) w = absurd (clash a t rule.Drop d i (h d i w.0) w.1)
  after_links rule.Drop b h g w = omega (arith, b g w)

  -- what holds of the directions before this one
  abbrev pub KeptBefore : LinkRule → Dir → Type 0
  KeptBefore r Outbound = Unit {0}
  KeptBefore r Inbound = AllLinks a t r Outbound

  least_link : (r : LinkRule) (d : Dir) (i k : ℕ) → IsFirstBroken a t r d i → HasLink a k → LinkBreaks a t r d k → i ≤ k
  least_link r d i k f has w = elim (cases_lt k i) [ inl l ↦ absurd (clash a t r d k (f.kept_before k has.0 l) w) | inr l ↦ l ]

  ordered : (r : LinkRule) (d e : Dir) (i k : ℕ) → KeptBefore r d → IsFirstBroken a t r d i → HasLink a k → LinkBreaks a t r e k
      → (dir_order d ≤ dir_order e) × (dir_order d ≡ dir_order e → i ≤ k)
  ordered r Outbound Outbound i k kept f has w = (omega arith, λ q. least_link r Outbound i k f has w)
  ordered r Outbound Inbound i k kept f has w = (omega arith, λ q. absurd (omega (arith, q)))
  ordered r Inbound Outbound i k kept f has w = absurd (clash a t r Outbound k (kept k has) w)
  ordered r Inbound Inbound i k kept f has w = (omega arith, λ q. least_link r Inbound i k f has w)

  no_later_link : (r : LinkRule) (d : Dir) (i : ℕ) → NoneBefore (BaseFails a t) (link_order r) → KeptBefore r d → IsFirstBroken a t r d i
      → (g : Failing) → BaseFails a t g → IsNoLater a (link_failing r d i) g
  no_later_link rule.Fast d i b kept f (failing.Fast e k) w = let o = ordered rule.Fast d e i k kept f w.0 w.1 in record { rule = omega arith; direction = λ q. o.0; place = λ q p. o.1 p }
  no_later_link rule.Fast d i b kept f g w = record { rule = b g w; direction = λ e. absurd (omega (arith, e)); place = λ e q. absurd (omega (arith, e)) }
  no_later_link rule.Slow d i b kept f (failing.Slow e k) w = let o = ordered rule.Slow d e i k kept f w.0 w.1 in record { rule = omega arith; direction = λ q. o.0; place = λ q p. o.1 p }
  no_later_link rule.Slow d i b kept f g w = record { rule = b g w; direction = λ e. absurd (omega (arith, e)); place = λ e q. absurd (omega (arith, e)) }
  no_later_link rule.Rise d i b kept f (failing.Rise e k) w = let o = ordered rule.Rise d e i k kept f w.0 w.1 in record { rule = omega arith; direction = λ q. o.0; place = λ q p. o.1 p }
  no_later_link rule.Rise d i b kept f g w = record { rule = b g w; direction = λ e. absurd (omega (arith, e)); place = λ e q. absurd (omega (arith, e)) }
  no_later_link rule.Drop d i b kept f (failing.Drop e k) w = let o = ordered rule.Drop d e i k kept f w.0 w.1 in record { rule = omega arith; direction = λ q. o.0; place = λ q p. o.1 p }
  no_later_link rule.Drop d i b kept f g w = record { rule = b g w; direction = λ e. absurd (omega (arith, e)); place = λ e q. absurd (omega (arith, e)) }

  link_fails : (r : LinkRule) (d : Dir) (i : ℕ) → HasLink a i → LinkBreaks a t r d i → BaseFails a t (link_failing r d i)
  link_fails rule.Fast d i has w = (has, w)
  link_fails rule.Slow d i has w = (has, w)
  link_fails rule.Rise d i has w = (has, w)
  link_fails rule.Drop d i has w = (has, w)

  pub first_link : (r : LinkRule) (d : Dir) (i : ℕ) → NoneBefore (BaseFails a t) (link_order r) → KeptBefore r d → IsFirstBroken a t r d i → IsFirstBaseFailing a t (link_failing r d i)
  first_link r d i b kept f = record { fails = link_fails r d i f.has f.breaks; first = no_later_link r d i b kept f }

  pub first_link_out : (r : LinkRule) (i : ℕ) → NoneBefore (BaseFails a t) (link_order r) → IsFirstBroken a t r Outbound i → IsFirstBaseFailing a t (link_failing r Outbound i)
  first_link_out r i b f = first_link r Outbound i b tt f

  pub first_link_in : (r : LinkRule) (i : ℕ) → NoneBefore (BaseFails a t) (link_order r) → AllLinks a t r Outbound → IsFirstBroken a t r Inbound i → IsFirstBaseFailing a t (link_failing r Inbound i)
  first_link_in r i b kept f = first_link r Inbound i b kept f

  pub both_ways : (r : LinkRule) → AllLinks a t r Outbound → AllLinks a t r Inbound → (d : Dir) → AllLinks a t r d
  both_ways r o i Outbound = o
  both_ways r o i Inbound = i

module _ (a : Street) (t : TimingRecord) where
  -- ---- the rules of its base
  -- a failing of the base is one of the timing
  pub fails_of_base : (f : Failing) → BaseFails a (base t) f → Fails a t f
  fails_of_base failing.Ratio w = absurd w
  fails_of_base (failing.Least d) w = absurd w
  fails_of_base failing.Equal w = absurd w
  fails_of_base (failing.Outbound i tick) w = absurd w
  fails_of_base (failing.Inbound i tick) w = absurd w
  fails_of_base f w = w

  -- whose rule stands before those of bands
  of_base : (f : Failing) → BaseFails a (base t) f → rule_order f < 8
  of_base failing.Ratio w = absurd w
  of_base (failing.Least d) w = absurd w
  of_base failing.Equal w = absurd w
  of_base (failing.Outbound i tick) w = absurd w
  of_base (failing.Inbound i tick) w = absurd w
  of_base f w = omega arith

  before_bands : (f g : Failing) → BaseFails a (base t) f → 8 ≤ rule_order g → IsNoLater a f g
  before_bands f g w l = let o = of_base f w in record { rule = omega (arith, o, l); direction = λ e. absurd (omega (arith, o, l, e)); place = λ e q. absurd (omega (arith, o, l, e)) }

  no_later_than : (f : Failing) → IsFirstBaseFailing a (base t) f → (g : Failing) → Fails a t g → IsNoLater a f g
  no_later_than f h failing.Ratio w = before_bands f failing.Ratio h.fails (omega arith)
  no_later_than f h (failing.Least d) w = before_bands f (failing.Least d) h.fails (omega arith)
  no_later_than f h failing.Equal w = before_bands f failing.Equal h.fails (omega arith)
  no_later_than f h (failing.Outbound i tick) w = before_bands f (failing.Outbound i tick) h.fails (omega arith)
  no_later_than f h (failing.Inbound i tick) w = before_bands f (failing.Inbound i tick) h.fails (omega arith)
  no_later_than f h g w = h.first g w

  -- the first failing of the base is the first of all
  pub first_of_base : (f : Failing) → IsFirstBaseFailing a (base t) f → IsFirstFailing a t f
  first_of_base f h = record { fails = fails_of_base f h.fails; first = no_later_than f h }

  pub after_base : IsBase a (base t) → NoneBefore (Fails a t) 8
  after_base h failing.Ratio w = omega arith
  after_base h (failing.Least d) w = omega arith
  after_base h failing.Equal w = omega arith
  after_base h (failing.Outbound i tick) w = omega arith
  after_base h (failing.Inbound i tick) w = omega arith
  after_base h f w = absurd (rules_out_base a (base t) f w h)

  -- ---- the ratio
  pub after_ratio : NoneBefore (Fails a t) 8 → RatioHolds a.head.ratio t.band_out t.band_in → NoneBefore (Fails a t) 9
  after_ratio b h failing.Ratio w = absurd (w h)
  after_ratio b h g w = omega (arith, b g w)

  -- ---- least bands, and their equality
  pub after_least : NoneBefore (Fails a t) 9 → ((d : Dir) → HasLeastBand a t d) → NoneBefore (Fails a t) 10
  after_least b h (failing.Least d) w = absurd (w (h d))
  after_least b h g w = omega (arith, b g w)

  pub both_least : HasLeastBand a t Outbound → HasLeastBand a t Inbound → (d : Dir) → HasLeastBand a t d
  both_least o i Outbound = o
  both_least o i Inbound = i

  no_later_least_in : NoneBefore (Fails a t) 9 → HasLeastBand a t Outbound → (g : Failing) → Fails a t g → IsNoLater a (failing.Least Inbound) g
  no_later_least_in b h (failing.Least Outbound) w = absurd (w h)
  no_later_least_in b h (failing.Least Inbound) w = record { rule = omega arith; direction = λ e. omega arith; place = λ e q. omega arith }
  no_later_least_in b h g w = record { rule = b g w; direction = λ e. absurd (omega (arith, e)); place = λ e q. absurd (omega (arith, e)) }

  pub first_least_in : NoneBefore (Fails a t) 9 → HasLeastBand a t Outbound → ¬ HasLeastBand a t Inbound → IsFirstFailing a t (failing.Least Inbound)
  first_least_in b h w = record { fails = w; first = no_later_least_in b h }

  pub after_equal : NoneBefore (Fails a t) 10 → HasEqualBands a t → NoneBefore (Fails a t) 11
  after_equal b h failing.Equal w = absurd (w h)
  after_equal b h g w = omega (arith, b g w)

  -- ---- bands
  pub after_outbound : NoneBefore (Fails a t) 11 → IsGreenWay a t Outbound → NoneBefore (Fails a t) 12
  after_outbound b h (failing.Outbound i tick) w = absurd (not_both a t Outbound w.at w.here.after (h w.at w.on_way) w.here.blocked)
  after_outbound b h g w = omega (arith, b g w)

  -- of a direction's blocked signals none stands before its first
  blocked_later : (d : Dir) (signal other : ℕ) (tick moment : ℤ) (f : IsFirstBlocked a t d signal tick) (w : IsBlockedSomewhere a t d other moment) → f.at ≤ w.at
  blocked_later d signal other tick moment f w = elim (cases_lt w.at f.at) [ inl below ↦ absurd (not_both a t d w.at w.here.after (f.green_before w.at below) w.here.blocked) | inr above ↦ above ]

  no_later_outbound : NoneBefore (Fails a t) 11 → (signal : ℕ) (tick : ℤ) → IsFirstBlocked a t Outbound signal tick → (g : Failing) → Fails a t g → IsNoLater a (failing.Outbound signal tick) g
  no_later_outbound b signal tick f (failing.Outbound i other) w = let above = blocked_later Outbound signal i tick other f w in let here = w.here.signal_is in
      let first = f.here.signal_is in record { rule = omega arith; direction = λ e. omega arith; place = λ e q. omega (arith, above, here, first) }
  no_later_outbound b signal tick f g w = record { rule = b g w; direction = λ e. absurd (omega (arith, e)); place = λ e q. absurd (omega (arith, e)) }

  pub first_outbound : NoneBefore (Fails a t) 11 → (signal : ℕ) (tick : ℤ) → IsFirstBlocked a t Outbound signal tick → IsFirstFailing a t (failing.Outbound signal tick)
  first_outbound b signal tick f = record { fails = record { at = f.at; on_way = f.on_way; here = f.here }; first = no_later_outbound b signal tick f }

  no_later_inbound : NoneBefore (Fails a t) 12 → (signal : ℕ) (tick : ℤ) → IsFirstBlocked a t Inbound signal tick → (g : Failing) → Fails a t g → IsNoLater a (failing.Inbound signal tick) g
  no_later_inbound b signal tick f (failing.Inbound i other) w = let above = blocked_later Inbound signal i tick other f w in let here = w.here.signal_is in
      let first = f.here.signal_is in record { rule = omega arith; direction = λ e. omega arith; place = λ e q. omega (arith, above, here, first) }
  no_later_inbound b signal tick f g w = record { rule = b g w; direction = λ e. absurd (omega (arith, e)); place = λ e q. absurd (omega (arith, e)) }

  pub first_inbound : NoneBefore (Fails a t) 12 → (signal : ℕ) (tick : ℤ) → IsFirstBlocked a t Inbound signal tick → IsFirstFailing a t (failing.Inbound signal tick)
  first_inbound b signal tick f = record { fails = record { at = f.at; on_way = f.on_way; here = f.here }; first = no_later_inbound b signal tick f }
