-- The two lines of a good link timing are a good timing, whose bands are lines, of the same artery without least bands and equal bands: what is known of good
-- timings holds of them.
use Rattle.std.proofs.Common.{◌≡◌, ℕ, ◌+◌, ◌-◌, inl, inr, [], ◌∷◌, refl, sym, subst, arith}
use Rattle.std.proofs.lemmas.Bool.{cases_lt}
use Rattle.rational_theory.specs.Rational.{ℚ}
use Rattle.rational_theory.proofs.Ring.{at, minus, ◌⊕◌, ◌⊗◌}
use Rattle.rational_theory.proofs.Linear.{linear}
use Rattle.progression.specs.Street.{Street, count, HasSignal}
use Rattle.progression.specs.TimingRecord.{base}
use Rattle.progression.specs.BaseRecord.{cycle}
use Rattle.progression.specs.Green.{BandIsGreen, red_start, red_ticks}
use Rattle.progression.specs.Lines.{stop, crossing, line_at, IsGreenWay}
use Rattle.progression.specs.Good.{Good, RatioHolds, HasLeastBand}
use Rattle.progression.specs.declared.parts.Dir.{Dir}
use Rattle.progression.specs.declared.parts.Dir.TheVariants.{Outbound, Inbound}
use Rattle.linear_theory.proofs.Terms.{one, zero_term}
use Rattle.linear_theory.specs.Counts.{IsStreet}
use Rattle.link_theory.specs.LinkRecord.{LinkRecord, link_base, lines, half}
use Rattle.link_theory.specs.GoodLinks.{GoodLinks, IsGreenAround}
use Rattle.progression.specs.Speeds.{number}
use Rattle.link_theory.specs.Plain.{plain}
use Rattle.link_theory.proofs.PlainStreets.{same_crossing, plain_base}
use Rattle.link_theory.proofs.Surroundings.{line_in}

-- two lines keep the rule of every ratio
no_bands : (k : ℚ) → RatioHolds k 0 0
no_bands k = linear [] 0 ((one ⊕ minus (at 0)) ⊗ (at 0 ⊗ zero_term)) ((one ⊕ minus (at 0)) ⊗ zero_term) (k ∷ []) tt refl

-- and that of each least band of 0
no_least : (a : Street) (t : LinkRecord) (d : Dir) → HasLeastBand (plain a) (lines t) d
no_least a t Outbound = linear [] 0 (zero_term ⊗ at 0) zero_term (number (cycle a (link_base t)) ∷ []) tt refl
no_least a t Inbound = linear [] 0 (zero_term ⊗ at 0) zero_term (number (cycle a (link_base t)) ∷ []) tt refl

module _ (a : Street) (t : LinkRecord) (h : IsStreet a) (g : GoodLinks a t) where
  -- each signal is an end of a link
  line_green : (d : Dir) (i : ℕ) → HasSignal a i
      → BandIsGreen (cycle a (link_base t)) (red_start a (link_base t) d i) (red_ticks a (link_base t) d i) (line_at a (lines t) d i) 0
  line_green d i s = let l = s.0 in let m = s.1 in let two = h.signals in elim (cases_lt i (count a)) [
    | inl w ↦ line_in a t h g.formed.base.unit d i (half t d i) s (g.here d i (l, w))
    | inr w ↦ let e : i - 1 + 1 ≡ i = omega arith in
        line_in a t h g.formed.base.unit d i (half t d (i - 1)) s (subst (λ j. IsGreenAround a t d j (half t d (i - 1))) e (g.there d (i - 1) (omega arith, omega arith)))
  ]

  -- in travel order
  way_out : IsGreenWay a (lines t) Outbound
  way_out = λ j l.
      let e : j + 1 - 1 ≡ j = omega arith in
      subst (λ k. BandIsGreen (cycle a (link_base t)) (red_start a (link_base t) Outbound (j + 1)) (red_ticks a (link_base t) Outbound (j + 1)) (crossing a (lines t) Outbound k) 0) e
      (line_green Outbound (j + 1) (omega arith, omega arith))

  way_in : IsGreenWay a (lines t) Inbound
  way_in = λ j l.
      let e : count a - (count a - j) ≡ j = omega arith in
      subst (λ k. BandIsGreen (cycle a (link_base t)) (red_start a (link_base t) Inbound (count a - j)) (red_ticks a (link_base t) Inbound (count a - j)) (crossing a (lines t) Inbound k) 0) e
      (line_green Inbound (count a - j) (omega arith, omega arith))

  -- which is green all the way; least bands and equal bands are those of the plain artery
  green_ways : (d : Dir) → IsGreenWay (plain a) (lines t) d
  green_ways Outbound = λ j l.
      subst (λ z. BandIsGreen (cycle a (link_base t)) (red_start a (link_base t) Outbound (stop Outbound (count a) j)) (red_ticks a (link_base t) Outbound (stop Outbound (count a) j)) z 0)
      (sym (same_crossing a (lines t) Outbound j)) (way_out j l)
  green_ways Inbound = λ j l.
      subst (λ z. BandIsGreen (cycle a (link_base t)) (red_start a (link_base t) Inbound (stop Inbound (count a) j)) (red_ticks a (link_base t) Inbound (stop Inbound (count a) j)) z 0)
      (sym (same_crossing a (lines t) Inbound j)) (way_in j l)

  pub good_lines : Good (plain a) (lines t)
  good_lines = record {
    base = plain_base a (link_base t) g.base;
    ratio = no_bands a.head.ratio;
    least = no_least a t;
    equal = λ e. refl;
    outbound = green_ways Outbound;
    inbound = green_ways Inbound;
  }
