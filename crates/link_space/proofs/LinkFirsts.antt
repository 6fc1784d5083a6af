-- Which failing of a link timing is the first: rule after rule.
use Rattle.std.proofs.Common.{◌≡◌, ℕ, ◌+◌, ◌<◌, ◌≤◌, arith, inl, inr, subst}
use Rattle.std.specs.Prelude.{ℤ}
use Rattle.std.proofs.lemmas.Bool.{cases_lt}
use Rattle.progression.specs.Street.{Street, HasLink}
use Rattle.progression.specs.Good.{IsBase, RatioHolds}
use Rattle.progression.specs.declared.parts.Dir.{Dir}
use Rattle.progression.specs.declared.parts.Dir.TheVariants.{Outbound, Inbound}
use Rattle.time_space.specs.FirstFailing.{IsFirstBaseFailing}
use Rattle.time_space.specs.declared.failing.Failing.{Failing}
use Rattle.time_space.proofs.Firsts.{rules_out_base}
use Rattle.link_theory.specs.LinkRecord.{LinkRecord, link_base, half}
use Rattle.link_theory.specs.GoodLinks.{IsGreenAround}
use Rattle.link_space.specs.LinkGreens.{travel_order, IsBlockedEnd, IsGreenLink, IsFirstBlockedLink}
use Rattle.link_space.specs.LinkFailing.{LinkFails}
use Rattle.link_space.specs.FirstLinkFailing.{band_order, IsNoLaterLink, IsFirstLinkFailing, NoLinkBefore, band_failing}
use Rattle.link_space.specs.declared.failing.LinkFailing.{LinkFailing}
use Rattle.link_space.specs.declared.failing.LinkFailing.TheVariants as failing
use Rattle.link_space.proofs.Ends.{here_end, there_end, not_both_there}

module _ (a : Street) (t : LinkRecord) where
  -- ---- the rules of its base
  pub after_base : IsBase a (link_base t) → NoLinkBefore a t 1
  after_base b (failing.Base f) w = absurd (rules_out_base a (link_base t) f w b)
  after_base b g w = omega arith

  no_later_base : (f : Failing) → IsFirstBaseFailing a (link_base t) f → (g : LinkFailing) → LinkFails a t g → IsNoLaterLink a (failing.Base f) g
  no_later_base f p (failing.Base g) w = record { variant = omega arith; base = p.first g w; link = λ e. omega arith; signal = λ e q. omega arith }
  no_later_base f p (failing.Ratio k) w = record { variant = omega arith; base = tt; link = λ e. omega arith; signal = λ e q. omega arith }
  no_later_base f p (failing.Outbound k s z) w = record { variant = omega arith; base = tt; link = λ e. omega arith; signal = λ e q. omega arith }
  no_later_base f p (failing.Inbound k s z) w = record { variant = omega arith; base = tt; link = λ e. omega arith; signal = λ e q. omega arith }

  pub first_base : (f : Failing) → IsFirstBaseFailing a (link_base t) f → IsFirstLinkFailing a t (failing.Base f)
  first_base f p = record { fails = p.fails; first = no_later_base f p }

  -- ---- the ratio
  abbrev pub Kept : ℕ → Type 0
  Kept i = RatioHolds a.head.ratio (half t Outbound i) (half t Inbound i)

  pub after_ratios : NoLinkBefore a t 1 → ((i : ℕ) → HasLink a i → Kept i) → NoLinkBefore a t 2
  after_ratios b h (failing.Ratio i) w = absurd (w.1 (h i w.0))
  after_ratios b h g w = omega (arith, b g w)

  no_later_ratio : NoLinkBefore a t 1 → (i : ℕ) → ((k : ℕ) → 1 ≤ k → k < i → Kept k) → (g : LinkFailing) → LinkFails a t g → IsNoLaterLink a (failing.Ratio i) g
  no_later_ratio b i h (failing.Base g) w = absurd (omega (arith, b (failing.Base g) w))
  no_later_ratio b i h (failing.Ratio k) w = record {
    variant = omega arith;
    base = tt;
    link = λ e. elim (cases_lt k i) [ inl l ↦ absurd (w.1 (h k w.0.0 l)) | inr l ↦ l ];
    signal = λ e q. omega arith;
  }
  no_later_ratio b i h (failing.Outbound k s z) w = record { variant = omega arith; base = tt; link = λ e. absurd (omega (arith, e)); signal = λ e q. absurd (omega (arith, e)) }
  no_later_ratio b i h (failing.Inbound k s z) w = record { variant = omega arith; base = tt; link = λ e. absurd (omega (arith, e)); signal = λ e q. absurd (omega (arith, e)) }

  pub first_ratio : NoLinkBefore a t 1 → (i : ℕ) → HasLink a i → (¬ Kept i) → ((k : ℕ) → 1 ≤ k → k < i → Kept k) → IsFirstLinkFailing a t (failing.Ratio i)
  first_ratio b i has broken h = record { fails = (has, broken); first = no_later_ratio b i h }

  -- ---- the bands
  green_not_blocked : (d : Dir) (i s : ℕ) (z : ℤ) → IsGreenLink a t d i → IsBlockedEnd a t d i s z → ⊥
  green_not_blocked d i s z g w = not_both_there a t d i s w.after (g s w.end) w.blocked

  pub after_bands : (d : Dir) → NoLinkBefore a t (band_order d) → ((i : ℕ) → HasLink a i → IsGreenLink a t d i) → NoLinkBefore a t (band_order d + 1)
  after_bands Outbound b h (failing.Outbound i s z) w = absurd (green_not_blocked Outbound i s z (h i w.has) w)
  after_bands Outbound b h g w = omega (arith, b g w)
  after_bands Inbound b h (failing.Inbound i s z) w = absurd (green_not_blocked Inbound i s z (h i w.has) w)
  after_bands Inbound b h g w = omega (arith, b g w)

  -- a blocked band of the same direction comes no sooner: not on an earlier link, nor at an earlier signal of the same link
  later_link : (d : Dir) (i s : ℕ) (z : ℤ) (k r : ℕ) (y : ℤ) → IsFirstBlockedLink a t d i s z → IsBlockedEnd a t d k r y → i ≤ k
  later_link d i s z k r y f w = elim (cases_lt k i) [ inl l ↦ absurd (green_not_blocked d k r y (f.green_links k w.has.0 l) w) | inr l ↦ l ]

  later_signal : (d : Dir) (i s : ℕ) (z : ℤ) (k r : ℕ) (y : ℤ) → IsFirstBlockedLink a t d i s z → IsBlockedEnd a t d k r y → i ≡ k → travel_order a d s ≤ travel_order a d r
  later_signal d i s z k r y f w e = elim (cases_lt (travel_order a d r) (travel_order a d s)) [
    | inl l ↦ absurd (same_link k i r y (omega (arith, e)) w (λ v. not_both_there a t d i r v.after (f.there.green_before r v.end l) v.blocked))
    | inr l ↦ l
  ]
    where
      same_link : (m n q : ℕ) (x : ℤ) → m ≡ n → IsBlockedEnd a t d m q x → (IsBlockedEnd a t d n q x → ⊥) → ⊥
      same_link m n q x h v never = never (subst (λ o. IsBlockedEnd a t d o q x) h v)

  no_later_band : (d : Dir) → NoLinkBefore a t (band_order d) → (i s : ℕ) (z : ℤ) → IsFirstBlockedLink a t d i s z → (g : LinkFailing) → LinkFails a t g → IsNoLaterLink a (band_failing d i s z) g
  no_later_band Outbound b i s z f (failing.Outbound k r y) w = record {
    variant = omega arith;
    base = tt;
    link = λ e. later_link Outbound i s z k r y f w;
    signal = λ e q. later_signal Outbound i s z k r y f w q;
  }
  no_later_band Outbound b i s z f (failing.Inbound k r y) w = record { variant = omega arith; base = tt; link = λ e. absurd (omega (arith, e)); signal = λ e q. absurd (omega (arith, e)) }
  no_later_band Outbound b i s z f g w = absurd (omega (arith, b g w))
  no_later_band Inbound b i s z f (failing.Inbound k r y) w = record {
    variant = omega arith;
    base = tt;
    link = λ e. later_link Inbound i s z k r y f w;
    signal = λ e q. later_signal Inbound i s z k r y f w q;
  }
  no_later_band Inbound b i s z f g w = absurd (omega (arith, b g w))

  band_fails : (d : Dir) (i s : ℕ) (z : ℤ) → IsBlockedEnd a t d i s z → LinkFails a t (band_failing d i s z)
  band_fails Outbound i s z w = w
  band_fails Inbound i s z w = w

  pub first_band : (d : Dir) → NoLinkBefore a t (band_order d) → (i s : ℕ) (z : ℤ) → IsFirstBlockedLink a t d i s z → IsFirstLinkFailing a t (band_failing d i s z)
  first_band d b i s z f = record { fails = band_fails d i s z f.there.here; first = no_later_band d b i s z f }

  -- bands that are green both ways are green at the nearer and at the farther signal of each link
  abbrev pub AreGreen : Dir → Type 0
  AreGreen d = (i : ℕ) → HasLink a i → IsGreenLink a t d i

  pub green_here : AreGreen Outbound → AreGreen Inbound → (d : Dir) (i : ℕ) → HasLink a i → IsGreenAround a t d i (half t d i)
  green_here o b Outbound i h = o i h i (here_end i)
  green_here o b Inbound i h = b i h i (here_end i)

  pub green_there : AreGreen Outbound → AreGreen Inbound → (d : Dir) (i : ℕ) → HasLink a i → IsGreenAround a t d (i + 1) (half t d i)
  green_there o b Outbound i h = o i h (i + 1) (there_end i)
  green_there o b Inbound i h = b i h (i + 1) (there_end i)
