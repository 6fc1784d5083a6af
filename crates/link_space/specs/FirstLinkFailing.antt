-- The order of the link failings: the rules of its base, as for any timing; then the ratio, the outbound and the inbound bands, each by link; at one
-- link by signal in travel order.
use Rattle.std.specs.Prelude.{◌≡◌, ℕ, ◌≤◌, ℤ}
use Rattle.progression.specs.Street.{Street}
use Rattle.progression.specs.declared.parts.Dir.{Dir}
use Rattle.progression.specs.declared.parts.Dir.TheVariants.{Outbound, Inbound}
use Rattle.time_space.specs.FirstFailing.{IsNoLater}
use Rattle.link_theory.specs.LinkRecord.{LinkRecord}
use Rattle.link_space.specs.LinkGreens.{travel_order}
use Rattle.link_space.specs.LinkFailing.{LinkFails}
use Rattle.link_space.specs.declared.failing.LinkFailing.{LinkFailing}
use Rattle.link_space.specs.declared.failing.LinkFailing.TheVariants as failing

-- the place of a direction's bands in the order of the rules
abbrev pub band_order : Dir → ℕ
band_order Outbound = 2
band_order Inbound = 3

-- the place of its rule in the order of the rules
abbrev pub variant_order : LinkFailing → ℕ
variant_order (failing.Base f) = 0
variant_order (failing.Ratio i) = 1
variant_order (failing.Outbound i signal tick) = 2
variant_order (failing.Inbound i signal tick) = 3

-- the number of its link, where it names one
abbrev pub link_order : LinkFailing → ℕ
link_order (failing.Base f) = 0
link_order (failing.Ratio i) = i
link_order (failing.Outbound i signal tick) = i
link_order (failing.Inbound i signal tick) = i

-- the place of its signal, where it names one
abbrev pub signal_order : Street → LinkFailing → ℕ
signal_order a (failing.Outbound i signal tick) = travel_order a Outbound signal
signal_order a (failing.Inbound i signal tick) = travel_order a Inbound signal
signal_order a f = 0

-- of two rules of a base the first doesn't come after the second
abbrev pub IsBaseNoLater : Street → LinkFailing → LinkFailing → Type 0
IsBaseNoLater a (failing.Base f) (failing.Base g) = IsNoLater a f g
IsBaseNoLater a f g = Unit {0}

-- f doesn't come after g: not by its rule, where these are the same not by its link, and where that is so too not by its signal
pub record IsNoLaterLink (a : Street) (f g : LinkFailing) : Type 0 where
  pub variant : variant_order f ≤ variant_order g
  pub base : IsBaseNoLater a f g
  pub link : variant_order f ≡ variant_order g → link_order f ≤ link_order g
  pub signal : variant_order f ≡ variant_order g → link_order f ≡ link_order g → signal_order a f ≤ signal_order a g

-- it fails, and of all that fail none comes before it
pub record IsFirstLinkFailing (a : Street) (t : LinkRecord) (f : LinkFailing) : Type 0 where
  pub fails : LinkFails a t f
  pub first : (g : LinkFailing) → LinkFails a t g → IsNoLaterLink a f g

-- no rule before the n-th fails
abbrev pub NoLinkBefore : Street → LinkRecord → ℕ → Type 0
NoLinkBefore a t n = (g : LinkFailing) → LinkFails a t g → n ≤ variant_order g

-- the failing of a direction's band at a link
abbrev pub band_failing : Dir → ℕ → ℕ → ℤ → LinkFailing
band_failing Outbound i signal tick = failing.Outbound i signal tick
band_failing Inbound i signal tick = failing.Inbound i signal tick

-- of a link timing at most one failing is the first
abbrev pub OneFirstLink : Type 0
OneFirstLink = (a : Street) (t : LinkRecord) (f g : LinkFailing) → IsFirstLinkFailing a t f → IsFirstLinkFailing a t g → f ≡ g
