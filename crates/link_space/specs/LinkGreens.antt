-- Where a link's band isn't green: at one of the link's signals, and there first at a tick.
use Rattle.std.specs.Prelude.{◌≡◌, ℕ, ◌+◌, ◌-◌, ◌*◌, ◌<◌, ◌≤◌, ℤ, pos, ◌+ℤ◌, ◌-ℤ◌}
use Rattle.progression.specs.Street.{Street, count, HasLink}
use Rattle.progression.specs.BaseRecord.{cycle}
use Rattle.progression.specs.Green.{red_start, red_ticks}
use Rattle.progression.specs.Lines.{line_at}
use Rattle.progression.specs.declared.parts.Dir.{Dir}
use Rattle.progression.specs.declared.parts.Dir.TheVariants.{Outbound, Inbound}
use Rattle.time_space.specs.FirstRed.{IsFirstRed}
use Rattle.link_theory.specs.LinkRecord.{LinkRecord, link_base, lines, half}
use Rattle.link_theory.specs.GoodLinks.{IsGreenAround}

-- one of the two signals that a link joins
pub record IsEnd (i signal : ℕ) : Type 0 where
  pub least : i ≤ signal
  pub most : signal ≤ i + 1

-- where link i's band begins at a signal
abbrev pub edge : Street → LinkRecord → Dir → ℕ → ℕ → ℤ
edge a t d i signal = line_at a (lines t) d signal -ℤ pos (half t d i)

-- at the signal the first tick of link i's band that isn't green comes so long after the band's beginning
abbrev pub IsBlockedAfter : Street → LinkRecord → Dir → ℕ → ℕ → ℕ → Type 0
IsBlockedAfter a t d i signal after = let b = link_base t in
    IsFirstRed (cycle a b) (red_start a b d signal) (red_ticks a b d signal) (edge a t d i signal) (2 * half t d i) after

-- at this signal of link i the link's band isn't green, first at this tick
pub record IsBlockedEnd (a : Street) (t : LinkRecord) (d : Dir) (i signal : ℕ) (tick : ℤ) : Type 0 where
  pub has : HasLink a i
  pub end : IsEnd i signal
  pub after : ℕ
  pub tick_is : tick ≡ edge a t d i signal +ℤ pos after
  pub blocked : IsBlockedAfter a t d i signal after

-- a link's signals in travel order
abbrev pub ends : Dir → ℕ → ℕ × ℕ
ends Outbound i = (i, i + 1)
ends Inbound i = (i + 1, i)

-- signals in travel order: outbound by their numbers, inbound the last first
abbrev pub travel_order : Street → Dir → ℕ → ℕ
travel_order a Outbound signal = signal
travel_order a Inbound signal = count a - signal

-- and at the link's signals before it in travel order the band is green
pub record IsFirstBlockedEnd (a : Street) (t : LinkRecord) (d : Dir) (i signal : ℕ) (tick : ℤ) : Type 0 where
  pub here : IsBlockedEnd a t d i signal tick
  pub green_before : (s : ℕ) → IsEnd i s → travel_order a d s < travel_order a d signal → IsGreenAround a t d s (half t d i)

-- the band of link i is green at both its signals
abbrev pub IsGreenLink : Street → LinkRecord → Dir → ℕ → Type 0
IsGreenLink a t d i = (s : ℕ) → IsEnd i s → IsGreenAround a t d s (half t d i)

-- the least link whose band isn't green, and where
pub record IsFirstBlockedLink (a : Street) (t : LinkRecord) (d : Dir) (i signal : ℕ) (tick : ℤ) : Type 0 where
  pub there : IsFirstBlockedEnd a t d i signal tick
  pub green_links : (k : ℕ) → 1 ≤ k → k < i → IsGreenLink a t d k
