-- The rules of a good link timing, read off the time-space diagram. Those of its base come first; then each link's bands keep the ratio, and are green at both
-- ends of the link. Least bands and equal bands play no part.
use Rattle.std.specs.Prelude.{ℕ, ◌+◌, ◌*◌, pos, ◌-ℤ◌}
use Rattle.progression.specs.Street.{Street, HasLink}
use Rattle.progression.specs.TimingRecord.{base}
use Rattle.progression.specs.BaseRecord.{cycle}
use Rattle.progression.specs.Green.{BandIsGreen, red_start, red_ticks}
use Rattle.progression.specs.Lines.{line_at}
use Rattle.progression.specs.Good.{IsBase, RatioHolds}
use Rattle.progression.specs.declared.parts.Dir.{Dir}
use Rattle.progression.specs.declared.parts.Dir.TheVariants.{Outbound, Inbound}
use Rattle.link_theory.specs.LinkRecord.{LinkRecord, IsLinkRecord, link_base, lines, half}

-- every tick from h before the direction's line to h after it is green at signal i
abbrev pub IsGreenAround : Street → LinkRecord → Dir → ℕ → ℕ → Type 0
IsGreenAround a t d i h = let b = link_base t in
    BandIsGreen (cycle a b) (red_start a b d i) (red_ticks a b d i) (line_at a (lines t) d i -ℤ pos h) (2 * h)

pub record GoodLinks (a : Street) (t : LinkRecord) : Type 0 where
  pub formed : IsLinkRecord t
  pub base : IsBase a (link_base t)
  pub ratio : (i : ℕ) → HasLink a i → RatioHolds a.head.ratio (half t Outbound i) (half t Inbound i)
  pub here : (d : Dir) (i : ℕ) → HasLink a i → IsGreenAround a t d i (half t d i)
  pub there : (d : Dir) (i : ℕ) → HasLink a i → IsGreenAround a t d (i + 1) (half t d i)
