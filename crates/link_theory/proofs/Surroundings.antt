-- The symmetric window lemma at a signal of a link timing, in ticks, for both directions.
use Rattle.std.proofs.Common.{◌↔◌, ℕ, ◌+◌, ◌-◌, ◌≤◌}
use Rattle.progression.specs.Street.{Street, HasSignal}
use Rattle.progression.specs.BaseRecord.{cycle}
use Rattle.progression.specs.Green.{BandIsGreen, red_start, red_ticks}
use Rattle.progression.specs.Lines.{line_at}
use Rattle.progression.specs.Columns.{wait}
use Rattle.progression.specs.declared.parts.Dir.{Dir}
use Rattle.progression.specs.declared.parts.Dir.TheVariants.{Outbound, Inbound}
use Rattle.linear_theory.specs.Counts.{IsStreet}
use Rattle.linear_theory.proofs.Ranges.{red_some, red_less}
use Rattle.link_theory.specs.LinkRecord.{LinkRecord, link_base, lines}
use Rattle.link_theory.specs.GoodLinks.{IsGreenAround}
use Rattle.link_theory.proofs.SymmetricWindows.{around_after, around_before, line_from_around}

module _ (a : Street) (t : LinkRecord) (h : IsStreet a) (u : 2 ≤ t.unit) where
  -- the surroundings of a line are green exactly where they are at most its wait, and fit into the green with it
  pub around : (d : Dir) (i k : ℕ) → HasSignal a i
      → IsGreenAround a t d i k ↔ ((k ≤ wait a (lines t) d i) × (wait a (lines t) d i + k ≤ cycle a (link_base t) - red_ticks a (link_base t) d i))
  around Outbound i k s =
      around_after (cycle a (link_base t)) (red_ticks a (link_base t) Outbound i) (red_start a (link_base t) Outbound i) (line_at a (lines t) Outbound i) k
      (red_some a (lines t) h u Outbound i s) (red_less a (lines t) h u Outbound i s)
  around Inbound i k s =
      around_before (cycle a (link_base t)) (red_ticks a (link_base t) Inbound i) (red_start a (link_base t) Inbound i) (line_at a (lines t) Inbound i) k
      (red_some a (lines t) h u Inbound i s) (red_less a (lines t) h u Inbound i s)

  -- a line is green where its surroundings are
  pub line_in : (d : Dir) (i k : ℕ) → HasSignal a i → IsGreenAround a t d i k
      → BandIsGreen (cycle a (link_base t)) (red_start a (link_base t) d i) (red_ticks a (link_base t) d i) (line_at a (lines t) d i) 0
  line_in d i k s green =
      line_from_around (cycle a (link_base t)) (red_ticks a (link_base t) d i) (red_start a (link_base t) d i) (line_at a (lines t) d i) k (red_some a (lines t) h u d i s)
      (red_less a (lines t) h u d i s) green
