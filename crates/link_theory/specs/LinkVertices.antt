-- Vertices of a box's linear program for links, and the link timing of one: its base and its lines are those of the timing that is placed
-- by the waits, and its halves are the ticks of their columns.
use Rattle.std.specs.Prelude.{◌≡◌, ℕ, ◌-◌, List, length}
use Rattle.rational_theory.specs.Rational.{ℚ}
use Rattle.rational_theory.specs.Rows.{IsMet, AllNonNegative}
use Rattle.progression.specs.Street.{Street, count}
use Rattle.progression.specs.TimingRecord.{base}
use Rattle.progression.specs.Speeds.{number}
use Rattle.progression.specs.Columns.{BandOf, numbered}
use Rattle.progression.specs.declared.parts.Dir.{Dir}
use Rattle.progression.specs.declared.parts.Dir.TheVariants.{Outbound, Inbound}
use Rattle.linear_theory.specs.Places.{value_at}
use Rattle.linear_theory.specs.Boxes.{Area}
use Rattle.link_theory.specs.LinkRecord.{LinkRecord, link_banded}
use Rattle.link_theory.specs.LinkColumns.{link_width, half_place}
use Rattle.link_theory.specs.LinkNames.{LinkName, HasLinkRow, link_row}
use Rattle.recovery_theory.specs.Ticks.{ticks_in}
use Rattle.recovery_theory.specs.Placing.{timing_of}

-- a value for each column, none below 0, those of the two bands 0, which meet each row that the artery has for the box
pub record IsLinkVertex (a : Street) (box : Area) (x : List ℚ) : Type 0 where
  pub columns : length x ≡ link_width (count a)
  pub not_negative : AllNonNegative x
  pub no_bands : (d : Dir) → value_at (count a) x (BandOf d) ≡ number 0
  pub rows : (n : LinkName) → HasLinkRow a n → IsMet x (link_row a box n)

-- the ticks of link i's half
abbrev pub half_ticks : Street → List ℚ → Dir → ℕ → ℕ
half_ticks a x d i = ticks_in a x (half_place (count a) d i)

-- the link timing of a point; its unit is that of all columns
abbrev pub link_timing_of : Street → List ℚ → LinkRecord
link_timing_of a x = let t = timing_of a x in
    link_banded t.first_out (numbered (count a - 1) 1 (half_ticks a x Outbound)) t.first_in (numbered (count a - 1) 1 (half_ticks a x Inbound)) (base t)
