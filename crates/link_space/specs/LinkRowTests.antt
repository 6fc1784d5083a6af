-- Whether an artery has a row of links, as a test.
use Rattle.std.specs.Prelude.{Bool, true, false, not, ◌&&◌}
use Rattle.std.specs.Ordering.{eq_by_cmp}
use Rattle.rational_theory.specs.Compare.{cmp_ℚ}
use Rattle.progression.specs.Street.{Street}
use Rattle.progression.specs.Speeds.{number}
use Rattle.linear_theory.specs.Names.{Name, WaitRow, FastRow, SlowRow, RiseRow, DropRow, CycleLowRow, CycleHighRow, RatioRow, LoopLowRow, LoopHighRow, TurnLowRow, TurnHighRow, LeastRow, EqualLowRow, EqualHighRow, NoRow}
use Rattle.loop_rows.specs.RowTests.{has_link, has_row}
use Rattle.link_theory.specs.LinkNames.{LinkName, OfLines, NearRow, FarRow, LinkRatioRow}

-- a row of the lines names no band
abbrev pub names_no_band : Name → Bool
names_no_band (WaitRow d i) = false
names_no_band (FastRow d i) = true
names_no_band (SlowRow d i) = true
names_no_band (RiseRow d i) = true
names_no_band (DropRow d i) = true
names_no_band (CycleLowRow i) = true
names_no_band (CycleHighRow i) = true
names_no_band (RatioRow i) = false
names_no_band (LoopLowRow i) = true
names_no_band (LoopHighRow i) = true
names_no_band (TurnLowRow i) = true
names_no_band (TurnHighRow i) = true
names_no_band (LeastRow d i) = false
names_no_band (EqualLowRow i) = false
names_no_band (EqualHighRow i) = false
names_no_band NoRow = false

unfoldable pub has_link_row : Street → LinkName → Bool
has_link_row a (OfLines n) = names_no_band n && has_row a n
has_link_row a (NearRow d e i) = has_link a i
has_link_row a (FarRow d e i) = has_link a i
has_link_row a (LinkRatioRow i) = has_link a i && not (eq_by_cmp cmp_ℚ a.head.ratio (number 1))
