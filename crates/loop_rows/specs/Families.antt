-- The families of an artery's rows by the names of the code: their numbers and their rows.
use Rattle.std.specs.Prelude.{ℕ}
use Rattle.linear_theory.specs.Names as names
use Rattle.linear_theory.specs.Names.{Name}
use Rattle.loop_rows.specs.Directions.{by_dir}
use Rattle.loop_rows.specs.declared.families.ArteryFamily.{ArteryFamily}
use Rattle.loop_rows.specs.declared.families.ArteryFamily.TheVariants.{WaitRow, FastRow, SlowRow, RiseRow, DropRow, CycleLowRow, CycleHighRow, RatioRow, LoopLowRow, LoopHighRow, TurnLowRow, TurnHighRow, LeastRow, EqualLowRow, EqualHighRow}

-- the row of an index
abbrev pub row_in : ArteryFamily → ℕ → Name
row_in (WaitRow d) i = names.WaitRow d i
row_in (FastRow d) i = names.FastRow d i
row_in (SlowRow d) i = names.SlowRow d i
row_in (RiseRow d) i = names.RiseRow d i
row_in (DropRow d) i = names.DropRow d i
row_in CycleLowRow i = names.CycleLowRow i
row_in CycleHighRow i = names.CycleHighRow i
row_in RatioRow i = names.RatioRow i
row_in LoopLowRow i = names.LoopLowRow i
row_in LoopHighRow i = names.LoopHighRow i
row_in TurnLowRow i = names.TurnLowRow i
row_in TurnHighRow i = names.TurnHighRow i
row_in (LeastRow d) i = names.LeastRow d i
row_in EqualLowRow i = names.EqualLowRow i
row_in EqualHighRow i = names.EqualHighRow i

-- the number, which for those of a direction is the outbound one's or the next
abbrev pub number_of : ArteryFamily → ℕ
number_of (WaitRow d) = by_dir d 1 2
number_of (FastRow d) = by_dir d 3 4
number_of (SlowRow d) = by_dir d 5 6
number_of (RiseRow d) = by_dir d 7 8
number_of (DropRow d) = by_dir d 9 10
number_of CycleLowRow = 11
number_of CycleHighRow = 12
number_of RatioRow = 13
number_of LoopLowRow = 14
number_of LoopHighRow = 15
number_of TurnLowRow = 16
number_of TurnHighRow = 17
number_of (LeastRow d) = by_dir d 18 19
number_of EqualLowRow = 20
number_of EqualHighRow = 21
