-- The base of a timing: its grid, its signals and its runs, which no first line and no band is part of. Whole numbers on a time grid of its own, of any size.
use Rattle.std.specs.Prelude.{◌≡◌, ℕ, ◌+◌, ◌-◌, ◌*◌, ◌≤◌, List, length, ℤ, pos, slice_index, slice_index_or}
use Rattle.progression.specs.Street.{Street}
use Rattle.progression.specs.declared.parts.Dir.{Dir}
use Rattle.progression.specs.declared.parts.Dir.TheVariants.{Outbound, Inbound}

pub record BaseRecord : Type 0 where
  pub grid : ℕ  -- ticks in a second
  pub unit : ℕ  -- ticks in a part
  pub patterns : List ℕ  -- each signal's left turn pattern
  pub reds : List ℤ  -- the tick at which each signal's common red starts
  pub run_out : List ℕ  -- the ticks from each signal to the next
  pub run_in : List ℕ  -- the ticks of the same links inbound

-- A part has at least two ticks, so that each red has a tick inside it.
pub record IsBaseRecord (b : BaseRecord) : Type 0 where
  pub grid : 1 ≤ b.grid
  pub unit : 2 ≤ b.unit
  pub reds : length b.reds ≡ length b.patterns
  pub run_out : length b.run_out + 1 ≡ length b.patterns
  pub run_in : length b.run_in + 1 ≡ length b.patterns

-- the cycle in ticks
abbrev pub cycle : Street → BaseRecord → ℕ
cycle a b = a.head.parts * b.unit

-- The entry of a signal or link, and 0 past the end of a list: a base that keeps the rules has one for each of the artery's, so
-- none of its rules reads past an end.
abbrev pub pattern_of : BaseRecord → ℕ → ℕ
pattern_of b i = slice_index b.patterns (i - 1)

abbrev pub common_red : BaseRecord → ℕ → ℤ
common_red b i = slice_index_or b.reds (i - 1) (pos 0)

abbrev pub run : BaseRecord → Dir → ℕ → ℕ
run b Outbound i = slice_index b.run_out (i - 1)
run b Inbound i = slice_index b.run_in (i - 1)
