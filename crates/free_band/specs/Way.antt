-- The signals and links of one direction in travel order, and the bands on it whose runs may be chosen.
use Rattle.std.specs.Prelude.{ℕ, zero, suc, ◌+◌, ◌*◌, ◌<◌, ◌≤◌, ◌^◌, List, length, ℤ, pos, ◌+ℤ◌, ◌-ℤ◌, ◌*ℤ◌, unsigned_abs, slice_index_or}
use Rattle.progression.specs.Green.{BandIsGreen}
use Rattle.free_band.specs.declared.way.WaySignal.{WaySignal}
use Rattle.free_band.specs.declared.way.WayLink.{WayLink}

-- By the place of the signal in travel order, from 0: where one of its reds starts, and how long they are. By the place of the
-- signal before the link: the limits of the run, and the clearance at the signal after it. All in ticks.
pub record Way : Type 0 where
  pub cycle : ℕ
  pub count : ℕ
  pub start : ℕ → ℤ
  pub red : ℕ → ℕ
  pub least : ℕ → ℕ
  pub most : ℕ → ℕ
  pub clear : ℕ → ℕ

-- where the first line crosses the signal at a place
abbrev pub crossing : Way → ℤ → (ℕ → ℕ) → ℕ → ℤ
crossing w first run zero = first
crossing w first run (suc i) = crossing w first run i +ℤ (pos (run i) -ℤ pos (w.clear i))

-- With this first line and these runs every line of the band crosses the first n signals in green, and the runs keep the limits.
pub record RunsTo (w : Way) (n : ℕ) (first : ℤ) (run : ℕ → ℕ) (band : ℕ) : Type 0 where
  pub least : (i : ℕ) → i + 1 < n → w.least i ≤ run i
  pub most : (i : ℕ) → i + 1 < n → run i ≤ w.most i
  pub green : (i : ℕ) → i < n → BandIsGreen w.cycle (w.start i) (w.red i) (crossing w first run i) band

-- at all signals
abbrev pub Runs : Way → ℤ → (ℕ → ℕ) → ℕ → Type 0
Runs w first run band = RunsTo w w.count first run band

-- Nothing runs.
abbrev pub NoneRuns : Way → Type 0
NoneRuns w = (first : ℤ) (run : ℕ → ℕ) (band : ℕ) → ¬ Runs w first run band

-- The band runs, and no wider one does, with any first line and any runs.
pub record IsWidest (w : Way) (first : ℤ) (run : ℕ → ℕ) (band : ℕ) : Type 0 where
  pub runs : Runs w first run band
  pub widest : (f : ℤ) (r : ℕ → ℕ) (b : ℕ) → Runs w f r b → b ≤ band

-- ---- finer grids
-- the same on a grid that is m times as fine, where the runs may be any number of its ticks within the same limits
abbrev pub finer : ℕ → Way → Way
finer m w = record {
  cycle = w.cycle * m;
  count = w.count;
  start = λ i. w.start i *ℤ pos m;
  red = λ i. w.red i * m;
  least = λ i. w.least i * m;
  most = λ i. w.most i * m;
  clear = λ i. w.clear i * m;
}

-- Nothing runs, however fine the grid.
abbrev pub NoneRunsFiner : Way → Type 0
NoneRunsFiner w = (m : ℕ) → 1 ≤ m → NoneRuns (finer m w)

-- On a grid m times as fine no band is wider than m times this one.
abbrev pub IsWidestFiner : Way → ℕ → Type 0
IsWidestFiner w band = (m : ℕ) (f : ℤ) (r : ℕ → ℕ) (b : ℕ) → 1 ≤ m → Runs (finer m w) f r b → b ≤ m * band

-- there is a signal, reds have a tick inside and are shorter than the cycle, and limits are in order
pub record IsProper (w : Way) : Type 0 where
  pub some : 0 < w.count
  pub inside : (i : ℕ) → i < w.count → 2 ≤ w.red i
  pub shorter : (i : ℕ) → i < w.count → w.red i < w.cycle
  pub ordered : (i : ℕ) → i + 1 < w.count → w.least i ≤ w.most i

-- what a call asks: at most 24 signals, and a cycle and starts that aren't very large (runs and clearances may have any size)
pub record IsWay (w : Way) : Type 0 where
  pub proper : IsProper w
  pub few : w.count ≤ 24
  pub cycle : w.cycle < 2 ^ 98
  pub start : (i : ℕ) → i < w.count → unsigned_abs (w.start i) < 2 ^ 99

-- ---- as it stands in slices
abbrev pub signal_of : List WaySignal → ℕ → WaySignal
signal_of signals i = slice_index_or signals i (record { start = pos 0; red = 0 })

abbrev pub start_of : List WaySignal → ℕ → ℤ
start_of signals i = (signal_of signals i).start

abbrev pub red_of : List WaySignal → ℕ → ℕ
red_of signals i = (signal_of signals i).red

abbrev pub link_of : List WayLink → ℕ → WayLink
link_of links i = slice_index_or links i (record { least = 0; most = 0; clear = 0 })

abbrev pub least_of : List WayLink → ℕ → ℕ
least_of links i = (link_of links i).least

abbrev pub most_of : List WayLink → ℕ → ℕ
most_of links i = (link_of links i).most

abbrev pub clear_of : List WayLink → ℕ → ℕ
clear_of links i = (link_of links i).clear

abbrev pub way : ℕ → List WaySignal → List WayLink → Way
way cycle signals links = record {
  cycle = cycle;
  count = length signals;
  start = start_of signals;
  red = red_of signals;
  least = least_of links;
  most = most_of links;
  clear = clear_of links;
}
