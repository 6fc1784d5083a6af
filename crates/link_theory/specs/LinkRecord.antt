-- A link timing: a base, and in each direction a first line and a band for each link, in place of one band for the whole artery, as in MULTIBAND (Gartner,
-- Assmann, Lasaga and Hou 1991). A link's band reaches as far to either side of the direction's one progression line.
use Rattle.std.specs.Prelude.{◌≡◌, ℕ, ◌+◌, ◌-◌, List, length, ℤ, slice_index}
use Rattle.progression.specs.BaseRecord.{BaseRecord, IsBaseRecord}
use Rattle.progression.specs.TimingRecord.{TimingRecord, banded}
use Rattle.progression.specs.declared.parts.Dir.{Dir}
use Rattle.progression.specs.declared.parts.Dir.TheVariants.{Outbound, Inbound}

pub record LinkRecord : Type 0 where
  pub grid : ℕ  -- the numbers of its base, one by one
  pub unit : ℕ
  pub patterns : List ℕ
  pub reds : List ℤ
  pub run_out : List ℕ
  pub run_in : List ℕ
  pub first_out : ℤ  -- where the outbound line crosses signal 1
  pub first_in : ℤ  -- where the inbound line crosses the last signal
  pub half_out : List ℕ  -- how many ticks each link's outbound band reaches to either side of the line
  pub half_in : List ℕ  -- the same inbound

-- what no line and no band is part of
abbrev pub link_base : LinkRecord → BaseRecord
link_base t = record { grid = t.grid; unit = t.unit; patterns = t.patterns; reds = t.reds; run_out = t.run_out; run_in = t.run_in }

-- the link timing of a base with an outbound and an inbound pair of a first line and the halves about it
abbrev pub link_banded : ℤ → List ℕ → ℤ → List ℕ → BaseRecord → LinkRecord
link_banded first_out half_out first_in half_in b = record {
  grid = b.grid;
  unit = b.unit;
  patterns = b.patterns;
  reds = b.reds;
  run_out = b.run_out;
  run_in = b.run_in;
  first_out = first_out;
  first_in = first_in;
  half_out = half_out;
  half_in = half_in;
}

-- its two lines, as a timing whose bands are lines
abbrev pub lines : LinkRecord → TimingRecord
lines t = banded t.first_out 0 t.first_in 0 (link_base t)

-- a base with a half for each link
pub record IsLinkRecord (t : LinkRecord) : Type 0 where
  pub base : IsBaseRecord (link_base t)
  pub half_out : length t.half_out + 1 ≡ length t.patterns
  pub half_in : length t.half_in + 1 ≡ length t.patterns

-- the halves of a direction, and that of link i
abbrev pub halves : LinkRecord → Dir → List ℕ
halves t Outbound = t.half_out
halves t Inbound = t.half_in

abbrev pub half : LinkRecord → Dir → ℕ → ℕ
half t d i = slice_index (halves t d) (i - 1)
