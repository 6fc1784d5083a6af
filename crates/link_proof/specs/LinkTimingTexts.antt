-- How a certificate spells a link timing: the lines of its base, one that says where its lines cross, and one of halves a direction.
use Rattle.std.specs.Prelude.{ℕ, ◌+◌, ◌-◌, List, [], ◌∷◌, ◌++◌, length, codes, pos, Result, Ok}
use Rattle.plan_text.specs.declared.fault.BadText.{BadText}
use Rattle.plan_text.specs.Spelling.{spelled, first_key, base_lines, firsts_line, IsHeldBase, IsHeldFirst}
use Rattle.plan_text.specs.Lines.{◌>>=◌}
use Rattle.plan_text.specs.Reading.{both_ways_at, pair_at, base_at}
use Rattle.plan_text.specs.TimingTexts.{TimingText}
use Rattle.link_theory.specs.LinkRecord.{LinkRecord, link_base, link_banded}
use Rattle.link_space.specs.LinkTiming.{AreHalves}

abbrev pub half_out_key : List ℕ
half_out_key = codes "half_out"

abbrev pub half_in_key : List ℕ
half_in_key = codes "half_in"

-- the nine lines of its numbers
abbrev pub link_lines : LinkRecord → List (List ℕ)
link_lines t = base_lines (link_base t) ++ firsts_line t.first_out t.first_in ∷ spelled half_out_key t.half_out ∷ spelled half_in_key t.half_in ∷ []

-- as they are read, the first of which has this number
unfoldable pub link_timing_at : ℕ → List ℕ → Result (LinkRecord × List ℕ) BadText
link_timing_at line bytes = do
  base ← base_at line bytes
  first ← pair_at first_key (line + 6) base.1
  halves ← both_ways_at half_out_key half_in_key (line + 7) (length base.0.patterns - 1) first.2
  Ok (link_banded (pos first.0) halves.0 (pos first.1) halves.1 base.0, halves.2)

-- a link timing that the program can hold
pub record IsHeldLinks (t : LinkRecord) : Type 0 where
  pub base : IsHeldBase (link_base t)
  pub first_out : IsHeldFirst t.first_out
  pub first_in : IsHeldFirst t.first_in
  pub half_out : AreHalves t.patterns t.half_out
  pub half_in : AreHalves t.patterns t.half_in

-- timings with a band for each link
abbrev pub link_bands : TimingText LinkRecord
link_bands = record { lines = link_lines; height = 9; read = link_timing_at; IsHeld = IsHeldLinks }
