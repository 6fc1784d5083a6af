-- The one text of a timing: ten lines, each ended by a line feed, of words that one space parts.
use Rattle.std.specs.Prelude.{◌≡◌, ℕ, ◌<◌, ◌^◌, List, [], ◌∷◌, ◌++◌, map, ℤ, pos, unsigned_abs}
use Rattle.std.specs.Fmt.{decimal}
use Rattle.progression.specs.BaseRecord.{BaseRecord}
use Rattle.progression.specs.TimingRecord.{TimingRecord, base}
use Rattle.time_space.specs.Timing.{AreOfBase}

-- a word, and each of the numbers after one space
abbrev pub spelled : List ℕ → List ℕ → List ℕ
spelled word [] = word
spelled word (n ∷ ns) = word ++ 32 ∷ spelled (decimal n) ns

-- lines, each ended by a line feed
abbrev pub ended : List (List ℕ) → List ℕ
ended [] = []
ended (line ∷ lines) = line ++ 10 ∷ ended lines

-- the words that lines begin with, in ASCII
abbrev pub head_line : List ℕ  -- maxband-timing 1
head_line = 109 ∷ 97 ∷ 120 ∷ 98 ∷ 97 ∷ 110 ∷ 100 ∷ 45 ∷ 116 ∷ 105 ∷ 109 ∷ 105 ∷ 110 ∷ 103 ∷ 32 ∷ 49 ∷ []

abbrev pub grid_key : List ℕ  -- grid
grid_key = 103 ∷ 114 ∷ 105 ∷ 100 ∷ []

abbrev pub unit_key : List ℕ  -- unit
unit_key = 117 ∷ 110 ∷ 105 ∷ 116 ∷ []

abbrev pub pattern_key : List ℕ  -- pattern
pattern_key = 112 ∷ 97 ∷ 116 ∷ 116 ∷ 101 ∷ 114 ∷ 110 ∷ []

abbrev pub red_key : List ℕ  -- red
red_key = 114 ∷ 101 ∷ 100 ∷ []

abbrev pub run_out_key : List ℕ  -- run_out
run_out_key = 114 ∷ 117 ∷ 110 ∷ 95 ∷ 111 ∷ 117 ∷ 116 ∷ []

abbrev pub run_in_key : List ℕ  -- run_in
run_in_key = 114 ∷ 117 ∷ 110 ∷ 95 ∷ 105 ∷ 110 ∷ []

abbrev pub first_key : List ℕ  -- first
first_key = 102 ∷ 105 ∷ 114 ∷ 115 ∷ 116 ∷ []

abbrev pub band_key : List ℕ  -- band
band_key = 98 ∷ 97 ∷ 110 ∷ 100 ∷ []

abbrev pub end_line : List ℕ  -- end
end_line = 101 ∷ 110 ∷ 100 ∷ []

-- the six lines of a base
abbrev pub base_lines : BaseRecord → List (List ℕ)
base_lines b =
    spelled grid_key (b.grid ∷ [])
    ∷ spelled unit_key (b.unit ∷ [])
    ∷ spelled pattern_key b.patterns
    ∷ spelled red_key (map unsigned_abs b.reds)
    ∷ spelled run_out_key b.run_out
    ∷ spelled run_in_key b.run_in
    ∷ []

-- the line that says where the first line of each direction crosses
abbrev pub firsts_line : ℤ → ℤ → List ℕ
firsts_line first_out first_in = spelled first_key (unsigned_abs first_out ∷ unsigned_abs first_in ∷ [])

-- the eight lines of its numbers
abbrev pub number_lines : TimingRecord → List (List ℕ)
number_lines t = base_lines (base t) ++ firsts_line t.first_out t.first_in ∷ spelled band_key (t.band_out ∷ t.band_in ∷ []) ∷ []

-- the ten lines
abbrev pub timing_lines : TimingRecord → List (List ℕ)
timing_lines t = head_line ∷ number_lines t ++ end_line ∷ []

abbrev pub timing_text : TimingRecord → List ℕ
timing_text t = ended (timing_lines t)

-- a base that the program can hold: its numbers are in their ranges, and its reds from 0 on
pub record IsHeldBase (b : BaseRecord) : Type 0 where
  pub ranges : AreOfBase b.grid b.unit b.patterns (map unsigned_abs b.reds) b.run_out b.run_in
  pub reds : b.reds ≡ map pos (map unsigned_abs b.reds)

-- a tick that the program can hold as the first line's
pub record IsHeldFirst (first : ℤ) : Type 0 where
  pub most : unsigned_abs first < 2 ^ 80
  pub least : first ≡ pos (unsigned_abs first)

-- a timing that the program can hold
pub record IsHeld (t : TimingRecord) : Type 0 where
  pub base : IsHeldBase (base t)
  pub first_out : IsHeldFirst t.first_out
  pub first_in : IsHeldFirst t.first_in
  pub band_out : t.band_out < 2 ^ 80
  pub band_in : t.band_in < 2 ^ 80
