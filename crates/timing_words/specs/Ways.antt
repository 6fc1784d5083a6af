-- The two directions in words, and which of them has a band: that of which every line crosses every signal in green.
use Rattle.std.specs.Prelude.{ℕ, ◌+◌, Bool, IsTrue, ◌↔◌, pos, ◌+ℤ◌, List, codes}
use Rattle.std.specs.List.{list_all, range_with_len}
use Rattle.progression.specs.Street.{Street, count}
use Rattle.progression.specs.TimingRecord.{TimingRecord, base, band}
use Rattle.progression.specs.BaseRecord.{cycle}
use Rattle.progression.specs.Green.{is_green, red_start, red_ticks}
use Rattle.progression.specs.Lines.{stop, crossing, IsGreenWay}
use Rattle.progression.specs.declared.parts.Dir.{Dir}
use Rattle.progression.specs.declared.parts.Dir.TheVariants.{Outbound, Inbound}

abbrev pub dir_word : Dir → List ℕ
dir_word Outbound = codes "outbound"
dir_word Inbound = codes "inbound"

-- at the j-th signal in travel order
abbrev pub is_green_stop : Street → TimingRecord → Dir → ℕ → Bool
is_green_stop a t d j = let i = stop d (count a) j in
    list_all (λ k. is_green (cycle a (base t)) (red_start a (base t) d i) (red_ticks a (base t) d i) (crossing a t d j +ℤ pos k)) (range_with_len 0 (band t d + 1))

unfoldable pub has_band : Street → TimingRecord → Dir → Bool
has_band a t d = list_all (is_green_stop a t d) (range_with_len 0 (count a))

-- so a direction has a band exactly where its rule holds
abbrev pub BandsAreGreenWays : Type 0
BandsAreGreenWays = (a : Street) (t : TimingRecord) (d : Dir) → IsTrue (has_band a t d) ↔ IsGreenWay a t d
