-- The artery that the values of a description make, with what holds where a key is absent.
use Rattle.std.specs.Prelude.{ℕ, List, [], ◌∷◌, map, Bool, true, Option, None, Some, option_map, ℤ, pos, negsuc, nat_lt, codes, if◌then◌else◌}
use Rattle.std.specs.List.{list_any}
use Rattle.std.specs.Ordering.{int_eq}
use Rattle.toml.specs.Data.{Data, get}
use Rattle.artery_model.specs.Bounds.{first_version}
use Rattle.progression.specs.Street.{Street, no_pair}
use Rattle.progression.specs.declared.parts.Head.{Head}
use Rattle.progression.specs.declared.parts.Signal.{Signal}
use Rattle.progression.specs.declared.parts.Link.{Link}
use Rattle.progression.specs.declared.parts.Pair.{Pair}
use Rattle.progression.specs.declared.parts.Units.{Units}
use Rattle.progression.specs.declared.parts.Units.TheVariants.{Metric, English}
use Rattle.artery_model.specs.Faults.{Fault, first_fault}
use Rattle.artery_model.specs.Limits.{artery_fault, is_text}
use Rattle.description_reader.specs.Quantity.{number_in, integer_in}
use Rattle.description_reader.specs.Values.{at_key, items_in, text_in, flag_in}
use Rattle.description_reader.specs.Judgement.{value_tests}
use Rattle.description_reader.specs.declared.judge.Form.TheVariants.{Description}

-- a number of 32 bits, 0 for any other, which is a fault of the description
abbrev pub u32_or_zero : ℤ → ℕ
u32_or_zero (pos n) = if nat_lt n 4294967296 then n else 0
u32_or_zero (negsuc n) = 0

abbrev pub u32_at : Data → List ℕ → ℕ
u32_at d name = u32_or_zero (integer_in (at_key d name))

-- two limits, 0 and 0 where there aren't two, which is a fault of the description
abbrev pub pair_of : List Data → Pair
pair_of (least ∷ most ∷ []) = record { least = number_in least; most = number_in most }
pair_of _ = no_pair

abbrev pub pair_at : Data → List ℕ → Pair
pair_at d name = pair_of (items_in (at_key d name))

-- one of the numbers at a key is this one
abbrev pub has_number : List Data → ℕ → Bool
has_number ds p = list_any (λ d. int_eq (integer_in d) (pos p)) ds

-- the left turn patterns 1 to 4 that are named, all four where the key is absent
abbrev pub patterns_of : Option Data → List Bool
patterns_of None = true ∷ true ∷ true ∷ true ∷ []
patterns_of (Some d) = map (has_number (items_in d)) (1 ∷ 2 ∷ 3 ∷ 4 ∷ [])

-- the limits of a change of pace, where they are given
abbrev pub change_at : Data → List ℕ → Option Pair
change_at d name = option_map (λ v. pair_of (items_in v)) (get name d)

abbrev pub signal_in : Data → Signal
signal_in d = record {
  name = text_in (at_key d (codes "name"));
  red = u32_at d (codes "red");
  left_out = u32_at d (codes "left_out");
  left_in = u32_at d (codes "left_in");
  patterns = patterns_of (get (codes "patterns") d);
  clear_out = u32_at d (codes "clear_out");
  clear_in = u32_at d (codes "clear_in");
}

abbrev pub link_in : Data → Link
link_in d = record {
  distance_out = u32_at d (codes "distance_out");
  distance_in = u32_at d (codes "distance_in");
  speed_out = pair_at d (codes "speed_out");
  speed_in = pair_at d (codes "speed_in");
  change_out = change_at d (codes "change_out");
  change_in = change_at d (codes "change_in");
}

-- any other text than the two is a fault of the description
abbrev pub units_of : List ℕ → Units
units_of text = if is_text text (codes "english") then English else Metric

-- the version of a description, the first where the key is absent
abbrev pub version_of : Option Data → ℕ
version_of None = first_version
version_of (Some d) = u32_or_zero (integer_in d)

abbrev pub head_in : ℕ → Data → Head
head_in version d = record {
  name = option_map text_in (get (codes "name") d);
  units = units_of (text_in (at_key d (codes "units")));
  version = version;
  parts = u32_at d (codes "parts");
  cycle = pair_at d (codes "cycle");
  ratio = number_in (at_key d (codes "ratio"));
  least_out = number_in (at_key d (codes "least_out"));
  least_in = number_in (at_key d (codes "least_in"));
  equal = flag_in (at_key d (codes "equal"));
}

abbrev pub street_in : Data → Street
street_in root = record {
  head = head_in (version_of (get (codes "version") root)) (at_key root (codes "artery"));
  signals = map signal_in (items_in (at_key root (codes "signal")));
  links = map link_in (items_in (at_key root (codes "link")));
}

-- the first fault of a description: of its values, and then of the artery that they make
abbrev pub description_fault : Data → Option Fault
description_fault root = first_fault (first_fault (value_tests Description root) ∷ artery_fault (street_in root) ∷ [])
