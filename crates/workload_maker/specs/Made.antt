-- The artery of a number of signals and a seed. Its numbers are draws of the seed: three for each signal in order, then one for each link in order.
use Rattle.std.specs.Prelude.{ℕ, ◌+◌, ◌-◌, ◌*◌, [], ◌∷◌, ◌++◌, map, true, false, None, codes}
use Rattle.std.specs.Fmt.{decimal}
use Rattle.std.specs.List.{range_with_len}
use Rattle.progression.specs.Street.{Street}
use Rattle.progression.specs.Speeds.{number}
use Rattle.progression.specs.declared.parts.Head.{Head}
use Rattle.progression.specs.declared.parts.Signal.{Signal}
use Rattle.progression.specs.declared.parts.Link.{Link}
use Rattle.progression.specs.declared.parts.Pair.{Pair}
use Rattle.progression.specs.declared.parts.Units.TheVariants.{Metric}
use Rattle.workload_maker.specs.Draws.{draw}

abbrev pub limits : ℕ → ℕ → Pair
limits least most = record { least = number least; most = number most }

-- version 1, a cycle of 60 to 100 seconds in 100 parts, and both directions count alike
abbrev pub made_head : Head
made_head = record {
  name = None;
  units = Metric;
  version = 1;
  parts = 100;
  cycle = limits 60 100;
  ratio = number 1;
  least_out = number 0;
  least_in = number 0;
  equal = false;
}

-- signal i with this red and these left turns
abbrev pub signal_with : ℕ → ℕ → ℕ → ℕ → Signal
signal_with i red left_out left_in = record {
  name = codes "S" ++ decimal i;
  red = red;
  left_out = left_out;
  left_in = left_in;
  patterns = true ∷ true ∷ true ∷ true ∷ [];
  clear_out = 0;
  clear_in = 0;
}

-- a link of this length
abbrev pub link_with : ℕ → Link
link_with distance = record {
  distance_out = distance;
  distance_in = distance;
  speed_out = limits 40 60;
  speed_in = limits 40 60;
  change_out = None;
  change_in = None;
}

-- a red, a left turn and a length by draw k
abbrev pub red_drawn : ℕ → ℕ → ℕ
red_drawn seed k = 30 + draw seed k 21

abbrev pub left_drawn : ℕ → ℕ → ℕ
left_drawn seed k = 5 * draw seed k 3

abbrev pub distance_drawn : ℕ → ℕ → ℕ
distance_drawn seed k = 200 + 10 * draw seed k 41

-- signal i, counted from 1: its red, its outbound and its inbound left turn by draws 3i - 2, 3i - 1 and 3i
abbrev pub made_signal : ℕ → ℕ → Signal
made_signal seed i = signal_with i (red_drawn seed (3 * i - 2)) (left_drawn seed (3 * i - 1)) (left_drawn seed (3 * i))

-- link j of n signals, counted from 1: its length by draw 3n + j
abbrev pub made_link : ℕ → ℕ → ℕ → Link
made_link seed n j = link_with (distance_drawn seed (3 * n + j))

abbrev pub made_street : ℕ → ℕ → Street
made_street n seed = record {
  head = made_head;
  signals = map (made_signal seed) (range_with_len 1 n);
  links = map (made_link seed n) (range_with_len 1 (n - 1));
}
