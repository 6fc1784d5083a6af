-- The street that a sample stands for, and what most samples have.
use Rattle.std.specs.Prelude.{ℕ, List, [], ◌∷◌, None, ℤ, pos, true, false}
use Rattle.rational_theory.specs.Rational.{whole}
use Rattle.progression.specs.declared.parts.Pair.{Pair}
use Rattle.progression.specs.declared.parts.Head.{Head}
use Rattle.progression.specs.declared.parts.Signal.{Signal}
use Rattle.progression.specs.declared.parts.Link.{Link}
use Rattle.progression.specs.declared.parts.Units.TheVariants.{Metric}
use Rattle.test_bed.specs.declared.sample.SampleHead.{SampleHead}
use Rattle.test_bed.specs.declared.sample.SampleSignal.{SampleSignal}
use Rattle.test_bed.specs.declared.sample.SampleLink.{SampleLink}

abbrev pub head_of : SampleHead → Head
head_of s = record {
  name = None;
  units = s.units;
  version = s.version;
  parts = s.parts;
  cycle = s.cycle;
  ratio = s.ratio;
  least_out = s.least_out;
  least_in = s.least_in;
  equal = s.equal;
}

abbrev pub signal_of : SampleSignal → Signal
signal_of s = record {
  name = s.name.now;
  red = s.red;
  left_out = s.left_out;
  left_in = s.left_in;
  patterns = s.patterns;
  clear_out = s.clear_out;
  clear_in = s.clear_in;
}

abbrev pub whole_range : ℤ → ℤ → Pair
whole_range least most = record { least = whole least; most = whole most }

abbrev pub link_of : SampleLink → Link
link_of s = record {
  distance_out = s.distance_out;
  distance_in = s.distance_in;
  speed_out = s.speed_out;
  speed_in = s.speed_in;
  change_out = s.change_out;
  change_in = s.change_in;
}

-- metric, in version 1, 100 parts in 100 seconds, and both bands count alike
abbrev pub plain_head : Head
plain_head = record {
  name = None;
  units = Metric;
  version = 1;
  parts = 100;
  cycle = whole_range (pos 100) (pos 100);
  ratio = whole (pos 1);
  least_out = whole (pos 0);
  least_in = whole (pos 0);
  equal = false;
}

-- red for so many parts, without left turns or queues, and pattern 1 alone
abbrev pub plain_signal : List ℕ → ℕ → Signal
plain_signal name red = record { name = name; red = red; left_out = 0; left_in = 0; patterns = true ∷ false ∷ false ∷ false ∷ []; clear_out = 0; clear_in = 0 }

-- so far both ways, at 36 kilometres an hour
abbrev pub plain_link : ℕ → Link
plain_link distance = record {
  distance_out = distance;
  distance_in = distance;
  speed_out = whole_range (pos 36) (pos 36);
  speed_in = whole_range (pos 36) (pos 36);
  change_out = None;
  change_in = None;
}
