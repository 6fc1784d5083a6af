use Rattle.std.proofs.Common.{◌≡◌, ℕ, ◌<◌, map, take, get_or}
use Rattle.progression.specs.declared.parts.Signal.{Signal}
use Rattle.toml.specs.View.{view}
use Rattle.description_reader.specs.Canonical.{signal_data, HasFour}
use Rattle.description_reader.proofs.print.signals_value.Given as goal

abbrev pub invariant-loop-signal : goal.invariant-loop-signal
invariant-loop-signal l = record {
  made : map view l.tables.items ≡ map signal_data (take l.signal-index l.signals);
  four : (k : ℕ) (s : Signal) → k < l.signal-index → HasFour (get_or l.signals k s);
}
