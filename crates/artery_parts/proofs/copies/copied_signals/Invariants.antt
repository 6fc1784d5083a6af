use Rattle.std.proofs.Common.{◌≡◌, take}
use Rattle.artery_parts.proofs.copies.copied_signals.Given as goal

abbrev pub invariant-loop-signal : goal.invariant-loop-signal
invariant-loop-signal l = l.copy.items ≡ take l.signal-index l.signals
