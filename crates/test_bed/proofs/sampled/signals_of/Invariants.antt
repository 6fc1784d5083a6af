use Rattle.std.proofs.Common.{◌≡◌, map, take}
use Rattle.test_bed.specs.Samples.{signal_of}
use Rattle.test_bed.proofs.sampled.signals_of.Given as goal

abbrev pub invariant-loop-sample : goal.invariant-loop-sample
invariant-loop-sample l = l.signals.items ≡ map signal_of (take l.sample-index l.samples)
