use Rattle.std.proofs.Common.{◌≡◌, map, take}
use Rattle.test_bed.specs.Samples.{link_of}
use Rattle.test_bed.proofs.sampled.links_of.Given as goal

abbrev pub invariant-loop-sample : goal.invariant-loop-sample
invariant-loop-sample l = l.links.items ≡ map link_of (take l.sample-index l.samples)
