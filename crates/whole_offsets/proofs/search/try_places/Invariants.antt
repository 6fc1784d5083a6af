use Rattle.std.proofs.Common.{length}
use Rattle.whole_offsets.specs.Tried.{IsMadeWith}
use Rattle.whole_offsets.proofs.Moving.{before}
use Rattle.whole_offsets.proofs.search.try_places.Given as goal

abbrev pub invariant-loop-start : goal.invariant-loop-start
invariant-loop-start l = IsMadeWith l.artery l.base l.there (before l.reach l.step (length l.there.rounded.offsets.items) l.start) l.fn.best l.next
