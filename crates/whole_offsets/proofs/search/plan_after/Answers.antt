use Rattle.std.proofs.Common.{subst, sym}
use Rattle.whole_offsets.specs.Offsets.{AreWithin}
use Rattle.whole_offsets.proofs.Moving.{after_of}
use Rattle.whole_offsets.proofs.Nearest.{moved_within}
use Rattle.whole_offsets.proofs.search.plan_after.Goals as goal

pub returns : goal.returns
returns c =
    after_of c.args.artery.now c.args.base.now c.args.there.now c.args.given c.in_ok-rounded.rounded c.try_offsets.result c.in_ok-rounded.ensures.seconds c.in_ok-rounded.ensures.moved
    c.try_offsets.ensures.plan c.try_offsets.ensures.offsets

pub try_offsets-requires-clause-within : goal.try_offsets-requires-clause-within
try_offsets-requires-clause-within c =
    let k = c.args.there.now.rounded.seconds in
    subst (λ j. AreWithin c.args.artery.now j c.in_ok-rounded.rounded.offsets.items) (sym c.in_ok-rounded.ensures.seconds)
    (moved_within c.args.artery.now k c.args.there.now.rounded.offsets.items c.args.given c.in_ok-rounded.rounded.offsets.items c.known_valid.ensures c.requires.there.within
    c.requires.not_first c.in_ok-rounded.ensures.moved c.in_ok-rounded.ensures.below)
