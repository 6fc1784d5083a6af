use Rattle.std.proofs.Common.{◌+◌, ◌-◌, sym, arith}
use Rattle.std.proofs.lemmas.Bool.{lt-ltb}
use Rattle.progression.specs.Street.{count}
use Rattle.street_words.specs.Warnings.{most_ticks, ticks_for}
use Rattle.street_words.proofs.Multiples.{next_link, ticks_above, too_many}
use Rattle.street_words.proofs.fractions.has_long_fractions.Goals as goal

pub returns-in-None : goal.returns-in-None
returns-in-None c =
    let a = c.args.artery.now in
    sym (lt-ltb most_ticks (ticks_for a (count a - 1))
    (too_many a c.loop-link.link (count a - 1) c.loop-link.ticks most_ticks c.loop-link.invariant.0 (omega arith) c.loop-link.invariant.1 c.in-None.ensures))

pub loop-link-preserved : goal.loop-link-preserved
loop-link-preserved c =
    let a = c.args.artery.now in
    let is = next_link a c.loop-link.link c.loop-link.ticks c.in-Some.more c.loop-link.invariant.0 c.loop-link.invariant.1 c.in-Some.ensures.1 in
    let one = ticks_above a (c.loop-link.link + 1 - 1) in
    (omega arith, is, omega (arith, is, one), omega (arith, c.in-Some.ensures.0, c.in-Some.ensures.1))
