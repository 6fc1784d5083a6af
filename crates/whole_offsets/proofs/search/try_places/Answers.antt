use Rattle.std.proofs.Common.{◌≡◌, ◌-◌, ◌∙◌, ap, length, arith}
use Rattle.whole_offsets.specs.Moves.{stop_of}
use Rattle.whole_offsets.proofs.Moving.{no_more, one_place_more, to_the_end}
use Rattle.whole_offsets.proofs.search.try_places.Goals as goal

pub loop-start-init : goal.loop-start-init
loop-start-init c = no_more c.args.artery.now c.args.base.now c.args.there.now c.args.best

pub loop-start-preserved : goal.loop-start-preserved
loop-start-preserved c =
    let x = c.args.there.now in let n = length x.rounded.offsets.items in
    let many : c.len-count.result ≡ n = omega (arith, c.len-count.ensures) in
    one_place_more c.args.artery.now c.args.base.now x c.args.reach c.args.step n c.loop-start.start c.stop_of-stop.result c.args.best c.loop-start.next c.in_ok-next.next
    c.loop-start.auto.start (c.stop_of-stop.ensures ∙ ap (stop_of c.args.reach c.loop-start.start) many) c.loop-start.invariant c.in_ok-next.ensures

pub returns : goal.returns
returns c =
    let x = c.args.there.now in let n = length x.rounded.offsets.items in
    let few = c.known_valid.ensures.few in let each = c.requires.there.within.each_has in let many = c.len-count.ensures in
    let most = c.loop-start.auto.start-end in let end = c.loop-start-test.false in
    let last : c.loop-start.start - 1 ≡ n - 1 = omega (arith, few, each, many, most, end) in
    to_the_end c.args.artery.now c.args.base.now x c.args.reach c.args.step n c.loop-start.start c.args.best c.loop-start.next last c.loop-start.invariant
