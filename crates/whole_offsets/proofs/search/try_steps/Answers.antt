use Rattle.std.proofs.Common.{◌-◌, ◌*◌, ◌++◌, length, Option}
use Rattle.whole_offsets.specs.Moves.{moves_by, moves_of}
use Rattle.whole_offsets.specs.Tried.{IsMadeWith}
use Rattle.whole_offsets.specs.declared.plan.Tried.{Tried}
use Rattle.whole_offsets.proofs.Moving.{then, ok_map}
use Rattle.whole_offsets.proofs.search.try_steps.Goals as goal

pub returns : goal.returns
returns c =
    let a = c.args.artery.now in let t = c.args.base.now in let x = c.args.there.now in let k = x.rounded.seconds in let n = length x.rounded.offsets.items in let r = c.args.reach in
    let one = moves_by r 1 n in let back = moves_by r (k - 1) n in let two = moves_by r 2 n in let last = moves_by r (2 * k - 2) n in
    let first = then a t x one back c.args.best c.in_ok-plus_one.plus_one c.in_ok-minus_one.minus_one c.in_ok-plus_one.ensures c.in_ok-minus_one.ensures in
    let second = then a t x (one ++ back) two c.args.best c.in_ok-minus_one.minus_one c.in_ok-plus_two.plus_two first c.in_ok-plus_two.ensures in
    ok_map (λ (o : Option Tried). IsMadeWith a t x last c.in_ok-plus_two.plus_two o) (λ (o : Option Tried). IsMadeWith a t x (moves_of r k n) c.args.best o) c.try_places-4.result
    (λ o h. then a t x (one ++ back ++ two) last c.args.best c.in_ok-plus_two.plus_two o second h) c.try_places-4.ensures
