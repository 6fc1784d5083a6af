use Rattle.std.proofs.Common.{length, Option, None}
use Rattle.whole_offsets.specs.Moves.{moves_of, moves}
use Rattle.whole_offsets.specs.Tried.{IsMade, IsMadeWith}
use Rattle.whole_offsets.specs.declared.moves.Reach.TheVariants.{One, On}
use Rattle.whole_offsets.specs.declared.plan.Tried.{Tried}
use Rattle.whole_offsets.proofs.Moving.{then, from_none, ok_map}
use Rattle.whole_offsets.proofs.search.best_move.Goals as goal

pub returns : goal.returns
returns c =
    let a = c.args.artery.now in let t = c.args.base.now in let x = c.args.there.now in let k = x.rounded.seconds in let n = length x.rounded.offsets.items in
    ok_map (λ (o : Option Tried). IsMadeWith a t x (moves_of On k n) c.in_ok-alone.alone o) (λ (o : Option Tried). IsMade a t x (moves k n) o) c.try_steps-2.result
    (λ o h. from_none a t x (moves k n) o (then a t x (moves_of One k n) (moves_of On k n) None c.in_ok-alone.alone o c.in_ok-alone.ensures h)) c.try_steps-2.ensures
