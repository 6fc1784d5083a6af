use Rattle.box_search.proofs.Opens.{ok_map}
use Rattle.box_search.proofs.opening.open.Goals as goal

pub ended-requires-clause-run : goal.ended-requires-clause-run
ended-requires-clause-run g c =
    let (line, e, o) = c.requires.first in
    (line, c.args.meter.now, c.make_steps-run.new.meter, e, c.make_steps-run.ensures.run line o)

pub returns-clause-opens : goal.returns-clause-opens
returns-clause-opens g c =
    ok_map c.ended.result _ _ (λ answer h line e o. h line c.args.meter.now c.make_steps-run.new.meter e (c.make_steps-run.ensures.run line o)) c.ended.ensures
