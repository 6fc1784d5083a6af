use Rattle.std.proofs.Common.{sym}
use Rattle.box_search.proofs.Opens.{ok_map}
use Rattle.box_search.proofs.relaxed.RelaxedRelaxation.open_part.Goals as goal

pub open-requires-clause-first : goal.open-requires-clause-first
open-requires-clause-first g c =
    let (parent, line, place, p) = c.requires.part in
    (line, sym p.area_is, c.in_ok-begin_part.ensures.first parent line place p)

pub returns-clause-opens : goal.returns-clause-opens
returns-clause-opens g c = ok_map c.open.result _ _ (λ o h parent line place p. h line (sym p.area_is) (c.in_ok-begin_part.ensures.first parent line place p)) c.open.ensures.opens

pub returns-clause-ready : goal.returns-clause-ready
returns-clause-ready g c = record { made = c.open.ensures.made; spare = c.begin_part.ensures.spare }

pub returns-in_err-begin_part-clause-ready : goal.returns-in_err-begin_part-clause-ready
returns-in_err-begin_part-clause-ready g c = record { made = c.begin_part.ensures.made; spare = c.begin_part.ensures.spare }
