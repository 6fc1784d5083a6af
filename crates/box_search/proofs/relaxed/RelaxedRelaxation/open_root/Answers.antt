use Rattle.std.proofs.Common.{refl}
use Rattle.branch_and_bound.specs.Lines.{top_line}
use Rattle.box_search.proofs.Opens.{ok_map}
use Rattle.box_search.proofs.relaxed.RelaxedRelaxation.open_root.Goals as goal

pub open-requires-clause-first : goal.open-requires-clause-first
open-requires-clause-first g c = (top_line c.args.area.now, refl, c.begin_root.ensures.first)

pub returns-clause-opens : goal.returns-clause-opens
returns-clause-opens g c = ok_map c.open.result _ _ (λ o h. h (top_line c.args.area.now) refl c.begin_root.ensures.first) c.open.ensures.opens

pub returns-clause-ready : goal.returns-clause-ready
returns-clause-ready g c = record { made = c.open.ensures.made; spare = c.begin_root.ensures.spare }
