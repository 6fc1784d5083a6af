use Rattle.std.proofs.Common.{sym, ltb-true, ltb-false}
use Rattle.plan_text.proofs.NamedRows.{get_some, get_none}
use Rattle.plan_text.proofs.row.row_at.Goals as goal

pub returns-in-Some : goal.returns-in-Some
returns-in-Some c = sym (get_some c.args.rows.now c.args.index c.in-Some.row.now _ (ltb-true _ _ (sym c.in-Some.ensures.lookup.0)) c.in-Some.ensures.lookup.1)

pub returns-in-None : goal.returns-in-None
returns-in-None c = sym (get_none c.args.rows.now c.args.index (ltb-false _ _ (sym c.in-None.ensures.lookup.0)))
