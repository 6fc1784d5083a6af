use Rattle.std.proofs.Common.{◌↔◌, IsTrue, false, true≢false, sym, subst}
use Rattle.linear_theory.specs.Names.{HasRow}
use Rattle.loop_rows.proofs.rows.has_row.Goals as goal

pub returns-in-Some : goal.returns-in-Some
returns-in-Some c = subst (λ n. IsTrue c.has_by.result ↔ HasRow c.args.artery.now n) (sym (c.in-Some.ensures.1 c.args.index)) c.has_by.ensures

pub returns-in-None : goal.returns-in-None
returns-in-None c = subst (λ n. IsTrue false ↔ HasRow c.args.artery.now n) (sym (c.in-None.ensures c.args.index)) (λ e. true≢false (sym e), λ h. absurd h)
