use Rattle.std.proofs.Common.{◌≡◌, ◌↔◌, IsTrue, true, false, true≢false, sym, subst}
use Rattle.linear_theory.specs.Names.{HasRow, form_of}
use Rattle.loop_rows.specs.Writing.{written}
use Rattle.loop_rows.proofs.rows.fill_row.Goals as goal

pub fill_by-requires-clause-family : goal.fill_by-requires-clause-family
fill_by-requires-clause-family c = c.in-Some.ensures.0

pub returns-in-Some-clause-there : goal.returns-in-Some-clause-there
returns-in-Some-clause-there c =
    subst (λ n. IsTrue c.fill_by.result ↔ HasRow c.args.artery.now n) (sym (c.in-Some.ensures.1 c.args.row.index)) c.fill_by.ensures.there

pub returns-in-Some-clause-row : goal.returns-in-Some-clause-row
returns-in-Some-clause-row c =
    subst (λ n. c.fill_by.result ≡ true → c.fill_by.new.into ≡ written c.args.artery.now (form_of c.args.artery.now c.args.area.now n))
    (sym (c.in-Some.ensures.1 c.args.row.index)) c.fill_by.ensures.row

pub returns-in-None-clause-there : goal.returns-in-None-clause-there
returns-in-None-clause-there c = subst (λ n. IsTrue false ↔ HasRow c.args.artery.now n) (sym (c.in-None.ensures c.args.row.index)) (λ e. true≢false (sym e), λ h. absurd h)
