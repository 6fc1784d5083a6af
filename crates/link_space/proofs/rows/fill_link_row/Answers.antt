use Rattle.std.proofs.Common.{◌≡◌, ◌↔◌, IsTrue, true, sym, subst}
use Rattle.link_theory.specs.LinkNames.{HasLinkRow}
use Rattle.link_space.specs.LinkSheets.{link_sheet}
use Rattle.link_space.proofs.rows.fill_link_row.Goals as goal

pub returns-in-Some-clause-there : goal.returns-in-Some-clause-there
returns-in-Some-clause-there c =
    subst (λ n. IsTrue c.fill_by.result ↔ HasLinkRow c.args.artery.now n) (sym (c.in-Some.ensures.1 c.args.row.index)) c.fill_by.ensures.there

pub returns-in-Some-clause-row : goal.returns-in-Some-clause-row
returns-in-Some-clause-row c =
    subst (λ n. c.fill_by.result ≡ true → c.fill_by.new.into ≡ link_sheet c.args.artery.now c.args.area.now n) (sym (c.in-Some.ensures.1 c.args.row.index)) c.fill_by.ensures.row

pub returns-in-None-clause-there : goal.returns-in-None-clause-there
returns-in-None-clause-there c =
    subst (λ n. IsTrue c.fill_line.result ↔ HasLinkRow c.args.artery.now n) (sym (c.in-None.ensures c.args.row.index)) c.fill_line.ensures.there

pub fill_by-requires-clause-family : goal.fill_by-requires-clause-family
fill_by-requires-clause-family c = c.in-Some.ensures.0

pub returns-in-None-clause-row : goal.returns-in-None-clause-row
returns-in-None-clause-row c =
    subst (λ n. c.fill_line.result ≡ true → c.fill_line.new.into ≡ link_sheet c.args.artery.now c.args.area.now n) (sym (c.in-None.ensures c.args.row.index)) c.fill_line.ensures.row
