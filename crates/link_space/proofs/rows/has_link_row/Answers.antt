use Rattle.std.proofs.Common.{◌↔◌, IsTrue, sym, subst}
use Rattle.link_theory.specs.LinkNames.{HasLinkRow}
use Rattle.link_space.proofs.rows.has_link_row.Goals as goal

pub returns-in-Some : goal.returns-in-Some
returns-in-Some c = subst (λ n. IsTrue c.has_by.result ↔ HasLinkRow c.args.artery.now n) (sym (c.in-Some.ensures.1 c.args.index)) c.has_by.ensures
