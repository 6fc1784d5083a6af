use Rattle.std.proofs.Common.{refl, subst}
use Rattle.link_proof.specs.LinkWarrants.{LinkWarrant}
use Rattle.run_commands.specs.Searched.{IsLinkTextOf}
use Rattle.run_commands.proofs.links.solve_links.Goals as goal

pub returns-clause-finds : goal.returns-clause-finds
returns-clause-finds c =
    let text : IsLinkTextOf c.in_ok-text.text.items c.in_ok-searched.searched.certificate = record { written = c.in_ok-text.ensures.text; read_back = c.in_ok-text.ensures.read_back } in (
      c.in_ok-text.text.items,
      refl,
      record {
        found = c.in_ok-searched.searched.found;
        searched = c.in_ok-searched.ensures.searched;
        cause_is = c.cause_of.ensures.value;
        lines_are = c.in_ok-lines.ensures;
        certificate_is = subst (λ (w : LinkWarrant). IsLinkTextOf c.in_ok-text.text.items w) c.in_ok-searched.ensures.certificate text;
      },
    )
