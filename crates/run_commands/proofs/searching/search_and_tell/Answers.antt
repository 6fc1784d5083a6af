use Rattle.std.proofs.Common.{◌∙◌, ap, subst}
use Rattle.certificate_model.specs.Warrants.{Warrant}
use Rattle.run_commands.specs.Searched.{IsTextOf}
use Rattle.run_commands.proofs.searching.search_and_tell.Goals as goal

pub returns-clause-claim : goal.returns-clause-claim
returns-clause-claim c = ap (λ (w : Warrant). w.claim) (c.certificate.view_is ∙ c.in_ok-found.ensures.certificate)

pub returns-clause-text : goal.returns-clause-text
returns-clause-text c =
    subst (λ (w : Warrant). IsTextOf c.in_ok-text.text.items w) c.in_ok-found.ensures.certificate
    (record { written = c.in_ok-text.ensures.text; read_back = c.in_ok-text.ensures.read_back })
