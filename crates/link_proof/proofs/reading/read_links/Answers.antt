use Rattle.std.proofs.Common.{subst, ap, ◌∙◌}
use Rattle.plan_text.specs.Lines.{Gives}
use Rattle.link_proof.specs.LinkWarrants.{links_of}
use Rattle.link_proof.proofs.LinkTexts.{is_found, links_again}
use Rattle.link_proof.proofs.reading.read_links.Goals as goal

pub returns-clause-found : goal.returns-clause-found
returns-clause-found c = is_found c.args.bytes.now c.links_of.result c.links_of.ensures

pub returns-clause-only : goal.returns-clause-only
returns-clause-only c = λ w held e. subst (λ read. Gives (λ c. c) c.links_of.result read) (ap links_of e ∙ links_again w held) c.links_of.ensures
