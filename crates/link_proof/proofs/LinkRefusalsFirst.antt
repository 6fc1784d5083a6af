-- A link certificate is accepted exactly where nothing is refused, and a first refusal leaves no acceptance and no other first refusal.
use Rattle.link_space.specs.LinkFailing.{LinkFailsRulesOut}
use Rattle.link_space.specs.FirstLinkFailing.{OneFirstLink}
use Rattle.certificate_checker.proofs.Firsts.{Fits, fit}
use Rattle.link_proof.specs.LinkFamilies.{links}
use Rattle.link_proof.specs.LinkAccepted.{of_links, IsLinkAccepted}

pub links_fit : LinkFailsRulesOut → OneFirstLink → Fits of_links IsLinkAccepted links
links_fit out once = fit of_links IsLinkAccepted links (λ a c. (λ h. h, λ h. h)) (λ a t f e. out a t f e.fails) once
