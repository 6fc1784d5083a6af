-- The first refusal of a link certificate.
use Rattle.progression.specs.Street.{Street}
use Rattle.certificate_checker.specs.Checked.{IsFirstRefusalOf}
use Rattle.certificate_checker.specs.declared.reject.Reject.{Reject}
use Rattle.link_space.specs.declared.failing.LinkFailing.{LinkFailing}
use Rattle.link_proof.specs.LinkWarrants.{LinkWarrant}
use Rattle.link_proof.specs.LinkAccepted.{of_links}

-- why one is refused
abbrev pub LinkReject : Type 0
LinkReject = Reject LinkFailing

-- the link timing breaks a rule and r names the first; or it is good, and r is the first of all others
abbrev pub IsFirstLinkRefusal : Street → LinkWarrant → LinkReject → Type 0
IsFirstLinkRefusal a = IsFirstRefusalOf (of_links a)
