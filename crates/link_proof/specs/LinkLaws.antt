-- How acceptance and refusals of link certificates fit together.
use Rattle.certificate_checker.specs.Laws.{AcceptedExactlyOf, RefusedIsNotAcceptedOf, OneFirstRefusalOf}
use Rattle.link_proof.specs.LinkFamilies.{links}
use Rattle.link_proof.specs.LinkAccepted.{of_links, IsLinkAccepted}

-- a link certificate is accepted exactly where nothing of it is refused
abbrev pub LinkAcceptedExactly : Type 0
LinkAcceptedExactly = AcceptedExactlyOf of_links IsLinkAccepted links

-- none is both accepted and refused, but for want of memory
abbrev pub LinkRefusedIsNotAccepted : Type 0
LinkRefusedIsNotAccepted = RefusedIsNotAcceptedOf of_links IsLinkAccepted

-- one refusal at most is the first
abbrev pub OneFirstLinkRefusal : Type 0
OneFirstLinkRefusal = OneFirstRefusalOf of_links
