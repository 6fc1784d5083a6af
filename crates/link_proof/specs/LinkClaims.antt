-- What a link certificate claims of the artery, of every link timing on any grid.
use Rattle.std.specs.Prelude.{Option}
use Rattle.progression.specs.Street.{Street}
use Rattle.certificate_model.specs.declared.certificate.Claim.{Claim}
use Rattle.certificate_checker.specs.Claims.{ClaimHoldsBy}
use Rattle.link_theory.specs.LinkRecord.{LinkRecord}
use Rattle.link_theory.specs.BestLinks.{links_of}

abbrev pub LinkClaimHolds : Street → Claim → Option LinkRecord → Type 0
LinkClaimHolds a = ClaimHoldsBy (links_of a)
