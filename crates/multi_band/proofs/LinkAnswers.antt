-- The link timings of an artery are a kind that can be sought.
use Rattle.std.proofs.Common.{[], ◌∷◌, inl, inr, Option, Some, None}
use Rattle.rational_theory.specs.Rational.{ℚ}
use Rattle.progression.specs.Street.{Street}
use Rattle.artery_model.specs.Valid.{IsValid}
use Rattle.linear_theory.specs.Boxes.{Area, root_box}
use Rattle.named_row.specs.declared.leaves.Leaf.{Leaf}
use Rattle.certificate_model.specs.declared.certificate.Claim.{Claim}
use Rattle.certificate_model.specs.declared.certificate.Claim.TheVariants.{Best, NoTiming, Stopped}
use Rattle.certificate_checker.specs.Accepted.{value_of, limit_of, IsTimedBy, IsBoundAbove}
use Rattle.link_theory.specs.GoodLinks.{GoodLinks}
use Rattle.link_theory.specs.BestLinks.{link_value}
use Rattle.certificate_checker.specs.TreeProofs.{ProveAll}
use Rattle.link_theory.specs.LinkRecord.{LinkRecord}
use Rattle.link_proof.specs.LinkAccepted.{IsLinkAccepted}
use Rattle.link_proof.specs.LinkWarrants.{LinkWarrant}
use Rattle.branch_and_bound.specs.Answer.{IsProof}
use Rattle.box_search.specs.Kinds.{CanBeSought}
use Rattle.box_search.proofs.Units.{program_short}
use Rattle.multi_band.specs.LinkKind.{link_bands}
use Rattle.multi_band.specs.LinkProgram.{link_program}
use Rattle.multi_band.specs.LinkRelaxed.{IsLinkLeaf}
use Rattle.multi_band.specs.LinkRules.{link_meaning, link_rules}
use Rattle.multi_band.specs.laws.LinkLines.{link_searchable}
use Rattle.multi_band.proofs.LinkKeptLeaves.{link_leaf_kept, link_start_kept}
use Rattle.multi_band.proofs.LinkSitesNamed.{link_site_of}

-- a leaf of the search is a proof
leaf_proof : (a : Street) (claim : Option ℚ) (box : Area) (leaf : Leaf) → IsProof (link_rules a) claim box leaf → IsLinkLeaf a claim box leaf.multipliers.items
leaf_proof a None box leaf h = h
leaf_proof a (Some value) box leaf (inl h) = record { there = h.there; fits = h.fits; keeps = inr h.keeps }
leaf_proof a (Some value) box leaf (inr h) = h

accepted_by : (a : Street) (c : LinkWarrant) → IsTimedBy (GoodLinks a) (link_value a) c.timing (value_of c.claim) → IsBoundAbove c.claim → ProveAll (IsLinkLeaf a (limit_of c.claim))
    (root_box a ∷ []) c.nodes
    → IsLinkAccepted a c
accepted_by a c timing bound tree = record { timing = timing; bound = bound; tree = tree }

pub links_can_be_sought : (a : Street) → IsValid a → CanBeSought (link_bands a)
links_can_be_sought a v = record {
  good = λ t value g. g;
  ends_kept = link_leaf_kept a v;
  start_kept = link_start_kept a v;
  sited = link_site_of a;
  short = program_short (link_program a) (link_meaning a) (λ line l. (link_searchable a line l).valid);
  proved = leaf_proof a;
  accepted = accepted_by a;
}
