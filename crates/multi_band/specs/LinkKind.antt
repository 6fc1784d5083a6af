-- The timings of an artery with a band for each link, as a kind of timing that is sought.
use Rattle.progression.specs.Street.{Street}
use Rattle.link_theory.specs.BestLinks.{links_of}
use Rattle.link_proof.specs.LinkAccepted.{IsLinkAccepted}
use Rattle.link_proof.specs.LinkFamilies.{links}
use Rattle.box_search.specs.Enough.{sets_in}
use Rattle.box_search.specs.Kinds.{Kind}
use Rattle.multi_band.specs.LinkProgram.{link_program}
use Rattle.multi_band.specs.LinkRelaxed.{IsLinkLeaf}
use Rattle.multi_band.specs.LinkRules.{link_rules}
use Rattle.multi_band.specs.LinkSites.{IsLinkSiteOf}

abbrev pub link_bands : (a : Street) → Kind (link_rules a)
link_bands a = record {
  objective = links_of a;
  names = links;
  IsSite = IsLinkSiteOf a;
  sets = sets_in (link_program a);
  IsProof = IsLinkLeaf a;
  IsAccepted = IsLinkAccepted a;
}
