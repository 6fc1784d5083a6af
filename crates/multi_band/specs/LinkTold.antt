-- What the answer of a search of links tells of its link timing, and what a certificate keeps of it.
use Rattle.std.specs.Prelude.{Option}
use Rattle.rational_theory.specs.Rational.{ℚ}
use Rattle.progression.specs.Street.{Street}
use Rattle.link_theory.specs.LinkRecord.{LinkRecord}
use Rattle.link_theory.specs.BestLinks.{link_value}
use Rattle.link_proof.specs.LinkFamilies.{links}
use Rattle.branch_and_bound.specs.declared.found.Found as engine
use Rattle.branch_and_bound.specs.declared.found.Verdict.{Verdict}
use Rattle.box_search.specs.declared.site.SitePart.{SitePart}
use Rattle.box_search.specs.Told.{TellsOf, IsCertifiableIn}

-- what a search of links finds
abbrev pub LinkFound : Type 0
LinkFound = engine.Found LinkRecord SitePart

-- what a verdict tells of the link timing and the bound
abbrev pub LinksTell : Street → Option LinkRecord → ℚ → Verdict SitePart → Type 0
LinksTell a = TellsOf (link_value a)

-- one whole tree in preorder, of splits and leaves that a link certificate keeps, and the link timing that the verdict wants
abbrev pub AreLinksCertifiable : LinkFound → Type 0
AreLinksCertifiable found = IsCertifiableIn links found
