-- A link certificate as contracts see it, and its text: a first line of its own, the claim with a link timing where the claim has a value, and the tree, with the
-- rows by their names.
use Rattle.std.specs.Prelude.{ℕ, List, codes, Result}
use Rattle.link_theory.specs.LinkRecord.{LinkRecord}
use Rattle.plan_text.specs.declared.fault.BadText.{BadText}
use Rattle.certificate_model.specs.Warrants.{WarrantWith, IsCertificateIn}
use Rattle.plan_text.specs.CertificateText.{IsHeldWith}
use Rattle.plan_text.specs.FirstText.{first_text}
use Rattle.plan_text.specs.CertificateReading.{headed_of}
use Rattle.link_proof.specs.LinkTimingTexts.{link_bands}
use Rattle.link_proof.specs.LinkFamilies.{links}

abbrev pub LinkWarrant : Type 0
LinkWarrant = WarrantWith LinkRecord

-- what every link certificate of the program keeps
abbrev pub IsLinkCertificate : LinkWarrant → Type 0
IsLinkCertificate c = IsCertificateIn links c

-- and a warrant that one can be
abbrev pub IsHeldLinkWarrant : LinkWarrant → Type 0
IsHeldLinkWarrant c = IsHeldWith link_bands links c

abbrev pub links_line : List ℕ
links_line = codes "maxband-links 1"

abbrev pub links_text : LinkWarrant → List ℕ
links_text c = first_text link_bands links links_line c

-- as it is read
abbrev pub links_of : List ℕ → Result LinkWarrant BadText
links_of bytes = headed_of link_bands links links_line bytes
