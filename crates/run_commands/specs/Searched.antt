-- The cause and the certificate's text of what `solve`, `links` and `trial` find by a search, whose certificate is accepted.
use Rattle.std.specs.Prelude.{◌≡◌, ℕ, List, Result, Ok}
use Rattle.certificate_model.specs.Warrants.{Warrant}
use Rattle.plan_text.specs.SecondText.{second_text}
use Rattle.plan_text.specs.CertificateReading.{certificate_of}
use Rattle.plan_text.specs.declared.fault.BadText.{BadText}
use Rattle.link_proof.specs.LinkWarrants.{LinkWarrant, links_text, links_of}
use Rattle.branch_and_bound.specs.declared.found.Verdict.{Verdict}
use Rattle.branch_and_bound.specs.declared.found.Verdict.TheVariants.{Best, NoTiming, Stopped}
use Rattle.box_search.specs.declared.site.SitePart.{SitePart}
use Rattle.run_inputs.specs.declared.cause.Cause.{Cause}
use Rattle.run_inputs.specs.declared.cause.Cause.TheVariants as cause

abbrev pub cause_of : Verdict SitePart → Cause
cause_of Best = cause.Done
cause_of NoTiming = cause.NoTiming
cause_of (Stopped stop) = cause.Stopped stop

-- the bytes are the one text of this certificate, and they are read as just this
pub record IsTextBy {W : Type 0} (writes : W → List ℕ) (reads : List ℕ → Result W BadText) (text : List ℕ) (certificate : W) : Type 0 where
  pub written : text ≡ writes certificate
  pub read_back : reads text ≡ Ok certificate

-- in the second format
abbrev pub IsTextOf : List ℕ → Warrant → Type 0
IsTextOf = IsTextBy second_text certificate_of

-- of link timings
abbrev pub IsLinkTextOf : List ℕ → LinkWarrant → Type 0
IsLinkTextOf = IsTextBy links_text links_of
