-- The laws of the text of a link certificate.
use Rattle.std.proofs.Common.{◌≡◌, ℕ, List, ◌++◌, Result, Ok, Err, refl, sym, ap, ◌∙◌}
use Rattle.std.specs.Prelude.{IfOk}
use Rattle.plan_text.specs.declared.fault.TextEnd.{TextEnd}
use Rattle.plan_text.specs.Lines.{Gives}
use Rattle.plan_text.specs.FirstBad.{NamesFirstBad}
use Rattle.plan_text.proofs.FamilyNames.{Tells, tells_by}
use Rattle.plan_text.proofs.Certificates.{headed_takes, headed_again}
use Rattle.plan_text.proofs.FirstBads.{never, headed_first}
use Rattle.link_proof.specs.LinkTimingTexts.{link_bands}
use Rattle.link_proof.specs.LinkFamilies.{links}
use Rattle.link_proof.specs.LinkWarrants.{LinkWarrant, links_line, links_text, links_of}
use Rattle.link_proof.specs.Promises.{OneLinksText, LinksReadBack}
use Rattle.link_proof.specs.FirstBad.{FirstBadOfLinks}
use Rattle.link_proof.proofs.GrownLinkTimings.{link_laws}

links_tell : Tells links
unfolding links
links_tell = tells_by links refl

pub links_again : LinksReadBack
links_again c h = headed_again link_bands link_laws links links_tell links_line refl c h

pub one_links_text : OneLinksText
one_links_text x c = (
  (λ e. let taken = headed_takes link_bands link_laws links links_line x c e in (taken.1, taken.0)),
  (λ p. ap links_of p.1 ∙ links_again c p.0),
)

links_first : NamesFirstBad links_of
links_first = headed_first link_bands link_laws links links_line

pub first_bad_of_links : FirstBadOfLinks
first_bad_of_links = record {
  named = links_first;
  no_certificate = λ start rest other b c e early held text. never c b (links_of (start ++ other)) (ap links_of (sym text) ∙ links_again c held) (links_first.here start rest other b e early);
}

pub is_found : (bytes : List ℕ) (r : Result LinkWarrant TextEnd) → Gives (λ c. c) r (links_of bytes) → IfOk r (λ c. bytes ≡ links_text c)
is_found bytes (Ok c) given = (headed_takes link_bands link_laws links links_line bytes c given).0
is_found bytes (Err e) given = tt
