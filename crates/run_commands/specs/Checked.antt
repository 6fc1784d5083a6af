-- How the certificates of a kind of timing are checked.
use Rattle.std.specs.Prelude.{ℕ, List}
use Rattle.progression.specs.Street.{Street}
use Rattle.certificate_model.specs.Families.{Table, ordinary}
use Rattle.certificate_checker.specs.Accepted.{IsAccepted}
use Rattle.certificate_checker.specs.Refusals as whole
use Rattle.certificate_checker.specs.declared.reject.Reject.TheVariants as reject
use Rattle.link_proof.specs.LinkAccepted.{IsLinkAccepted}
use Rattle.link_proof.specs.LinkFamilies.{links}
use Rattle.link_proof.specs.LinkRefusals as link
use Rattle.run_inputs.specs.Reading.{Value}
use Rattle.run_commands.specs.Sought.{Sought, whole_bands, bands_of_links}
use Rattle.run_commands.specs.CheckLines.{rejected_line, link_rejected_line}
use Rattle.run_inputs.specs.declared.cause.Cause.{Cause}
use Rattle.run_inputs.specs.declared.cause.Cause.TheVariants as cause

pub record Checked (k : Sought) : Type 1 where
  pub Accepted : Street → Value k.reader → Type 0
  pub Reject : Type 0  -- why a certificate is refused
  pub First : Street → Value k.reader → Reject → Type 0
  pub wanting : Reject  -- memory was wanting, which says nothing of the certificate
  pub cause : Reject → Cause
  pub line : ℕ → Reject → List ℕ  -- on an artery with so many signals
  pub table : Table  -- by which its rows have names

abbrev pub whole_checked : Checked whole_bands
whole_checked = record {
  Accepted = IsAccepted;
  Reject = whole.Reject;
  First = whole.IsFirstRefusal;
  wanting = reject.Memory;
  cause = cause.Rejected;
  line = rejected_line;
  table = ordinary;
}

abbrev pub links_checked : Checked bands_of_links
links_checked = record {
  Accepted = IsLinkAccepted;
  Reject = link.LinkReject;
  First = link.IsFirstLinkRefusal;
  wanting = reject.Memory;
  cause = cause.LinkRejected;
  line = link_rejected_line;
  table = links;
}
