-- What `check` and `check-links` find of an artery and a certificate.
use Rattle.std.specs.Prelude.{◌≡◌, ◌≢◌, ◌⊎◌, ℕ, List}
use Rattle.progression.specs.Street.{Street, count}
use Rattle.certificate_model.specs.Warrants.{Warrant}
use Rattle.link_proof.specs.LinkWarrants.{LinkWarrant}
use Rattle.run_inputs.specs.Reading.{Value}
use Rattle.run_commands.specs.Sought.{Sought, Proves, whole_bands, bands_of_links}
use Rattle.run_commands.specs.Checked.{Checked, whole_checked, links_checked}
use Rattle.run_commands.specs.CheckLines.{accepted_line}
use Rattle.run_inputs.specs.declared.cause.Cause.{Cause}
use Rattle.run_inputs.specs.declared.cause.Cause.TheVariants as cause

-- The certificate is accepted on the artery. `proves` is what that means: its timing is best among the good timings on any grid, or there is no good
-- timing, or none has a value above the bound.
pub record Accepts (k : Sought) (s : Checked k) (a : Street) (w : Value k.reader) (c : Cause) (lines : List ℕ) : Type 0 where
  pub cause_is : c ≡ cause.Done
  pub accepted : s.Accepted a w
  pub proves : Proves k a w
  pub lines_are : lines ≡ accepted_line (k.claim w)

-- the certificate is refused on the artery, and this is the first refusal, never want of memory
pub record Rejects (k : Sought) (s : Checked k) (a : Street) (w : Value k.reader) (c : Cause) (lines : List ℕ) : Type 0 where
  pub reject : s.Reject
  pub cause_is : c ≡ s.cause reject
  pub first : s.First a w reject
  pub kept : reject ≢ s.wanting
  pub lines_are : lines ≡ s.line (count a) reject

abbrev pub Checks : (k : Sought) → Checked k → Street → Value k.reader → Cause → List ℕ → Type 0
Checks k s a w c lines = Accepts k s a w c lines ⊎ Rejects k s a w c lines

abbrev pub CheckFinds : Street → Warrant → Cause → List ℕ → Type 0
CheckFinds = Checks whole_bands whole_checked

abbrev pub CheckLinksFinds : Street → LinkWarrant → Cause → List ℕ → Type 0
CheckLinksFinds = Checks bands_of_links links_checked
