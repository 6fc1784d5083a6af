-- What `renew` finds of a certificate, what it writes, and what it puts.
use Rattle.std.specs.Prelude.{◌≡◌, ℕ, List, codes}
use Rattle.certificate_model.specs.Warrants.{Warrant}
use Rattle.run_commands.specs.Searched.{IsTextOf}
use Rattle.run_inputs.specs.declared.cause.Cause.{Cause}
use Rattle.run_inputs.specs.declared.cause.Cause.TheVariants as cause

abbrev pub renewed_line : List ℕ
renewed_line = codes "renewed\n"

-- the text of the very certificate that was read
pub record IsRenewal (w : Warrant) (c : Cause) (lines text : List ℕ) : Type 0 where
  pub cause_is : c ≡ cause.Done
  pub lines_are : lines ≡ renewed_line
  pub text_is : IsTextOf text w
