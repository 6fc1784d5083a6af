-- What `trial` finds and writes: a search of a made artery, told by what its accepted certificate claims.
use Rattle.std.specs.Prelude.{◌≡◌, ℕ, List, ◌++◌, length, codes, Option, Some, None}
use Rattle.std.specs.Fmt.{decimal}
use Rattle.rational_theory.specs.Rational.{ℚ}
use Rattle.quantity_text.specs.Exact.{exact_spelling}
use Rattle.certificate_model.specs.declared.certificate.Claim.{Claim}
use Rattle.certificate_model.specs.declared.certificate.Claim.TheVariants.{Best, NoTiming, Stopped}
use Rattle.branch_tree.specs.Told.{Found}
use Rattle.branch_tree.specs.Certified.{warrant_of}
use Rattle.workload_maker.specs.Made.{made_street}
use Rattle.branch_tree.specs.Searched.{IsSearched}
use Rattle.run_commands.specs.Searched.{cause_of, IsTextOf}
use Rattle.run_inputs.specs.declared.cause.Cause.{Cause}

-- ---- the lines
abbrev pub best_lines : ℚ → List ℕ
best_lines value = codes "verdict best\nweighted " ++ (exact_spelling value ++ codes "\n")

abbrev pub bound_lines : ℚ → List ℕ
bound_lines bound = codes "verdict open\nbound " ++ (exact_spelling bound ++ codes "\n")

abbrev pub between_lines : ℚ → ℚ → List ℕ
between_lines bound value = codes "verdict open\nweighted " ++ (exact_spelling value ++ (codes "\nbound " ++ (exact_spelling bound ++ codes "\n")))

abbrev pub open_lines : ℚ → Option ℚ → List ℕ
open_lines bound None = bound_lines bound
open_lines bound (Some value) = between_lines bound value

-- the verdict, the weighted band where a timing is found, and the bound where the search stopped
abbrev pub claim_lines : Claim → List ℕ
claim_lines (Best value) = best_lines value
claim_lines NoTiming = codes "verdict none\n"
claim_lines (Stopped bound value) = open_lines bound value

-- what was made, what the certificate claims, how many bytes its text has, and that it is accepted
abbrev pub trial_lines : ℕ → ℕ → Claim → ℕ → List ℕ
trial_lines signals seed claim bytes =
    codes "signals " ++ (decimal signals ++ (codes "\nseed " ++ (decimal seed ++ (codes "\n" ++ (claim_lines claim ++ (codes "certificate " ++ (decimal bytes ++ codes "\ncheck accepted\n")))))))

-- ---- the answer
-- a search of the made artery within the limit, its cause, the text of the very certificate that is accepted, and the lines
pub record IsTrial (signals seed : ℕ) (limit : Option ℕ) (c : Cause) (lines : List ℕ) : Type 0 where
  pub found : Found
  pub searched : IsSearched (made_street signals seed) limit found
  pub cause_is : c ≡ cause_of found.verdict
  pub text : List ℕ
  pub text_is : IsTextOf text (warrant_of (made_street signals seed) found)
  pub lines_are : lines ≡ trial_lines signals seed (warrant_of (made_street signals seed) found).claim (length text)
