-- What is found on the artery that was made is the answer of `trial`.
use Rattle.std.proofs.Common.{◌≡◌, ℕ, List, Option, length, ◌∙◌, ap, subst}
use Rattle.progression.specs.Street.{Street}
use Rattle.branch_tree.specs.Told.{Found}
use Rattle.branch_tree.specs.Certified.{warrant_of}
use Rattle.workload_maker.specs.Made.{made_street}
use Rattle.branch_tree.specs.Searched.{IsSearched}
use Rattle.run_commands.specs.Searched.{cause_of, IsTextOf}
use Rattle.run_commands.specs.Trial.{trial_lines, IsTrial}
use Rattle.run_inputs.specs.declared.cause.Cause.{Cause}

pub tried : (signals seed : ℕ) (limit : Option ℕ) (a : Street) (found : Found) (c : Cause) (text lines : List ℕ)
    → a ≡ made_street signals seed → IsSearched a limit found → c ≡ cause_of found.verdict → IsTextOf text (warrant_of a found)
    → lines ≡ trial_lines signals seed (warrant_of a found).claim (length text) → IsTrial signals seed limit c lines
tried signals seed limit a found c text lines e s k t l = record {
  found = found;
  searched = subst (λ (z : Street). IsSearched z limit found) e s;
  cause_is = k;
  text = text;
  text_is = subst (λ (z : Street). IsTextOf text (warrant_of z found)) e t;
  lines_are = l ∙ ap (λ (z : Street). trial_lines signals seed (warrant_of z found).claim (length text)) e;
}
