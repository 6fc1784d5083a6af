-- Lemmas on the definitions of `EntryRefusals`.
use Rattle.std.proofs.Common.{◌≡◌, ℕ, ltb, None, List, ◌<◌, ◌≤◌}
use Rattle.std.proofs.lemmas.Bool.{cond-true, cond-false, lt-ltb, le-ltb}
use Rattle.simplex_theory.specs.Tableau.{Tableau, width}
use Rattle.entry_theory.specs.Entry.{entry_row}
use Rattle.fraction_tableau.specs.Refusals.{pivot_refusal}
use Rattle.program_builder.specs.EntryRefusals.{variable_refusal}

pub refusal_column : (vs : List ℕ) (t : Tableau) (v : ℕ) → v < width t → variable_refusal vs t v ≡ pivot_refusal (entry_row vs t v) v t.rows t.goal
unfolding variable_refusal
refusal_column vs t v h = cond-true (ltb v (width t)) _ _ (lt-ltb v (width t) h)

pub refusal_slack : (vs : List ℕ) (t : Tableau) (v : ℕ) → width t ≤ v → variable_refusal vs t v ≡ None
unfolding variable_refusal
refusal_slack vs t v h = cond-false (ltb v (width t)) _ _ (le-ltb v (width t) h)
