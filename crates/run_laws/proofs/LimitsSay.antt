-- What the status of `sensitivity` says of the model.
use Rattle.std.proofs.Common.{ℕ, List, [], ◌∷◌, Option, subst}
use Rattle.std.specs.List.{AllZip}
use Rattle.rational_theory.specs.Rational.{ℚ}
use Rattle.outer_edge.specs.Held.{HoldsExactly}
use Rattle.outer_edge.specs.Taken.{Appends}
use Rattle.progression.specs.Street.{Street}
use Rattle.street_changes.specs.declared.limits.Change.{Change}
use Rattle.street_changes.specs.Changes.{changes}
use Rattle.limit_sensitivity.specs.declared.row.SensitivityRow.{SensitivityRow}
use Rattle.limit_sensitivity.specs.Rows.{IsRow, base_of}
use Rattle.limit_sensitivity.specs.Says.{RowsSay}
use Rattle.run_inputs.specs.declared.cause.Cause.TheVariants as cause
use Rattle.maxband_run.specs.Outside.{Outside}
use Rattle.run_laws.specs.Asked as ask
use Rattle.run_laws.specs.LimitLaws.{SaysChange, PutsLimits, SensitivitySays}
use Rattle.run_laws.proofs.Found.{Found, found_done}
use Rattle.run_laws.proofs.PutRead.{is_put}

each_change : RowsSay → (a : Street) (limit : Option ℕ) (base : Option ℚ) (list : List Change) (rows : List SensitivityRow) → AllZip (IsRow a limit) list rows
    → AllZip (SaysChange a limit base) list rows
each_change say a limit base [] [] h = tt
each_change say a limit base [] (row ∷ rows) h = absurd h
each_change say a limit base (change ∷ list) [] h = absurd h
each_change say a limit base (change ∷ list) (row ∷ rows) h = (record { found = h.0; says = say a limit base change row h.0 }, each_change say a limit base list rows h.1)

module _ (say : RowsSay) (before now : Outside) (artery table : List ℕ) (limit : Option ℕ) where
  puts_limits : Found before now (ask.sensitivity artery table limit) cause.Done → PutsLimits before now artery table limit
  puts_limits f =
      let a = f.answer.values.0 in
      let k = f.answer.finds.finds in
      let held = is_put before now table k.0 f.lines f.put f.answer.bytes f.answer.put_is k.1 f.done in
      record {
        street = a;
        rows = k.2.rows;
        description = f.answer.read.0;
        each = each_change say a limit (base_of a k.2.rows) (changes a) k.2.rows k.2.rows_are;
        put = subst (λ (x : List ℕ). HoldsExactly (now.holds table) x) k.2.table_is held.0;
        told = subst (λ (l : List ℕ). Appends before.taken now.taken l) k.2.lines_are f.done.written;
      }

pub sensitivity_says : RowsSay → SensitivitySays
sensitivity_says say before now artery table limit c h e =
    puts_limits say before now artery table limit (found_done before now (ask.sensitivity artery table limit) c e h)
