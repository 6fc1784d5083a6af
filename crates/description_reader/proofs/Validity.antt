-- A described artery has no fault of its own.
use Rattle.std.proofs.Common.{◌≡◌, ℕ, List, [], ◌∷◌, Option, None, Some, refl, sym, ap, ◌∙◌}
use Rattle.std.proofs.lemmas.Option.{none-some}
use Rattle.toml.specs.Data.{table}
use Rattle.progression.specs.Street.{Street}
use Rattle.artery_model.specs.Faults.{Fault, first_fault}
use Rattle.artery_model.specs.Limits.{artery_fault}
use Rattle.artery_model.specs.Valid.{IsValid}
use Rattle.description_reader.specs.Judgement.{value_tests}
use Rattle.description_reader.specs.declared.judge.Form.TheVariants.{Description}
use Rattle.description_reader.specs.Streets.{street_in}
use Rattle.description_reader.specs.Described.{Described}

second_none : (f g : Option Fault) → first_fault (f ∷ g ∷ []) ≡ None → g ≡ None
second_none None None e = refl
second_none None (Some g) e = e
second_none (Some f) g e = absurd (none-some f (sym e))

no_artery_fault : (x : List ℕ) (a : Street) → Described x a → artery_fault a ≡ None
no_artery_fault x a d =
    ap artery_fault d.is ∙ second_none (first_fault (value_tests Description (table d.root))) (artery_fault (street_in (table d.root))) d.no_fault

pub described_is_valid : ((a : Street) → artery_fault a ≡ None → IsValid a) → (x : List ℕ) (a : Street) → Described x a → IsValid a
described_is_valid valid x a d = valid a (no_artery_fault x a d)
