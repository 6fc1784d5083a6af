-- What the rows say, from what a search answers and what its accepted certificate proves.
use Rattle.std.proofs.Common.{◌≡◌, ℕ, ◌+◌, List, [], ◌∷◌, ◌++◌, Option, Some, None, refl, sym, ◌∙◌, ap, subst}
use Rattle.rational_theory.specs.Rational.{ℚ}
use Rattle.progression.specs.Street.{Street}
use Rattle.progression.specs.TimingRecord.{TimingRecord}
use Rattle.progression.specs.declared.parts.Signal.{Signal}
use Rattle.progression.specs.declared.parts.Link.{Link}
use Rattle.progression.specs.Best.{weighted_band}
use Rattle.branch_tree.specs.Certified.{value_of}
use Rattle.branch_tree.specs.Told.{Found}
use Rattle.cycle_sweep.specs.Table.{verdict_text, cause_text, bound_of}
use Rattle.cycle_sweep.specs.Says.{SaysFound}
use Rattle.cycle_sweep.proofs.Saying.{says_found}
use Rattle.street_changes.specs.declared.limits.Change.{Change}
use Rattle.street_changes.specs.declared.limits.Change.TheVariants.{AsItIs, OfSignal, OfLink, OfStreet}
use Rattle.street_changes.specs.declared.limits.StreetLimit.{StreetLimit}
use Rattle.street_changes.specs.declared.limits.StreetLimit.TheVariants.{LeastCycle, MostCycle, LeastOut, LeastIn}
use Rattle.street_changes.specs.Changed.{changed, each_by}
use Rattle.limit_sensitivity.specs.declared.row.RowOutcome.{RowOutcome}
use Rattle.limit_sensitivity.specs.declared.row.SensitivityRow.{SensitivityRow}
use Rattle.limit_sensitivity.specs.Rows.{IsEnd, IsOutcome, IsRow}
use Rattle.limit_sensitivity.specs.Says.{telling, SaysEnd, RowsSay, UnchangedIsTheStreet}
use Rattle.limit_sensitivity.specs.Table.{change_fields, outcome_fields, row_fields}

-- no change touches the ratio
ratio_stays : (a : Street) (c : Change) → (changed a c).head.ratio ≡ a.head.ratio
ratio_stays a AsItIs = refl
ratio_stays a (OfSignal i limit) = refl
ratio_stays a (OfLink i limit) = refl
ratio_stays a (OfStreet LeastCycle) = refl
ratio_stays a (OfStreet MostCycle) = refl
ratio_stays a (OfStreet LeastOut) = refl
ratio_stays a (OfStreet LeastIn) = refl

parts_stay : (a : Street) (c : Change) → (changed a c).head.parts ≡ a.head.parts
parts_stay a AsItIs = refl
parts_stay a (OfSignal i limit) = refl
parts_stay a (OfLink i limit) = refl
parts_stay a (OfStreet LeastCycle) = refl
parts_stay a (OfStreet MostCycle) = refl
parts_stay a (OfStreet LeastOut) = refl
parts_stay a (OfStreet LeastIn) = refl

-- so a timing has the weighted band that it has in the street as it is
band_stays : (a : Street) (c : Change) (t : TimingRecord) → weighted_band (changed a c) t ≡ weighted_band a t
band_stays a c t = rw (ratio_stays a c, parts_stay a c) refl

value_stays : (a : Street) (c : Change) (timing : Option TimingRecord) → value_of (changed a c) timing ≡ value_of a timing
value_stays a c None = refl
value_stays a c (Some t) = ap Some (band_stays a c t)

outcome_says : (a : Street) (limit : Option ℕ) (base : Option ℚ) (c : Change) (o : RowOutcome) → IsOutcome (changed a c) limit o
    → (spent : ℕ) × SaysFound (changed a c) limit (telling a base c) spent o.verdict (change_fields a c ++ outcome_fields a base (Some o))
outcome_says a limit base c o h =
    let f = h.found in
    let s = changed a c in
    let said = says_found s limit (telling a base c) f.nodes.items f.timing f.bound f.spent f.verdict h.searched.search h.searched.proves h.searched.accepted in
    (f.spent, rw (h.verdict_is, h.timing_is, h.bound_is, sym (value_stays a c f.timing)) said)

end_says : (a : Street) (limit : Option ℕ) (base : Option ℚ) (c : Change) (end : Option RowOutcome) → IsEnd (changed a c) limit end
    → SaysEnd a limit base c end (change_fields a c ++ outcome_fields a base end)
end_says a limit base c None h = (h, refl)
end_says a limit base c (Some o) h = let said = outcome_says a limit base c o h.1 in (h.0, said.0, said.1)

pub rows_say : RowsSay
rows_say a limit base c row h =
    subst (λ (d : Change). SaysEnd a limit base c row.outcome (change_fields a d ++ outcome_fields a base row.outcome)) (sym h.change_is) (end_says a limit base c row.outcome h.end_is)

-- nothing changes where nothing is let out
each_stays : {X : Type 0} (i : ℕ) (xs : List X) → each_by (λ n x. x) i xs ≡ xs
each_stays i [] = refl
each_stays i (x ∷ xs) = ap (λ ys. x ∷ ys) (each_stays (i + 1) xs)

same_street : (a : Street) (signals : List Signal) (links : List Link) → signals ≡ a.signals → links ≡ a.links
    → (let s : Street = record { head = a.head; signals = signals; links = links } in s) ≡ a
same_street a signals links p q = rw (p, q) refl

pub unchanged : UnchangedIsTheStreet
unchanged a = same_street a _ _ (each_stays 1 a.signals) (each_stays 1 a.links)
