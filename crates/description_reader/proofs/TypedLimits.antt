-- The numbers of a plan without a fault are within their limits.
use Rattle.std.proofs.Common.{◌≡◌, ◌≤◌, ℕ, ◌+◌, ℤ, pos, negsuc, List, [], ◌∷◌, map, Bool, true, false, not, Option, None, Some, is_some, ◌&&◌, sym, ◌∙◌, ap, subst, arith}
use Rattle.std.specs.Prelude.{codes, unwrap_or, option_map, nat_le, int_le, if◌then◌else◌}
use Rattle.std.specs.List.{All}
use Rattle.std.proofs.lemmas.Bool.{true≢false}
use Rattle.std.proofs.lemmas.Bool.Decides.{nat_tests}
use Rattle.std.proofs.lemmas.List.Elements.{All-nil, All-cons}
use Rattle.std.proofs.lemmas.Int.{ints}
use Rattle.rational_theory.specs.Rational.{whole}
use Rattle.rational_theory.proofs.Compare.{le_true}
use Rattle.artery_model.specs.Limits.{at_most}
use Rattle.toml.specs.Data.{Data, array, no_items, get, as_table}
use Rattle.artery_model.specs.Bounds.{least_cycle, most_cycle, least_speed, most_speed}
use Rattle.artery_model.specs.Faults.{Fault, first_fault, unless, each_numbered}
use Rattle.artery_model.specs.Valid.{IsQuantity}
use Rattle.artery_model.specs.declared.kind.Kind.{Kind}
use Rattle.artery_model.specs.declared.kind.Kind.TheVariants.{WrongType, OutOfRange}
use Rattle.artery_model.proofs.Validity.{each_none, passes_of, quantity_of}
use Rattle.description_reader.specs.Quantity.{number_in, integer_in}
use Rattle.description_reader.specs.Values.{at_key, items_in}
use Rattle.description_reader.specs.Checks.{meets, value_fault, item_fault, items_fault, demands_fault}
use Rattle.description_reader.specs.Judgement.{in_table, key_fault, stage_tests, facts_of, value_tests}
use Rattle.description_reader.specs.KeyTable.{alone, items, most_travel, keys_of}
use Rattle.description_reader.specs.Streets.{u32_or_zero}
use Rattle.description_reader.specs.Typed.{IsWritten, IsMeasured, measure_of, numbers_at, patterns_at, plan_in, typed_in, IsTyped, plan_fault}
use Rattle.description_reader.specs.declared.demand.Demand.TheVariants.{Anything, Table, Between, Within, Written}
use Rattle.description_reader.specs.declared.judge.Form.TheVariants as form
use Rattle.description_reader.specs.declared.judge.Stage.TheVariants.{Needed, Types, Ranges}
use Rattle.description_reader.specs.declared.place.TableFacts.{TableFacts}
use Rattle.description_reader.specs.declared.place.Section.{Section}
use Rattle.description_reader.specs.declared.place.Section.TheVariants.{Plan, PlanRoot}
use Rattle.description_reader.proofs.CanonicalValues.{u32_back}
use Rattle.description_reader.proofs.CanonicalTests.{none_of, both_of}
use Rattle.description_reader.proofs.Written.{number_short}

-- ---- one value
there : (o : Option Data) (k : Kind) (place : List ℕ) → unless (is_some o) k place ≡ None → is_some o ≡ true
there o k place e = passes_of (is_some o) k place e

table_there : (parts : ℤ) (o : Option Data) → is_some o ≡ true → unwrap_or (option_map (meets parts Table) o) true ≡ true → is_some (as_table (unwrap_or o (array no_items))) ≡ true
table_there parts None h e = absurd (true≢false (sym h))
table_there parts (Some d) h e = e

number_there : (parts low high : ℤ) (o : Option Data) → is_some o ≡ true → unwrap_or (option_map (meets parts (Within low high)) o) true ≡ true
    → IsQuantity low high (number_in (unwrap_or o (array no_items)))
number_there parts low high None h e = absurd (true≢false (sym h))
number_there parts low high (Some d) h e = quantity_of low high (number_in d) e

-- between the two numbers, and as fine as it can be written
written_of : (low high : ℤ) (d : Data) → (at_most (whole low) (number_in d) && at_most (number_in d) (whole high)) ≡ true → IsWritten low high (number_in d)
unfolding whole
written_of low high d e =
    let both = both_of (at_most (whole low) (number_in d)) (at_most (number_in d) (whole high)) e in
    record {
      den = number_short d;
      least = omega (arith, ints, (le_true (whole low) (number_in d) (sym both.0)).cross);
      most = omega (arith, ints, (le_true (number_in d) (whole high) (sym both.1)).cross);
    }

-- ---- each item of an array
module _ (parts : ℤ) (section : Section) (name : List ℕ) where
  all_within : (low high : ℤ) (i : ℕ) (ds : List Data) → first_fault (each_numbered (item_fault OutOfRange parts section (Within low high) name) i ds) ≡ None
      → All (IsQuantity low high) (map number_in ds)
  all_within low high i [] e = All-nil _
  all_within low high i (d ∷ ds) e =
      let both = each_none (item_fault OutOfRange parts section (Within low high) name i d ∷ each_numbered (item_fault OutOfRange parts section (Within low high) name) (i + 1) ds) e in
      All-cons (IsQuantity low high) (number_in d) (map number_in ds) (quantity_of low high (number_in d) (passes_of _ _ _ both.0)) (all_within low high (i + 1) ds (none_of _ both.1))

  all_written : (low high : ℤ) (i : ℕ) (ds : List Data) → first_fault (each_numbered (item_fault OutOfRange parts section (Written low high) name) i ds) ≡ None
      → All (IsWritten low high) (map number_in ds)
  all_written low high i [] e = All-nil _
  all_written low high i (d ∷ ds) e =
      let both = each_none (item_fault OutOfRange parts section (Written low high) name i d ∷ each_numbered (item_fault OutOfRange parts section (Written low high) name) (i + 1) ds) e in
      All-cons (IsWritten low high) (number_in d) (map number_in ds) (written_of low high d (passes_of _ _ _ both.0)) (all_written low high (i + 1) ds (none_of _ both.1))

-- ---- where a file has a key
where_true : (b : Bool) (f : Option Fault) → b ≡ true → (if b then f else None) ≡ None → f ≡ None
where_true true f h e = e
where_true false f h e = absurd (true≢false (sym h))

-- ---- patterns
le_of : (n m : ℕ) → nat_le n m ≡ true → n ≤ m
le_of n m e = grind (arith, nat_tests)

from_one : (n : ℕ) → 1 ≤ n → n ≤ 4 → (1 ≤ u32_or_zero (pos n)) × (u32_or_zero (pos n) ≤ 4)
from_one n h k = let P : ℕ → Type 0 = λ m. (1 ≤ m) × (m ≤ 4) in subst P (sym (u32_back n (omega arith))) (h, k)

between : (z : ℤ) → (int_le (pos 1) z && int_le z (pos 4)) ≡ true → (1 ≤ u32_or_zero z) × (u32_or_zero z ≤ 4)
between (pos n) e = let both = both_of (nat_le 1 n) (nat_le n 4) e in from_one n (le_of 1 n both.0) (le_of n 4 both.1)
between (negsuc n) e = absurd (true≢false (sym e))

module _ (parts : ℤ) (section : Section) (name : List ℕ) where
  all_between : (i : ℕ) (ds : List Data) → first_fault (each_numbered (item_fault OutOfRange parts section (Between (pos 1) (pos 4)) name) i ds) ≡ None
      → All (λ n. (1 ≤ n) × (n ≤ 4)) (map (λ v. u32_or_zero (integer_in v)) ds)
  all_between i [] e = All-nil _
  all_between i (d ∷ ds) e =
      let both = each_none (item_fault OutOfRange parts section (Between (pos 1) (pos 4)) name i d ∷ each_numbered (item_fault OutOfRange parts section (Between (pos 1) (pos 4)) name) (i + 1) ds) e in
      All-cons (λ n. (1 ≤ n) × (n ≤ 4)) (u32_or_zero (integer_in d)) (map (λ v. u32_or_zero (integer_in v)) ds) (between (integer_in d) (passes_of _ _ _ both.0))
      (all_between (i + 1) ds (none_of _ both.1))

-- ---- the keys of a plan
module _ (parts : ℤ) (section : Section) (d : Data) where
  numbers_within : (name : List ℕ) (low high : ℤ) → demands_fault OutOfRange parts section (items (Within low high)) name d ≡ None → All (IsQuantity low high) (numbers_at d name)
  unfolding value_fault items_fault
  numbers_within name low high e =
      let tests = each_none (value_fault OutOfRange parts section Anything name d ∷ items_fault OutOfRange parts section (Within low high) name d ∷ []) e in
      all_within parts section name low high 1 (items_in (at_key d name)) tests.1.0

  numbers_written : (name : List ℕ) (low high : ℤ) → demands_fault OutOfRange parts section (items (Written low high)) name d ≡ None → All (IsWritten low high) (numbers_at d name)
  unfolding value_fault items_fault
  numbers_written name low high e =
      let tests = each_none (value_fault OutOfRange parts section Anything name d ∷ items_fault OutOfRange parts section (Written low high) name d ∷ []) e in
      all_written parts section name low high 1 (items_in (at_key d name)) tests.1.0

  patterns_within : (name : List ℕ) → demands_fault OutOfRange parts section (items (Between (pos 1) (pos 4))) name d ≡ None → All (λ n. (1 ≤ n) × (n ≤ 4)) (patterns_at d name)
  unfolding value_fault items_fault
  patterns_within name e =
      let tests = each_none (value_fault OutOfRange parts section Anything name d ∷ items_fault OutOfRange parts section (Between (pos 1) (pos 4)) name d ∷ []) e in
      all_between parts section name 1 (items_in (at_key d name)) tests.1.0

  cycle_within : (name : List ℕ) (low high : ℤ) → is_some (get name d) ≡ true → demands_fault OutOfRange parts section (alone (Within low high)) name d ≡ None
      → IsQuantity low high (number_in (at_key d name))
  unfolding value_fault items_fault
  cycle_within name low high h e =
      let tests = each_none (value_fault OutOfRange parts section (Within low high) name d ∷ items_fault OutOfRange parts section Anything name d ∷ []) e in
      number_there parts low high (get name d) h (passes_of _ _ _ tests.0)

  -- speeds where no times of travel are given, and these where they are
  measured_within : (timed : Bool) (speed travel : List ℕ)
      → (if not timed then demands_fault OutOfRange parts section (items (Written least_speed most_speed)) speed d else None) ≡ None
      → (if timed then demands_fault OutOfRange parts section (items (Within (pos 0) most_travel)) travel d else None) ≡ None
      → All (IsMeasured (measure_of timed)) (numbers_at d (if timed then travel else speed))
  measured_within false speed travel e f = numbers_written speed least_speed most_speed e
  measured_within true speed travel e f = numbers_within travel (pos 0) most_travel f

plan_within : (facts : TableFacts) (d : Data) → in_table Needed facts Plan d ≡ None → in_table Ranges facts Plan d ≡ None → is_some (as_table d) ≡ true
    → IsTyped (plan_in facts.timed_out facts.timed_in d)
unfolding keys_of
plan_within facts d needed ranges h =
    let needs = each_none (map (key_fault Needed facts Plan d) (keys_of Plan)) (where_true _ _ h needed) in
    let tests = each_none (map (key_fault Ranges facts Plan d) (keys_of Plan)) (where_true _ _ h ranges) in
    record {
      cycle = cycle_within facts.parts Plan d (codes "cycle") least_cycle most_cycle (there _ _ _ needs.0) tests.0;
      offsets = numbers_within facts.parts Plan d (codes "offset") (pos 0) most_cycle tests.1.0;
      patterns = patterns_within facts.parts Plan d (codes "patterns") tests.1.1.1.0;
      out = measured_within facts.parts Plan d facts.timed_out (codes "speed_out") (codes "travel_out") tests.1.1.1.1.0 tests.1.1.1.1.1.0;
      back = measured_within facts.parts Plan d facts.timed_in (codes "speed_in") (codes "travel_in") tests.1.1.1.1.1.1.0 tests.1.1.1.1.1.1.1.0;
    }

-- the root has a table `plan`
plan_there : (facts : TableFacts) (root : Data) → in_table Needed facts PlanRoot root ≡ None → in_table Types facts PlanRoot root ≡ None → is_some (as_table root) ≡ true
    → (is_some (get (codes "plan") root) ≡ true) × (is_some (as_table (at_key root (codes "plan"))) ≡ true)
unfolding keys_of value_fault items_fault
plan_there facts root needed typed h =
    let needs = each_none (map (key_fault Needed facts PlanRoot root) (keys_of PlanRoot)) (where_true _ _ h needed) in
    let tests = each_none (map (key_fault Types facts PlanRoot root) (keys_of PlanRoot)) (where_true _ _ h typed) in
    let named = there (get (codes "plan") root) _ _ needs.1.0 in
    let types = each_none (value_fault WrongType facts.parts PlanRoot Table (codes "plan") root ∷ items_fault WrongType facts.parts PlanRoot Anything (codes "plan") root ∷ []) tests.1.0 in
    (named, table_there facts.parts (get (codes "plan") root) named (passes_of _ _ _ types.0))

pub limits : (root : Data) → is_some (as_table root) ≡ true → plan_fault root ≡ None → IsTyped (typed_in root)
limits root h e =
    let facts = facts_of root in
    let stages = each_none (value_tests form.Plan root) e in
    let needed = each_none (stage_tests form.Plan Needed facts root) stages.1.0 in
    let types = each_none (stage_tests form.Plan Types facts root) stages.1.1.0 in
    let ranges = each_none (stage_tests form.Plan Ranges facts root) stages.1.1.1.1.0 in
    plan_within facts (at_key root (codes "plan")) needed.1.0 ranges.1.0 (plan_there facts root needed.0 types.0 h).1

pub stands : (root : Data) → is_some (as_table root) ≡ true → plan_fault root ≡ None → is_some (get (codes "plan") root) ≡ true
stands root h e =
    let facts = facts_of root in
    let stages = each_none (value_tests form.Plan root) e in
    let needed = each_none (stage_tests form.Plan Needed facts root) stages.1.0 in
    let types = each_none (stage_tests form.Plan Types facts root) stages.1.1.0 in
    (plan_there facts root needed.0 types.0 h).0

-- with the facts and the table as they are read
pub limits_at : (root d : Data) (facts : TableFacts) → is_some (as_table root) ≡ true → plan_fault root ≡ None → facts ≡ facts_of root → Some d ≡ get (codes "plan") root
    → IsTyped (plan_in facts.timed_out facts.timed_in d)
limits_at root d facts h e f g =
    let AtTable : Data → Type 0 = λ x. IsTyped (plan_in facts.timed_out facts.timed_in x) in
    let AtFacts : TableFacts → Type 0 = λ x. IsTyped (plan_in x.timed_out x.timed_in (at_key root (codes "plan"))) in
    let here : d ≡ at_key root (codes "plan") = ap (λ o. unwrap_or o (array no_items)) g in
    subst AtTable (sym here) (subst AtFacts (sym f) (limits root h e))

pub none_absurd : (root : Data) → is_some (as_table root) ≡ true → plan_fault root ≡ None → None ≡ get (codes "plan") root → ⊥
none_absurd root h e g = true≢false (sym (stands root h e) ∙ ap is_some (sym g))
