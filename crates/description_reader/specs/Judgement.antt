-- What is wrong with the values of a description or of a plan: a list of tests, for each kind in order, and within it for each place in order.
use Rattle.std.specs.Prelude.{◌&&◌, not, Bool, ℕ, List, [], ◌∷◌, length, map, Option, None, is_some, ℤ, pos, codes, if◌then◌else◌}
use Rattle.std.specs.Ordering.{int_eq}
use Rattle.toml.specs.Data.{Data, as_table}
use Rattle.artery_model.specs.Bounds.{second_version}
use Rattle.artery_model.specs.Faults.{Fault, first_fault, each_numbered}
use Rattle.artery_model.specs.declared.kind.Kind.TheVariants.{WrongType, BadNumber, OutOfRange}
use Rattle.description_reader.specs.Values.{has, at_key, items_in}
use Rattle.description_reader.specs.Quantity.{integer_in}
use Rattle.description_reader.specs.KeyTable.{Key, keys_of, is_in}
use Rattle.description_reader.specs.Checks.{missing, numbers_of, demands_fault}
use Rattle.description_reader.specs.Keys.{unknown_key}
use Rattle.description_reader.specs.declared.place.Section.{Section}
use Rattle.description_reader.specs.declared.place.Section.TheVariants.{Root, Artery, Signal, Link, PlanRoot, Plan}
use Rattle.description_reader.specs.declared.judge.Stage.{Stage}
use Rattle.description_reader.specs.declared.judge.Stage.TheVariants.{Keys, Needed, Types, Numbers, Ranges}
use Rattle.description_reader.specs.declared.judge.Form.{Form}
use Rattle.description_reader.specs.declared.judge.Form.TheVariants as form
use Rattle.description_reader.specs.declared.place.TableFacts.{TableFacts}

-- ---- one kind in one table
-- the fault of one kind at one key
abbrev pub kind_fault : Stage → ℤ → Section → Data → Key → Option Fault
kind_fault Keys parts section d k = None
kind_fault Needed parts section d k = missing k.presence section k.name d
kind_fault Types parts section d k = demands_fault WrongType parts section k.types k.name d
kind_fault Numbers parts section d k = demands_fault BadNumber parts section (numbers_of k.types) k.name d
kind_fault Ranges parts section d k = demands_fault OutOfRange parts section k.ranges k.name d

-- where such a file has the key
abbrev pub key_fault : Stage → TableFacts → Section → Data → Key → Option Fault
key_fault stage facts section d k = if is_in facts k.when then kind_fault stage facts.parts section d k else None

abbrev pub table_fault : Stage → TableFacts → Section → Data → Option Fault
table_fault Keys facts section d = unknown_key facts section d
table_fault stage facts section d = first_fault (map (key_fault stage facts section d) (keys_of section))

-- a value that isn't a table has no keys to look at
abbrev pub in_table : Stage → TableFacts → Section → Data → Option Fault
in_table stage facts section d = if is_some (as_table d) then table_fault stage facts section d else None

-- ---- one kind over a whole file: of a description the root, the artery, the signals in order, the links in order; of a plan the root and the plan
abbrev pub stage_tests : Form → Stage → TableFacts → Data → List (Option Fault)
stage_tests form.Description stage facts root =
    in_table stage facts Root root
    ∷ in_table stage facts Artery (at_key root (codes "artery"))
    ∷ first_fault (each_numbered (λ i. in_table stage facts (Signal i)) 1 (items_in (at_key root (codes "signal"))))
    ∷ first_fault (each_numbered (λ i. in_table stage facts (Link i)) 1 (items_in (at_key root (codes "link"))))
    ∷ []
stage_tests form.Plan stage facts root = in_table stage facts PlanRoot root ∷ in_table stage facts Plan (at_key root (codes "plan")) ∷ []

-- ---- every test of the values
-- a plan gives times of travel at this key, and no speeds at that one
abbrev pub is_timed : List ℕ → List ℕ → Data → Bool
is_timed travel speed plan = has plan travel && not (has plan speed)

abbrev pub facts_of : Data → TableFacts
facts_of root = record {
  links = length (items_in (at_key root (codes "link")));
  parts = integer_in (at_key (at_key root (codes "artery")) (codes "parts"));
  second = int_eq (integer_in (at_key root (codes "version"))) (pos second_version);
  timed_out = is_timed (codes "travel_out") (codes "speed_out") (at_key root (codes "plan"));
  timed_in = is_timed (codes "travel_in") (codes "speed_in") (at_key root (codes "plan"));
}

abbrev pub value_tests : Form → Data → List (Option Fault)
value_tests form root =
    map (λ stage. first_fault (stage_tests form stage (facts_of root) root)) (Keys ∷ Needed ∷ Types ∷ Numbers ∷ Ranges ∷ [])
