-- The tables of a description and of a plan, and the paths of places in them.
use Rattle.std.specs.Prelude.{ℕ, ◌++◌, List, codes}
use Rattle.std.specs.Fmt.{decimal}
use Rattle.artery_model.specs.Faults.{artery_place, signal_place, link_place}
use Rattle.description_reader.specs.declared.place.Section.{Section}
use Rattle.description_reader.specs.declared.place.Section.TheVariants.{Root, Artery, Signal, Link, PlanRoot, Plan}

-- as `plan.cycle`
abbrev pub plan_place : List ℕ → List ℕ
plan_place key = codes "plan." ++ key

-- the path of a key
abbrev pub key_place : Section → List ℕ → List ℕ
key_place Root key = key
key_place Artery key = artery_place key
key_place (Signal i) key = signal_place i key
key_place (Link i) key = link_place i key
key_place PlanRoot key = key
key_place Plan key = plan_place key

-- the path of an item of an array, counted from 1
abbrev pub item_place : Section → List ℕ → ℕ → List ℕ
item_place section key i = key_place section key ++ (codes "[" ++ (decimal i ++ codes "]"))
