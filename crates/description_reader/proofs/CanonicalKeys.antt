-- What stands at the keys of a canonical description's tables.
use Rattle.std.proofs.Common.{◌≡◌, ℕ, List, Bool, true, false, ◌==◌, Option, None, Some, option_map, refl}
use Rattle.std.specs.Prelude.{codes}
use Rattle.toml.specs.Data.{Data, get, string, boolean, table}
use Rattle.artery_model.specs.Bounds.{second_version}
use Rattle.progression.specs.declared.parts.Head.{Head}
use Rattle.progression.specs.declared.parts.Link.{Link}
use Rattle.progression.specs.declared.parts.Pair.{Pair}
use Rattle.description_reader.specs.Canonical.{number_data, quantity_data, pair_data, units_text, head_members_in, head_members, link_data}

-- a value of the second version
abbrev pub of_second : Bool → Data → Option Data
of_second false d = None
of_second true d = Some d

pub record HeadKeys (second : Bool) (d : Data) (h : Head) : Type 0 where
  pub name : get (codes "name") d ≡ option_map string h.name
  pub units : get (codes "units") d ≡ Some (string (units_text h.units))
  pub parts : get (codes "parts") d ≡ Some (number_data h.parts)
  pub cycle : get (codes "cycle") d ≡ Some (pair_data h.cycle)
  pub ratio : get (codes "ratio") d ≡ Some (quantity_data h.ratio)
  pub least_out : get (codes "least_out") d ≡ of_second second (quantity_data h.least_out)
  pub least_in : get (codes "least_in") d ≡ of_second second (quantity_data h.least_in)
  pub equal : get (codes "equal") d ≡ of_second second (boolean h.equal)

with_name : (second : Bool) (name : Option (List ℕ)) (h : Head) → HeadKeys second (table (head_members_in second (record h { name = name }))) (record h { name = name })
with_name false None h = record { name = refl; units = refl; parts = refl; cycle = refl; ratio = refl; least_out = refl; least_in = refl; equal = refl }
with_name false (Some name) h = record { name = refl; units = refl; parts = refl; cycle = refl; ratio = refl; least_out = refl; least_in = refl; equal = refl }
with_name true None h = record { name = refl; units = refl; parts = refl; cycle = refl; ratio = refl; least_out = refl; least_in = refl; equal = refl }
with_name true (Some name) h = record { name = refl; units = refl; parts = refl; cycle = refl; ratio = refl; least_out = refl; least_in = refl; equal = refl }

pub head_keys : (h : Head) → HeadKeys (h.version == second_version) (table (head_members h)) h
head_keys h = with_name (h.version == second_version) h.name h

pub record LinkKeys (d : Data) (l : Link) : Type 0 where
  pub distance_out : get (codes "distance_out") d ≡ Some (number_data l.distance_out)
  pub distance_in : get (codes "distance_in") d ≡ Some (number_data l.distance_in)
  pub speed_out : get (codes "speed_out") d ≡ Some (pair_data l.speed_out)
  pub speed_in : get (codes "speed_in") d ≡ Some (pair_data l.speed_in)
  pub change_out : get (codes "change_out") d ≡ option_map pair_data l.change_out
  pub change_in : get (codes "change_in") d ≡ option_map pair_data l.change_in

with_changes : (o i : Option Pair) (l : Link) → LinkKeys (link_data (record l { change_out = o; change_in = i })) (record l { change_out = o; change_in = i })
with_changes None None l = record { distance_out = refl; distance_in = refl; speed_out = refl; speed_in = refl; change_out = refl; change_in = refl }
with_changes None (Some i) l = record { distance_out = refl; distance_in = refl; speed_out = refl; speed_in = refl; change_out = refl; change_in = refl }
with_changes (Some o) None l = record { distance_out = refl; distance_in = refl; speed_out = refl; speed_in = refl; change_out = refl; change_in = refl }
with_changes (Some o) (Some i) l = record { distance_out = refl; distance_in = refl; speed_out = refl; speed_in = refl; change_out = refl; change_in = refl }

pub link_keys : (l : Link) → LinkKeys (link_data l) l
link_keys l = with_changes l.change_out l.change_in l
