-- The keys of a description and of a plan, as one table: a section has just these keys, of which a file has those that are in it, and their faults
-- are looked for in this order.
use Rattle.std.specs.Prelude.{ℕ, List, [], ◌∷◌, Bool, true, not, ℤ, pos, codes}
use Rattle.artery_model.specs.Bounds.{first_version, second_version, least_signals, most_signals, most_first_signals, least_share, most_share, least_parts, most_parts, least_distance, most_distance, least_speed, most_speed, least_cycle, most_cycle, least_change, most_change, least_ratio, most_ratio}
use Rattle.description_reader.specs.declared.demand.Demand.{Demand}
use Rattle.description_reader.specs.declared.demand.Demand.TheVariants.{Anything, Table, Array, Length, Integer, Boolean, Text, Quantity, Units, Reference, Name, Between, BelowParts, Within, Written}
use Rattle.description_reader.specs.declared.key_table.Demands.{Demands}
use Rattle.description_reader.specs.declared.key_table.KeyEntry.{KeyEntry}
use Rattle.description_reader.specs.declared.key_table.Presence.{Presence}
use Rattle.description_reader.specs.declared.key_table.Presence.TheVariants.{Needed, Optional, NotLast}
use Rattle.description_reader.specs.declared.key_table.When.{When}
use Rattle.description_reader.specs.declared.key_table.When.TheVariants.{Always, First, Second, SpeedOut, TravelOut, SpeedIn, TravelIn}
use Rattle.description_reader.specs.declared.place.TableFacts.{TableFacts}
use Rattle.description_reader.specs.declared.place.Section.{Section}
use Rattle.description_reader.specs.declared.place.Section.TheVariants.{Root, Artery, Signal, Link, PlanRoot, Plan}

-- a file has such keys: those of each version of a description, and those of a plan's speeds and of its times of travel
abbrev pub is_in : TableFacts → When → Bool
is_in facts Always = true
is_in facts First = not facts.second
is_in facts Second = facts.second
is_in facts SpeedOut = not facts.timed_out
is_in facts TravelOut = facts.timed_out
is_in facts SpeedIn = not facts.timed_in
is_in facts TravelIn = facts.timed_in

-- a key: in which files there is one, whether it must stand, and of which types and within which limits its value and that value's items must be
pub record Key : Type 0 where
  pub name : List ℕ
  pub when : When
  pub presence : Presence
  pub types : Demands
  pub ranges : Demands

abbrev pub key_when : When → List ℕ → Presence → Demands → Demands → Key
key_when when name presence types ranges = record { name = name; when = when; presence = presence; types = types; ranges = ranges }

-- a key that each file has
abbrev pub key : List ℕ → Presence → Demands → Demands → Key
key name presence types ranges = key_when Always name presence types ranges

-- the key of an entry of the code's table
abbrev pub key_of : KeyEntry → Key
key_of e = key_when e.when e.name.now e.presence e.types e.ranges

-- a demand of a value, and one of each of its items, where it is an array
abbrev pub both : Demand → Demand → Demands
both value item = record { value = value; item = item }

abbrev pub alone : Demand → Demands
alone value = both value Anything

abbrev pub items : Demand → Demands
items item = both Anything item

abbrev pub tables : Demands
tables = both Array Table

abbrev pub two_quantities : Demands
two_quantities = both (Length 2 2) Quantity

abbrev pub quantities : Demands
quantities = both Array Quantity

-- the version of a plan
abbrev pub plan_version : ℕ
plan_version = 1

-- the longest time of travel on a link of a plan, in seconds
abbrev pub most_travel : ℤ
most_travel = pos 100000

-- the keys of a section
unfoldable pub keys_of : Section → List Key
keys_of Root =
    key (codes "version") Optional (alone Integer) (alone (Between (pos first_version) (pos second_version)))
    ∷ key (codes "artery") Needed (alone Table) (alone Anything)
    ∷ key_when First (codes "signal") Needed tables (alone (Length least_signals most_first_signals))
    ∷ key_when Second (codes "signal") Needed tables (alone (Length least_signals most_signals))
    ∷ key (codes "link") Needed tables (alone Anything)
    ∷ []
keys_of Artery =
    key (codes "name") Optional (alone Text) (alone Name)
    ∷ key (codes "units") Needed (alone Text) (alone Units)
    ∷ key (codes "parts") Needed (alone Integer) (alone (Between (pos least_parts) (pos most_parts)))
    ∷ key (codes "cycle") Needed two_quantities (items (Within least_cycle most_cycle))
    ∷ key (codes "ratio") Needed (alone Quantity) (alone (Within least_ratio most_ratio))
    ∷ key_when Second (codes "least_out") Optional (alone Quantity) (alone (Within least_share most_share))
    ∷ key_when Second (codes "least_in") Optional (alone Quantity) (alone (Within least_share most_share))
    ∷ key_when Second (codes "equal") Optional (alone Boolean) (alone Anything)
    ∷ []
keys_of (Signal i) =
    key (codes "name") Needed (alone Text) (alone Name)
    ∷ key (codes "red") Needed (alone Integer) (alone (BelowParts (pos 1)))
    ∷ key (codes "left_out") Optional (alone Integer) (alone (BelowParts (pos 0)))
    ∷ key (codes "left_in") Optional (alone Integer) (alone (BelowParts (pos 0)))
    ∷ key (codes "patterns") Optional (both Array Integer) (items (Between (pos 1) (pos 4)))
    ∷ key (codes "clear_out") Optional (alone Integer) (alone (BelowParts (pos 0)))
    ∷ key (codes "clear_in") Optional (alone Integer) (alone (BelowParts (pos 0)))
    ∷ []
keys_of (Link i) =
    key (codes "distance_out") Needed (alone Integer) (alone (Between (pos least_distance) (pos most_distance)))
    ∷ key (codes "distance_in") Needed (alone Integer) (alone (Between (pos least_distance) (pos most_distance)))
    ∷ key (codes "speed_out") Needed two_quantities (items (Within least_speed most_speed))
    ∷ key (codes "speed_in") Needed two_quantities (items (Within least_speed most_speed))
    ∷ key (codes "change_out") NotLast two_quantities (items (Within least_change most_change))
    ∷ key (codes "change_in") NotLast two_quantities (items (Within least_change most_change))
    ∷ []
keys_of PlanRoot =
    key (codes "version") Optional (alone Integer) (alone (Between (pos plan_version) (pos plan_version)))
    ∷ key (codes "plan") Needed (alone Table) (alone Anything)
    ∷ []
keys_of Plan =
    key (codes "cycle") Needed (alone Quantity) (alone (Within least_cycle most_cycle))
    ∷ key (codes "offset") Needed quantities (items (Within (pos 0) most_cycle))
    ∷ key (codes "reference") Optional (alone Text) (alone Reference)
    ∷ key (codes "patterns") Needed (both Array Integer) (items (Between (pos 1) (pos 4)))
    ∷ key_when SpeedOut (codes "speed_out") Needed quantities (items (Written least_speed most_speed))
    ∷ key_when TravelOut (codes "travel_out") Needed quantities (items (Within (pos 0) most_travel))
    ∷ key_when SpeedIn (codes "speed_in") Needed quantities (items (Written least_speed most_speed))
    ∷ key_when TravelIn (codes "travel_in") Needed quantities (items (Within (pos 0) most_travel))
    ∷ []
