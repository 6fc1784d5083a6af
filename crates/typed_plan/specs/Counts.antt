-- A plan has as many numbers as the artery has signals or links: the first place at which it has not.
use Rattle.std.specs.Prelude.{◌≡◌, ◌+◌, ℕ, ◌-◌, ◌==◌, List, [], ◌∷◌, length, Option, codes}
use Rattle.progression.specs.Street.{Street, count}
use Rattle.progression.specs.declared.parts.Dir.{Dir}
use Rattle.progression.specs.declared.parts.Dir.TheVariants.{Outbound, Inbound}
use Rattle.artery_model.specs.Faults.{Fault, first_fault, unless}
use Rattle.artery_model.specs.declared.kind.Kind.TheVariants.{CountMismatch}
use Rattle.description_reader.specs.Places.{key_place}
use Rattle.description_reader.specs.Typed.{Typed, measure, measured}
use Rattle.description_reader.specs.declared.place.Section.TheVariants as section
use Rattle.description_reader.specs.declared.measure.Measure.{Measure}
use Rattle.description_reader.specs.declared.measure.Measure.TheVariants.{Speed, Travel}

-- the key of a direction's numbers
abbrev pub measured_key : Measure → Dir → List ℕ
measured_key Speed Outbound = codes "speed_out"
measured_key Travel Outbound = codes "travel_out"
measured_key Speed Inbound = codes "speed_in"
measured_key Travel Inbound = codes "travel_in"

abbrev pub counted : ℕ → ℕ → List ℕ → Option Fault
counted found wanted key = unless (found == wanted) CountMismatch (key_place section.Plan key)

abbrev pub links_counted : Street → Typed → Dir → Option Fault
links_counted a p d = counted (length (measured p d)) (count a - 1) (measured_key (measure p d) d)

abbrev pub count_fault : Street → Typed → Option Fault
count_fault a p = first_fault (
    counted (length p.offsets) (count a) (codes "offset")
    ∷ counted (length p.patterns) (count a) (codes "patterns")
    ∷ links_counted a p Outbound
    ∷ links_counted a p Inbound
    ∷ [])

-- it has as many
pub record HasCounts (a : Street) (p : Typed) : Type 0 where
  pub offsets : length p.offsets ≡ count a
  pub patterns : length p.patterns ≡ count a
  pub links : (d : Dir) → length (measured p d) + 1 ≡ count a
