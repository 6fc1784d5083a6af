-- The unit of each key's numbers, and an example that could stand there, as a table beside that of the keys.
use Rattle.std.specs.Prelude.{ℕ, List, [], ◌∷◌, ◌++◌, Option, None, Some, codes}
use Rattle.std.specs.List.{find}
use Rattle.artery_model.specs.Limits.{is_text}
use Rattle.description_reader.specs.declared.place.Section.{Section}
use Rattle.description_reader.specs.declared.place.Section.TheVariants.{Root, Artery, Signal, Link, PlanRoot, Plan}
use Rattle.fault_words.specs.declared.example.Example.{Example}

-- the name of a key, the unit of its numbers, and lines that give it a value
pub record Sample : Type 0 where
  pub name : List ℕ
  pub unit : List ℕ
  pub lines : List ℕ

abbrev pub sample : List ℕ → List ℕ → List ℕ → Sample
sample name unit lines = record { name = name; unit = unit; lines = lines }

-- the sample of an entry of the code's table
abbrev pub sample_of : Example → Sample
sample_of e = sample e.name.now e.unit.now e.lines.now

abbrev pub of_metres : List ℕ
of_metres = codes " metres, or feet with english units"

abbrev pub of_pace : List ℕ
of_pace = codes " seconds a kilometre, or a mile with english units"

abbrev pub of_speed : List ℕ
of_speed = codes " km/h, or mph with english units"

abbrev pub of_street_speed : List ℕ
of_street_speed = codes " km/h or mph, as the street has it"

-- the samples of a section
unfoldable pub samples_of : Section → List Sample
samples_of Root =
    sample (codes "version") (codes "") (codes "version = 2")
    ∷ sample (codes "artery") (codes "") (codes "[artery]")
    ∷ sample (codes "signal") (codes "") (codes "[[signal]]")
    ∷ sample (codes "link") (codes "") (codes "[[link]]")
    ∷ []
samples_of Artery =
    sample (codes "name") (codes "") (codes "name = \"High Street\"")
    ∷ sample (codes "units") (codes "") (codes "units = \"metric\"")
    ∷ sample (codes "parts") (codes "") (codes "parts = 100")
    ∷ sample (codes "cycle") (codes " seconds") (codes "cycle = [80, 100]")
    ∷ sample (codes "ratio") (codes "") (codes "ratio = \"0.8\"")
    ∷ sample (codes "least_out") (codes " of the cycle") (codes "least_out = \"1/5\"")
    ∷ sample (codes "least_in") (codes " of the cycle") (codes "least_in = \"1/5\"")
    ∷ sample (codes "equal") (codes "") (codes "equal = true")
    ∷ []
samples_of (Signal i) =
    sample (codes "name") (codes "") (codes "name = \"Main Street\"")
    ∷ sample (codes "red") (codes "") (codes "red = 40")
    ∷ sample (codes "left_out") (codes "") (codes "left_out = 8")
    ∷ sample (codes "left_in") (codes "") (codes "left_in = 8")
    ∷ sample (codes "patterns") (codes "") (codes "patterns = [1, 3]")
    ∷ sample (codes "clear_out") (codes "") (codes "clear_out = 3")
    ∷ sample (codes "clear_in") (codes "") (codes "clear_in = 3")
    ∷ []
samples_of (Link i) =
    sample (codes "distance_out") of_metres (codes "distance_out = 500")
    ∷ sample (codes "distance_in") of_metres (codes "distance_in = 500")
    ∷ sample (codes "speed_out") of_speed (codes "speed_out = [30, \"49.5\"]")
    ∷ sample (codes "speed_in") of_speed (codes "speed_in = [30, \"49.5\"]")
    ∷ sample (codes "change_out") of_pace (codes "change_out = [-20, 20]")
    ∷ sample (codes "change_in") of_pace (codes "change_in = [-20, 20]")
    ∷ []
samples_of PlanRoot = sample (codes "version") (codes "") (codes "version = 1") ∷ sample (codes "plan") (codes "") (codes "[plan]") ∷ []
samples_of Plan =
    sample (codes "cycle") (codes " seconds") (codes "cycle = 90")
    ∷ sample (codes "offset") (codes " seconds") (codes "offset = [0, 18, \"9.5\"]")
    ∷ sample (codes "reference") (codes "") (codes "reference = \"red\"")
    ∷ sample (codes "patterns") (codes "") (codes "patterns = [1, 2, 2]")
    ∷ sample (codes "speed_out") of_street_speed (codes "speed_out = [50, \"42.5\"]")
    ∷ sample (codes "travel_out") (codes " seconds") (codes "travel_out = [36, \"42.5\"]")
    ∷ sample (codes "speed_in") of_street_speed (codes "speed_in = [50, \"42.5\"]")
    ∷ sample (codes "travel_in") (codes " seconds") (codes "travel_in = [36, \"42.5\"]")
    ∷ []

abbrev pub sample_at : Section → List ℕ → Option Sample
sample_at section name = find (λ s. is_text name s.name) (samples_of section)

abbrev pub unit_in : Option Sample → List ℕ
unit_in None = []
unit_in (Some s) = s.unit

abbrev pub example_in : Option Sample → List ℕ
example_in None = []
example_in (Some s) = codes "for example: " ++ (s.lines ++ codes "\n")
