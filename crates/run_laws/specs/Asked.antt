-- How each command is asked that a law speaks of: with the names of its files, in their order, and its settings.
use Rattle.std.specs.Prelude.{ℕ, List, [], ◌∷◌, Option, Some, None}
use Rattle.description_reader.specs.declared.measure.Reference.{Reference}
use Rattle.run_commands.specs.Settings.{Settings, unsaid}
use Rattle.run_commands.specs.Words.{request}
use Rattle.run_commands.specs.declared.table.Usage.{Usage}
use Rattle.run_commands.specs.declared.table.Usage.TheVariants as usage
use Rattle.maxband_run.specs.Run.{Question, question}

abbrev pub asked : Usage → List (List ℕ) → Option (List ℕ) → Settings → Question
asked u names output settings = question (Some (request u names output settings))

abbrev pub hold : List ℕ → List ℕ → Question
hold artery timing = asked usage.Hold (artery ∷ timing ∷ []) None unsaid

abbrev pub explain : List ℕ → Question
explain file = asked usage.Explain (file ∷ []) None unsaid

abbrev pub check : List ℕ → List ℕ → Question
check artery certificate = asked usage.Check (artery ∷ certificate ∷ []) None unsaid

abbrev pub check_links : List ℕ → List ℕ → Question
check_links artery certificate = asked usage.CheckLinks (artery ∷ certificate ∷ []) None unsaid

-- within this limit, where there is one
abbrev pub solve : List ℕ → List ℕ → Option ℕ → Question
solve artery certificate limit = asked usage.Solve (artery ∷ []) (Some certificate) (record unsaid { limit = limit })

abbrev pub links : List ℕ → List ℕ → Option ℕ → Question
links artery certificate limit = asked usage.Links (artery ∷ []) (Some certificate) (record unsaid { limit = limit })

abbrev pub renew : List ℕ → List ℕ → Question
renew certificate new = asked usage.Renew (certificate ∷ []) (Some new) unsaid

abbrev pub narrow : List ℕ → List ℕ → Question
narrow artery new = asked usage.Narrow (artery ∷ []) (Some new) unsaid

abbrev pub widen : List ℕ → List ℕ → Question
widen artery new = asked usage.Widen (artery ∷ []) (Some new) unsaid

abbrev pub bands : List ℕ → List ℕ → Question
bands artery timing = asked usage.Bands (artery ∷ timing ∷ []) None unsaid

abbrev pub round : List ℕ → List ℕ → List ℕ → Question
round artery certificate plan = asked usage.Round (artery ∷ certificate ∷ []) (Some plan) unsaid

abbrev pub round_from : List ℕ → List ℕ → List ℕ → List ℕ → Question
round_from artery certificate other plan = asked usage.RoundFrom (artery ∷ certificate ∷ other ∷ []) (Some plan) unsaid

abbrev pub whole : List ℕ → List ℕ → List ℕ → List (List ℕ) → Question
whole artery certificate plan cycles = asked usage.Whole (artery ∷ certificate ∷ []) (Some plan) (record unsaid { whole_cycles = cycles })

abbrev pub half : List ℕ → List ℕ → List ℕ → Question
half artery timing new = asked usage.Half (artery ∷ timing ∷ []) (Some new) unsaid

abbrev pub timing : List ℕ → List ℕ → List ℕ → Question
timing artery plan new = asked usage.TimingOf (artery ∷ plan ∷ []) (Some new) unsaid

abbrev pub draw : Option (List ℕ) → List ℕ → List ℕ → List ℕ → Question
draw title artery timed drawing = asked usage.Draw (artery ∷ timed ∷ []) (Some drawing) (record unsaid { title = title })

abbrev pub sheet : Reference → List ℕ → List ℕ → List ℕ → Question
sheet reference artery timed table = asked usage.Sheet (artery ∷ timed ∷ []) (Some table) (record unsaid { reference = reference })

abbrev pub sensitivity : List ℕ → List ℕ → Option ℕ → Question
sensitivity artery table limit = asked usage.Sensitivity (artery ∷ []) (Some table) (record unsaid { limit = limit })

abbrev pub sweep : List ℕ → List ℕ → Option ℕ → List (List ℕ) → Question
sweep artery table limit cycles = asked usage.Sweep (artery ∷ []) (Some table) (record unsaid { limit = limit; cycles = cycles })
