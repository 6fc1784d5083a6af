-- How a run ends over files that are read, where no call fails: a statement about the definitions of a run, which a public call proves.
use Rattle.std.specs.Prelude.{◌≡◌, ◌⊎◌, ℕ, List, [], ◌∷◌, Option, Some, None, IfSome}
use Rattle.outer_edge.specs.Counts.{Rose}
use Rattle.run_inputs.specs.Reading.{Input, Values, AreRead, inputs, AreTold}
use Rattle.run_inputs.specs.declared.cause.Cause.{Cause}
use Rattle.run_inputs.specs.declared.cause.Cause.TheVariants as cause
use Rattle.run_commands.specs.Table.{IsOwnEnd}
use Rattle.run_commands.specs.Words.{Request}
use Rattle.maxband_run.specs.Outside.{Outside}
use Rattle.maxband_run.specs.Run.{Question, question, Ends}

-- how what is asked may end, once its files are read
abbrev pub IsEndOf : Option Request → Cause → Type 0
IsEndOf None c = c ≡ cause.Words
IsEndOf (Some r) c = IsOwnEnd r.usage c

-- no read of these files failed
abbrev pub NoReadFailed : (List ℕ → ℕ) → (List ℕ → ℕ) → List Input → Type 0
NoReadFailed before now [] = Unit {0}
NoReadFailed before now (i ∷ is) = ¬ Rose (before i.name) (now i.name) × NoReadFailed before now is

-- Where the files that are asked for tell bytes that are read as these values, and no read of them, no put of the file that may be put and no write failed, the run ends
-- with a cause of its command, or by want of memory.
abbrev pub CompletesFor : Outside → Outside → Option Request → Question → Cause → Type 0
CompletesFor before now asked q c = (values : Values q.readers) → AreTold before.holds (inputs q.readers q.names) → AreRead q.readers q.names before.holds values
    → NoReadFailed before.reads now.reads (inputs q.readers q.names) → IfSome q.output (λ name. ¬ Rose (before.puts name) (now.puts name)) → ¬ Rose before.writes now.writes
    → Ends before now q c → IsEndOf asked c ⊎ (c ≡ cause.Memory)

abbrev pub RunsAreComplete : Type 0
RunsAreComplete = (before now : Outside) (asked : Option Request) (c : Cause) → CompletesFor before now asked (question asked) c
