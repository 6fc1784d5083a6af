-- What a run comes to: the cause of its status, what stands behind it, what is put, and by which lines the output grew.
use Rattle.std.specs.Prelude.{◌≡◌, ◌⊎◌, ℕ, List, [], Option, Some, None, IfOk, OnErr, Result, Ok, Err}
use Rattle.narrow_fraction.specs.declared.memory.Memory.{Memory}
use Rattle.outer_edge.specs.Counts.{SameCounts}
use Rattle.outer_edge.specs.declared.files.Files.{Ghosts}
use Rattle.run_inputs.specs.Lines.{words_line}
use Rattle.run_inputs.specs.Puts.{NamedBytes, put_of, bytes_of}
use Rattle.run_inputs.specs.Reading.{Values, AreRead, inputs, StopsReading, end_of}
use Rattle.run_inputs.specs.declared.cause.Cause.{Cause}
use Rattle.run_inputs.specs.declared.cause.Cause.TheVariants as cause
use Rattle.run_inputs.specs.declared.found.Found.{Found}
use Rattle.run_inputs.specs.declared.found.Unread.{Unread}
use Rattle.run_inputs.specs.declared.reader.ReadAs.{ReadAs}
use Rattle.run_commands.specs.Settings.{Settings, unsaid}
use Rattle.run_commands.specs.Table.{readers, Finding, IsFound}
use Rattle.run_commands.specs.Words.{Request}
use Rattle.run_commands.specs.declared.table.Usage.{Usage}
use Rattle.maxband_run.specs.Outside.{Outside, IsDone, IsUntouched, IsBroken}

-- what is asked: to read the files of these names, each by its reader, and to find this of their values and of these settings; what is put goes into this file
pub record Question : Type 1 where
  pub readers : List ReadAs
  pub finds : Finding readers
  pub names : List (List ℕ)
  pub output : Option (List ℕ)
  pub settings : Settings

-- a command with the names and the settings of a request
abbrev pub ask : Usage → Request → Question
ask u r = record { readers = readers u; finds = IsFound u; names = r.reads; output = r.output; settings = r.settings }

-- words that ask for nothing find that
abbrev pub question : Option Request → Question
question None = record { readers = []; finds = λ v s c lines put. (c ≡ cause.Words) × (lines ≡ words_line); names = []; output = None; settings = unsaid }
question (Some r) = ask r.usage r

-- a file isn't read: nothing is put
pub record Stops (held : List ℕ → Option (List ℕ)) (before after : List ℕ → ℕ) (q : Question) (c : Cause) (lines : List ℕ) (put : Option NamedBytes) : Type 0 where
  pub stops : StopsReading (inputs q.readers q.names) 1 held before after c lines
  pub no_put : put ≡ None

-- every file is read, no read failed, and this is found
pub record Answered (held : List ℕ → Option (List ℕ)) (before after : List ℕ → ℕ) (q : Question) (c : Cause) (lines : List ℕ) (put : Option NamedBytes) : Type 0 where
  pub values : Values q.readers
  pub read : AreRead q.readers q.names held values
  pub counts : SameCounts before after
  pub bytes : Option (List ℕ)
  pub finds : q.finds values q.settings c lines bytes
  pub put_is : put ≡ put_of q.output bytes

-- The answer to the words, its lines, and what it puts. `held` is what the files held at entry, `before` and `after` count the failed reads of each name.
abbrev pub Answers : (List ℕ → Option (List ℕ)) → (List ℕ → ℕ) → (List ℕ → ℕ) → Question → Cause → List ℕ → Option NamedBytes → Type 0
Answers held before after q c lines put = Stops held before after q c lines put ⊎ Answered held before after q c lines put

-- what is found, or what tells of a file that isn't read
abbrev pub ended : Result Found Unread → Result Found Memory
ended (Ok a) = Ok a
ended (Err end) = end_of end

-- the answer to the words, or want of memory where no read failed
pub record IsAnswered {F : Type 0} (files : Ghosts F) (before now : F) (q : Question) (r : Result Found Memory) : Type 0 where
  pub told : IfOk r (λ a. Answers (files.holds before) (files.read_faults before) (files.read_faults now) q a.cause a.lines.items (put_of q.output (bytes_of a)))
  pub memory : OnErr r (SameCounts (files.read_faults before) (files.read_faults now))

-- an answer that was reached, after which the put or a write failed
pub record Breaks (before now : Outside) (q : Question) : Type 0 where
  pub reached : Cause
  pub lines : List ℕ
  pub put : Option NamedBytes
  pub answer : Answers before.holds before.reads now.reads q reached lines put
  pub broken : IsBroken before now lines put

-- How the run ended, from the outside at entry to the outside at its end.
abbrev pub Ends : Outside → Outside → Question → Cause → Type 0
Ends before now q cause.WriteFault = Breaks before now q
Ends before now q cause.Memory = IsUntouched before now
Ends before now q c = (lines : List ℕ) × (put : Option NamedBytes) × Answers before.holds before.reads now.reads q c lines put × IsDone before now lines put
