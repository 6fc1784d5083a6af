-- The program's last frame: an exit status that is the number of a run's cause, and all that `run` promises of that run.
use Rattle.std.specs.Prelude.{◌≡◌, ◌≢◌, ◌⊎◌, ℕ, ◌≤◌, List, Result, MatchResult, drop}
use Rattle.std.specs.IoError.{error_kind}
use Rattle.std.specs.declared.io.Error.{Error}
use Rattle.std.specs.declared.io.ErrorKind.TheVariants.{OutOfMemory}
use Rattle.outer_edge.specs.Counts.{NoneFell}
use Rattle.outer_edge.specs.declared.files.Files as files
use Rattle.outer_edge.specs.declared.sink.Sink as sink
use Rattle.run_inputs.specs.Reading.{LeavesAlone}
use Rattle.run_commands.specs.Words.{request_of}
use Rattle.maxband_run.specs.Outside.{seen, OthersKept, PutsCounted}
use Rattle.maxband_run.specs.Run.{question, Ends}
use Rattle.run_inputs.specs.Status.{number_of, no_words}
use Rattle.run_inputs.specs.declared.cause.Cause.{Cause}
use Rattle.run_inputs.specs.declared.cause.Cause.TheVariants as cause

-- These words were run, from the files and the output before to those after, and the status is the number of the cause.
pub record ExitsBy {F K : Type 0} (f : files.Ghosts F) (k : sink.Ghosts K) (before after : F) (old new : K) (words : List (List ℕ)) (status : ℕ) : Type 0 where
  pub cause : Cause
  pub status_is : status ≡ number_of cause
  pub ends : Ends (seen f k before old) (seen f k after new) (question (request_of words)) cause
  -- in every case
  pub files : OthersKept (question (request_of words)).output (f.holds before) (f.holds after)
  pub reads : NoneFell (f.read_faults before) (f.read_faults after)
  pub puts : PutsCounted (question (request_of words)).output (f.put_faults before) (f.put_faults after)
  pub writes : k.faults old ≤ k.faults new
  pub alone : LeavesAlone (question (request_of words)).readers (question (request_of words)).output before after

-- memory was wanting for the words: nothing was done
pub record WantsMemory {F K : Type 0} (before after : F) (old new : K) (status : ℕ) : Type 0 where
  pub status_is : status ≡ number_of cause.Memory
  pub files : after ≡ before
  pub out : new ≡ old

-- the words were run, or memory was wanting for them
abbrev pub Exits : {F K : Type 0} → files.Ghosts F → sink.Ghosts K → F → F → K → K → List (List ℕ) → ℕ → Type 0
Exits f k before after old new words status = ExitsBy f k before after old new words status ⊎ WantsMemory before after old new status

-- There were no words, but this error: nothing was done, and the status is that of want of memory, or that of words that the system doesn't give as text.
pub record HasNoWords {F K : Type 0} (before after : F) (old new : K) (status : ℕ) (error : Error) : Type 0 where
  pub memory : error_kind error ≡ OutOfMemory → status ≡ number_of cause.Memory
  pub text : error_kind error ≢ OutOfMemory → status ≡ no_words
  pub files : after ≡ before
  pub out : new ≡ old

-- The program was run: over the files and the output that the system made, by all words that it gave but the first, or by the error in their
-- place; and it was left with files and output as they then stood.
pub record IsRun {F K : Type 0} (f : files.Ghosts F) (k : sink.Ghosts K) (gives : Result (List (List ℕ)) Error → Type 0) (opens closes : F → K → Type 0) (status : ℕ) : Type 0 where
  pub words : Result (List (List ℕ)) Error
  pub given : gives words
  pub before : F
  pub old : K
  pub opened : opens before old
  pub after : F
  pub new : K
  pub closed : closes after new
  pub exits : MatchResult words (λ all. Exits f k before after old new (drop 1 all) status) (HasNoWords before after old new status)
