-- The outside, as the program sees it at a moment, and what an answer leaves there.
use Rattle.std.specs.Prelude.{◌≡◌, ◌⊎◌, ℕ, List, Option, Some, None}
use Rattle.outer_edge.specs.Counts.{next_count, NoneFell, SameCounts, CountedAt}
use Rattle.outer_edge.specs.Held.{SameFiles, OthersSame, HoldsExactly}
use Rattle.outer_edge.specs.Taken.{Appends, AppendsFront}
use Rattle.outer_edge.specs.declared.files.Files as files
use Rattle.outer_edge.specs.declared.sink.Sink as sink
use Rattle.run_inputs.specs.Puts.{NamedBytes, named}
use Rattle.maxband_run.specs.declared.finish.Put.{Put}

-- what the files hold, how many reads and how many puts of each name have failed, what the output took, and how many writes have failed
pub record Outside : Type 0 where
  pub holds : List ℕ → Option (List ℕ)
  pub reads : List ℕ → ℕ
  pub puts : List ℕ → ℕ
  pub taken : Option (List ℕ)
  pub writes : ℕ

abbrev pub outside : (List ℕ → Option (List ℕ)) → (List ℕ → ℕ) → (List ℕ → ℕ) → Option (List ℕ) → ℕ → Outside
outside holds reads puts taken writes = record { holds = holds; reads = reads; puts = puts; taken = taken; writes = writes }

-- what the program sees of files and an output
abbrev pub seen : {F K : Type 0} → files.Ghosts F → sink.Ghosts K → F → K → Outside
seen f k files out = outside (f.holds files) (f.read_faults files) (f.put_faults files) (k.taken out) (k.faults out)

-- ---- an answer with these lines, of which bytes may be put
-- the file that is put holds these bytes, where it is told, and every other file is as before
abbrev pub IsPut : Option NamedBytes → (List ℕ → Option (List ℕ)) → (List ℕ → Option (List ℕ)) → Type 0
IsPut None before now = SameFiles before now
IsPut (Some put) before now = HoldsExactly (now put.name) put.bytes × OthersSame before now put.name

-- what is put was put, the output grew by exactly the lines, and neither a put nor a write failed
pub record IsDone (before now : Outside) (lines : List ℕ) (put : Option NamedBytes) : Type 0 where
  pub files : IsPut put before.holds now.holds
  pub written : Appends before.taken now.taken lines
  pub puts : SameCounts before.puts now.puts
  pub writes : now.writes ≡ before.writes

-- no file changed, nothing was written, and nothing failed
pub record IsUntouched (before now : Outside) : Type 0 where
  pub files : SameFiles before.holds now.holds
  pub nothing : now.taken ≡ before.taken
  pub reads : SameCounts before.reads now.reads
  pub puts : SameCounts before.puts now.puts
  pub writes : now.writes ≡ before.writes

-- The put failed and was counted, and no write failed: the file may hold anything, every other file is as before, and nothing was written.
pub record PutFailed (before now : Outside) (put : NamedBytes) : Type 0 where
  pub counted : CountedAt before.puts now.puts put.name
  pub others : OthersSame before.holds now.holds put.name
  pub nothing : now.taken ≡ before.taken
  pub writes : now.writes ≡ before.writes

-- A write failed and was counted, and no put failed: what is put was put, and a front of the lines went out.
pub record WriteFailed (before now : Outside) (lines : List ℕ) (put : Option NamedBytes) : Type 0 where
  pub counted : now.writes ≡ next_count before.writes
  pub puts : SameCounts before.puts now.puts
  pub files : IsPut put before.holds now.holds
  pub front : AppendsFront before.taken now.taken lines

abbrev pub IsBroken : Outside → Outside → List ℕ → Option NamedBytes → Type 0
IsBroken before now lines None = WriteFailed before now lines None
IsBroken before now lines (Some put) = PutFailed before now put ⊎ WriteFailed before now lines (Some put)

-- ---- in every case, where a file of this name may be put
-- no file changes but that one
abbrev pub OthersKept : Option (List ℕ) → (List ℕ → Option (List ℕ)) → (List ℕ → Option (List ℕ)) → Type 0
OthersKept None before now = SameFiles before now
OthersKept (Some name) before now = OthersSame before now name

-- without a put none fails
abbrev pub PutsCounted : Option (List ℕ) → (List ℕ → ℕ) → (List ℕ → ℕ) → Type 0
PutsCounted None before now = SameCounts before now
PutsCounted (Some name) before now = NoneFell before now

-- ---- in the code
abbrev pub put_view : Put → NamedBytes
put_view put = named put.name.now put.bytes.now
