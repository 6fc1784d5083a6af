-- Whole runs without a fault end as they should, and faults are told.
use Rattle.std.proofs.Common.{◌≡◌, ℕ, ◌+◌, List, [], ◌∷◌, Option, Some, None, ◌⊎◌, inl, inr, refl, subst, arith}
use Rattle.std.specs.Prelude.{IfSome}
use Rattle.outer_edge.specs.Counts.{next_count, Rose, SameCounts}
use Rattle.run_inputs.specs.Puts.{NamedBytes, named, put_of}
use Rattle.run_inputs.specs.Reading.{Input, inputs, Values, AreRead, AreTold, IsUnread, StopsReading}
use Rattle.run_inputs.specs.declared.cause.Cause.{Cause}
use Rattle.run_inputs.specs.declared.cause.Cause.TheVariants as cause
use Rattle.run_commands.specs.Words.{Request}
use Rattle.maxband_run.specs.Outside.{Outside, IsDone, IsBroken}
use Rattle.maxband_run.specs.Run.{Question, question, Answers, Answered, Ends}
use Rattle.run_laws.specs.Laws.{IsFault, FaultsAreTold}
use Rattle.run_laws.specs.EndLaws.{IsEndOf, NoReadFailed, RunsAreComplete}
use Rattle.run_laws.proofs.Readers.{OneReading, all_apart}
use Rattle.run_inputs.proofs.Stopped.{stops_stop}

-- what was counted rose
pub rose : (a b : ℕ) → b ≡ next_count a → Rose a b
rose a b e = omega (arith, e)

-- ---- faults are told
module _ (held : List ℕ → Option (List ℕ)) (before after : List ℕ → ℕ) where
  -- unless a read failed no count of reads has changed
  unread_same : (i : Input) (place : ℕ) (c : Cause) (l : List ℕ) → ¬ IsFault c → IsUnread i place held before after c l → SameCounts before after
  unread_same i place (cause.ReadFault f) l n h = absurd (n tt)
  unread_same i place (cause.TooLong f) l n h = h.1
  unread_same i place c l n h = h.0

  stops_same : (is : List Input) (place : ℕ) (c : Cause) (l : List ℕ) → ¬ IsFault c → StopsReading is place held before after c l → SameCounts before after
  stops_same [] place c l n h = absurd h
  stops_same (i ∷ is) place c l n (inl h) = unread_same i place c l n h
  stops_same (i ∷ is) place c l n (inr h) = stops_same is (place + 1) c l n h.2

answer_same : (held : List ℕ → Option (List ℕ)) (before after : List ℕ → ℕ) (q : Question) (c : Cause) (lines : List ℕ) (put : Option NamedBytes)
    → ¬ IsFault c → Answers held before after q c lines put → SameCounts before after
answer_same held before after q c lines put n (inl h) = stops_same held before after (inputs q.readers q.names) 1 c lines n h.stops
answer_same held before after q c lines put n (inr h) = h.counts

-- what has ended, but by a failed write or want of memory
abbrev pub Completes : Outside → Outside → Question → Cause → Type 0
Completes before now q c = (lines : List ℕ) × (put : Option NamedBytes) × Answers before.holds before.reads now.reads q c lines put × IsDone before now lines put

completes_same : (before now : Outside) (q : Question) (c : Cause) → ¬ IsFault c → Completes before now q c
    → SameCounts before.reads now.reads × SameCounts before.puts now.puts × (now.writes ≡ before.writes)
completes_same before now q c n h = (answer_same before.holds before.reads now.reads q c h.0 h.1 n h.2, h.3.puts, h.3.writes)

pub faults_are_told : FaultsAreTold
faults_are_told before now asked (cause.ReadFault file) h n = absurd (n tt)
faults_are_told before now asked cause.WriteFault h n = absurd (n tt)
faults_are_told before now asked cause.Memory h n = (h.reads, h.puts, h.writes)
faults_are_told before now asked c h n = completes_same before now (question asked) c n h

-- ---- without a fault
module _ (before now : Outside) (no_write : Rose before.writes now.writes → ⊥) where
  pub not_broken : (lines : List ℕ) (put : Option NamedBytes) → ((p : NamedBytes) → put ≡ Some p → Rose (before.puts p.name) (now.puts p.name) → ⊥) → IsBroken before now lines put → ⊥
  not_broken lines None no_put b = no_write (rose before.writes now.writes b.counted)
  not_broken lines (Some put) no_put (inl p) = no_put put refl (rose (before.puts put.name) (now.puts put.name) p.counted.once)
  not_broken lines (Some put) no_put (inr w) = no_write (rose before.writes now.writes w.counted)

-- what a command puts is named by the table, and no put of that failed
put_stood : (o : Option (List ℕ)) (before now : List ℕ → ℕ) (p : NamedBytes) (bytes : Option (List ℕ)) → IfSome o (λ name. ¬ Rose (before name) (now name))
    → Some p ≡ put_of o bytes → Rose (before p.name) (now p.name) → ⊥
put_stood None before now p bytes stands e rises = absurd cc
put_stood (Some name) before now p None stands e rises = absurd cc
put_stood (Some name) before now p (Some bytes) stands e rises =
    let is : p ≡ named name bytes = cc in
    stands (subst (λ (b : NamedBytes). Rose (before b.name) (now b.name)) is rises)

no_fault : (is : List Input) (place file : ℕ) (held : List ℕ → Option (List ℕ)) (before after : List ℕ → ℕ) (lines : List ℕ)
    → NoReadFailed before after is → StopsReading is place held before after (cause.ReadFault file) lines → ⊥
no_fault [] place file held before after lines n h = h
no_fault (i ∷ is) place file held before after lines n (inl h) = n.0 (rose (before i.name) (after i.name) h.1.once)
no_fault (i ∷ is) place file held before after lines n (inr h) = no_fault is (place + 1) file held before after lines n.1 h.2

-- ---- where the files are read, and no call failed
-- what is found is an end of what was asked
own_end : (held : List ℕ → Option (List ℕ)) (before after : List ℕ → ℕ) (asked : Option Request) (c : Cause) (lines : List ℕ) (put : Option NamedBytes)
    → Answered held before after (question asked) c lines put → IsEndOf asked c
own_end held before after None c lines put h = h.finds.0
own_end held before after (Some r) c lines put h = h.finds.ends

module _ (reader : OneReading) (before now : Outside) (asked : Option Request) (q : Question) (own : (c : Cause) (lines : List ℕ) (put : Option NamedBytes)
    → Answered before.holds before.reads now.reads q c lines put → IsEndOf asked c) (v : Values q.readers)
    (told : AreTold before.holds (inputs q.readers q.names)) (r : AreRead q.readers q.names before.holds v) (no_read : NoReadFailed before.reads now.reads (inputs q.readers q.names))
    (no_put : IfSome q.output (λ name. ¬ Rose (before.puts name) (now.puts name))) (no_write : ¬ Rose before.writes now.writes) where
  not_stopped : (c : Cause) (lines : List ℕ) → StopsReading (inputs q.readers q.names) 1 before.holds before.reads now.reads c lines → ⊥
  not_stopped (cause.ReadFault file) lines h = no_fault (inputs q.readers q.names) 1 file before.holds before.reads now.reads lines no_read h
  not_stopped cause.WriteFault lines h = stops_stop before.holds before.reads now.reads (inputs q.readers q.names) 1 cause.WriteFault lines h
  not_stopped cause.Memory lines h = stops_stop before.holds before.reads now.reads (inputs q.readers q.names) 1 cause.Memory lines h
  not_stopped c lines h = all_apart reader before.holds before.reads now.reads q.readers q.names 1 v c lines told tt r h

  ends_own : (c : Cause) (lines : List ℕ) (put : Option NamedBytes) → Answers before.holds before.reads now.reads q c lines put → IsEndOf asked c
  ends_own c lines put (inl h) = absurd (not_stopped c lines h.stops)
  ends_own c lines put (inr h) = own c lines put h

  stood : (c : Cause) (lines : List ℕ) (p : NamedBytes) → Answers before.holds before.reads now.reads q c lines (Some p) → Rose (before.puts p.name) (now.puts p.name) → ⊥
  stood c lines p (inl h) rises = let none = h.no_put in absurd cc
  stood c lines p (inr h) rises = put_stood q.output before.puts now.puts p h.bytes no_put h.put_is rises

  ends_so : (c : Cause) → Ends before now q c → IsEndOf asked c ⊎ (c ≡ cause.Memory)
  ends_so cause.WriteFault h =
      absurd (not_broken before now no_write h.lines h.put
      (λ p e rises. stood h.reached h.lines p (subst (λ (o : Option NamedBytes). Answers before.holds before.reads now.reads q h.reached h.lines o) e h.answer) rises) h.broken)
  ends_so cause.Memory h = inr refl
  ends_so c h = inl (ends_own c h.0 h.1 h.2)

pub runs_complete : OneReading → RunsAreComplete
runs_complete reader before now asked c v told r no_read no_put no_write h =
    ends_so reader before now asked (question asked) (own_end before.holds before.reads now.reads asked) v told r no_read no_put no_write c h
