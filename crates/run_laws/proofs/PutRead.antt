-- A later run over the file that a run put.
use Rattle.std.proofs.Common.{◌≡◌, ℕ, ◌≤◌, List, length, Option, Some, None, inl, inr, sym, subst}
use Rattle.std.specs.Prelude.{IsSome, IfSome}
use Rattle.outer_edge.specs.Held.{HoldsExactly}
use Rattle.outer_edge.specs.Taken.{Appends}
use Rattle.run_inputs.specs.Puts.{NamedBytes, put_of}
use Rattle.maxband_run.specs.Outside.{Outside, IsPut, IsDone}
use Rattle.run_inputs.specs.Reading.{Value, inputs, most_bytes, IsReadAs, Reads, Values, AreRead, AreTold}
use Rattle.run_inputs.specs.declared.reader.ReadAs.{ReadAs}
use Rattle.maxband_run.specs.Run.{Question, Answers, Answered, Ends}
use Rattle.run_commands.specs.Ends.{IsVerdict}
use Rattle.run_inputs.specs.Status.{IsReached}
use Rattle.run_inputs.specs.declared.cause.Cause.{Cause}
use Rattle.run_inputs.specs.declared.cause.Cause.TheVariants as cause
use Rattle.run_laws.proofs.Holding.{told_has}
use Rattle.run_laws.proofs.Readers.{OneReading, all_apart, same_values}
use Rattle.run_inputs.proofs.Stopped.{IsStop, stops_stop}

pub reached_ends : (before now : Outside) (q : Question) (c : Cause) → IsReached c → Ends before now q c
    → (lines : List ℕ) × (put : Option NamedBytes) × Answers before.holds before.reads now.reads q c lines put × IsDone before now lines put
reached_ends before now q cause.WriteFault n h = absurd n
reached_ends before now q cause.Memory n h = absurd n
reached_ends before now q c n h = h

verdict_stops : (c : Cause) → IsVerdict c → IsStop c → ⊥
verdict_stops (cause.ReadFault file) v s = v
verdict_stops (cause.TooLong file) v s = v
verdict_stops (cause.Refused r) v s = v
verdict_stops (cause.BadText b) v s = v
verdict_stops c v s = s

-- a verdict is found, and is no reading that stops
pub verdict_found : (held : List ℕ → Option (List ℕ)) (before after : List ℕ → ℕ) (q : Question) (c : Cause) (lines : List ℕ) (put : Option NamedBytes)
    → IsVerdict c → Answers held before after q c lines put → Answered held before after q c lines put
verdict_found held before after q c lines put v (inl h) = absurd (verdict_stops c v (stops_stop held before after (inputs q.readers q.names) 1 c lines h.stops))
verdict_found held before after q c lines put v (inr h) = h

-- what these bytes leave in the files, where they are put into the file of this name
pub is_put : (before now : Outside) (name text lines : List ℕ) (put : Option NamedBytes) (bytes : Option (List ℕ))
    → put ≡ put_of (Some name) bytes → bytes ≡ Some text → IsDone before now lines put → IsPut (put_of (Some name) (Some text)) before.holds now.holds
is_put before now name text lines put bytes e f h = subst (λ (o : Option (List ℕ)). IsPut (put_of (Some name) o) before.holds now.holds) f
    (subst (λ (p : Option NamedBytes). IsPut p before.holds now.holds) e h.files)

-- a file that holds a text is read as what the text is read as
pub reads_put : (r : ReadAs) (o : Option (List ℕ)) (text : List ℕ) (v : Value r) → IsSome o → IfSome o (λ bytes. length bytes ≤ most_bytes r) → HoldsExactly o text → IsReadAs r text v → Reads r o v
reads_put r None text v told few h is = absurd cc
reads_put r (Some x) text v told few h is = told_has (most_bytes r) x (λ y. IsReadAs r y v) (few, subst (λ y. IsReadAs r y v) (sym h) is)

-- a reached end of a run over files that tell their bytes, and that are read as these values, is what is found of these
pub finds_of : OneReading → (before now : Outside) (q : Question) (v : Values q.readers) (c : Cause)
    → AreTold before.holds (inputs q.readers q.names) → AreRead q.readers q.names before.holds v → IsReached c → Ends before now q c
    → (lines : List ℕ) × (bytes : Option (List ℕ)) × q.finds v q.settings c lines bytes × Appends before.taken now.taken lines
finds_of reader before now q v c told read n h =
    let e = reached_ends before now q c n h in
    elim e.2 [
      | inl stops ↦ absurd (all_apart reader before.holds before.reads now.reads q.readers q.names 1 v c e.0 told n read stops.stops)
      | inr found ↦
          let same = same_values reader before.holds before.reads now.reads q.readers q.names found.values v told found.read read in
          (e.0, found.bytes, subst (λ (z : Values q.readers). q.finds z q.settings c e.0 found.bytes) same found.finds, e.3.written)
    ]
