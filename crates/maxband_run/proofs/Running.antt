-- From what answers and their delivery ensure to how the run ended.
use Rattle.std.proofs.Common.{◌≡◌, ℕ, ◌<◌, List, length, Option, ◌⊎◌, sym, ◌∙◌, ap, subst}
use Rattle.std.specs.Prelude.{option_map, IsSome}
use Rattle.outer_edge.specs.Counts.{SameCounts}
use Rattle.run_inputs.specs.Reading.{inputs, IsRoomForFaults}
use Rattle.run_inputs.specs.Puts.{NamedBytes, put_of, bytes_of}
use Rattle.run_inputs.specs.declared.cause.Cause.{Cause}
use Rattle.run_inputs.specs.declared.cause.Cause.TheVariants as cause
use Rattle.run_inputs.specs.declared.found.Found.{Found}
use Rattle.run_commands.specs.Words.{Request}
use Rattle.maxband_run.specs.Outside.{put_view, Outside, IsDone, IsUntouched, IsBroken}
use Rattle.maxband_run.specs.Run.{question, Answers, Ends}
use Rattle.maxband_run.specs.declared.finish.Put.{Put}
use Rattle.maxband_run.proofs.Delivered.{IsRead, done_ends, done_since, untouched_since, broken_since, answered_since, wanted_counts}

-- the answer with what is put of it
pub with_put : (held : List ℕ → Option (List ℕ)) (before after : List ℕ → ℕ) (asked : Option Request) (a : Found) (output : Option (List ℕ)) (put : Option Put)
    → option_map put_view put ≡ put_of output (bytes_of a) → output ≡ (question asked).output
    → Answers held before after (question asked) a.cause a.lines.items (put_of (question asked).output (bytes_of a))
    → Answers held before after (question asked) a.cause a.lines.items (option_map put_view put)
with_put held before after asked a output put e o h =
    subst (λ (p : Option NamedBytes). Answers held before after (question asked) a.cause a.lines.items p) (sym (e ∙ ap (λ (x : Option (List ℕ)). put_of x (bytes_of a)) o)) h

-- an answer was reached, and its lines were passed on
module _ (before mid now : Outside) (read : IsRead before mid) (same : SameCounts mid.reads now.reads) (asked : Option Request) (c : Cause) (lines passed : List ℕ) (put : Option Put)
    (told : Answers before.holds before.reads mid.reads (question asked) c lines (option_map put_view put)) (is : passed ≡ lines) where
  answer : Answers before.holds before.reads now.reads (question asked) c lines (option_map put_view put)
  answer = answered_since before mid now read same (question asked) c lines (option_map put_view put) told

  pub run_done : (status : Cause) → status ≡ c → IsDone mid now passed (option_map put_view put) → Ends before now (question asked) status
  run_done status e d = subst (λ (s : Cause). Ends before now (question asked) s) (sym e)
      (done_ends before now asked c lines (option_map put_view put) answer (done_since before mid now read lines (option_map put_view put)
      (subst (λ (l : List ℕ). IsDone mid now l (option_map put_view put)) is d)))

  pub run_broken : (status : Cause) → status ≡ cause.WriteFault → IsBroken mid now passed (option_map put_view put) → Ends before now (question asked) status
  run_broken status e b = subst (λ (s : Cause). Ends before now (question asked) s) (sym e)
      (record {
        reached = c;
        lines = lines;
        put = option_map put_view put;
        answer = answer;
        broken = broken_since before mid now read lines (option_map put_view put) (subst (λ (l : List ℕ). IsBroken mid now l (option_map put_view put)) is b);
      })

  pub run_wanted : (room : ℕ) (status : Cause) → status ≡ cause.Memory → IsRoomForFaults (inputs (question asked).readers (question asked).names) room
      → (room < length passed) ⊎ IsSome put → IsUntouched mid now → Ends before now (question asked) status
  run_wanted room status e few w u = subst (λ (s : Cause). Ends before now (question asked) s) (sym e)
      (untouched_since before mid now read
      (wanted_counts before.holds before.reads mid.reads (question asked) c lines put room told few (subst (λ (l : List ℕ). (room < length l) ⊎ IsSome put) is w)) u)
