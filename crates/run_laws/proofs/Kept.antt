-- What ends without a verdict puts nothing.
use Rattle.std.proofs.Common.{◌≡◌, ℕ, List, Option, Some, None, inl, inr, refl, ◌∙◌, ap, subst}
use Rattle.outer_edge.specs.Held.{SameFiles}
use Rattle.run_inputs.specs.Puts.{NamedBytes, put_of}
use Rattle.run_inputs.specs.Status.{number_of, IsOwnAnswer}
use Rattle.run_inputs.specs.declared.cause.Cause.{Cause}
use Rattle.run_inputs.specs.declared.cause.Cause.TheVariants as cause
use Rattle.run_commands.specs.Ends.{IsVerdict}
use Rattle.run_commands.specs.Words.{Request}
use Rattle.maxband_run.specs.Outside.{Outside, IsPut, IsDone}
use Rattle.maxband_run.specs.Run.{Question, question, Answers, Answered}
use Rattle.run_laws.specs.Laws.{RefusalsKeepFiles}
use Rattle.run_laws.proofs.Found.{Found}

-- what a command answers without a verdict has no bytes
no_bytes : (c : Cause) (bytes : Option (List ℕ)) → (IsVerdict c → ⊥) → IsOwnAnswer c bytes → bytes ≡ None
no_bytes cause.Words bytes n h = absurd h
no_bytes (cause.ReadFault file) bytes n h = absurd h
no_bytes cause.WriteFault bytes n h = absurd h
no_bytes cause.Memory bytes n h = absurd h
no_bytes cause.Done bytes n h = absurd (n tt)
no_bytes cause.NoTiming bytes n h = absurd (n tt)
no_bytes (cause.Stopped stop) bytes n h = absurd (n tt)
no_bytes c bytes n h = h

into_none : (output : Option (List ℕ)) → put_of output None ≡ None
into_none None = refl
into_none (Some name) = refl

-- what puts nothing leaves the files
done_keeps : (before now : Outside) (lines : List ℕ) (put : Option NamedBytes) → put ≡ None → IsDone before now lines put → SameFiles before.holds now.holds
done_keeps before now lines put e h = subst (λ (p : Option NamedBytes). IsPut p before.holds now.holds) e h.files

pub found_keeps : (before now : Outside) (q : Question) (c : Cause) → (IsVerdict c → ⊥) → (f : Found before now q c) → IsOwnAnswer c f.answer.bytes → SameFiles before.holds now.holds
found_keeps before now q c n f own = done_keeps before now f.lines f.put (f.answer.put_is ∙ ap (put_of q.output) (no_bytes c f.answer.bytes n own) ∙ into_none q.output) f.done

answered_keeps : (before now : Outside) (asked : Option Request) (c : Cause) (lines : List ℕ) (put : Option NamedBytes) → (IsVerdict c → ⊥)
    → Answered before.holds before.reads now.reads (question asked) c lines put → put ≡ None
answered_keeps before now None c lines put n h = h.put_is
answered_keeps before now (Some r) c lines put n h = h.put_is ∙ ap (put_of r.output) (no_bytes c h.bytes n h.finds.answer) ∙ into_none r.output

answer_keeps : (before now : Outside) (asked : Option Request) (c : Cause) (lines : List ℕ) (put : Option NamedBytes) → (IsVerdict c → ⊥)
    → Answers before.holds before.reads now.reads (question asked) c lines put → IsDone before now lines put → SameFiles before.holds now.holds
answer_keeps before now asked c lines put n (inl h) d = done_keeps before now lines put h.no_put d
answer_keeps before now asked c lines put n (inr h) d = done_keeps before now lines put (answered_keeps before now asked c lines put n h) d

pub refusals_keep : RefusalsKeepFiles
refusals_keep before now asked cause.WriteFault h n w = absurd (w refl)
refusals_keep before now asked cause.Memory h n w = h.files
refusals_keep before now asked c h n w = answer_keeps before now asked c h.0 h.1 n h.2 h.3

-- a cause with number 4 is no verdict
pub four_refuses : (c : Cause) → number_of c ≡ 4 → IsVerdict c → ⊥
four_refuses cause.Done e v = absurd cc
four_refuses cause.NoTiming e v = absurd cc
four_refuses (cause.Stopped stop) e v = absurd cc
four_refuses c e v = v

pub ten_refuses : (c : Cause) → number_of c ≡ 10 → IsVerdict c → ⊥
ten_refuses cause.Done e v = absurd cc
ten_refuses cause.NoTiming e v = absurd cc
ten_refuses (cause.Stopped stop) e v = absurd cc
ten_refuses c e v = v
