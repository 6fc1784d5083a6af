-- When the statuses of words and of faults come.
use Rattle.std.proofs.Common.{◌≡◌, ℕ, ◌+◌, List, [], ◌∷◌, Option, Some, None, inl, inr, refl, ap, subst}
use Rattle.outer_edge.specs.Counts.{Rose}
use Rattle.run_inputs.specs.Puts.{NamedBytes}
use Rattle.run_inputs.specs.Reading.{Input, inputs, StopsReading}
use Rattle.run_inputs.specs.Status.{number_of, IsReached}
use Rattle.run_inputs.specs.declared.cause.Cause.{Cause}
use Rattle.run_inputs.specs.declared.cause.Cause.TheVariants as cause
use Rattle.run_commands.specs.Words.{Request}
use Rattle.maxband_run.specs.Outside.{Outside}
use Rattle.maxband_run.specs.Run.{question, Answers, Answered, Ends}
use Rattle.run_laws.specs.StopLaws.{WordsAreTold, FaultsAreCounted}
use Rattle.run_laws.proofs.Complete.{rose, not_broken}
use Rattle.run_laws.proofs.Found.{found, five_is, six_is, seven_is}
use Rattle.run_laws.proofs.PutRead.{reached_ends}

-- ---- no fault where no count rises
read_rose : (is : List Input) (place file : ℕ) (held : List ℕ → Option (List ℕ)) (before after : List ℕ → ℕ) (lines : List ℕ)
    → StopsReading is place held before after (cause.ReadFault file) lines → (name : List ℕ) × Rose (before name) (after name)
read_rose [] place file held before after lines h = absurd h
read_rose (i ∷ is) place file held before after lines (inl h) = (i.name, rose (before i.name) (after i.name) h.1.once)
read_rose (i ∷ is) place file held before after lines (inr h) = read_rose is (place + 1) file held before after lines h.2

answered_rose : (asked : Option Request) (file : ℕ) (held : List ℕ → Option (List ℕ)) (before after : List ℕ → ℕ) (lines : List ℕ) (put : Option NamedBytes)
    → Answered held before after (question asked) (cause.ReadFault file) lines put → ⊥
answered_rose None file held before after lines put h = let e = h.finds.0 in absurd cc
answered_rose (Some r) file held before after lines put h = h.finds.answer

answer_rose : (asked : Option Request) (file : ℕ) (held : List ℕ → Option (List ℕ)) (before after : List ℕ → ℕ) (lines : List ℕ) (put : Option NamedBytes)
    → Answers held before after (question asked) (cause.ReadFault file) lines put → (name : List ℕ) × Rose (before name) (after name)
answer_rose asked file held before after lines put (inl h) = read_rose (inputs (question asked).readers (question asked).names) 1 file held before after lines h.stops
answer_rose asked file held before after lines put (inr h) = absurd (answered_rose asked file held before after lines put h)

pub faults_are_counted : FaultsAreCounted
faults_are_counted before now asked c no_read no_put no_write h = (
  (λ e. let f = six_is c e in
      let k = subst (λ (d : Cause). Ends before now (question asked) d) f.1 h in
      let r = answer_rose asked f.0 before.holds before.reads now.reads k.0 k.1 k.2 in no_read r.0 r.1),
  (λ e. let k = subst (λ (d : Cause). Ends before now (question asked) d) (seven_is c e) h in
      not_broken before now no_write k.lines k.put (λ p is rises. no_put p.name rises) k.broken),
)

-- ---- words
words_told : (before now : Outside) (c : Cause) → IsReached c → Ends before now (question None) c → number_of c ≡ 5
words_told before now c r h =
    let e = reached_ends before now (question None) c r h in
    elim e.2 [ inl k ↦ absurd k.stops | inr k ↦ ap number_of k.finds.0 ]

words_alone : (before now : Outside) (asked : Option Request) → Ends before now (question asked) cause.Words → asked ≡ None
words_alone before now None h = refl
words_alone before now (Some r) h = let f = found before now (question (Some r)) cause.Words tt (λ s. s) h in absurd f.answer.finds.answer

pub words_are_told : WordsAreTold
words_are_told = record { none = words_told; only = λ before now asked c h e. words_alone before now asked (subst (λ (d : Cause). Ends before now (question asked) d) (five_is c e) h) }
