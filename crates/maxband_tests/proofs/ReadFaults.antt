-- A run that ends by a failed read has counted one, so over files that count none there is no such run.
use Rattle.std.proofs.Common.{◌≡◌, ◌≢◌, ℕ, ◌+◌, List, [], ◌∷◌, Option, inl, inr, arith}
use Rattle.outer_edge.specs.Counts.{next_count}
use Rattle.run_commands.specs.Words.{Request}
use Rattle.maxband_run.specs.Outside.{Outside}
use Rattle.run_inputs.specs.Reading.{Input, inputs, StopsReading}
use Rattle.maxband_run.specs.Run.{question, Ends}
use Rattle.run_inputs.specs.Status.{number_of}
use Rattle.run_inputs.specs.declared.cause.Cause.{Cause}
use Rattle.run_inputs.specs.declared.cause.Cause.TheVariants as cause
use Rattle.maxband_run.proofs.Reached.{finds_reached}

stop_counted : (is : List Input) (place : ℕ) (held : List ℕ → Option (List ℕ)) (before after : List ℕ → ℕ) (file : ℕ) (lines : List ℕ)
    → StopsReading is place held before after (cause.ReadFault file) lines → (name : List ℕ) × (after name ≡ next_count (before name))
stop_counted [] place held before after file lines h = absurd h
stop_counted (i ∷ is) place held before after file lines (inl h) = (i.name, h.1.once)
stop_counted (i ∷ is) place held before after file lines (inr h) = stop_counted is (place + 1) held before after file lines h.2

counted : (before now : Outside) (asked : Option Request) (file : ℕ) → Ends before now (question asked) (cause.ReadFault file) → (name : List ℕ) × (now.reads name ≡ next_count (before.reads name))
counted before now asked file h = elim h.2 [
  | inl s ↦ stop_counted (inputs (question asked).readers (question asked).names) 1 before.holds before.reads now.reads file h.0 s.stops
  | inr f ↦ absurd (finds_reached asked f.values (cause.ReadFault file) h.0 f.bytes f.finds)
]

pub no_read_fault : (before now : Outside) (asked : Option Request) (c : Cause) → ((name : List ℕ) → before.reads name ≡ 0) → ((name : List ℕ) → now.reads name ≡ 0)
    → Ends before now (question asked) c → number_of c ≢ 6
no_read_fault before now asked (cause.ReadFault file) b n h e = let r = counted before now asked file h in absurd (omega (arith, b r.0, n r.0, r.1))
no_read_fault before now asked c b n h e = absurd cc
