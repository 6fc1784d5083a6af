-- What a run found, where no file stopped it and it ended with its answer; and which cause has a number.
use Rattle.std.proofs.Common.{◌≡◌, ℕ, List, Option, inl, inr, refl, subst}
use Rattle.run_inputs.specs.Reading.{inputs}
use Rattle.run_inputs.specs.Puts.{NamedBytes}
use Rattle.maxband_run.specs.Outside.{Outside, IsDone}
use Rattle.maxband_run.specs.Run.{Question, Answered, Ends}
use Rattle.run_inputs.specs.Status.{number_of, IsReached}
use Rattle.run_inputs.specs.declared.cause.Cause.{Cause}
use Rattle.run_inputs.specs.declared.cause.Cause.TheVariants as cause
use Rattle.run_laws.proofs.PutRead.{reached_ends}
use Rattle.run_inputs.proofs.Stopped.{IsStop, stops_stop}

pub record Found (before now : Outside) (q : Question) (c : Cause) : Type 0 where
  pub lines : List ℕ
  pub put : Option NamedBytes
  pub answer : Answered before.holds before.reads now.reads q c lines put
  pub done : IsDone before now lines put

-- ---- which cause has a number
pub zero_is : (c : Cause) → number_of c ≡ 0 → c ≡ cause.Done
zero_is cause.Done e = refl
zero_is c e = absurd cc

pub five_is : (c : Cause) → number_of c ≡ 5 → c ≡ cause.Words
five_is cause.Words e = refl
five_is c e = absurd cc

pub six_is : (c : Cause) → number_of c ≡ 6 → (file : ℕ) × (c ≡ cause.ReadFault file)
six_is (cause.ReadFault file) e = (file, refl)
six_is c e = absurd cc

pub seven_is : (c : Cause) → number_of c ≡ 7 → c ≡ cause.WriteFault
seven_is cause.WriteFault e = refl
seven_is c e = absurd cc

pub four_reached : (c : Cause) → number_of c ≡ 4 → IsReached c
four_reached (cause.ReadFault file) e = absurd cc
four_reached cause.WriteFault e = absurd cc
four_reached cause.Memory e = absurd cc
four_reached c e = tt

-- a number that is none of a fault's
pub ten_reached : (c : Cause) → number_of c ≡ 10 → IsReached c
ten_reached (cause.ReadFault file) e = absurd cc
ten_reached cause.WriteFault e = absurd cc
ten_reached cause.Memory e = absurd cc
ten_reached c e = tt

pub eleven_reached : (c : Cause) → number_of c ≡ 11 → IsReached c
eleven_reached (cause.ReadFault file) e = absurd cc
eleven_reached cause.WriteFault e = absurd cc
eleven_reached cause.Memory e = absurd cc
eleven_reached c e = tt

-- ---- what was found
pub found : (before now : Outside) (q : Question) (c : Cause) → IsReached c → (IsStop c → ⊥) → Ends before now q c → Found before now q c
found before now q c r n h =
    let e = reached_ends before now q c r h in
    elim e.2 [
      | inl s ↦ absurd (n (stops_stop before.holds before.reads now.reads (inputs q.readers q.names) 1 c e.0 s.stops))
      | inr k ↦ record { lines = e.0; put = e.1; answer = k; done = e.3 }
    ]

-- what ends with status 4 is found
four_stops : (c : Cause) → number_of c ≡ 4 → IsStop c → ⊥
four_stops (cause.ReadFault file) e s = absurd cc
four_stops (cause.TooLong file) e s = absurd cc
four_stops (cause.Refused refusal) e s = absurd cc
four_stops (cause.BadText bad) e s = absurd cc
four_stops c e s = s

ten_stops : (c : Cause) → number_of c ≡ 10 → IsStop c → ⊥
ten_stops (cause.ReadFault file) e s = absurd cc
ten_stops (cause.TooLong file) e s = absurd cc
ten_stops (cause.Refused refusal) e s = absurd cc
ten_stops (cause.BadText bad) e s = absurd cc
ten_stops c e s = s

eleven_stops : (c : Cause) → number_of c ≡ 11 → IsStop c → ⊥
eleven_stops (cause.ReadFault file) e s = absurd cc
eleven_stops (cause.TooLong file) e s = absurd cc
eleven_stops (cause.Refused refusal) e s = absurd cc
eleven_stops (cause.BadText bad) e s = absurd cc
eleven_stops c e s = s

pub found_ten : (before now : Outside) (q : Question) (c : Cause) → number_of c ≡ 10 → Ends before now q c → Found before now q c
found_ten before now q c e h = found before now q c (ten_reached c e) (ten_stops c e) h

pub found_eleven : (before now : Outside) (q : Question) (c : Cause) → number_of c ≡ 11 → Ends before now q c → Found before now q c
found_eleven before now q c e h = found before now q c (eleven_reached c e) (eleven_stops c e) h

pub found_four : (before now : Outside) (q : Question) (c : Cause) → number_of c ≡ 4 → Ends before now q c → Found before now q c
found_four before now q c e h = found before now q c (four_reached c e) (four_stops c e) h

-- and what ends with status 0
pub found_done : (before now : Outside) (q : Question) (c : Cause) → number_of c ≡ 0 → Ends before now q c → Found before now q cause.Done
found_done before now q c e h = found before now q cause.Done tt (λ s. s) (subst (λ (d : Cause). Ends before now q d) (zero_is c e) h)
