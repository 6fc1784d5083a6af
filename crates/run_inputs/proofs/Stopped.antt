-- What ends a run at a file: the causes, and what they leave of the counts of failed reads.
use Rattle.std.proofs.Common.{◌≡◌, ℕ, ◌+◌, ◌≤◌, List, [], ◌∷◌, length, Option, Result, ◌⊎◌, inl, inr, subst, sym}
use Rattle.outer_edge.specs.Counts.{SameCounts}
use Rattle.outer_edge.specs.Held.{SameFiles}
use Rattle.artery_model.specs.Faults.{Fault}
use Rattle.description_reader.specs.Described.{RefusedAs}
use Rattle.description_reader.specs.Typed.{GivesNone}
use Rattle.plan_text.specs.Reading.{timing_of}
use Rattle.plan_text.specs.CertificateReading.{certificate_of}
use Rattle.link_proof.specs.LinkWarrants.{links_of}
use Rattle.plan_text.specs.declared.fault.BadText.{BadText}
use Rattle.run_inputs.specs.Timed.{timed_of}
use Rattle.run_inputs.specs.Lines.{cannot_read_line}
use Rattle.run_inputs.specs.declared.reader.ReadAs.{ReadAs}
use Rattle.run_inputs.specs.declared.reader.ReadAs.TheVariants.{Description, Timing, Certificate, LinkCertificate, Timed, TypedPlan, AnyFile}
use Rattle.run_inputs.specs.Reading.{HasFault, IsBadText, IsRefusedFor, Input, IsUnread, StopsReading, IsRoomForFaults}
use Rattle.run_inputs.specs.declared.cause.Cause.{Cause}
use Rattle.run_inputs.specs.declared.cause.Cause.TheVariants as cause

-- two functions of names are equal where their values are
pub same_at : {A : Type 0} (f g : List ℕ → A) → ((name : List ℕ) → g name ≡ f name) → g ≡ f
same_at f g h = λ i name. h name i

-- a cause that a file may give
abbrev pub IsStop : Cause → Type 0
IsStop (cause.ReadFault file) = Unit {0}
IsStop (cause.TooLong file) = Unit {0}
IsStop (cause.Refused r) = Unit {0}
IsStop (cause.BadText b) = Unit {0}
IsStop _ = ⊥

bad_text_stop : {V : Type 0} (reads : List ℕ → Result V BadText) (x : List ℕ) (c : Cause) (l : List ℕ) → IsBadText reads x c l → IsStop c
bad_text_stop reads x (cause.BadText b) l h = tt
bad_text_stop reads x c l h = absurd h

fault_stop : (refuses : List ℕ → Fault → Type 0) (x : List ℕ) (c : Cause) (l : List ℕ) → HasFault refuses x c l → IsStop c
fault_stop refuses x (cause.Refused f) l h = tt
fault_stop refuses x c l h = absurd h

refused_stop : (r : ReadAs) (x : List ℕ) (c : Cause) (l : List ℕ) → IsRefusedFor r x c l → IsStop c
refused_stop Description x c l h = fault_stop RefusedAs x c l h
refused_stop Timing x c l h = bad_text_stop timing_of x c l h
refused_stop Certificate x c l h = bad_text_stop certificate_of x c l h
refused_stop LinkCertificate x c l h = bad_text_stop links_of x c l h
refused_stop Timed x c l h = bad_text_stop timed_of x c l h
refused_stop TypedPlan x c l h = fault_stop GivesNone x c l h
refused_stop AnyFile x c l h = absurd h

module _ (held : List ℕ → Option (List ℕ)) (before after : List ℕ → ℕ) where
  pub unread_stop : (i : Input) (place : ℕ) (c : Cause) (l : List ℕ) → IsUnread i place held before after c l → IsStop c
  unread_stop i place (cause.ReadFault f) l h = tt
  unread_stop i place (cause.TooLong f) l h = tt
  unread_stop i place c l h = refused_stop i.reader h.1.0 c l h.1.2

  pub stops_stop : (is : List Input) (place : ℕ) (c : Cause) (l : List ℕ) → StopsReading is place held before after c l → IsStop c
  stops_stop [] place c l h = absurd h
  stops_stop (i ∷ is) place c l (inl h) = unread_stop i place c l h
  stops_stop (i ∷ is) place c l (inr h) = stops_stop is (place + 1) c l h.2

  -- there was room for the line, or no count of reads has changed
  unread_room : (i : Input) (place room : ℕ) (c : Cause) (l : List ℕ) → length (cannot_read_line i.name) ≤ room → IsUnread i place held before after c l
      → (length l ≤ room) ⊎ SameCounts before after
  unread_room i place room (cause.ReadFault f) l few h = inl (subst (λ x. length x ≤ room) (sym h.2) few)
  unread_room i place room (cause.TooLong f) l few h = inr h.1
  unread_room i place room c l few h = inr h.0

  pub stops_room : (is : List Input) (place room : ℕ) (c : Cause) (l : List ℕ) → IsRoomForFaults is room → StopsReading is place held before after c l
      → (length l ≤ room) ⊎ SameCounts before after
  stops_room [] place room c l few h = absurd h
  stops_room (i ∷ is) place room c l few (inl h) = unread_room i place room c l few.0 h
  stops_room (i ∷ is) place room c l few (inr h) = stops_room is (place + 1) room c l few.1 h.2

-- ---- what a later reading says of the files at entry
pub stops_later : (is : List Input) (place : ℕ) (held now : List ℕ → Option (List ℕ)) (before mid after : List ℕ → ℕ) (c : Cause) (l : List ℕ)
    → SameFiles held now → SameCounts before mid → StopsReading is place now mid after c l → StopsReading is place held before after c l
stops_later is place held now before mid after c l s k h =
    subst (λ f. StopsReading is place f before after c l) (same_at held now s) (subst (λ b. StopsReading is place now b after c l) (same_at before mid k) h)
