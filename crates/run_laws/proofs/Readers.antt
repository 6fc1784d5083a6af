-- Files that tell their bytes are read as one thing, or stop the reading in one way.
use Rattle.std.proofs.Common.{◌≡◌, ℕ, ◌+◌, ◌<◌, ◌≤◌, List, [], ◌∷◌, length, Option, Some, None, Result, Ok, Err, ◌⊎◌, inl, inr, sym, ◌∙◌, ap, refl, subst, arith}
use Rattle.std.specs.Prelude.{IsSome}
use Rattle.outer_edge.specs.Held.{BeginsWith}
use Rattle.artery_model.specs.Faults.{Fault, fault_of}
use Rattle.artery_model.specs.declared.kind.Refusal.{Refusal}
use Rattle.description_reader.specs.Described as described
use Rattle.description_reader.specs.Typed as typed
use Rattle.plan_text.specs.Reading.{timing_of}
use Rattle.plan_text.specs.CertificateReading.{certificate_of}
use Rattle.link_proof.specs.LinkWarrants.{links_of}
use Rattle.plan_text.specs.declared.fault.BadText.{BadText}
use Rattle.run_inputs.specs.Timed.{timed_of}
use Rattle.run_inputs.specs.Lines.{refused_line, bad_text_line, too_long_line}
use Rattle.run_inputs.specs.Reading.{HasFault, IsBadText, Value}
use Rattle.run_inputs.specs.declared.reader.ReadAs.{ReadAs}
use Rattle.run_inputs.specs.declared.reader.ReadAs.TheVariants.{Description, Timing, Certificate, LinkCertificate, Timed, TypedPlan, AnyFile}
use Rattle.run_inputs.specs.Reading.{input, inputs, most_bytes, IsReadAs, IsRefusedFor, IsLongFor, IsTooLong, Input, HasBytes, Reads, IsUnread, Values, AreRead, StopsReading, AreTold}
use Rattle.run_inputs.specs.Status.{IsReached}
use Rattle.run_inputs.specs.declared.cause.Cause.{Cause}
use Rattle.run_inputs.specs.declared.cause.Cause.TheVariants as cause
use Rattle.run_laws.proofs.Holding.{has_told}

-- ---- bytes
pub same_refusal : (r s : Refusal) → fault_of r ≡ fault_of s → r ≡ s
same_refusal r s e = λ i. record { kind = (e i).kind; place = (e i).place }

pub same_ok : {T : Type 0} (t u : T) → ◌≡◌ {A = Result T BadText} (Ok t) (Ok u) → t ≡ u
same_ok t u e = cc

pub same_err : {T : Type 0} (b d : BadText) → ◌≡◌ {A = Result T BadText} (Err b) (Err d) → b ≡ d
same_err b d e = cc

pub ok_apart : {T : Type 0} (t : T) (b : BadText) → ◌≡◌ {A = Result T BadText} (Ok t) (Err b) → ⊥
ok_apart t b e = cc

some_of : (o : Option (List ℕ)) → IsSome o → (x : List ℕ) × (o ≡ Some x)
some_of None s = absurd cc
some_of (Some x) s = (x, refl)

too_long : (n : ℕ) (x : List ℕ) → BeginsWith (n + 1) (Some x) → n < length x
too_long n x b = omega (arith, b.long, b.begins.inside)

reads_told : (r : ReadAs) (o : Option (List ℕ)) (x : List ℕ) (v : Value r) → o ≡ Some x → Reads r o v → (length x ≤ most_bytes r) × IsReadAs r x v
reads_told r o x v e h = has_told (most_bytes r) x (λ y. IsReadAs r y v) (subst (λ k. HasBytes (most_bytes r) k (λ y. IsReadAs r y v)) e h)

-- more bytes than the limit, or too many for what they begin with
abbrev IsLong : ReadAs → List ℕ → Type 0
IsLong r x = (most_bytes r < length x) ⊎ IsLongFor r x

long_told : (r : ReadAs) (o : Option (List ℕ)) (x : List ℕ) → o ≡ Some x → IsTooLong r o → IsLong r x
long_told r o x e (inl h) = inl (too_long (most_bytes r) x (subst (λ k. BeginsWith (most_bytes r + 1) k) e h))
long_told r o x e (inr h) = inr (has_told (most_bytes r) x (IsLongFor r) (subst (λ k. HasBytes (most_bytes r) k (IsLongFor r)) e h)).1

value_long : (r : ReadAs) (x : List ℕ) (v : Value r) → IsReadAs r x v → IsLongFor r x → ⊥
value_long AnyFile x v h l = h.1 l
value_long r x v h l = absurd l

refused_long : (r : ReadAs) (x : List ℕ) (c : Cause) (lines : List ℕ) → IsRefusedFor r x c lines → IsLongFor r x → ⊥
refused_long AnyFile x c lines h l = h
refused_long r x c lines h l = absurd l

-- a reached end of a file is a refusal, or the file is too long
unread_told : (i : Input) (place : ℕ) (held : List ℕ → Option (List ℕ)) (before after : List ℕ → ℕ) (x : List ℕ) (c : Cause) (lines : List ℕ)
    → held i.name ≡ Some x → IsReached c → IsUnread i place held before after c lines
    → ((length x ≤ most_bytes i.reader) × IsRefusedFor i.reader x c lines) ⊎ ((c ≡ cause.TooLong place) × (lines ≡ too_long_line i.name) × IsLong i.reader x)
unread_told i place held before after x (cause.ReadFault f) lines e n h = absurd n
unread_told i place held before after x (cause.TooLong f) lines e n h =
    inr (ap cause.TooLong h.0, h.3, long_told i.reader (held i.name) x e h.2)
unread_told i place held before after x cause.WriteFault lines e n h = absurd n
unread_told i place held before after x cause.Memory lines e n h = absurd n
unread_told i place held before after x c lines e n h =
    inl (has_told (most_bytes i.reader) x (λ y. IsRefusedFor i.reader y c lines) (subst (λ o. HasBytes (most_bytes i.reader) o (λ y. IsRefusedFor i.reader y c lines)) e h.1))

refused_apart : (r : ReadAs) (x : List ℕ) (c : Cause) (lines : List ℕ) → length x ≤ most_bytes r → IsRefusedFor r x c lines → IsLong r x → ⊥
refused_apart r x c lines few h (inl more) = omega (arith, few, more)
refused_apart r x c lines few h (inr long) = refused_long r x c lines h long

-- ---- texts
module _ {V : Type 0} (reads : List ℕ → Result V BadText) (x : List ℕ) where
  text_apart : (v : V) (c : Cause) (lines : List ℕ) → reads x ≡ Ok v → IsBadText reads x c lines → ⊥
  text_apart v (cause.BadText b) lines h k = ok_apart v b (sym h ∙ k.0)
  text_apart v c lines h k = absurd k

  one_bad_text : (c d : Cause) (l m : List ℕ) → IsBadText reads x c l → IsBadText reads x d m → (c ≡ d) × (l ≡ m)
  one_bad_text (cause.BadText a) (cause.BadText b) l m h k = let e = same_err a b (sym h.0 ∙ k.0) in (ap cause.BadText e, h.1 ∙ ap bad_text_line e ∙ sym k.1)
  one_bad_text (cause.BadText a) d l m h k = absurd k
  one_bad_text c d l m h k = absurd h

-- ---- documents
module _ (refuses : List ℕ → Fault → Type 0) (x : List ℕ) where
  fault_apart : (c : Cause) (lines : List ℕ) → ((f : Fault) → refuses x f → ⊥) → HasFault refuses x c lines → ⊥
  fault_apart (cause.Refused f) lines apart k = apart (fault_of f) k.0
  fault_apart c lines apart k = absurd k

  one_fault : ((f g : Fault) → refuses x f → refuses x g → f ≡ g) → (c d : Cause) (l m : List ℕ) → HasFault refuses x c l → HasFault refuses x d m → (c ≡ d) × (l ≡ m)
  one_fault once (cause.Refused f) (cause.Refused g) l m h k = let e = same_refusal f g (once (fault_of f) (fault_of g) h.0 k.0) in (ap cause.Refused e, h.1 ∙ ap refused_line e ∙ sym k.1)
  one_fault once (cause.Refused f) d l m h k = absurd k
  one_fault once c d l m h k = absurd h

-- any bytes describe at most one artery, give at most one plan, and have at most one fault as either
pub record OneReading : Type 0 where
  pub street : described.OneAnswer
  pub plan : typed.OneTyped

module _ (reader : OneReading) where
  -- ---- the readers
  one_value : (r : ReadAs) (x : List ℕ) (u v : Value r) → IsReadAs r x u → IsReadAs r x v → u ≡ v
  one_value Description x u v h k = reader.street.artery x u v h k
  one_value Timing x u v h k = same_ok u v (sym h ∙ k)
  one_value Certificate x u v h k = same_ok u v (sym h ∙ k)
  one_value LinkCertificate x u v h k = same_ok u v (sym h ∙ k)
  one_value Timed x u v h k = same_ok u v (sym h ∙ k)
  one_value TypedPlan x u v h k = reader.plan.plan x u v h k
  one_value AnyFile x u v h k = h.0 ∙ sym k.0

  value_apart : (r : ReadAs) (x : List ℕ) (v : Value r) (c : Cause) (lines : List ℕ) → IsReadAs r x v → IsRefusedFor r x c lines → ⊥
  value_apart Description x v c lines h k = fault_apart described.RefusedAs x c lines (λ f r. reader.street.apart x v f h r) k
  value_apart Timing x v c lines h k = text_apart timing_of x v c lines h k
  value_apart Certificate x v c lines h k = text_apart certificate_of x v c lines h k
  value_apart LinkCertificate x v c lines h k = text_apart links_of x v c lines h k
  value_apart Timed x v c lines h k = text_apart timed_of x v c lines h k
  value_apart TypedPlan x v c lines h k = fault_apart typed.GivesNone x c lines (λ f r. reader.plan.apart x v f h r) k
  value_apart AnyFile x v c lines h k = k

  one_refusal : (r : ReadAs) (x : List ℕ) (c d : Cause) (l m : List ℕ) → IsRefusedFor r x c l → IsRefusedFor r x d m → (c ≡ d) × (l ≡ m)
  one_refusal Description x c d l m h k = one_fault described.RefusedAs x (reader.street.fault x) c d l m h k
  one_refusal Timing x c d l m h k = one_bad_text timing_of x c d l m h k
  one_refusal Certificate x c d l m h k = one_bad_text certificate_of x c d l m h k
  one_refusal LinkCertificate x c d l m h k = one_bad_text links_of x c d l m h k
  one_refusal Timed x c d l m h k = one_bad_text timed_of x c d l m h k
  one_refusal TypedPlan x c d l m h k = one_fault typed.GivesNone x (reader.plan.fault x) c d l m h k
  one_refusal AnyFile x c d l m h k = absurd h

  -- ---- one file
  pub one_read : (r : ReadAs) (o : Option (List ℕ)) (u v : Value r) → IsSome o → Reads r o u → Reads r o v → u ≡ v
  one_read r o u v told h k = let s = some_of o told in
      one_value r s.0 u v (reads_told r o s.0 u s.1 h).1 (reads_told r o s.0 v s.1 k).1

  module _ (held : List ℕ → Option (List ℕ)) (before after : List ℕ → ℕ) where
    -- a file that is read doesn't end the run
    pub read_apart : (i : Input) (place : ℕ) (v : Value i.reader) (c : Cause) (lines : List ℕ) → IsSome (held i.name) → IsReached c
        → Reads i.reader (held i.name) v → IsUnread i place held before after c lines → ⊥
    read_apart i place v c lines told n h k =
        let s = some_of (held i.name) told in
        let r = reads_told i.reader (held i.name) s.0 v s.1 h in
        elim (unread_told i place held before after s.0 c lines s.1 n k) [
          | inl p ↦ value_apart i.reader s.0 v c lines r.1 p.1
          | inr p ↦ elim p.2 [ inl more ↦ omega (arith, r.0, more) | inr long ↦ value_long i.reader s.0 v r.1 long ]
        ]

    one_unread : (i : Input) (place : ℕ) (c d : Cause) (l m : List ℕ) → IsSome (held i.name) → IsReached c → IsReached d
        → IsUnread i place held before after c l → IsUnread i place held before after d m → (c ≡ d) × (l ≡ m)
    one_unread i place c d l m told n o h k =
        let s = some_of (held i.name) told in
        elim (unread_told i place held before after s.0 c l s.1 n h) [
          | inl p ↦ elim (unread_told i place held before after s.0 d m s.1 o k) [
            | inl q ↦ one_refusal i.reader s.0 c d l m p.1 q.1
            | inr q ↦ absurd (refused_apart i.reader s.0 c l p.0 p.1 q.2)
          ]
          | inr p ↦ elim (unread_told i place held before after s.0 d m s.1 o k) [
            | inl q ↦ absurd (refused_apart i.reader s.0 d m q.0 q.1 p.2)
            | inr q ↦ (p.0 ∙ sym q.0, p.1 ∙ sym q.1)
          ]
        ]

    -- ---- all files
    pub one_stop : (is : List Input) (place : ℕ) (c d : Cause) (l m : List ℕ) → AreTold held is → IsReached c → IsReached d
        → StopsReading is place held before after c l → StopsReading is place held before after d m → (c ≡ d) × (l ≡ m)
    one_stop [] place c d l m told n o h k = absurd h
    one_stop (i ∷ is) place c d l m told n o (inl h) (inl k) = one_unread i place c d l m told.0 n o h k
    one_stop (i ∷ is) place c d l m told n o (inl h) (inr k) = absurd (read_apart i place k.0 c l told.0 n k.1 h)
    one_stop (i ∷ is) place c d l m told n o (inr h) (inl k) = absurd (read_apart i place h.0 d m told.0 o h.1 k)
    one_stop (i ∷ is) place c d l m told n o (inr h) (inr k) = one_stop is (place + 1) c d l m told.1 n o h.2 k.2

    -- files that are all read don't end the run
    pub all_apart : (rs : List ReadAs) (names : List (List ℕ)) (place : ℕ) (v : Values rs) (c : Cause) (l : List ℕ) → AreTold held (inputs rs names) → IsReached c
        → AreRead rs names held v → StopsReading (inputs rs names) place held before after c l → ⊥
    all_apart [] names place v c l told n h k = k
    all_apart (r ∷ rs) [] place v c l told n h k = k
    all_apart (r ∷ rs) (name ∷ names) place v c l told n h (inl k) = read_apart (input r name) place v.0 c l told.0 n h.0 k
    all_apart (r ∷ rs) (name ∷ names) place v c l told n h (inr k) = all_apart rs names (place + 1) v.1 c l told.1 n h.1 k.2

    pub same_values : (rs : List ReadAs) (names : List (List ℕ)) (u v : Values rs) → AreTold held (inputs rs names) → AreRead rs names held u → AreRead rs names held v → u ≡ v
    same_values [] names u v told h k = refl
    same_values (r ∷ rs) [] u v told h k = absurd h
    same_values (r ∷ rs) (name ∷ names) u v told h k =
        let first = one_read r (held name) u.0 v.0 told.0 h.0 k.0 in
        let rest = same_values rs names u.1 v.1 told.1 h.1 k.1 in
        λ j. (first j, rest j)
