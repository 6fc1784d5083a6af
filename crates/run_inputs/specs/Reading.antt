-- The files that a command reads, one after the other. What a file holds is a function of its name, with the bytes where they are told.
use Rattle.std.specs.Prelude.{◌≡◌, ◌⊎◌, ℕ, ◌+◌, ◌<◌, ◌≤◌, false, List, [], ◌∷◌, length, Option, None, IfOk, IfSome, IsSome, OnErr, Result, Ok, Err}
use Rattle.narrow_fraction.specs.declared.memory.Memory.{Memory}
use Rattle.outer_edge.specs.Counts.{NoneFell, SameCounts, CountedAt}
use Rattle.outer_edge.specs.Held.{BeginsWith, SameFiles}
use Rattle.outer_edge.specs.declared.files.Files.{Ghosts}
use Rattle.progression.specs.Street.{Street}
use Rattle.progression.specs.TimingRecord.{TimingRecord}
use Rattle.artery_model.specs.Faults.{Fault, fault_of}
use Rattle.description_reader.specs.Described.{Described, RefusedAs}
use Rattle.description_reader.specs.Typed.{Typed, GivesPlan, GivesNone}
use Rattle.plan_text.specs.Reading.{timing_of}
use Rattle.certificate_model.specs.Warrants.{Warrant}
use Rattle.plan_text.specs.CertificateReading.{certificate_of}
use Rattle.plan_text.specs.declared.fault.BadText.{BadText}
use Rattle.link_proof.specs.LinkWarrants.{LinkWarrant, links_of}
use Rattle.run_inputs.specs.Timed.{timed_of, is_certificate}
use Rattle.run_inputs.specs.Lines.{refused_line, bad_text_line, cannot_read_line, too_long_line}
use Rattle.run_inputs.specs.declared.reader.ReadAs.{ReadAs}
use Rattle.run_inputs.specs.declared.reader.ReadAs.TheVariants.{Description, Timing, Certificate, LinkCertificate, Timed, TypedPlan, AnyFile}
use Rattle.run_inputs.specs.declared.found.Found.{Found}
use Rattle.run_inputs.specs.declared.found.Unread.{Unread}
use Rattle.run_inputs.specs.declared.found.Unread.TheVariants as unread
use Rattle.run_inputs.specs.declared.cause.Cause.{Cause}
use Rattle.run_inputs.specs.declared.cause.Cause.TheVariants as cause

-- ---- readers
-- what a file is read as
abbrev pub Value : ReadAs → Type 0
Value Description = Street
Value Timing = TimingRecord
Value Certificate = Warrant
Value LinkCertificate = LinkWarrant
Value Timed = Option TimingRecord
Value TypedPlan = Typed
Value AnyFile = List ℕ

-- the most bytes of a description and of a certificate
abbrev pub most_described : ℕ
most_described = 1048576

abbrev pub most_certified : ℕ
most_certified = 268435456

-- the most bytes of such a file
abbrev pub most_bytes : ReadAs → ℕ
most_bytes Description = most_described
most_bytes Timing = 1048576
most_bytes Certificate = most_certified
most_bytes LinkCertificate = most_certified
most_bytes Timed = most_certified
most_bytes TypedPlan = 1048576
most_bytes AnyFile = most_certified

-- the bytes are too many for what they begin with: where any file is read, only a certificate may have more than a description
abbrev pub IsLongFor : ReadAs → List ℕ → Type 0
IsLongFor AnyFile bytes = (most_described < length bytes) × (is_certificate bytes ≡ false)
IsLongFor r bytes = ⊥

-- which value the bytes are read as
abbrev pub IsReadAs : (r : ReadAs) → List ℕ → Value r → Type 0
IsReadAs Description bytes a = Described bytes a
IsReadAs Timing bytes t = timing_of bytes ≡ Ok t
IsReadAs Certificate bytes w = certificate_of bytes ≡ Ok w
IsReadAs LinkCertificate bytes w = links_of bytes ≡ Ok w
IsReadAs Timed bytes t = timed_of bytes ≡ Ok t
IsReadAs TypedPlan bytes p = GivesPlan bytes p
IsReadAs AnyFile bytes b = (b ≡ bytes) × ¬ IsLongFor AnyFile bytes

-- ---- refusals
-- this is the fault of the bytes
abbrev pub HasFault : (List ℕ → Fault → Type 0) → List ℕ → Cause → List ℕ → Type 0
HasFault refuses bytes (cause.Refused r) lines = refuses bytes (fault_of r) × (lines ≡ refused_line r)
HasFault refuses bytes c lines = ⊥

abbrev pub IsBadText : {V : Type 0} → (List ℕ → Result V BadText) → List ℕ → Cause → List ℕ → Type 0
IsBadText reads bytes (cause.BadText b) lines = (reads bytes ≡ Err b) × (lines ≡ bad_text_line b)
IsBadText reads bytes c lines = ⊥

-- for which cause and with which line the bytes are refused
abbrev pub IsRefusedFor : ReadAs → List ℕ → Cause → List ℕ → Type 0
IsRefusedFor Description bytes c lines = HasFault RefusedAs bytes c lines
IsRefusedFor Timing bytes c lines = IsBadText timing_of bytes c lines
IsRefusedFor Certificate bytes c lines = IsBadText certificate_of bytes c lines
IsRefusedFor LinkCertificate bytes c lines = IsBadText links_of bytes c lines
IsRefusedFor Timed bytes c lines = IsBadText timed_of bytes c lines
IsRefusedFor TypedPlan bytes c lines = HasFault GivesNone bytes c lines
IsRefusedFor AnyFile bytes c lines = ⊥

-- ---- one file
pub record Input : Type 0 where
  pub reader : ReadAs
  pub name : List ℕ

abbrev pub input : ReadAs → List ℕ → Input
input r n = record { reader = r; name = n }

-- files of these names, each with its reader
abbrev pub inputs : List ReadAs → List (List ℕ) → List Input
inputs [] names = []
inputs (r ∷ rs) [] = []
inputs (r ∷ rs) (name ∷ names) = input r name ∷ inputs rs names

-- these are the file's bytes, where it tells them, and no more than the limit
pub record IsWithinLimit (most : ℕ) (held : Option (List ℕ)) (bytes : List ℕ) : Type 0 where
  pub few : length bytes ≤ most
  pub told : IfSome held (λ x. bytes ≡ x)

-- The file has bytes within the limit of which this holds: those that it tells, and also where it tells none there are such bytes.
abbrev pub HasBytes : ℕ → Option (List ℕ) → (List ℕ → Type 0) → Type 0
HasBytes most held p = (bytes : List ℕ) × IsWithinLimit most held bytes × p bytes

-- the file is within its limit and describes this artery
abbrev pub Describes : Option (List ℕ) → Street → Type 0
Describes held a = HasBytes most_described held (λ bytes. Described bytes a)

-- the file is within its limit and is read as this
abbrev pub Reads : (r : ReadAs) → Option (List ℕ) → Value r → Type 0
Reads r held v = HasBytes (most_bytes r) held (λ bytes. IsReadAs r bytes v)

-- one more byte than the limit was taken, or the file is too long for what it begins with
abbrev pub IsTooLong : ReadAs → Option (List ℕ) → Type 0
IsTooLong r held = BeginsWith (most_bytes r + 1) held ⊎ HasBytes (most_bytes r) held (IsLongFor r)

-- Why the file that a command reads at this place isn't read, and the line of that. A read failed and was counted; or the file is too long; or
-- the bytes are refused. `before` and `after` count the failed reads of each name.
abbrev pub IsUnread : Input → ℕ → (List ℕ → Option (List ℕ)) → (List ℕ → ℕ) → (List ℕ → ℕ) → Cause → List ℕ → Type 0
IsUnread i place held before after (cause.ReadFault file) lines = (file ≡ place) × CountedAt before after i.name × (lines ≡ cannot_read_line i.name)
IsUnread i place held before after (cause.TooLong file) lines =
    (file ≡ place) × SameCounts before after × IsTooLong i.reader (held i.name) × (lines ≡ too_long_line i.name)
IsUnread i place held before after c lines = SameCounts before after × HasBytes (most_bytes i.reader) (held i.name) (λ bytes. IsRefusedFor i.reader bytes c lines)

-- ---- all files
-- a value for each reader
abbrev pub Values : List ReadAs → Type 0
Values [] = Unit {0}
Values (r ∷ rs) = Value r × Values rs

-- the file of each name is read as its value
abbrev pub AreRead : (rs : List ReadAs) → List (List ℕ) → (List ℕ → Option (List ℕ)) → Values rs → Type 0
AreRead [] names held v = Unit {0}
AreRead (r ∷ rs) [] held v = ⊥
AreRead (r ∷ rs) (name ∷ names) held v = Reads r (held name) v.0 × AreRead rs names held v.1

-- so many bytes are room for the line of each file that couldn't be read
abbrev pub IsRoomForFaults : List Input → ℕ → Type 0
IsRoomForFaults [] room = Unit {0}
IsRoomForFaults (i ∷ is) room = (length (cannot_read_line i.name) ≤ room) × IsRoomForFaults is room

-- one of the files, of which the first is read at this place, isn't read, and those before it are
abbrev pub StopsReading : List Input → ℕ → (List ℕ → Option (List ℕ)) → (List ℕ → ℕ) → (List ℕ → ℕ) → Cause → List ℕ → Type 0
StopsReading [] place held before after c lines = ⊥
StopsReading (i ∷ is) place held before after c lines =
    IsUnread i place held before after c lines ⊎ ((v : Value i.reader) × Reads i.reader (held i.name) v × StopsReading is (place + 1) held before after c lines)

-- the files tell their bytes
abbrev pub AreTold : (List ℕ → Option (List ℕ)) → List Input → Type 0
AreTold held [] = Unit {0}
AreTold held (i ∷ is) = IsSome (held i.name) × AreTold held is

-- ---- what reading does
-- no file changes, no count of failed reads falls, and no put fails
pub record LeavesFiles {F : Type 0} (files : Ghosts F) (before now : F) : Type 0 where
  pub holds : SameFiles (files.holds before) (files.holds now)
  pub reads : NoneFell (files.read_faults before) (files.read_faults now)
  pub puts : SameCounts (files.put_faults before) (files.put_faults now)

-- these files were read as their values, and no read failed
pub record WereRead {F : Type 0} (files : Ghosts F) (before now : F) (rs : List ReadAs) (names : List (List ℕ)) (values : Values rs) : Type 0 where
  pub read : AreRead rs names (files.holds before) values
  pub counts : SameCounts (files.read_faults before) (files.read_faults now)

-- what tells why a file isn't read, or want of memory
abbrev pub end_of : Unread → Result Found Memory
end_of (unread.Told a) = Ok a
end_of unread.Memory = Err (record {})

-- One of these files, of which the first is read at this place, wasn't read: what tells why, without bytes to be put, or want of memory where no read failed.
pub record WasUnread {F : Type 0} (files : Ghosts F) (before now : F) (rs : List ReadAs) (names : List (List ℕ)) (place : ℕ) (end : Unread) : Type 0 where
  pub told : IfOk (end_of end) (λ a. StopsReading (inputs rs names) place (files.holds before) (files.read_faults before) (files.read_faults now) a.cause a.lines.items)
  pub no_put : IfOk (end_of end) (λ a. a.bytes ≡ None)
  pub memory : OnErr (end_of end) (SameCounts (files.read_faults before) (files.read_faults now))

-- what neither reads nor puts leaves the files just as they were
abbrev pub LeavesAlone : {F : Type 0} → List ReadAs → Option (List ℕ) → F → F → Type 0
LeavesAlone [] None before now = now ≡ before
LeavesAlone readers output before now = Unit {0}
