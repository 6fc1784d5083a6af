-- What is told of the bytes of a file: what it is and what stands in it, or the line of other commands and what is wrong.
use Rattle.std.specs.Prelude.{◌≡◌, ℕ, List, ◌++◌, codes, Ok, Err}
use Rattle.progression.specs.Street.{Street}
use Rattle.progression.specs.TimingRecord.{TimingRecord}
use Rattle.artery_model.specs.Faults.{fault_of}
use Rattle.artery_model.specs.Valid.{IsValid}
use Rattle.artery_model.specs.declared.kind.Refusal.{Refusal}
use Rattle.description_reader.specs.Described.{Described, RefusedAs}
use Rattle.description_reader.specs.Typed.{Typed, GivesPlan, GivesNone}
use Rattle.certificate_model.specs.Warrants.{Warrant}
use Rattle.plan_text.specs.Reading.{timing_of}
use Rattle.plan_text.specs.CertificateReading.{certificate_of}
use Rattle.plan_text.specs.declared.fault.BadText.{BadText}
use Rattle.link_proof.specs.LinkWarrants.{LinkWarrant, links_of}
use Rattle.file_kind.specs.Kinds.{kind_of}
use Rattle.file_kind.specs.Looks.{look_of, look_line}
use Rattle.file_kind.specs.declared.kind.FileKind.{FileKind}
use Rattle.file_kind.specs.declared.kind.FileKind.TheVariants as kind
use Rattle.fault_words.specs.TextWords.{IsExplained}
use Rattle.fault_words.specs.declared.place.Document.{Document}
use Rattle.fault_words.specs.declared.place.Document.TheVariants as document
use Rattle.street_words.specs.Streets.{street_lines}
use Rattle.street_words.specs.Bounds.{bound_lines}
use Rattle.street_words.specs.Warnings.{warning_lines}
use Rattle.text_words.specs.Claims.{timing_words, certificate_words, link_words}
use Rattle.text_words.specs.Plans.{plan_words}
use Rattle.text_words.specs.Faults.{bad_text_words}
use Rattle.run_inputs.specs.Lines.{refused_line, bad_text_line}
use Rattle.run_inputs.specs.declared.cause.Cause.{Cause}
use Rattle.run_inputs.specs.declared.cause.Cause.TheVariants as cause

-- ---- what a file is
abbrev pub kind_words : FileKind → List ℕ
kind_words kind.Timing = codes "a timing\n"
kind_words kind.Certificate = codes "a certificate of solve\n"
kind_words kind.LinkCertificate = codes "a certificate of links\n"
kind_words kind.Plan = codes "a plan typed in seconds\n"
kind_words kind.Description = codes "the description of a street\n"

-- as what a file was read that is refused
abbrev pub read_as_line : FileKind → List ℕ
read_as_line k = codes "read as " ++ kind_words k

-- ---- a file that is read
abbrev pub described_words : Street → List ℕ
described_words a = street_lines a ++ (bound_lines a ++ warning_lines a)

-- the bytes are read as a file of this kind, and this is what stands in it
abbrev pub HasWords : FileKind → List ℕ → List ℕ → Type 0
HasWords kind.Timing bytes words = (t : TimingRecord) × (timing_of bytes ≡ Ok t) × (words ≡ timing_words t)
HasWords kind.Certificate bytes words = (w : Warrant) × (certificate_of bytes ≡ Ok w) × (words ≡ certificate_words w)
HasWords kind.LinkCertificate bytes words = (w : LinkWarrant) × (links_of bytes ≡ Ok w) × (words ≡ link_words w)
HasWords kind.Plan bytes words = (p : Typed) × GivesPlan bytes p × (words ≡ plan_words p)
HasWords kind.Description bytes words = (a : Street) × Described bytes a × IsValid a × (words ≡ described_words a)

-- ---- a file that is refused
-- the words about a fault of a document, and what the bytes look like
pub record AreFaultWords (d : Document) (bytes : List ℕ) (r : Refusal) (words : List ℕ) : Type 0 where
  pub about : List ℕ
  pub explained : IsExplained d bytes (fault_of r) about
  pub words_are : words ≡ about ++ look_line (look_of bytes)

-- the bytes are refused as a file of this kind, with the line of other commands, and these words
abbrev pub IsRefusedWith : FileKind → List ℕ → Cause → List ℕ → List ℕ → Type 0
IsRefusedWith kind.Timing bytes (cause.BadText b) line words = (timing_of bytes ≡ Err b) × (line ≡ bad_text_line b) × (words ≡ bad_text_words bytes b)
IsRefusedWith kind.Certificate bytes (cause.BadText b) line words = (certificate_of bytes ≡ Err b) × (line ≡ bad_text_line b) × (words ≡ bad_text_words bytes b)
IsRefusedWith kind.LinkCertificate bytes (cause.BadText b) line words = (links_of bytes ≡ Err b) × (line ≡ bad_text_line b) × (words ≡ bad_text_words bytes b)
IsRefusedWith kind.Plan bytes (cause.Refused r) line words = GivesNone bytes (fault_of r) × (line ≡ refused_line r) × AreFaultWords document.Plan bytes r words
IsRefusedWith kind.Description bytes (cause.Refused r) line words = RefusedAs bytes (fault_of r) × (line ≡ refused_line r) × AreFaultWords document.Street bytes r words
IsRefusedWith k bytes c line words = ⊥

-- ---- all that is told
pub record TellsRead (k : FileKind) (bytes lines : List ℕ) : Type 0 where
  pub words : List ℕ
  pub has : HasWords k bytes words
  pub lines_are : lines ≡ kind_words k ++ words

pub record TellsRefused (k : FileKind) (bytes : List ℕ) (c : Cause) (lines : List ℕ) : Type 0 where
  pub line : List ℕ
  pub words : List ℕ
  pub refused : IsRefusedWith k bytes c line words
  pub lines_are : lines ≡ line ++ (read_as_line k ++ words)

abbrev pub TellsAs : FileKind → List ℕ → Cause → List ℕ → Type 0
TellsAs k bytes cause.Done lines = TellsRead k bytes lines
TellsAs k bytes c lines = TellsRefused k bytes c lines

-- by what the bytes are
abbrev pub Tells : List ℕ → Cause → List ℕ → Type 0
Tells bytes c lines = TellsAs (kind_of bytes) bytes c lines
