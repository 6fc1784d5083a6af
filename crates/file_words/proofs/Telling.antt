-- What is written about a file is what is told of it.
use Rattle.std.proofs.Common.{◌≡◌, ℕ, List, ◌++◌, Result, Ok, Err, refl, sym, subst, ◌∙◌, ap, append_assoc}
use Rattle.std.specs.Prelude.{IfOk}
use Rattle.narrow_fraction.specs.declared.memory.Memory.{Memory}
use Rattle.artery_model.specs.Faults.{fault_of}
use Rattle.artery_model.specs.declared.kind.Refusal.{Refusal}
use Rattle.progression.specs.Street.{Street}
use Rattle.artery_model.specs.Valid.{IsValid}
use Rattle.description_reader.specs.Described.{Described, RefusedAs}
use Rattle.description_reader.specs.Typed.{Typed, GivesPlan, GivesNone}
use Rattle.text_words.specs.Plans.{plan_words}
use Rattle.certificate_model.specs.Warrants.{Warrant}
use Rattle.plan_text.specs.CertificateReading.{certificate_of}
use Rattle.link_proof.specs.LinkWarrants.{LinkWarrant, links_of}
use Rattle.file_kind.specs.Looks.{look_of, look_line}
use Rattle.file_kind.specs.declared.kind.FileKind.TheVariants as kind
use Rattle.fault_words.specs.TextWords.{IsExplained, Adds}
use Rattle.fault_words.specs.declared.place.Document.{Document}
use Rattle.text_words.specs.Claims.{certificate_words, link_words}
use Rattle.fault_words.specs.declared.place.Document.TheVariants as document
use Rattle.run_inputs.specs.Lines.{refused_line}
use Rattle.run_inputs.specs.declared.cause.Cause.{Cause}
use Rattle.run_inputs.specs.declared.cause.Cause.TheVariants as cause
use Rattle.run_inputs.specs.declared.found.Found.{Found}
use Rattle.file_words.specs.Explained.{kind_words, read_as_line, described_words, AreFaultWords, TellsAs}

pub certificate_told : (bytes : List ℕ) (w : Warrant) (lines : List ℕ) → certificate_of bytes ≡ Ok w → lines ≡ kind_words kind.Certificate ++ certificate_words w
    → TellsAs kind.Certificate bytes cause.Done lines
certificate_told bytes w lines e l = record { words = certificate_words w; has = (w, e, refl); lines_are = l }

pub links_told : (bytes : List ℕ) (w : LinkWarrant) (lines : List ℕ) → links_of bytes ≡ Ok w → lines ≡ kind_words kind.LinkCertificate ++ link_words w
    → TellsAs kind.LinkCertificate bytes cause.Done lines
links_told bytes w lines e l = record { words = link_words w; has = (w, e, refl); lines_are = l }

-- the words about a fault, and what the bytes look like
pub look_added : (d : Document) (bytes : List ℕ) (r : Refusal) (old mid now : List ℕ) → Adds (IsExplained d bytes (fault_of r)) old mid → now ≡ mid ++ look_line (look_of bytes)
    → Adds (AreFaultWords d bytes r) old now
look_added d bytes r old mid now h e = record {
  lines = h.lines ++ look_line (look_of bytes);
  said = record { about = h.lines; explained = h.said; words_are = refl };
  added = e ∙ ap (λ m. m ++ look_line (look_of bytes)) h.added ∙ append_assoc old h.lines (look_line (look_of bytes));
}

-- ---- a document that is read
pub street_told : (bytes : List ℕ) (a : Street) (c : Cause) (lines : List ℕ) → Described bytes a → IsValid a → c ≡ cause.Done → lines ≡ kind_words kind.Description ++ described_words a
    → TellsAs kind.Description bytes c lines
street_told bytes a c lines described valid e l =
    subst (λ d. TellsAs kind.Description bytes d lines) (sym e) (record { words = described_words a; has = (a, described, valid, refl); lines_are = l })

pub typed_told : (bytes : List ℕ) (p : Typed) (c : Cause) (lines : List ℕ) → GivesPlan bytes p → c ≡ cause.Done → lines ≡ kind_words kind.Plan ++ plan_words p → TellsAs kind.Plan bytes c lines
typed_told bytes p c lines gives e l = subst (λ d. TellsAs kind.Plan bytes d lines) (sym e) (record { words = plan_words p; has = (p, gives, refl); lines_are = l })

-- ---- a document that is refused
described_as : (bytes : List ℕ) (r : Refusal) (c : Cause) (lines : List ℕ) → RefusedAs bytes (fault_of r) → c ≡ cause.Refused r
    → Adds (AreFaultWords document.Street bytes r) (refused_line r ++ read_as_line kind.Description) lines → TellsAs kind.Description bytes c lines
described_as bytes r c lines refused e h =
    subst (λ d. TellsAs kind.Description bytes d lines) (sym e)
    (record { line = refused_line r; words = h.lines; refused = (refused, refl, h.said); lines_are = h.added ∙ append_assoc (refused_line r) (read_as_line kind.Description) h.lines })

planned_as : (bytes : List ℕ) (r : Refusal) (c : Cause) (lines : List ℕ) → GivesNone bytes (fault_of r) → c ≡ cause.Refused r
    → Adds (AreFaultWords document.Plan bytes r) (refused_line r ++ read_as_line kind.Plan) lines → TellsAs kind.Plan bytes c lines
planned_as bytes r c lines refused e h =
    subst (λ d. TellsAs kind.Plan bytes d lines) (sym e)
    (record { line = refused_line r; words = h.lines; refused = (refused, refl, h.said); lines_are = h.added ∙ append_assoc (refused_line r) (read_as_line kind.Plan) h.lines })

pub description_told : (bytes : List ℕ) (r : Refusal) (result : Result Found Memory) → RefusedAs bytes (fault_of r) → IfOk result (λ a. a.cause ≡ cause.Refused r)
    → IfOk result (λ a. Adds (AreFaultWords document.Street bytes r) (refused_line r ++ read_as_line kind.Description) a.lines.items)
    → IfOk result (λ a. TellsAs kind.Description bytes a.cause a.lines.items)
description_told bytes r (Ok a) refused e h = described_as bytes r a.cause a.lines.items refused e h
description_told bytes r (Err m) refused e h = tt

pub plan_told : (bytes : List ℕ) (r : Refusal) (result : Result Found Memory) → GivesNone bytes (fault_of r) → IfOk result (λ a. a.cause ≡ cause.Refused r)
    → IfOk result (λ a. Adds (AreFaultWords document.Plan bytes r) (refused_line r ++ read_as_line kind.Plan) a.lines.items)
    → IfOk result (λ a. TellsAs kind.Plan bytes a.cause a.lines.items)
plan_told bytes r (Ok a) refused e h = planned_as bytes r a.cause a.lines.items refused e h
plan_told bytes r (Err m) refused e h = tt
