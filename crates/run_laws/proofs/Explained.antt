-- What is told of a file's bytes is one thing, but for what is said of a text that is no TOML.
use Rattle.std.proofs.Common.{◌≡◌, ℕ, List, ◌++◌, Option, Some, None, Result, Err, ◌⊎◌, inl, inr, refl, sym, ◌∙◌, ap, ap₂, subst}
use Rattle.std.specs.Prelude.{IsUtf8}
use Rattle.toml.specs.Data.{Data, Members, table}
use Rattle.toml.specs.Parse.{parse_document}
use Rattle.artery_model.specs.Faults.{Fault, fault_of}
use Rattle.artery_model.specs.declared.kind.Refusal.{Refusal}
use Rattle.artery_model.specs.declared.kind.Kind.TheVariants.{NotToml}
use Rattle.description_reader.specs.Described.{IsRefusedBy}
use Rattle.description_reader.specs.Streets.{description_fault}
use Rattle.description_reader.specs.Typed.{plan_fault}
use Rattle.plan_text.specs.Reading.{timing_of}
use Rattle.plan_text.specs.CertificateReading.{certificate_of}
use Rattle.plan_text.specs.declared.fault.BadText.{BadText}
use Rattle.link_proof.specs.LinkWarrants.{links_of}
use Rattle.file_kind.specs.Looks.{look_of, look_line}
use Rattle.file_kind.specs.declared.kind.FileKind.{FileKind}
use Rattle.file_kind.specs.declared.kind.FileKind.TheVariants as kind
use Rattle.fault_words.specs.FaultWords.{fault_words}
use Rattle.fault_words.specs.TextWords.{IsExplained}
use Rattle.fault_words.specs.declared.place.Document.{Document}
use Rattle.fault_words.specs.declared.place.Document.TheVariants as document
use Rattle.text_words.specs.Claims.{timing_words, certificate_words, link_words}
use Rattle.text_words.specs.Plans.{plan_words}
use Rattle.text_words.specs.Faults.{bad_text_words}
use Rattle.file_words.specs.Explained.{kind_words, read_as_line, described_words, HasWords, AreFaultWords, IsRefusedWith, TellsRefused, TellsAs}
use Rattle.run_inputs.specs.Lines.{refused_line, bad_text_line}
use Rattle.run_inputs.specs.declared.cause.Cause.{Cause}
use Rattle.run_inputs.specs.declared.cause.Cause.TheVariants as cause
use Rattle.run_commands.specs.declared.table.Usage.TheVariants as usage
use Rattle.run_laws.specs.Laws.{SameLines}
use Rattle.run_laws.proofs.Readers.{OneReading, same_ok, same_err, ok_apart, same_refusal}

-- a text isn't both no document and one, and has one root
no_root : (o : Option Members) (r : Members) → o ≡ None → o ≡ Some r → ⊥
no_root o r e f = absurd cc

same_root : (o : Option Members) (r q : Members) → o ≡ Some r → o ≡ Some q → r ≡ q
same_root o r q e f = cc

module _ (reader : OneReading) (bytes : List ℕ) where
  -- ---- what stands in a file that is read
  words_once : (k : FileKind) (x y : List ℕ) → HasWords k bytes x → HasWords k bytes y → x ≡ y
  words_once kind.Timing x y h k = h.2 ∙ ap timing_words (same_ok h.0 k.0 (sym h.1 ∙ k.1)) ∙ sym k.2
  words_once kind.Certificate x y h k = h.2 ∙ ap certificate_words (same_ok h.0 k.0 (sym h.1 ∙ k.1)) ∙ sym k.2
  words_once kind.LinkCertificate x y h k = h.2 ∙ ap link_words (same_ok h.0 k.0 (sym h.1 ∙ k.1)) ∙ sym k.2
  words_once kind.Plan x y h k = h.2 ∙ ap plan_words (reader.plan.plan bytes h.0 k.0 h.1 k.1) ∙ sym k.2
  words_once kind.Description x y h k = h.3 ∙ ap described_words (reader.street.artery bytes h.0 k.0 h.1 k.1) ∙ sym k.3

  -- what is read isn't refused
  read_or_refused : (k : FileKind) (c : Cause) (x line words : List ℕ) → HasWords k bytes x → IsRefusedWith k bytes c line words → ⊥
  read_or_refused kind.Timing (cause.BadText b) x line words h k = ok_apart h.0 b (sym h.1 ∙ k.0)
  read_or_refused kind.Timing c x line words h k = absurd k
  read_or_refused kind.Certificate (cause.BadText b) x line words h k = ok_apart h.0 b (sym h.1 ∙ k.0)
  read_or_refused kind.Certificate c x line words h k = absurd k
  read_or_refused kind.LinkCertificate (cause.BadText b) x line words h k = ok_apart h.0 b (sym h.1 ∙ k.0)
  read_or_refused kind.LinkCertificate c x line words h k = absurd k
  read_or_refused kind.Plan (cause.Refused r) x line words h k = reader.plan.apart bytes h.0 (fault_of r) h.1 k.0
  read_or_refused kind.Plan c x line words h k = absurd k
  read_or_refused kind.Description (cause.Refused r) x line words h k = reader.street.apart bytes h.0 (fault_of r) h.1 k.0
  read_or_refused kind.Description c x line words h k = absurd k

  -- ---- a text
  abbrev bad_lines : FileKind → BadText → List ℕ
  bad_lines k b = bad_text_line b ++ (read_as_line k ++ bad_text_words bytes b)

  bad_told : (k : FileKind) (b : BadText) (x line words : List ℕ) → x ≡ line ++ (read_as_line k ++ words) → line ≡ bad_text_line b → words ≡ bad_text_words bytes b → x ≡ bad_lines k b
  bad_told k b x line words e f g = e ∙ ap₂ (λ l w. l ++ (read_as_line k ++ w)) f g

  bad_once : {V : Type 0} (read : Result V BadText) (k : FileKind) (a b : BadText) (x y : List ℕ) → read ≡ Err a → read ≡ Err b → x ≡ bad_lines k a → y ≡ bad_lines k b
      → (cause.BadText a ≡ cause.BadText b) × (x ≡ y)
  bad_once read k a b x y h o e f = let same = same_err a b (sym h ∙ o) in (ap cause.BadText same, e ∙ ap (bad_lines k) same ∙ sym f)

  -- ---- a document
  -- the words about a fault, but where the text is no TOML
  about_once : (d : Document) (f : Fault) (x y : List ℕ) → IsExplained d bytes f x → IsExplained d bytes f y → (x ≡ y) ⊎ (IsUtf8 bytes × (parse_document bytes ≡ None))
  about_once d f x y (inl h) (inl k) = inl (h.1 ∙ sym k.1)
  about_once d f x y (inl h) (inr k) = absurd (h.0 k.0)
  about_once d f x y (inr h) (inl k) = absurd (k.0 h.0)
  about_once d f x y (inr h) (inr k) = elim h.1 [
    | inl n ↦ inr (h.0, n.0)
    | inr r ↦ elim k.1 [
      | inl n ↦ absurd (no_root (parse_document bytes) r.0 n.0 r.1)
      | inr q ↦ inl (r.2 ∙ ap (λ root. fault_words d (table root) f) (same_root (parse_document bytes) r.0 q.0 r.1 q.1) ∙ sym q.2)
    ]
  ]

  no_toml : (fault_in : Data → Option Fault) (f : Fault) → IsRefusedBy fault_in bytes f → IsUtf8 bytes → parse_document bytes ≡ None → f.kind ≡ NotToml
  no_toml fault_in f (inl h) text none = absurd (h.0 text)
  no_toml fault_in f (inr (inl h)) text none = ap (λ (g : Fault). g.kind) h.2
  no_toml fault_in f (inr (inr h)) text none = absurd (no_root (parse_document bytes) h.1 none h.2)

  abbrev document_lines : FileKind → Refusal → List ℕ → List ℕ
  document_lines k r about = refused_line r ++ (read_as_line k ++ (about ++ look_line (look_of bytes)))

  document_told : (k : FileKind) (d : Document) (r : Refusal) (x line words : List ℕ) (a : AreFaultWords d bytes r words) → x ≡ line ++ (read_as_line k ++ words) → line ≡ refused_line r
      → x ≡ document_lines k r a.about
  document_told k d r x line words a e f = e ∙ ap₂ (λ l w. l ++ (read_as_line k ++ w)) f a.words_are

  document_once : (fault_in : Data → Option Fault) (k : FileKind) (d : Document) (r q : Refusal) (x y : List ℕ) → IsRefusedBy fault_in bytes (fault_of r) → fault_of r ≡ fault_of q
      → (m n : List ℕ) → IsExplained d bytes (fault_of r) m → IsExplained d bytes (fault_of q) n → x ≡ document_lines k r m → y ≡ document_lines k q n
      → (cause.Refused r ≡ cause.Refused q) × SameLines usage.Explain (cause.Refused r) x y
  document_once fault_in k d r q x y refused e m n h o f g =
      let same = same_refusal r q e in
      let here = subst (λ z. IsExplained d bytes z n) (sym e) o in (
        ap cause.Refused same,
        elim (about_once d (fault_of r) m n h here) [
          | inl s ↦ inl (f ∙ ap₂ (λ z w. document_lines k z w) same s ∙ sym g)
          | inr none ↦ inr (no_toml fault_in (fault_of r) refused none.0 none.1)
        ],
      )

  -- ---- all that is told
  refused_once : (k : FileKind) (c d : Cause) (x y : List ℕ) → TellsRefused k bytes c x → TellsRefused k bytes d y → (c ≡ d) × SameLines usage.Explain c x y
  refused_once kind.Timing (cause.BadText a) (cause.BadText b) x y h k =
      bad_once (timing_of bytes) kind.Timing a b x y h.refused.0 k.refused.0 (bad_told kind.Timing a x h.line h.words h.lines_are h.refused.1 h.refused.2)
      (bad_told kind.Timing b y k.line k.words k.lines_are k.refused.1 k.refused.2)
  refused_once kind.Timing (cause.BadText a) d x y h k = absurd k.refused
  refused_once kind.Timing c d x y h k = absurd h.refused
  refused_once kind.Certificate (cause.BadText a) (cause.BadText b) x y h k =
      bad_once (certificate_of bytes) kind.Certificate a b x y h.refused.0 k.refused.0 (bad_told kind.Certificate a x h.line h.words h.lines_are h.refused.1 h.refused.2)
      (bad_told kind.Certificate b y k.line k.words k.lines_are k.refused.1 k.refused.2)
  refused_once kind.Certificate (cause.BadText a) d x y h k = absurd k.refused
  refused_once kind.Certificate c d x y h k = absurd h.refused
  refused_once kind.LinkCertificate (cause.BadText a) (cause.BadText b) x y h k =
      bad_once (links_of bytes) kind.LinkCertificate a b x y h.refused.0 k.refused.0 (bad_told kind.LinkCertificate a x h.line h.words h.lines_are h.refused.1 h.refused.2)
      (bad_told kind.LinkCertificate b y k.line k.words k.lines_are k.refused.1 k.refused.2)
  refused_once kind.LinkCertificate (cause.BadText a) d x y h k = absurd k.refused
  refused_once kind.LinkCertificate c d x y h k = absurd h.refused
  refused_once kind.Plan (cause.Refused r) (cause.Refused q) x y h k =
      document_once plan_fault kind.Plan document.Plan r q x y h.refused.0 (reader.plan.fault bytes (fault_of r) (fault_of q) h.refused.0 k.refused.0)
      h.refused.2.about k.refused.2.about h.refused.2.explained k.refused.2.explained
      (document_told kind.Plan document.Plan r x h.line h.words h.refused.2 h.lines_are h.refused.1)
      (document_told kind.Plan document.Plan q y k.line k.words k.refused.2 k.lines_are k.refused.1)
  refused_once kind.Plan (cause.Refused r) d x y h k = absurd k.refused
  refused_once kind.Plan c d x y h k = absurd h.refused
  refused_once kind.Description (cause.Refused r) (cause.Refused q) x y h k =
      document_once description_fault kind.Description document.Street r q x y h.refused.0 (reader.street.fault bytes (fault_of r) (fault_of q) h.refused.0 k.refused.0)
      h.refused.2.about k.refused.2.about h.refused.2.explained k.refused.2.explained
      (document_told kind.Description document.Street r x h.line h.words h.refused.2 h.lines_are h.refused.1)
      (document_told kind.Description document.Street q y k.line k.words k.refused.2 k.lines_are k.refused.1)
  refused_once kind.Description (cause.Refused r) d x y h k = absurd k.refused
  refused_once kind.Description c d x y h k = absurd h.refused

  pub tells_once : (k : FileKind) (c d : Cause) (x y : List ℕ) → TellsAs k bytes c x → TellsAs k bytes d y → (c ≡ d) × SameLines usage.Explain c x y
  tells_once k cause.Done cause.Done x y h o = (refl, h.lines_are ∙ ap (λ w. kind_words k ++ w) (words_once k h.words o.words h.has o.has) ∙ sym o.lines_are)
  tells_once k cause.Done d x y h o = absurd (read_or_refused k d h.words o.line o.words h.has o.refused)
  tells_once k c cause.Done x y h o = absurd (read_or_refused k c o.words h.line h.words o.has h.refused)
  tells_once k c d x y h o = refused_once k c d x y h o
