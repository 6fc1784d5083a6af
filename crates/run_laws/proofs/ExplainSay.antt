-- What the statuses of `explain` say of a file.
use Rattle.std.proofs.Common.{◌≡◌, ℕ, List, ◌++◌, Option, None, inl, inr, ap, subst, ◌∙◌}
use Rattle.outer_edge.specs.Held.{SameFiles}
use Rattle.outer_edge.specs.Taken.{Appends}
use Rattle.street_words.specs.Warnings.{warning_lines}
use Rattle.street_words.specs.Laws.{BoundsSay, WarningsSay}
use Rattle.file_kind.specs.Kinds.{kind_of}
use Rattle.file_kind.specs.declared.kind.FileKind.{FileKind}
use Rattle.file_kind.specs.declared.kind.FileKind.TheVariants as kind
use Rattle.file_words.specs.Explained.{kind_words, read_as_line, HasWords, IsRefusedWith, TellsRead, TellsRefused}
use Rattle.run_inputs.specs.Puts.{NamedBytes}
use Rattle.run_inputs.specs.Reading.{Value, IsReadAs, IsRefusedFor}
use Rattle.run_inputs.specs.Status.{number_of}
use Rattle.run_inputs.specs.declared.cause.Cause.{Cause}
use Rattle.run_inputs.specs.declared.cause.Cause.TheVariants as cause
use Rattle.maxband_run.specs.Outside.{Outside, IsPut, IsDone}
use Rattle.maxband_run.specs.Run.{Answered, Ends}
use Rattle.run_laws.specs.Asked as ask
use Rattle.run_laws.specs.Laws.{TellsFirst}
use Rattle.run_laws.specs.ExplainLaws.{reader_of, TellsStreet, SaysRead, SaysRefused, ExplainSays}
use Rattle.run_laws.proofs.Found.{Found, found_done}

-- ---- what the bytes of a file of a kind are read as, and for what they are refused
read_as : (k : FileKind) (bytes words : List ℕ) → HasWords k bytes words → (v : Value (reader_of k)) × IsReadAs (reader_of k) bytes v
read_as kind.Timing bytes words h = (h.0, h.1)
read_as kind.Certificate bytes words h = (h.0, h.1)
read_as kind.LinkCertificate bytes words h = (h.0, h.1)
read_as kind.Plan bytes words h = (h.0, h.1)
read_as kind.Description bytes words h = (h.0, h.1)

refused_for : (k : FileKind) (bytes : List ℕ) (c : Cause) (line words : List ℕ) → IsRefusedWith k bytes c line words → IsRefusedFor (reader_of k) bytes c line
refused_for kind.Timing bytes (cause.BadText b) line words h = (h.0, h.1)
refused_for kind.Timing bytes c line words h = absurd h
refused_for kind.Certificate bytes (cause.BadText b) line words h = (h.0, h.1)
refused_for kind.Certificate bytes c line words h = absurd h
refused_for kind.LinkCertificate bytes (cause.BadText b) line words h = (h.0, h.1)
refused_for kind.LinkCertificate bytes c line words h = absurd h
refused_for kind.Plan bytes (cause.Refused r) line words h = (h.0, h.1)
refused_for kind.Plan bytes c line words h = absurd h
refused_for kind.Description bytes (cause.Refused r) line words h = (h.0, h.1)
refused_for kind.Description bytes c line words h = absurd h

module _ (before now : Outside) where
  -- where nothing is put no file changes
  keeps : (lines : List ℕ) (put : Option NamedBytes) → put ≡ None → IsDone before now lines put → SameFiles before.holds now.holds
  keeps lines put e d = subst (λ (p : Option NamedBytes). IsPut p before.holds now.holds) e d.files

  -- ---- a description
  tells_street : BoundsSay → WarningsSay → (bytes lines : List ℕ) → TellsRead kind.Description bytes lines → Appends before.taken now.taken lines → TellsStreet before now bytes
  tells_street bounds warns bytes lines r told = record {
    street = r.has.0;
    warnings = warning_lines r.has.0;
    description = r.has.1;
    valid = r.has.2;
    told = subst (λ l. Appends before.taken now.taken l) (r.lines_are ∙ ap (λ w. kind_words kind.Description ++ w) r.has.3) told;
    bounded = bounds r.has.0 r.has.2;
    warned = warns.lines r.has.0;
  }

  module _ (file : List ℕ) where
    says_read : BoundsSay → WarningsSay → Found before now (ask.explain file) cause.Done → SaysRead before now file
    says_read bounds warns f =
        let bytes = f.answer.values.0 in
        let r = f.answer.finds.finds in
        record {
          bytes = bytes;
          text = f.answer.read.0;
          read = read_as (kind_of bytes) bytes r.words r.has;
          street = λ e. tells_street bounds warns bytes f.lines (subst (λ k. TellsRead k bytes f.lines) e r) f.done.written;
          kept = keeps f.lines f.put f.answer.put_is f.done;
        }

    -- ---- a refusal
    tells_first : (line more lines : List ℕ) → lines ≡ line ++ more → Appends before.taken now.taken lines → TellsFirst before now line
    tells_first line more lines e told = (more, subst (λ l. Appends before.taken now.taken l) e told)

    says_refused : (c : Cause) (lines : List ℕ) (put : Option NamedBytes) (a : Answered before.holds before.reads now.reads (ask.explain file) c lines put)
        → TellsRefused (kind_of a.values.0) a.values.0 c lines → IsDone before now lines put → SaysRefused before now file c
    says_refused c lines put a r d = record {
      bytes = a.values.0;
      line = r.line;
      text = a.read.0;
      refused = refused_for (kind_of a.values.0) a.values.0 c r.line r.words r.refused;
      told = tells_first r.line (read_as_line (kind_of a.values.0) ++ r.words) lines r.lines_are d.written;
      kept = keeps lines put a.put_is d;
    }

    three : (c : Cause) → number_of c ≡ 3 → Ends before now (ask.explain file) c → SaysRefused before now file c
    three (cause.Refused r) e h = elim h.2 [
      | inl s ↦ elim s.stops [ inl u ↦ absurd u.1.2 | inr n ↦ absurd n.2 ]
      | inr a ↦ says_refused (cause.Refused r) h.0 h.1 a a.finds.finds h.3
    ]
    three (cause.BadText b) e h = elim h.2 [
      | inl s ↦ elim s.stops [ inl u ↦ absurd u.1.2 | inr n ↦ absurd n.2 ]
      | inr a ↦ says_refused (cause.BadText b) h.0 h.1 a a.finds.finds h.3
    ]
    three c e h = absurd cc

pub explain_says : BoundsSay → WarningsSay → ExplainSays
explain_says bounds warns before now file c h = (
  (λ e. says_read before now file bounds warns (found_done before now (ask.explain file) c e h)),
  (λ e. three before now file c e h),
)
