-- What the statuses of `explain` say of a file: statements about the definitions of a run, which a public call proves.
use Rattle.std.specs.Prelude.{◌≡◌, ℕ, List, ◌++◌}
use Rattle.outer_edge.specs.Held.{SameFiles}
use Rattle.outer_edge.specs.Taken.{Appends}
use Rattle.progression.specs.Street.{Street}
use Rattle.progression.specs.declared.parts.Dir.{Dir}
use Rattle.artery_model.specs.Valid.{IsValid}
use Rattle.description_reader.specs.Described.{Described}
use Rattle.street_words.specs.Streets.{street_lines}
use Rattle.street_words.specs.Bounds.{tightest, bound_lines}
use Rattle.street_words.specs.Laws.{IsTightest, AreWarned}
use Rattle.file_kind.specs.Kinds.{kind_of}
use Rattle.file_kind.specs.declared.kind.FileKind.{FileKind}
use Rattle.file_kind.specs.declared.kind.FileKind.TheVariants as kind
use Rattle.file_words.specs.Explained.{kind_words}
use Rattle.run_inputs.specs.Reading.{Value, IsReadAs, IsRefusedFor, Reads}
use Rattle.run_inputs.specs.Status.{number_of}
use Rattle.run_inputs.specs.declared.cause.Cause.{Cause}
use Rattle.run_inputs.specs.declared.reader.ReadAs.{ReadAs}
use Rattle.run_inputs.specs.declared.reader.ReadAs.TheVariants as reader
use Rattle.maxband_run.specs.Outside.{Outside}
use Rattle.maxband_run.specs.Run.{Ends}
use Rattle.run_laws.specs.Asked as ask
use Rattle.run_laws.specs.Laws.{TellsFirst}

-- as what the other commands read a file of a kind: `show` a description, `timing` a plan, `hold` a timing, `check` and `check-links` certificates
abbrev pub reader_of : FileKind → ReadAs
reader_of kind.Timing = reader.Timing
reader_of kind.Certificate = reader.Certificate
reader_of kind.LinkCertificate = reader.LinkCertificate
reader_of kind.Plan = reader.TypedPlan
reader_of kind.Description = reader.Description

-- The bytes describe this street, and were told as it: its lines, those on bounds, which name the first signal of the least green, that no good timing's band exceeds,
-- and the lines of just the warnings whose rule holds.
pub record TellsStreet (before now : Outside) (bytes : List ℕ) : Type 0 where
  pub street : Street
  pub warnings : List ℕ
  pub description : Described bytes street
  pub valid : IsValid street
  pub told : Appends before.taken now.taken (kind_words kind.Description ++ (street_lines street ++ (bound_lines street ++ warnings)))
  pub bounded : (d : Dir) → IsTightest street d (tightest street d)
  pub warned : AreWarned street warnings

-- with status 0: the file is read as one of its kind, a description is told so, and no file has changed
pub record SaysRead (before now : Outside) (file : List ℕ) : Type 0 where
  pub bytes : List ℕ
  pub text : Reads reader.AnyFile (before.holds file) bytes
  pub read : (v : Value (reader_of (kind_of bytes))) × IsReadAs (reader_of (kind_of bytes)) bytes v
  pub street : kind_of bytes ≡ kind.Description → TellsStreet before now bytes
  pub kept : SameFiles before.holds now.holds

-- with status 3: for this cause the other commands refuse the file, which is one of its kind, with the line that was told first, and no file has changed
pub record SaysRefused (before now : Outside) (file : List ℕ) (c : Cause) : Type 0 where
  pub bytes : List ℕ
  pub line : List ℕ
  pub text : Reads reader.AnyFile (before.holds file) bytes
  pub refused : IsRefusedFor (reader_of (kind_of bytes)) bytes c line
  pub told : TellsFirst before now line
  pub kept : SameFiles before.holds now.holds

abbrev pub ExplainSays : Type 0
ExplainSays = (before now : Outside) (file : List ℕ) (c : Cause) → Ends before now (ask.explain file) c
    → (number_of c ≡ 0 → SaysRead before now file) × (number_of c ≡ 3 → SaysRefused before now file c)
