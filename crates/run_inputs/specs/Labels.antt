-- What stands for a word in a usage, and what that word is.
use Rattle.std.specs.Prelude.{ℕ, List}
use Rattle.run_inputs.specs.declared.reader.ReadAs.{ReadAs}
use Rattle.run_inputs.specs.declared.reader.ReadAs.TheVariants as reader
use Rattle.run_inputs.specs.declared.reader.TheConstants.{DESCRIPTION, TIMING, CERTIFICATE, LINK_CERTIFICATE, TIMED, TYPED_PLAN, ANY_FILE}

pub record Label : Type 0 where
  pub name : List ℕ
  pub text : List ℕ

abbrev Text : Type 0
Text = record { now : List ℕ }

abbrev pub label : Text × Text → Label
label p = record { name = p.0.now; text = p.1.now }

-- of a file that is read so
abbrev pub reader_label : ReadAs → Label
reader_label reader.Description = label DESCRIPTION
reader_label reader.Timing = label TIMING
reader_label reader.Certificate = label CERTIFICATE
reader_label reader.LinkCertificate = label LINK_CERTIFICATE
reader_label reader.Timed = label TIMED
reader_label reader.TypedPlan = label TYPED_PLAN
reader_label reader.AnyFile = label ANY_FILE
