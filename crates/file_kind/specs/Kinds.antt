-- What a file is, by its first line and by the keys of its root.
use Rattle.std.specs.Prelude.{◌==◌, ◌&&◌, not, ℕ, List, Bool, Option, None, Some, bytes_eq, option_map, codes, if◌then◌else◌}
use Rattle.std.specs.List.{before_first}
use Rattle.std.specs.Str.{is_utf8}
use Rattle.toml.specs.Data.{Data, table}
use Rattle.toml.specs.Parse.{parse_document}
use Rattle.description_reader.specs.Values.{has}
use Rattle.link_proof.specs.LinkWarrants.{links_line}
use Rattle.plan_text.specs.CertificateText.{certificate_line}
use Rattle.plan_text.specs.SecondText.{second_line}
use Rattle.plan_text.specs.Spelling.{head_line}
use Rattle.file_kind.specs.declared.kind.FileKind.{FileKind}
use Rattle.file_kind.specs.declared.kind.FileKind.TheVariants.{Timing, Certificate, LinkCertificate, Plan, Description}
use Rattle.file_kind.specs.declared.kind.TextFormat.{TextFormat}
use Rattle.file_kind.specs.declared.kind.TextFormat.TheVariants as format

abbrev pub is_feed : ℕ → Bool
is_feed b = b == 10

-- what stands before the first line feed, all where there is none
abbrev pub first_line : List ℕ → List ℕ
first_line bytes = before_first is_feed bytes

-- the format of the text that begins with this line
abbrev pub format_of_line : List ℕ → Option TextFormat
format_of_line line =
    if bytes_eq line head_line then Some format.Timing
    else (if bytes_eq line certificate_line then Some format.FirstCertificate
    else (if bytes_eq line second_line then Some format.SecondCertificate
    else (if bytes_eq line links_line then Some format.Links
    else None)))

abbrev pub text_format : List ℕ → Option TextFormat
text_format bytes = format_of_line (first_line bytes)

abbrev pub format_kind : TextFormat → FileKind
format_kind format.Timing = Timing
format_kind format.FirstCertificate = Certificate
format_kind format.SecondCertificate = Certificate
format_kind format.Links = LinkCertificate

abbrev pub text_kind : List ℕ → Option FileKind
text_kind bytes = option_map format_kind (text_format bytes)

-- the document that has this root
abbrev pub document_kind : Data → FileKind
document_kind root = if has root (codes "plan") && not (has root (codes "artery")) then Plan else Description

abbrev pub root_kind : Option Data → FileKind
root_kind None = Description
root_kind (Some root) = document_kind root

abbrev pub kind_or : Option FileKind → Option Data → FileKind
kind_or (Some kind) root = kind
kind_or None root = root_kind root

-- bytes that are a document with this root, where they are one
abbrev pub kind_with : List ℕ → Option Data → FileKind
kind_with bytes root = kind_or (text_kind bytes) root

-- the root of bytes that are a document
abbrev pub root_of : List ℕ → Option Data
root_of bytes = if is_utf8 bytes then option_map table (parse_document bytes) else None

-- what the bytes are
abbrev pub kind_of : List ℕ → FileKind
kind_of bytes = kind_with bytes (root_of bytes)
