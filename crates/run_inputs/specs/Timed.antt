-- What a file is by its first line: a file with a timing is the text of one, or a certificate.
use Rattle.std.specs.Prelude.{ℕ, Bool, List, [], ◌∷◌, ◌++◌, ◌||◌, nat_eq, Option, Some, Result, Ok, Err, if◌then◌else◌}
use Rattle.std.specs.List.{starts_with}
use Rattle.progression.specs.TimingRecord.{TimingRecord}
use Rattle.plan_text.specs.Spelling.{head_line}
use Rattle.plan_text.specs.Reading.{timing_of}
use Rattle.plan_text.specs.CertificateText.{certificate_line}
use Rattle.plan_text.specs.SecondText.{second_line}
use Rattle.link_proof.specs.LinkWarrants.{links_line}
use Rattle.plan_text.specs.CertificateReading.{certificate_of}
use Rattle.plan_text.specs.declared.fault.BadText.{BadText}

-- its first line is this
abbrev pub has_head : List ℕ → List ℕ → Bool
has_head head bytes = starts_with nat_eq bytes (head ++ 10 ∷ [])

-- that of a timing
abbrev pub is_timing : List ℕ → Bool
is_timing bytes = has_head head_line bytes

-- that of a certificate, in either format, or of one of links
abbrev pub is_certificate : List ℕ → Bool
is_certificate bytes = has_head certificate_line bytes || (has_head second_line bytes || has_head links_line bytes)

-- this of what is read
abbrev pub of_read : {A B : Type 0} → (A → B) → Result A BadText → Result B BadText
of_read f (Ok a) = Ok (f a)
of_read f (Err b) = Err b

-- the timing that it has, or that it is a certificate without one; what begins with neither first line is refused as a certificate
abbrev pub timed_of : List ℕ → Result (Option TimingRecord) BadText
timed_of bytes = if is_timing bytes then of_read Some (timing_of bytes) else of_read (λ w. w.timing) (certificate_of bytes)
