-- What `--help` and `--version` write.
use Rattle.std.specs.Prelude.{◌≡◌, ℕ, ◌==◌, List, [], ◌∷◌, ◌++◌, Option, Some, None, codes, flat_map, if◌then◌else◌}
use Rattle.std.specs.Fmt.{decimal}
use Rattle.artery_model.specs.Bounds.{first_version, second_version}
use Rattle.description_reader.specs.KeyTable.{plan_version}
use Rattle.certificate_model.specs.Words.{line_of}
use Rattle.plan_text.specs.Spelling.{ended, head_line}
use Rattle.plan_text.specs.CertificateText.{certificate_line}
use Rattle.plan_text.specs.SecondText.{second_line}
use Rattle.link_proof.specs.LinkWarrants.{links_line}
use Rattle.run_inputs.specs.declared.cause.Cause.{Cause}
use Rattle.run_inputs.specs.declared.cause.Cause.TheVariants as cause

-- the format that a first line names: what stands after its space
abbrev pub format_of : List ℕ → List ℕ
format_of [] = []
format_of (b ∷ bs) = if b == 32 then bs else format_of bs

-- the program's version, the versions of descriptions and plans, and the formats of timings and certificates: of each the numbers by which its reader knows it
unfoldable pub version_text : List ℕ
version_text =
    ended
    (codes "maxband 1.3.0"
    ∷ line_of (codes "descriptions" ∷ decimal first_version ∷ decimal second_version ∷ [])
    ∷ line_of (codes "plans" ∷ decimal plan_version ∷ [])
    ∷ line_of (codes "timings" ∷ format_of head_line ∷ [])
    ∷ line_of (codes "certificates" ∷ format_of certificate_line ∷ format_of second_line ∷ [])
    ∷ line_of (codes "certificates of links" ∷ format_of links_line ∷ [])
    ∷ [])

-- where the statuses are told
unfoldable pub statuses_line : List ℕ
statuses_line = codes "statuses and formats: man maxband, docs/FORMATS.md\n"

-- the line of each command, in this order
abbrev pub help_text : {U : Type 0} → (U → List ℕ) → List U → List ℕ
help_text line usages = flat_map line usages ++ statuses_line

-- so, or more of one command
abbrev pub help_lines : {U : Type 0} → (U → List ℕ) → (U → List ℕ) → List U → Option U → List ℕ
help_lines line more usages None = help_text line usages
help_lines line more usages (Some u) = more u

abbrev pub HelpFinds : {U : Type 0} → (U → List ℕ) → (U → List ℕ) → List U → Option U → Cause → List ℕ → Type 0
HelpFinds line more usages about c lines = (c ≡ cause.Done) × (lines ≡ help_lines line more usages about)

abbrev pub VersionFinds : Cause → List ℕ → Type 0
VersionFinds c lines = (c ≡ cause.Done) × (lines ≡ version_text)
