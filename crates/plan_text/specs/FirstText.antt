-- The first text of a certificate: its claim, its timing, its tree and a last line, each line ended by a line feed.
use Rattle.std.specs.Prelude.{ℕ, List, ◌∷◌, ◌++◌}
use Rattle.plan_text.specs.Spelling.{ended}
use Rattle.plan_text.specs.TimingTexts.{TimingText, one_band}
use Rattle.certificate_model.specs.Families.{Table, ordinary}
use Rattle.certificate_model.specs.Warrants.{WarrantWith, Warrant}
use Rattle.plan_text.specs.CertificateText.{certificate_line, claim_lines}
use Rattle.plan_text.specs.Namings.{Named, tree_lines}

-- with this first line, and the rows named over a table
abbrev pub first_lines : {T : Type 0} → TimingText T → Table → List ℕ → WarrantWith T → List (List ℕ)
first_lines text table head c = head ∷ (claim_lines text c.claim c.timing ++ tree_lines (Named table) c.nodes)

abbrev pub first_text : {T : Type 0} → TimingText T → Table → List ℕ → WarrantWith T → List ℕ
first_text text table head c = ended (first_lines text table head c)

abbrev pub certificate_text : Warrant → List ℕ
certificate_text c = first_text one_band ordinary certificate_line c
