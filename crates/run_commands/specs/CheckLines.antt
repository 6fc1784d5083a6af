-- The lines of what `check` and `check-links` find.
use Rattle.std.specs.Prelude.{ℕ, List, [], ◌++◌, codes, Option, None, Some}
use Rattle.std.specs.Fmt.{decimal, signed_decimal}
use Rattle.rational_theory.specs.Rational.{ℚ}
use Rattle.quantity_text.specs.Exact.{exact_spelling}
use Rattle.named_row.specs.declared.names.RowId.{RowId}
use Rattle.named_row.specs.declared.names.Place.{Place}
use Rattle.certificate_model.specs.declared.certificate.Claim.{Claim}
use Rattle.certificate_model.specs.declared.certificate.Claim.TheVariants.{Best, NoTiming, Stopped}
use Rattle.certificate_checker.specs.Refusals.{Reject}
use Rattle.certificate_checker.specs.declared.reject.Reject.TheVariants as reject
use Rattle.certificate_model.specs.Families.{Table, ordinary}
use Rattle.diagram_print.specs.Names.{row_text_in, place_text}
use Rattle.link_space.specs.declared.failing.LinkFailing.{LinkFailing}
use Rattle.link_space.specs.declared.failing.LinkFailing.TheVariants as failing
use Rattle.link_proof.specs.LinkFamilies.{links}
use Rattle.link_proof.specs.LinkRefusals.{LinkReject}
use Rattle.run_commands.specs.Lines.{failing_text}

-- ---- accepted
abbrev pub best_line : ℚ → List ℕ
best_line value = codes "accepted best " ++ (exact_spelling value ++ codes "\n")

abbrev pub bound_line : ℚ → List ℕ
bound_line bound = codes "accepted open bound " ++ (exact_spelling bound ++ codes "\n")

abbrev pub between_line : ℚ → ℚ → List ℕ
between_line bound value = codes "accepted open bound " ++ (exact_spelling bound ++ (codes " value " ++ (exact_spelling value ++ codes "\n")))

abbrev pub open_line : ℚ → Option ℚ → List ℕ
open_line bound None = bound_line bound
open_line bound (Some value) = between_line bound value

abbrev pub accepted_line : Claim → List ℕ
accepted_line (Best value) = best_line value
accepted_line NoTiming = codes "accepted none\n"
accepted_line (Stopped bound value) = open_line bound value

-- ---- rejected
-- a timing that breaks the rule of this text
abbrev pub timing_line : List ℕ → List ℕ
timing_line rule = codes "rejected timing " ++ (rule ++ codes "\n")

abbrev pub value_line : ℚ → ℚ → List ℕ
value_line kept claimed = codes "rejected value kept " ++ (exact_spelling kept ++ (codes " claimed " ++ (exact_spelling claimed ++ codes "\n")))

abbrev pub below_line : ℚ → ℚ → List ℕ
below_line bound value = codes "rejected bound " ++ (exact_spelling bound ++ (codes " value " ++ (exact_spelling value ++ codes "\n")))

-- a row of a leaf over this table of families, with what is wrong with it
abbrev pub leaf_line : Table → List ℕ → ℕ → RowId → List ℕ
leaf_line table fault leaf row = codes "rejected " ++ (fault ++ (codes " leaf " ++ (decimal leaf ++ (codes " " ++ (row_text_in table row ++ codes "\n")))))

abbrev pub wide_line : Table → ℕ → ℕ → RowId → Place → List ℕ
wide_line table signals leaf row place =
    codes "rejected wide leaf " ++ (decimal leaf ++ (codes " " ++ (row_text_in table row ++ (codes " " ++ (place_text signals place ++ codes "\n")))))

abbrev pub weak_line : ℕ → ℕ → Place → List ℕ
weak_line signals leaf place = codes "rejected weak leaf " ++ (decimal leaf ++ (codes " " ++ (place_text signals place ++ codes "\n")))

abbrev pub split_line : ℕ → List ℕ
split_line node = codes "rejected split node " ++ (decimal node ++ codes "\n")

-- the line of a refusal, on an artery with so many signals; want of memory has none
abbrev pub rejected_line : ℕ → Reject → List ℕ
rejected_line signals (reject.TimingFails f) = timing_line (failing_text f)
rejected_line signals (reject.ValueDiffers kept claimed) = value_line kept claimed
rejected_line signals (reject.BoundBelow bound value) = below_line bound value
rejected_line signals (reject.SplitOutside node) = split_line node
rejected_line signals (reject.NoSuchRow leaf row) = leaf_line ordinary (codes "row") leaf row
rejected_line signals (reject.Negative leaf row) = leaf_line ordinary (codes "negative") leaf row
rejected_line signals (reject.Wide leaf row at) = wide_line ordinary signals leaf row at.place
rejected_line signals (reject.LeafTooWeak leaf place) = weak_line signals leaf place
rejected_line signals reject.Memory = []

-- ---- a certificate of link timings
-- the text that names a broken rule: of one of the base as for any timing
abbrev pub link_failing_text : LinkFailing → List ℕ
link_failing_text (failing.Base f) = failing_text f
link_failing_text (failing.Ratio i) = codes "ratio link " ++ decimal i
link_failing_text (failing.Outbound i signal x) = codes "outbound link " ++ (decimal i ++ (codes " signal " ++ (decimal signal ++ (codes " tick " ++ signed_decimal x))))
link_failing_text (failing.Inbound i signal x) = codes "inbound link " ++ (decimal i ++ (codes " signal " ++ (decimal signal ++ (codes " tick " ++ signed_decimal x))))

-- the line of its refusal, in the same words
abbrev pub link_rejected_line : ℕ → LinkReject → List ℕ
link_rejected_line signals (reject.TimingFails f) = timing_line (link_failing_text f)
link_rejected_line signals (reject.ValueDiffers kept claimed) = value_line kept claimed
link_rejected_line signals (reject.BoundBelow bound value) = below_line bound value
link_rejected_line signals (reject.SplitOutside node) = split_line node
link_rejected_line signals (reject.NoSuchRow leaf row) = leaf_line links (codes "row") leaf row
link_rejected_line signals (reject.Negative leaf row) = leaf_line links (codes "negative") leaf row
link_rejected_line signals (reject.Wide leaf row at) = wide_line links signals leaf row at.place
link_rejected_line signals (reject.LeafTooWeak leaf place) = weak_line signals leaf place
link_rejected_line signals reject.Memory = []
