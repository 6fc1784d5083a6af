-- The first bad line of a text of a timing, and of a certificate.
use Rattle.std.proofs.Common.{◌≡◌, ℕ, ◌+◌, ◌<◌, ◌≤◌, List, ◌++◌, length, Result, Ok, Err, refl, sym, ap, subst, ◌∙◌, arith}
use Rattle.std.specs.Prelude.{if◌then◌else◌}
use Rattle.std.proofs.lemmas.List.{length-append}
use Rattle.progression.specs.TimingRecord.{TimingRecord}
use Rattle.plan_text.specs.declared.fault.BadText.{BadText}
use Rattle.plan_text.specs.Spelling.{head_line, end_line}
use Rattle.plan_text.specs.Lines.{◌>>=◌, fault, line_at, fixed_at, nothing_at}
use Rattle.plan_text.specs.Reading.{timing_at, timing_of}
use Rattle.named_row.specs.declared.names.RowId.{RowId}
use Rattle.plan_text.specs.declared.fault.TextFault.TheVariants.{Shape}
use Rattle.certificate_model.specs.Words.{is_text}
use Rattle.plan_text.specs.SecondText.{second_line}
use Rattle.plan_text.specs.Namings.{Naming, Named, Listed, is_list}
use Rattle.certificate_model.specs.Families.{Table, ordinary}
use Rattle.plan_text.specs.TimingTexts.{TimingText, one_band}
use Rattle.certificate_model.specs.Warrants.{Node, WarrantWith, Warrant}
use Rattle.plan_text.specs.CertificateText.{certificate_line, tree_line}
use Rattle.plan_text.specs.CertificateReading.{nodes_at, Beginning, rows_at, claim_at, ends_after, tree_at, first_of, second_of, text_by, certificate_of, headed_of}
use Rattle.plan_text.specs.FirstBad.{lines_in, NamesFirstBad, FirstBad}
use Rattle.plan_text.proofs.Timings.{timing_again}
use Rattle.plan_text.proofs.Certificates.{certificate_again, second_text_again}
use Rattle.plan_text.proofs.NodeLines.{enough}
use Rattle.plan_text.proofs.Grown.{after_line, one_and, numbered, line_grows, fixed_grows, fixed_later}
use Rattle.plan_text.proofs.GrownTimings.{timing_read}
use Rattle.plan_text.proofs.TimingLaws.{TimingLaws, one_band_laws}
use Rattle.plan_text.proofs.GrownCertificates.{opened, rows_grow, rows_later, nodes_grow, nodes_later, claim_grows, claim_later}
use Rattle.plan_text.proofs.Wholes.{Whole, NotBefore, whole_then, whole_made, not_before, not_before_made, closing, closing_whole, closing_later}
use Rattle.plan_text.proofs.Wholes.{nothing_whole, nothing_later, guard_whole, guard_not_before, chosen_whole, chosen_not_before, names_first}

-- ---- a timing

abbrev close_timing : TimingRecord × List ℕ → Result TimingRecord BadText
close_timing timing = closing timing.0 10 timing.1

timing_whole : (bytes z : List ℕ) → Whole (lines_in bytes + 1) (timing_of bytes) (timing_of (bytes ++ z))
unfolding timing_of
timing_whole bytes z =
    let last = lines_in bytes + 1 in
    whole_then (after_line 2) last z (fixed_at 1 head_line bytes) (fixed_at 1 head_line (bytes ++ z)) (λ rest. timing_at 2 rest >>= close_timing)
    (λ rest. timing_at 2 rest >>= close_timing) (fixed_grows last 1 head_line bytes z (omega arith))
    (λ rest end. whole_then (one_and 10) last z (timing_at 2 rest) (timing_at 2 (rest ++ z)) close_timing close_timing ((timing_read 2).grows last rest z end)
    (λ t k. closing_whole t.0 last 10 t.1 z k) (λ t here. closing_later t.0 last 10 t.1 (omega arith)))
    (λ rest here. not_before (one_and 10) last (timing_at 2 rest) close_timing ((timing_read 2).later last rest (omega arith)) (λ t k. closing_later t.0 last 10 t.1 (omega arith)))

timing_first : NamesFirstBad timing_of
unfolding timing_of fixed_at line_at
timing_first = names_first timing_of timing_whole refl

-- ---- a certificate

abbrev Nodes : Type 0
Nodes = List Node × ℕ × List ℕ

abbrev nothing_more : List Node → ℕ → List ℕ → Result (List Node) BadText
nothing_more ns line bytes = nothing_at (line + 1) bytes >>= λ nothing. Ok ns

abbrev close_tree : Naming → Nodes → Result (List Node) BadText
close_tree names nodes = fixed_at nodes.1 end_line nodes.2 >>= ends_after names nodes.0 nodes.1

close_whole : (names : Naming) (last : ℕ) (nodes : Nodes) (z : List ℕ) → nodes.1 + lines_in nodes.2 ≡ last → Whole last (close_tree names nodes) (close_tree names (nodes.0, nodes.1, nodes.2 ++ z))
close_whole names last nodes z e =
    let line = nodes.1 in
    whole_then (after_line (line + 1)) last z (fixed_at line end_line nodes.2) (fixed_at line end_line (nodes.2 ++ z)) (ends_after names nodes.0 line)
    (ends_after names nodes.0 line) (fixed_grows last line end_line nodes.2 z e)
    (λ r end. guard_whole last line (is_list names nodes.0) (nothing_more nodes.0 line r) (nothing_more nodes.0 line (r ++ z)) (omega arith)
    (whole_made last (nothing_at (line + 1) r) (nothing_at (line + 1) (r ++ z)) (λ n. nodes.0) (nothing_whole last (line + 1) r z end)))
    (λ r here. guard_not_before last line (is_list names nodes.0) (nothing_more nodes.0 line r) (omega arith)
    (not_before_made last (nothing_at (line + 1) r) (λ n. nodes.0) (nothing_later last (line + 1) r (omega arith))))

close_later : (names : Naming) (last : ℕ) (nodes : Nodes) → last ≤ nodes.1 → NotBefore last (close_tree names nodes)
close_later names last nodes before =
    let line = nodes.1 in
    not_before (after_line (line + 1)) last (fixed_at line end_line nodes.2) (ends_after names nodes.0 line) (fixed_later last line end_line nodes.2 before)
    (λ r here. guard_not_before last line (is_list names nodes.0) (nothing_more nodes.0 line r) before
    (not_before_made last (nothing_at (line + 1) r) (λ n. nodes.0) (nothing_later last (line + 1) r (omega arith))))

abbrev tree_then : Naming → ℕ → List ℕ → Result (List Node) BadText
tree_then names line rest = nodes_at names (length rest) 1 (line + 1) rest >>= close_tree names

tree_then_whole : (names : Naming) (last line : ℕ) (rest z : List ℕ) → line + 1 + lines_in rest ≡ last → Whole last (tree_then names line rest) (tree_then names line (rest ++ z))
tree_then_whole names last line rest z e =
    let steps = length (rest ++ z) in
    let longer : length (rest ++ z) ≡ length rest + length z = length-append rest z in
    subst (λ (y : Result Nodes BadText). Whole last (y >>= close_tree names) (tree_then names line (rest ++ z))) (enough names steps (length rest) 1 (line + 1) rest (omega arith) (omega arith))
    (whole_then numbered last z (nodes_at names steps 1 (line + 1) rest) (nodes_at names steps 1 (line + 1) (rest ++ z)) (close_tree names) (close_tree names)
    (nodes_grow names steps 1 last (line + 1) rest z (omega arith) e)
    (λ ns end. close_whole names last ns z end)
    (λ ns here. close_later names last ns (omega arith)))

tree_then_later : (names : Naming) (last line : ℕ) (rest : List ℕ) → last < line + 1 → NotBefore last (tree_then names line rest)
tree_then_later names last line rest before =
    not_before numbered last (nodes_at names (length rest) 1 (line + 1) rest) (close_tree names) (nodes_later names (length rest) 1 last (line + 1) rest before)
    (λ ns here. close_later names last ns (omega arith))

tree_whole : (names : Naming) (last line : ℕ) (bytes z : List ℕ) → line + lines_in bytes ≡ last → Whole last (tree_at names line bytes) (tree_at names line (bytes ++ z))
unfolding tree_at
tree_whole names last line bytes z e =
    whole_then (after_line (line + 1)) last z (fixed_at line tree_line bytes) (fixed_at line tree_line (bytes ++ z)) (tree_then names line)
    (tree_then names line) (fixed_grows last line tree_line bytes z e)
    (λ rest end. tree_then_whole names last line rest z end)
    (λ rest here. tree_then_later names last line rest here)

tree_later : (names : Naming) (last line : ℕ) (bytes : List ℕ) → last ≤ line → NotBefore last (tree_at names line bytes)
unfolding tree_at
tree_later names last line bytes before =
    not_before (after_line (line + 1)) last (fixed_at line tree_line bytes) (tree_then names line) (fixed_later last line tree_line bytes before)
    (λ rest here. tree_then_later names last line rest here)

abbrev make_warrant : {T : Type 0} → Beginning T → List Node → WarrantWith T
make_warrant opening nodes = record { claim = opening.0; timing = opening.1; nodes = nodes }

-- a tree, whose warrant is made
warrant_whole : {T : Type 0} (opening : Beginning T) (names : Naming) (last line : ℕ) (bytes z : List ℕ) → line + lines_in bytes ≡ last
    → Whole last (tree_at names line bytes >>= λ nodes. Ok (make_warrant opening nodes)) (tree_at names line (bytes ++ z) >>= λ nodes. Ok (make_warrant opening nodes))
warrant_whole opening names last line bytes z e = whole_made last (tree_at names line bytes) (tree_at names line (bytes ++ z)) (make_warrant opening) (tree_whole names last line bytes z e)

warrant_later : {T : Type 0} (opening : Beginning T) (names : Naming) (last line : ℕ) (bytes : List ℕ) → last ≤ line
    → NotBefore last (tree_at names line bytes >>= λ nodes. Ok (make_warrant opening nodes))
warrant_later opening names last line bytes before = not_before_made last (tree_at names line bytes) (make_warrant opening) (tree_later names last line bytes before)

module _ {T : Type 0} (text : TimingText T) (laws : TimingLaws text) (table : Table) where
  abbrev first_then : Beginning T → Result (WarrantWith T) BadText
  first_then opening = tree_at (Named table) opening.2 opening.3 >>= λ nodes. Ok (make_warrant opening nodes)

  first_whole : (last : ℕ) (bytes z : List ℕ) → 2 + lines_in bytes ≡ last → Whole last (first_of text table bytes) (first_of text table (bytes ++ z))
  unfolding first_of
  first_whole last bytes z end =
      whole_then opened last z (claim_at text bytes) (claim_at text (bytes ++ z)) first_then first_then (claim_grows text laws last bytes z end)
      (λ o k. warrant_whole o (Named table) last o.2 o.3 z k)
      (λ o here. warrant_later o (Named table) last o.2 o.3 (omega arith))

  first_later : (last : ℕ) (bytes : List ℕ) → last ≤ 2 → NotBefore last (first_of text table bytes)
  unfolding first_of
  first_later last bytes before = not_before opened last (claim_at text bytes) first_then (claim_later text laws last bytes before) (λ o here. warrant_later o (Named table) last o.2 o.3 (omega arith))

  headed_whole : (head bytes z : List ℕ) → Whole (lines_in bytes + 1) (headed_of text table head bytes) (headed_of text table head (bytes ++ z))
  unfolding headed_of
  headed_whole head bytes z =
      let last = lines_in bytes + 1 in
      whole_then (after_line 2) last z (fixed_at 1 head bytes) (fixed_at 1 head (bytes ++ z)) (first_of text table) (first_of text table) (fixed_grows last 1 head bytes z (omega arith))
      (λ rest end. first_whole last rest z end)
      (λ rest here. first_later last rest (omega arith))

  -- the first bad line of a text that names its rows, and has this first line
  pub headed_first : (head : List ℕ) → NamesFirstBad (headed_of text table head)
  unfolding headed_of fixed_at line_at
  headed_first head = names_first (headed_of text table head) (headed_whole head) refl

abbrev listed_then : Beginning TimingRecord → List RowId × ℕ × List ℕ → Result Warrant BadText
listed_then opening rows = tree_at (Listed rows.0) rows.1 rows.2 >>= λ nodes. Ok (make_warrant opening nodes)

abbrev second_then : Beginning TimingRecord → Result Warrant BadText
second_then opening = rows_at ordinary opening.2 opening.3 >>= listed_then opening

second_then_later : (o : Beginning TimingRecord) (last : ℕ) → last ≤ o.2 → NotBefore last (second_then o)
second_then_later o last before =
    not_before numbered last (rows_at ordinary o.2 o.3) (listed_then o) (rows_later ordinary last o.2 o.3 before) (λ rs here. warrant_later o (Listed rs.0) last rs.1 rs.2 (omega arith))

second_whole : (last : ℕ) (bytes z : List ℕ) → 2 + lines_in bytes ≡ last → Whole last (second_of bytes) (second_of (bytes ++ z))
unfolding second_of
second_whole last bytes z end =
    whole_then opened last z (claim_at one_band bytes) (claim_at one_band (bytes ++ z)) second_then second_then (claim_grows one_band one_band_laws last bytes z end)
    (λ o k. whole_then numbered last z (rows_at ordinary o.2 o.3) (rows_at ordinary o.2 (o.3 ++ z)) (listed_then o) (listed_then o) (rows_grow ordinary last o.2 o.3 z k)
    (λ rs m. warrant_whole o (Listed rs.0) last rs.1 rs.2 z m)
    (λ rs here. warrant_later o (Listed rs.0) last rs.1 rs.2 (omega arith)))
    (λ o here. second_then_later o last (omega arith))

second_later : (last : ℕ) (bytes : List ℕ) → last ≤ 2 → NotBefore last (second_of bytes)
unfolding second_of
second_later last bytes before = not_before opened last (claim_at one_band bytes) second_then (claim_later one_band one_band_laws last bytes before) (λ o here. second_then_later o last (omega arith))

certificate_whole : (bytes z : List ℕ) → Whole (lines_in bytes + 1) (certificate_of bytes) (certificate_of (bytes ++ z))
unfolding certificate_of
certificate_whole bytes z =
    let last = lines_in bytes + 1 in
    whole_then (one_and 2) last z (line_at 1 bytes) (line_at 1 (bytes ++ z)) text_by text_by (line_grows last 1 bytes z (omega arith))
    (λ l end. chosen_whole last (is_text l.0 certificate_line) (first_of one_band ordinary l.1) (first_of one_band ordinary (l.1 ++ z))
    (if is_text l.0 second_line then second_of l.1 else fault 1 Shape) (if is_text l.0 second_line then second_of (l.1 ++ z) else fault 1 Shape)
    (first_whole one_band one_band_laws ordinary last l.1 z end)
    (guard_whole last 1 (is_text l.0 second_line) (second_of l.1) (second_of (l.1 ++ z)) (omega arith) (second_whole last l.1 z end)))
    (λ l here. chosen_not_before last (is_text l.0 certificate_line) (first_of one_band ordinary l.1) (if is_text l.0 second_line then second_of l.1 else fault 1 Shape)
    (first_later one_band one_band_laws ordinary last l.1 (omega arith))
    (guard_not_before last 1 (is_text l.0 second_line) (second_of l.1) (omega arith) (second_later last l.1 (omega arith))))

certificate_first : NamesFirstBad certificate_of
unfolding certificate_of fixed_at line_at
certificate_first = names_first certificate_of certificate_whole refl

-- ---- the law

pub never : {A : Type 0} (x : A) (b : BadText) (r : Result A BadText) → r ≡ Ok x → r ≡ Err b → ⊥
never x b r good bad = cc

pub first_bad : FirstBad
first_bad = record {
  timing = timing_first;
  certificate = certificate_first;
  no_timing = λ start rest other b t e early held text. never t b (timing_of (start ++ other)) (ap timing_of (sym text) ∙ timing_again t held) (timing_first.here start rest other b e early);
  no_certificate = λ start rest other b c e early held text. never c b (certificate_of (start ++ other)) (ap certificate_of (sym text) ∙ certificate_again c held)
      (certificate_first.here start rest other b e early);
  no_second = λ start rest other b c e early held text. never c b (certificate_of (start ++ other)) (ap certificate_of (sym text) ∙ second_text_again c held)
      (certificate_first.here start rest other b e early);
}
