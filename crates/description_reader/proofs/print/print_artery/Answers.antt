use Rattle.std.proofs.Common.{◌≡◌, Err, false, sym, ◌∙◌, ap, string_bytes}
use Rattle.std.proofs.lemmas.Bool.{true≢false}
use Rattle.std.proofs.lemmas.Str.{IsUtf8-string_bytes}
use Rattle.toml.specs.Data.{members_have_valid_dates}
use Rattle.toml.specs.View.{table_view}
use Rattle.description_reader.proofs.CanonicalAnswers.{reads_canonical, described_canonical}
use Rattle.description_reader.proofs.CanonicalDepth.{canonical_is_valid}
use Rattle.description_reader.proofs.print.print_artery.Goals as goal

pub returns-in-Ok-clause-reads : goal.returns-in-Ok-clause-reads
returns-in-Ok-clause-reads c =
    let text = c.in-Ok.text in
    rw c.into_bytes.ensures.value
    (reads_canonical (string_bytes text) c.args.artery.now (table_view c.in_ok-root.root) c.in_ok-root.ensures.made (IsUtf8-string_bytes text) c.in-Ok.ensures.reads_back)

pub returns-in-Ok-clause-described : goal.returns-in-Ok-clause-described
returns-in-Ok-clause-described c =
    let text = c.in-Ok.text in
    rw c.into_bytes.ensures.value
    (described_canonical (string_bytes text) c.args.artery.now (table_view c.in_ok-root.root) c.in_ok-root.ensures.made (IsUtf8-string_bytes text) c.in-Ok.ensures.reads_back
    c.in_ok-root.ensures.no_fault c.in_ok-root.ensures.four)

-- no date stands in a canonical description
pub unreachable-requires : goal.unreachable-requires
unreachable-requires c =
    let dated : members_have_valid_dates (table_view c.in_ok-root.root) ≡ false = c.in-Err-DateInvalid.ensures.dates.0 (ap Err c.in-Err-DateInvalid.field-0-is) in
    true≢false (sym (canonical_is_valid c.args.artery.now) ∙ ap members_have_valid_dates (sym c.in_ok-root.ensures.made) ∙ dated)
