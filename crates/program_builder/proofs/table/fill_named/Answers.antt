use Rattle.std.proofs.Common.{true≢false, sym, ◌∙◌, ap}
use Rattle.named_row.specs.Sheets.{row_of}
use Rattle.program_builder.proofs.RowSets.{among_set}
use Rattle.program_builder.proofs.table.fill_named.Goals as goal

pub prove-unreachable-requires : goal.prove-unreachable-requires
prove-unreachable-requires g c =
    let there = (among_set (g.R.RowTable.rows c.args.rows.now) c.known_rows.ensures c.args.name).0 c.requires.there in
    true≢false (sym (c.fill-filled.ensures.there ∙ there) ∙ c.if-prove.true)

pub returns-clause-row : goal.returns-clause-row
returns-clause-row g c =
    let there = (among_set (g.R.RowTable.rows c.args.rows.now) c.known_rows.ensures c.args.name).0 c.requires.there in
    ap row_of (c.fill-filled.ensures.row (c.fill-filled.ensures.there ∙ there))

pub returns-clause-unspent : goal.returns-clause-unspent
returns-clause-unspent g c =
    let there = (among_set (g.R.RowTable.rows c.args.rows.now) c.known_rows.ensures c.args.name).0 c.requires.there in
    c.fill-filled.ensures.unspent (c.fill-filled.ensures.there ∙ there)
