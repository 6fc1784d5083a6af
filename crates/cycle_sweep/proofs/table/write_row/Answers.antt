use Rattle.std.proofs.Common.{List, ℕ, ◌∙◌, ap, subst}
use Rattle.std.specs.Prelude.{OnOk}
use Rattle.std.specs.Io.KnownBytes.{Appends}
use Rattle.csv.specs.Writing.{default_writer, row_text, text_written}
use Rattle.cycle_sweep.specs.Table.{fields}
use Rattle.cycle_sweep.proofs.Plain.{row_line}
use Rattle.cycle_sweep.proofs.table.write_row.Goals as goal

pub returns-clause-bytes : goal.returns-clause-bytes
returns-clause-bytes g c =
    let text = text_written g.W.Write.contents in
    subst (λ (bytes : List ℕ). OnOk c.write_fields.result (Appends (text c.args.writer.now) (text c.write_fields.new.writer) bytes))
    ((λ i. row_text default_writer (fields (c.as_slice.ensures.value i) (c.as_bytes.ensures.value i) (c.as_slice-2.ensures.value i) (c.as_slice-3.ensures.value i) (c.as_bytes-2.ensures.value i)))
    ∙ ap (row_text default_writer) c.in_ok-record.ensures ∙ row_line c.args.artery.now c.args.row.now) c.write_fields.ensures.bytes
