use Rattle.std.proofs.Common.{List, ℕ, ◌∙◌, subst}
use Rattle.std.specs.Prelude.{OnOk}
use Rattle.std.specs.Io.KnownBytes.{Appends}
use Rattle.csv.specs.Writing.{default_writer, row_text, text_written}
use Rattle.cycle_sweep.specs.Table.{fields}
use Rattle.cycle_sweep.proofs.Plain.{header_line}
use Rattle.cycle_sweep.proofs.table.write_header.Goals as goal

pub returns-clause-bytes : goal.returns-clause-bytes
returns-clause-bytes g c =
    let text = text_written g.W.Write.contents in
    subst (λ (bytes : List ℕ). OnOk c.write_fields.result (Appends (text c.args.writer.now) (text c.write_fields.new.writer) bytes))
    ((λ i. row_text default_writer (fields (c.as_bytes.ensures.value i) (c.as_bytes-2.ensures.value i) (c.as_bytes-3.ensures.value i) (c.as_bytes-4.ensures.value i) (c.as_bytes-5.ensures.value i)))
    ∙ header_line) c.write_fields.ensures.bytes
