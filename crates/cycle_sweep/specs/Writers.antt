-- A writer of records.
use Rattle.std.specs.Prelude.{◌≡◌, false}
use Rattle.csv.specs.Writing.{default_writer, writer_setup, fields_written, has_written}
use Rattle.csv.specs.declared.writer.Writer.{Writer}

-- it stands between two records, and writes with commas, line feeds, and quotes where they are needed
pub record IsReady {W : Type 0} (w : Writer W) : Type 0 where
  pub setup : writer_setup w ≡ default_writer
  pub empty : fields_written w ≡ 0
  pub clean : has_written w ≡ false
