use Rattle.std.proofs.Common.{◌≡◌, ◌+◌, ◌-◌, ◌≤◌, length, None}
use Rattle.certificate_model.specs.Families.{table_of}
use Rattle.plan_text.specs.CertificateReading.{names_at}
use Rattle.plan_text.proofs.RowLoop.{with_front}
use Rattle.plan_text.proofs.row_list.names_at.Given as goal

-- the rows so far and those of the rest are all
abbrev pub invariant-loop-place : goal.invariant-loop-place
invariant-loop-place l = record {
  read : with_front l.rows.items (names_at (table_of l.names) (l.count - l.place) l.last (l.line + l.place) l.rest) ≡ names_at (table_of l.names) l.count None l.line l.bytes;
  lines : l.place + length l.rest ≤ length l.bytes;
}
