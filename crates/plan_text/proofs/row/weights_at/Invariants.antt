use Rattle.std.proofs.Common.{◌≡◌, ◌+◌, ◌-◌, None}
use Rattle.plan_text.specs.Namings.{naming_of}
use Rattle.plan_text.specs.CertificateReading.{weights_at}
use Rattle.plan_text.proofs.RowLoop.{with_front}
use Rattle.plan_text.proofs.row.weights_at.Given as goal

-- the rows so far and those of the rest are all
abbrev pub invariant-loop-place : goal.invariant-loop-place
invariant-loop-place l = with_front l.weights.items (weights_at (naming_of l.names) l.form (l.count - l.place) l.last (l.line + l.place) l.rest) ≡
    weights_at (naming_of l.names) l.form l.count None l.line l.bytes
