use Rattle.std.proofs.Common.{◌≡◌, take, drop}
use Rattle.certificate_model.specs.Words.{cut}
use Rattle.plan_text.proofs.Cuts.{behind}
use Rattle.plan_text.proofs.cut.cut.Given as goal

-- the byte isn't among those so far
abbrev pub invariant-loop-place : goal.invariant-loop-place
invariant-loop-place l = cut l.at l.bytes ≡ behind (take l.place l.bytes) (cut l.at (drop l.place l.bytes))
