use Rattle.std.proofs.Common.{◌≡◌, Ok, Err}
use Rattle.offset_recovery.specs.Recovered.{number_tests_by}
use Rattle.offset_recovery.specs.Answers.{Answers}
use Rattle.offset_recovery.proofs.Reading.{read_fault}
use Rattle.offset_recovery.proofs.vertex.read_timing.Goals as goal

pub returns-in-Ok : goal.returns-in-Ok
returns-in-Ok g c a box x columns t h k =
    let passed : Answers (number_tests_by a x columns) (λ s. s ≡ t) (Ok c.in-Ok.timing) = rw c.in-Ok.is at k in
    (h, passed.0, passed.1)

pub returns-in-Err : goal.returns-in-Err
returns-in-Err g c a box x columns t h k =
    let stopped : Answers (number_tests_by a x columns) (λ s. s ≡ t) (Err c.in-Err.fault) = rw c.in-Err.is at k in
    read_fault a box x columns t c.in-Err.fault h stopped
