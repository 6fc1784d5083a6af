use borrow.Author.Tests.{ltb-true, ltb-false}
use Rattle.std.proofs.Common.{arith}
use Rattle.plan_text.proofs.Shapes.{fails_so, no_listed}
use Rattle.std.proofs.lemmas.Grind.{common_steps}
use Rattle.plan_text.specs.CertificateReading.{listed_row}
use Rattle.plan_text.proofs.row.listed_row.Goals as goal
use Rattle.plan_text.proofs.row.listed_row.Goals.{in_default-via-then-words-lt1, in_default-via-else-words-lt1+else-words-lt2}

pub returns-in_default : goal.returns-in_default
returns-in_default c =
    fails_so c.bad-in_default.result _ _ c.bad-in_default.ensures
    (elim c.in_default.branch [
      | in_default-via-then-words-lt1 w ↦ no_listed c.args.rows.now c.args.line c.args.words.now (omega (arith, ltb-true))
      | in_default-via-else-words-lt1+else-words-lt2 w ↦ no_listed c.args.rows.now c.args.line c.args.words.now (omega (arith, ltb-false))
    ])

pub returns-in-Some : goal.returns-in-Some
unfolding listed_row
returns-in-Some c = grind (arith, common_steps)
