use borrow.Author.Tests.{ltb-true, ltb-false}
use Rattle.std.proofs.Common.{arith}
use Rattle.plan_text.proofs.Shapes.{fails_so, no_count, no_rows}
use Rattle.std.proofs.lemmas.Grind.{common_steps}
use Rattle.plan_text.specs.CertificateReading.{row_count}
use Rattle.plan_text.proofs.row_list.row_count.Goals as goal
use Rattle.plan_text.proofs.row_list.row_count.Goals.{in_default-via-then-words-lt2, in_default-via-in-len2+else-eq, in_default-via-else-words-lt2+else-words-lt3}

pub returns-in_default : goal.returns-in_default
returns-in_default c =
    let words = c.args.words.now in
    fails_so c.bad.result _ _ c.bad.ensures
    (elim c.in_default.branch [
      | in_default-via-then-words-lt2 w ↦ no_count c.args.line words (omega (arith, ltb-true))
      | in_default-via-in-len2+else-eq w ↦ no_rows c.args.line words _ w.as_slice.result.now (omega arith) w.as_slice.ensures w.if-eq.ensures
      | in_default-via-else-words-lt2+else-words-lt3 w ↦ no_count c.args.line words (omega (arith, ltb-false))
    ])

pub returns-in_err-count-in-len2 : goal.returns-in_err-count-in-len2
unfolding row_count
returns-in_err-count-in-len2 c = grind (arith, common_steps)
