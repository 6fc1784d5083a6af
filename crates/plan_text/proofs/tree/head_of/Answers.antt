use borrow.Author.Tests.{ltb-true, ltb-false}
use Rattle.std.proofs.Common.{arith}
use Rattle.plan_text.specs.Namings.{naming_of}
use Rattle.plan_text.proofs.Shapes.{fails_so, no_head, no_fractions, no_split}
use Rattle.std.proofs.lemmas.Grind.{common_steps}
use Rattle.plan_text.specs.CertificateReading.{head_of}
use Rattle.plan_text.proofs.tree.head_of.Goals as goal
use Rattle.plan_text.proofs.tree.head_of.Goals.{in_default-via-then-words-lt2, in_default-via-in-len2+else-eq, in_default-via-in-len4+else-eq-2}
use Rattle.plan_text.proofs.tree.head_of.Goals.{in_default-via-else-words-lt2+else-words-lt3+else-words-lt4+else-words-lt5}

pub returns-in_err-at-in-len4 : goal.returns-in_err-at-in-len4
unfolding head_of
returns-in_err-at-in-len4 c = grind (arith, common_steps)

pub returns-in_default : goal.returns-in_default
returns-in_default c =
    let names = naming_of c.args.names in
    let words = c.args.words.now in
    record {
      exact = fails_so c.bad.result _ _ c.bad.ensures
          (elim c.in_default.branch [
            | in_default-via-then-words-lt2 w ↦ no_head names c.args.line words (omega (arith, ltb-true)) (omega (arith, ltb-true)) (omega (arith, ltb-true))
            | in_default-via-in-len2+else-eq w ↦ no_fractions names c.args.line words _ w.fractions_key.result.now (omega arith) w.fractions_key.ensures w.if-eq.ensures
            | in_default-via-in-len4+else-eq-2 w ↦ no_split names c.args.line words _ w.as_slice.result.now (omega arith) w.as_slice.ensures w.if-eq-2.ensures
            | in_default-via-else-words-lt2+else-words-lt3+else-words-lt4+else-words-lt5 w ↦ no_head names c.args.line words (omega (arith, ltb-false))
                (omega (arith, ltb-false)) (omega (arith, ltb-false))
          ]);
      formed = tt;
    }

pub returns-in_err-count-in-len2 : goal.returns-in_err-count-in-len2
unfolding head_of
returns-in_err-count-in-len2 c = grind (arith, common_steps)

pub returns-in_ok-count-in-len2 : goal.returns-in_ok-count-in-len2
unfolding head_of
returns-in_ok-count-in-len2 c = grind (arith, common_steps)

pub returns-in_ok-at-in-len4 : goal.returns-in_ok-at-in-len4
unfolding head_of
returns-in_ok-at-in-len4 c = grind (arith, common_steps)
