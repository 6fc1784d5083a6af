use Rattle.std.proofs.Common.{sym, ◌∙◌, ap}
use Rattle.std.specs.Prelude.{string_bytes}
use Rattle.run_inputs.specs.Cycles.{spells}
use Rattle.run_inputs.proofs.Cycling.{word_fails}
use Rattle.run_inputs.proofs.cycles.all_spelled.Goals as goal

pub returns-then-not-spells : goal.returns-then-not-spells
returns-then-not-spells g c =
    sym (word_fails g.T.Cycle.value string_bytes c.args.words.now c.loop-word.word-index c.word-item.result c.loop-word-test.true c.word-item.is
    (ap (spells g.T.Cycle.value) (sym c.as_str.ensures.value) ∙ sym c.spells.ensures ∙ c.if-not-spells.true))
