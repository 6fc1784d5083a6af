use Rattle.std.proofs.Common.{◌∙◌, ap, arith, refl}
use Rattle.std.proofs.lemmas.List.{take_all}
use Rattle.toml.specs.Data.{array}
use Rattle.toml.specs.View.{items_of}
use Rattle.toml.proofs.Views.{view-Array}
use Rattle.description_reader.specs.Canonical.{patterns_from}
use Rattle.description_reader.proofs.CanonicalTables.{pattern_more, pattern_less}
use Rattle.description_reader.proofs.print.patterns_value.Goals.{then-allowed+in_ok-push, else-allowed}
use Rattle.description_reader.proofs.print.patterns_value.Goals as goal

pub overflow_cast-index : goal.overflow_cast-index
overflow_cast-index c = omega arith

pub overflow_add-index : goal.overflow_add-index
overflow_add-index c = omega arith

pub loop-index-preserved : goal.loop-index-preserved
loop-index-preserved c =
    let vs = c.loop-index.numbers.items in
    let ws = c.if-allowed.numbers.items in
    elim c.if-allowed.branch [
      | then-allowed+in_ok-push w ↦ pattern_more vs ws w.from.result c.args.patterns.now c.loop-index.index (omega (arith, c.told-patterns)) w.if-allowed.true
          (rw w.numbers-is w.in_ok-push.ensures.items) w.from.ensures c.loop-index.invariant
      | else-allowed w ↦ pattern_less vs ws c.args.patterns.now c.loop-index.index (omega (arith, c.told-patterns)) w.if-allowed.false (rw w.numbers-is refl) c.loop-index.invariant
    ]

pub returns-clause-made : goal.returns-clause-made
returns-clause-made c =
    view-Array c.loop-index.numbers
    ∙ ap (λ ds. array (items_of ds)) (c.loop-index.invariant ∙ ap (patterns_from 1) (take_all c.loop-index.index c.args.patterns.now (omega (arith, c.told-patterns))))
