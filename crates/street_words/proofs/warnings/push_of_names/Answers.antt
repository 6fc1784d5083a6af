use Rattle.std.proofs.Common.{◌++◌, ◌∙◌, flat_map, arith}
use Rattle.std.specs.List.{range_with_len}
use Rattle.street_words.specs.Warnings.{told, name_warnings}
use Rattle.street_words.proofs.Loops.{texts_written, ends_below}
use Rattle.street_words.proofs.warnings.push_of_names.Goals as goal

pub loop-signal-preserved : goal.loop-signal-preserved
loop-signal-preserved c =
    texts_written c.args.out.now.items _ _ c.loop-signal.signal c.loop-signal.invariant.0 (told c.args.artery.now) name_warnings c.in_ok-push_of_name.ensures
    c.loop-signal.invariant.1

pub returns : goal.returns
returns c =
    let g = told c.args.artery.now in
    c.loop-signal.invariant.1
    ∙ ends_below (λ n. c.args.out.now.items ++ flat_map g (flat_map name_warnings (range_with_len 1 n))) _ _ _
    c.loop-signal.auto.signal-end c.loop-signal-test.false (omega arith) c.count-signal-end.ensures.value
