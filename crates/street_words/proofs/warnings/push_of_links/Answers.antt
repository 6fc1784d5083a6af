use Rattle.std.proofs.Common.{◌++◌, ◌∙◌, flat_map, arith}
use Rattle.std.specs.List.{range_with_len}
use Rattle.street_words.specs.Warnings.{told, link_warnings}
use Rattle.street_words.proofs.Loops.{texts_written, ends_below}
use Rattle.street_words.proofs.warnings.push_of_links.Goals as goal

pub loop-link-preserved : goal.loop-link-preserved
loop-link-preserved c =
    texts_written c.args.out.now.items _ _ c.loop-link.link c.loop-link.invariant.0 (told c.args.artery.now) link_warnings c.in_ok-push_of_link.ensures
    c.loop-link.invariant.1

pub returns : goal.returns
returns c =
    let g = told c.args.artery.now in
    c.loop-link.invariant.1
    ∙ ends_below (λ n. c.args.out.now.items ++ flat_map g (flat_map link_warnings (range_with_len 1 n))) _ _ _
    c.loop-link.auto.link-end c.loop-link-test.false (omega arith) c.count-link-end.ensures.value
