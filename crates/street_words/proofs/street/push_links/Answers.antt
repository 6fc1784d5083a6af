use Rattle.std.proofs.Common.{◌++◌, ◌∙◌, flat_map, arith}
use Rattle.std.specs.List.{range_with_len}
use Rattle.street_words.specs.Streets.{link_line}
use Rattle.street_words.proofs.Loops.{piece_written, ends_below}
use Rattle.street_words.proofs.street.push_links.Goals as goal

pub loop-link-preserved : goal.loop-link-preserved
loop-link-preserved c =
    piece_written c.args.out.now.items _ _ c.loop-link.link c.loop-link.invariant.0 (link_line c.args.artery.now) c.in_ok-push_link.ensures c.loop-link.invariant.1

pub returns : goal.returns
returns c =
    let f = link_line c.args.artery.now in
    c.loop-link.invariant.1
    ∙ ends_below (λ n. c.args.out.now.items ++ flat_map f (range_with_len 1 n)) _ _ _ c.loop-link.auto.link-end c.loop-link-test.false (omega arith) c.count-link-end.ensures.value
