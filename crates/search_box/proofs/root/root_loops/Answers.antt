use Rattle.std.proofs.Common.{◌∙◌, ap, map}
use Rattle.linear_theory.specs.Boxes.{root_span}
use Rattle.search_box.specs.Seen.{span_of}
use Rattle.search_box.proofs.Numbered.{item_more}
use Rattle.search_box.proofs.root.root_loops.Goals as goal

pub loop-link-preserved : goal.loop-link-preserved
loop-link-preserved c =
    ap (λ xs. map span_of xs) c.in_ok-push.ensures
    ∙ item_more span_of c.loop-link.loops.items c.root_span.result (root_span c.args.artery.now) c.loop-link.link c.loop-link.auto.link c.loop-link.invariant c.root_span.ensures
