use Rattle.std.proofs.Common.{pos, ◌+◌, ◌/◌, ap, ◌∙◌}
use Rattle.diagram_draw.specs.Frames.{level}
use Rattle.diagram_draw.proofs.captions.link_level.Goals as goal

pub returns : goal.returns
returns c =
    ap (λ l. pos ((l + c.level-2.result) / 2 + 50)) c.level.ensures.value
    ∙ ap (λ l. pos ((level c.args.frame c.args.artery.now c.args.link + l) / 2 + 50)) c.level-2.ensures.value
