use Rattle.std.proofs.Common.{ap, pos}
use Rattle.std.proofs.lemmas.Result.{on_ok_weaker}
use Rattle.diagram_draw.specs.declared.paint.Letter.TheVariants.{Facts}
use Rattle.diagram_draw.specs.Captions.{facts_text, heads}
use Rattle.diagram_draw.specs.Shapes.{sized_words_text}
use Rattle.diagram_draw.specs.Widths.{facts_size}
use Rattle.diagram_draw.proofs.Chains.{three_pushed_as}
use Rattle.diagram_draw.proofs.captions.push_heads.Goals as goal

pub returns : goal.returns
unfolding heads
returns c =
    on_ok_weaker c.push_title_heads.result
    (three_pushed_as _ _ _ _ _ _ _ _ c.in_ok-push_name_head.ensures c.in_ok-push_facts_head.ensures
    (ap (λ n. sized_words_text Facts facts_size (pos 220) (pos n) (facts_text c.args.artery.now c.args.timing.now)) c.facts_level.ensures))
    c.push_title_heads.ensures
