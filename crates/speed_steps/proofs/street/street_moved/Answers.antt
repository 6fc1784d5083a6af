use Rattle.std.proofs.Common.{◌∙◌, List, map, ap₂}
use Rattle.progression.specs.declared.parts.Head.{Head}
use Rattle.progression.specs.declared.parts.Link.{Link}
use Rattle.speed_steps.specs.Moved.{link_moved}
use Rattle.speed_steps.proofs.Validity.{passes_moved}
use Rattle.speed_steps.proofs.street.street_moved.Goals as goal

pub artery_of-requires : goal.artery_of-requires
artery_of-requires c =
    passes_moved c.args.way c.args.artery.now c.in_ok-head.head c.in_ok-signals.signals.items c.in_ok-links.links.items
    (c.in_ok-head.ensures ∙ c.head.ensures.value)
    (c.in_ok-signals.ensures ∙ c.signals.ensures)
    (c.in_ok-links.ensures ∙ ap₂ (λ (h : Head) (l : List Link). map (link_moved c.args.way h.units) l) c.head-2.ensures.value c.links.ensures)
    c.known_valid.ensures
