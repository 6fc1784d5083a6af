use Rattle.multi_band.proofs.LinkNumbers.{link_ready}
use Rattle.multi_band.proofs.recovery.timing_of.Goals as goal

pub check_columns-requires-clause-ready : goal.check_columns-requires-clause-ready
check_columns-requires-clause-ready c =
    link_ready c.args.artery.now c.args.area.now c.args.point.now.values.items (c.law_valid_street.ensures c.args.artery.now c.known_valid.ensures)
    c.requires.vertex c.known_valid.ensures c.requires.whole c.in_ok-unit.ensures.products c.in_ok-unit.ensures.small

pub place_lines-requires-clause-ready : goal.place_lines-requires-clause-ready
place_lines-requires-clause-ready c =
    (link_ready c.args.artery.now c.args.area.now c.args.point.now.values.items (c.law_valid_street.ensures c.args.artery.now c.known_valid.ensures)
    c.requires.vertex c.known_valid.ensures c.requires.whole c.in_ok-unit.ensures.products c.in_ok-unit.ensures.small).lines

pub around-requires-clause-ready : goal.around-requires-clause-ready
around-requires-clause-ready c =
    link_ready c.args.artery.now c.args.area.now c.args.point.now.values.items (c.law_valid_street.ensures c.args.artery.now c.known_valid.ensures)
    c.requires.vertex c.known_valid.ensures c.requires.whole c.in_ok-unit.ensures.products c.in_ok-unit.ensures.small
