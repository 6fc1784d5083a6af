use Rattle.offset_recovery.proofs.Making.{ready}
use Rattle.offset_recovery.proofs.vertex.timing_of.Goals as goal

pub check_columns-requires-clause-ready : goal.check_columns-requires-clause-ready
check_columns-requires-clause-ready c =
    ready c.args.artery.now c.args.area.now c.args.point.now.values.items (c.law_valid_street.ensures c.args.artery.now c.known_valid.ensures)
    c.known_valid.ensures c.requires.vertex c.requires.whole c.in_ok-unit.ensures.products c.in_ok-unit.ensures.small

pub place_lines-requires-clause-ready : goal.place_lines-requires-clause-ready
place_lines-requires-clause-ready c =
    ready c.args.artery.now c.args.area.now c.args.point.now.values.items (c.law_valid_street.ensures c.args.artery.now c.known_valid.ensures)
    c.known_valid.ensures c.requires.vertex c.requires.whole c.in_ok-unit.ensures.products c.in_ok-unit.ensures.small

pub banded-requires-clause-ready : goal.banded-requires-clause-ready
banded-requires-clause-ready c =
    ready c.args.artery.now c.args.area.now c.args.point.now.values.items (c.law_valid_street.ensures c.args.artery.now c.known_valid.ensures)
    c.known_valid.ensures c.requires.vertex c.requires.whole c.in_ok-unit.ensures.products c.in_ok-unit.ensures.small
