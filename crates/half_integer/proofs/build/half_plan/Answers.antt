use Rattle.half_integer.proofs.Made.{half_none, half_is}
use Rattle.half_integer.proofs.build.half_plan.Goals as goal

pub returns-in-None : goal.returns-in-None
returns-in-None c =
    half_none c.args.artery.now c.args.timing.now c.unit-unit.result c.head-head.ensures.valid c.unit-unit.ensures.value c.unit-unit.ensures.least c.requires.even c.in-None.ensures

pub returns-in_ok-built-in-Some : goal.returns-in_ok-built-in-Some
returns-in_ok-built-in-Some c =
    half_is c.args.artery.now c.args.timing.now c.in_ok-built-in-Some.field-0 c.unit-unit.result c.in-Some.band c.head-head.ensures.valid
    c.unit-unit.ensures.value c.unit-unit.ensures.least c.requires.even
    c.requires.shape c.in-Some.ensures c.in_ok-built-in-Some.ensures
