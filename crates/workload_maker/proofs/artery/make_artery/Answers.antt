use Rattle.workload_maker.proofs.Validity.{never_refused}
use Rattle.workload_maker.proofs.artery.make_artery.Goals as goal

pub unreachable-requires : goal.unreachable-requires
unreachable-requires c =
    never_refused c.args.signals c.args.seed _ _ _ c.in-Err-Refused.field-0 c.in-Err-Refused.field-0-0 c.requires.few c.requires.many
    c.head.ensures c.in_ok-signals.ensures.signals c.in_ok-signals.ensures.links c.in-Err-Refused.field-0-is c.in-Err-Refused.ensures.judged
