use Rattle.whole_plan.proofs.Searches.{from_found}
use Rattle.whole_plan.proofs.setting.outcome_at.Goals as goal

pub returns-in-Some : goal.returns-in-Some
returns-in-Some c =
    from_found c.args.artery.now c.args.given.now c.args.seconds c.args.sought.now c.requires.sought c.in-Some.timing c.outcome_from.result c.in-Some.is c.outcome_from.ensures
