use Rattle.toml.specs.View.{view}
use Rattle.description_reader.proofs.TypedLimits.{limits_at, none_absurd}
use Rattle.description_reader.proofs.typed.build.Goals as goal

pub plan_in-requires : goal.plan_in-requires
plan_in-requires c =
    limits_at (view c.args.root.now) (view c.in-Some.table.now) c.facts_of-facts.result c.requires.table c.requires.passed c.facts_of-facts.ensures c.in-Some.ensures

pub unreachable-requires : goal.unreachable-requires
unreachable-requires c = none_absurd (view c.args.root.now) c.requires.table c.requires.passed c.in-None.ensures
