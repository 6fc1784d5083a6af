use Rattle.std.proofs.Common.{◌∙◌}
use Rattle.run_commands.specs.Trial.{trial_lines}
use Rattle.run_commands.proofs.Tried.{tried}
use Rattle.run_commands.proofs.trial.search_made.Goals as goal

pub returns-clause-finds : goal.returns-clause-finds
returns-clause-finds c =
    let bytes = c.len.ensures ∙ c.in_ok-searched.searched.text.ok.0 in
    tried c.args.signals c.args.seed c.args.limit c.in_ok-artery.artery c.in_ok-searched.searched.found c.told.result.cause c.in_ok-searched.searched.text.items c.told.result.lines.items
    c.in_ok-artery.ensures c.in_ok-searched.ensures.searched (c.told.ensures.cause ∙ c.cause_of.ensures.value) c.in_ok-searched.ensures.text
    (rw (c.told.ensures.lines) (c.in_ok-lines.ensures ∙ (λ i. trial_lines c.args.signals c.args.seed (c.in_ok-searched.ensures.claim i) (bytes i))))
