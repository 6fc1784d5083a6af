use Rattle.run_laws.proofs.OneAnswer.{one_answer}
use Rattle.run_laws.proofs.runs.law_one_answer.Goals as goal

pub returns : goal.returns
returns c =
    one_answer (record { street = c.law_one_answer.ensures; plan = c.law_one_typed.ensures }) c.law_one_text.ensures c.law_one_first.ensures c.law_fails_rules_out.ensures
    c.law_accepted_or_refused.ensures.refused c.law_accepted_or_refused.ensures.once c.law_one_widest.ensures c.law_finer_pairs.ensures c.law_one_timing.ensures
    c.law_one_end.ensures c.law_one_end-2.ensures c.law_plan_or_end.ensures c.law_one_plan.ensures
    c.law_link_accepted_or_refused.ensures.refused c.law_link_accepted_or_refused.ensures.once
