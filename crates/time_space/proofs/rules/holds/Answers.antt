use Rattle.time_space.proofs.rules.holds.Goals as goal

pub returns-clause-good : goal.returns-clause-good
returns-clause-good c = record {
  base = c.in_ok-check_timing_base.ensures.base;
  ratio = c.in_ok-check_ratio.ensures.kept;
  least = c.in_ok-check_least.ensures.kept;
  equal = c.in_ok-check_equal.ensures.kept;
  outbound = c.in_ok-check_outbound.ensures.kept;
  inbound = c.in_ok-check_inbound.ensures.kept;
}
