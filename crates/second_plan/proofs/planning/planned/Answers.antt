use Rattle.std.proofs.Common.{subst, arith}
use Rattle.progression.specs.declared.parts.Dir.TheVariants.{Outbound, Inbound}
use Rattle.band_measure.specs.Widest.{NoneRuns}
use Rattle.std.proofs.lemmas.Grind.{common_steps}
use Rattle.second_plan.proofs.planning.planned.Goals as goal

pub returns-in_default-clause-faults : goal.returns-in_default-clause-faults
returns-in_default-clause-faults c = λ claim. record {
  k = c.args.rounded.now.seconds;
  offsets = c.args.rounded.now.offsets.items;
  whole = c.requires.whole;
  none = subst (λ p. NoneRuns c.args.artery.now p Outbound) c.in_ok-on.ensures c.in_default.ensures.widest;
  before = λ e. absurd (cc);
}

pub returns-in_default-widest_on-clause-faults : goal.returns-in_default-widest_on-clause-faults
returns-in_default-widest_on-clause-faults c = λ claim. record {
  k = c.args.rounded.now.seconds;
  offsets = c.args.rounded.now.offsets.items;
  whole = c.requires.whole;
  none = subst (λ p. NoneRuns c.args.artery.now p Inbound) c.in_ok-on.ensures c.in_default-widest_on.ensures.widest;
  before = λ e. subst (λ p. ¬ NoneRuns c.args.artery.now p Outbound) c.in_ok-on.ensures c.in-Some.ensures.some;
}

pub with_cut_bands-requires : goal.with_cut_bands-requires
with_cut_bands-requires c = grind (arith, common_steps)
