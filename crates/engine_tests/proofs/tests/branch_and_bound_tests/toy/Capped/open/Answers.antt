use Rattle.std.proofs.Common.{◌≡◌, arith, subst}
use Rattle.std.proofs.lemmas.Int.{ints}
use mir.Val.{to_z, of_z}
use mir.Syntax.{w64}
use Rattle.engine_tests.specs.CappedRules.{EndsAs}
use Rattle.engine_tests.proofs.Capping.{finished}
use Rattle.engine_tests.proofs.tests.branch_and_bound_tests.toy.Capped.open.Goals as goal

pub returns-clause-opens : goal.returns-clause-opens
returns-clause-opens c = λ line e.
    let cap : to_z w64 (of_z w64 c.args.self.now.cap) ≡ c.args.self.now.cap = omega (arith, ints) in
    finished c.args.self.now.artery c.args.self.now.cap line c.args.meter.now c.spend.new.self c.spend-2.new.self c.end_with.result
    (subst (λ z. EndsAs c.args.self.now.artery z line c.end_with.result) cap (c.end_with.ensures c.args.self.now.artery line e)) c.spend.ensures.spent
    c.spend-2.ensures.spent (c.spend-2.ensures.within (c.is_out.ensures.work c.if-is_out.false (c.spend.ensures.within c.requires.work)))
