use Rattle.std.proofs.Common.{◌<◌, ◌^◌, ℕ, sym, subst, arith}
use Rattle.plan_text.proofs.Timings.{pair_small}
use Rattle.plan_text.proofs.reading.pair_at.Goals as goal

pub returns-clause-outbound : goal.returns-clause-outbound
returns-clause-outbound c =
    let small = pair_small c.args.key.now c.args.line c.args.bytes.now _ _ c.in_ok-pair.ensures.exact 0 c.index.result.now (omega arith) in
    subst (λ (n : ℕ). n < 2 ^ 80) (sym c.index.ensures) small

pub returns-clause-inbound : goal.returns-clause-inbound
returns-clause-inbound c =
    let small = pair_small c.args.key.now c.args.line c.args.bytes.now _ _ c.in_ok-pair.ensures.exact 1 c.index-2.result.now (omega arith) in
    subst (λ (n : ℕ). n < 2 ^ 80) (sym c.index-2.ensures) small
