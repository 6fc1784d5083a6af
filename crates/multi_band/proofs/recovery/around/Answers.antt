use Rattle.std.proofs.Common.{◌<◌, ◌^◌, sym, subst, arith}
use Rattle.std.proofs.lemmas.Grind.{elements}
use Rattle.progression.specs.declared.parts.Dir.TheVariants.{Outbound, Inbound}
use Rattle.offset_recovery.proofs.Making.{firsts_fit}
use Rattle.multi_band.proofs.LinkTimings.{halves_fit}
use Rattle.multi_band.proofs.recovery.around.Goals as goal

pub around-requires-clause-first_out : goal.around-requires-clause-first_out
around-requires-clause-first_out c =
    subst (λ n. n < 2 ^ 80) (sym c.requires.lines.first_out) (firsts_fit c.args.artery.now c.args.point.now.values.items c.requires.placed).outbound

pub around-requires-clause-first_in : goal.around-requires-clause-first_in
around-requires-clause-first_in c =
    subst (λ n. n < 2 ^ 80) (sym c.requires.lines.first_in) (firsts_fit c.args.artery.now c.args.point.now.values.items c.requires.placed).inbound

pub around-requires-clause-half_out : goal.around-requires-clause-half_out
around-requires-clause-half_out c =
    halves_fit c.args.artery.now c.args.point.now.values.items c.requires.columns Outbound c.args.lines.base c.in_ok-half_out.half_out.items
    (let few = c.known_valid.ensures.few in omega arith) c.requires.lines.base c.in_ok-half_out.ensures

pub around-requires-clause-half_in : goal.around-requires-clause-half_in
around-requires-clause-half_in c =
    halves_fit c.args.artery.now c.args.point.now.values.items c.requires.columns Inbound c.args.lines.base c.in_ok-half_in.half_in.items
    (let few = c.known_valid.ensures.few in omega arith) c.requires.lines.base c.in_ok-half_in.ensures

pub returns-in_err-half_in : goal.returns-in_err-half_in
returns-in_err-half_in c = grind (arith, elements)
