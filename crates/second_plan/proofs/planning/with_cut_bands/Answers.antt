use Rattle.std.proofs.Common.{refl, arith, unsigned_abs}
use Rattle.std.proofs.lemmas.Int.{ints}
use Rattle.second_plan.specs.Planned.{IsPlanned}
use Rattle.second_plan.proofs.Fine.{is_fine}
use Rattle.second_plan.proofs.Rules.{natural, unit_least, least_alone}
use Rattle.second_plan.proofs.Best.{best}
use Rattle.std.proofs.lemmas.Grind.{common_steps}
use Rattle.second_plan.proofs.planning.with_cut_bands.Goals as goal

pub cut-bands-requires-clause-outbound : goal.cut-bands-requires-clause-outbound
cut-bands-requires-clause-outbound c = let f = (is_fine c.args.artery.now c.args.given.now c.args.rounded.now.seconds c.requires.whole.fine).cycle in
    let b = rw c.requires.on at c.requires.band_out in omega (arith, f, b)

pub cut-bands-requires-clause-inbound : goal.cut-bands-requires-clause-inbound
cut-bands-requires-clause-inbound c = let f = (is_fine c.args.artery.now c.args.given.now c.args.rounded.now.seconds c.requires.whole.fine).cycle in
    let b = rw c.requires.on at c.requires.band_in in omega (arith, f, b)

pub banded-plan-requires-clause-first_out : goal.banded-plan-requires-clause-first_out
banded-plan-requires-clause-first_out c = let f = (is_fine c.args.artery.now c.args.given.now c.args.rounded.now.seconds c.requires.whole.fine).cycle in
    let b = rw c.requires.on at c.requires.outbound.below in omega (arith, f, b)

pub banded-plan-requires-clause-band_out : goal.banded-plan-requires-clause-band_out
banded-plan-requires-clause-band_out c = let f = (is_fine c.args.artery.now c.args.given.now c.args.rounded.now.seconds c.requires.whole.fine).cycle in
    let b = rw c.requires.on at c.requires.band_out in let l = c.cut-bands.ensures.outbound in omega (arith, f, b, l)

pub banded-plan-requires-clause-first_in : goal.banded-plan-requires-clause-first_in
banded-plan-requires-clause-first_in c = let f = (is_fine c.args.artery.now c.args.given.now c.args.rounded.now.seconds c.requires.whole.fine).cycle in
    let b = rw c.requires.on at c.requires.inbound.below in omega (arith, f, b)

pub banded-plan-requires-clause-band_in : goal.banded-plan-requires-clause-band_in
banded-plan-requires-clause-band_in c = let f = (is_fine c.args.artery.now c.args.given.now c.args.rounded.now.seconds c.requires.whole.fine).cycle in
    let b = rw c.requires.on at c.requires.band_in in let l = c.cut-bands.ensures.inbound in omega (arith, f, b, l)

pub returns-in-Ok-clause-best : goal.returns-in-Ok-clause-best
returns-in-Ok-clause-best c =
    let a = c.args.artery.now in let t = c.args.given.now in
    let is = c.requires.on in
    best a c.args.on c.known_valid.ensures
    (rw is (unit_least a t c.known_valid.ensures c.requires.base c.args.rounded.now.seconds c.args.rounded.now.offsets.items c.requires.whole.seconds.allowed
    c.requires.rounded.some c.requires.whole.rounded.each_has))
    c.law_finer_pairs.ensures
    c.args.pairs.outbound.first c.args.pairs.inbound.first (record { outbound = c.args.pairs.outbound.band; inbound = c.args.pairs.inbound.band }) c.cut-bands.result
    (unsigned_abs a.head.ratio.num) (natural a.head.ratio.num (let w = c.known_valid.ensures.ratio.least in omega (arith, ints, w)))
    c.requires.outbound c.requires.inbound c.cut-bands.ensures.cut c.banded-plan.result c.banded-plan.ensures

pub returns-in-Err-clause-faults : goal.returns-in-Err-clause-faults
returns-in-Err-clause-faults c = λ claim.
    let a = c.args.artery.now in let t = c.args.given.now in
    let on = c.requires.on in
    let planned : IsPlanned a t c.args.rounded.now.seconds c.args.rounded.now.offsets.items c.banded-plan.result = record {
      whole = c.requires.whole;
      there = c.args.pairs.outbound;
      back = c.args.pairs.inbound;
      bands = c.cut-bands.result;
      widest_out = rw on at c.requires.outbound;
      widest_in = rw on at c.requires.inbound;
      cut = c.cut-bands.ensures.cut;
      timing = rw on at c.banded-plan.ensures;
    } in
    let least = least_alone a t c.known_valid.ensures c.requires.base c.args.rounded.now.seconds c.args.rounded.now.offsets.items c.requires.whole.seconds.allowed
    c.requires.rounded.some c.requires.whole.rounded.each_has
    c.args.pairs.outbound.first c.cut-bands.result.outbound c.args.pairs.inbound.first c.cut-bands.result.inbound
    (record { outbound = c.args.pairs.outbound.band; inbound = c.args.pairs.inbound.band }) c.cut-bands.result c.cut-bands.ensures.cut c.cut-bands.ensures.outbound
    c.cut-bands.ensures.inbound refl refl
    planned.widest_out.runs planned.widest_in.runs c.banded-plan.result planned.timing c.in-Err.failing c.in-Err.ensures.first in
    record {
      k = c.args.rounded.now.seconds;
      offsets = c.args.rounded.now.offsets.items;
      plan = c.banded-plan.result;
      planned = planned;
      first = c.in-Err.ensures.first;
      dir = least.0;
      least = least.1;
    }

pub returns-in-Ok-clause-planned : goal.returns-in-Ok-clause-planned
returns-in-Ok-clause-planned c = let on = c.requires.on in record {
  whole = c.requires.whole;
  there = c.args.pairs.outbound;
  back = c.args.pairs.inbound;
  bands = c.cut-bands.result;
  widest_out = rw on at c.requires.outbound;
  widest_in = rw on at c.requires.inbound;
  cut = c.cut-bands.ensures.cut;
  timing = rw on at c.banded-plan.ensures;
}

pub returns-in-Ok-clause-good : goal.returns-in-Ok-clause-good
returns-in-Ok-clause-good c = grind (arith, common_steps)
