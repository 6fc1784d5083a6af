use Rattle.std.proofs.Common.{◌<◌, ◌^◌, sym, subst}
use Rattle.offset_recovery.proofs.Making.{columns_fit, firsts_fit}
use Rattle.offset_recovery.proofs.vertex.banded.Goals as goal

pub banded-requires-clause-first_out : goal.banded-requires-clause-first_out
banded-requires-clause-first_out c =
    subst (λ n. n < 2 ^ 80) (sym c.requires.lines.first_out) (firsts_fit c.args.artery.now c.args.point.now.values.items c.requires.placed).outbound

pub banded-requires-clause-first_in : goal.banded-requires-clause-first_in
banded-requires-clause-first_in c =
    subst (λ n. n < 2 ^ 80) (sym c.requires.lines.first_in) (firsts_fit c.args.artery.now c.args.point.now.values.items c.requires.placed).inbound

pub banded-requires-clause-band_out : goal.banded-requires-clause-band_out
banded-requires-clause-band_out c =
    subst (λ n. n < 2 ^ 80) (sym c.band-band_out.ensures.value) (columns_fit c.args.artery.now c.args.point.now.values.items c.requires.columns).band_out

pub banded-requires-clause-band_in : goal.banded-requires-clause-band_in
banded-requires-clause-band_in c =
    subst (λ n. n < 2 ^ 80) (sym c.band-band_in.ensures.value) (columns_fit c.args.artery.now c.args.point.now.values.items c.requires.columns).band_in
