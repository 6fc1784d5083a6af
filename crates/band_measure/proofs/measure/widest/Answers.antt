use Rattle.band_measure.proofs.measure.widest.Goals as goal

pub returns-clause-widest : goal.returns-clause-widest
returns-clause-widest c = rw c.base.ensures at c.widest_on.ensures.widest

pub returns-clause-some : goal.returns-clause-some
returns-clause-some c = rw c.base.ensures at c.widest_on.ensures.some
