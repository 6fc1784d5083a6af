-- The promise is kept.
use Rattle.std.proofs.Common.{inl, inr, ◌*◌, ◌<◌, ◌≤◌, arith}
use Rattle.progression.specs.Street.{Street}
use Rattle.progression.specs.TimingRecord.{TimingRecord, base}
use Rattle.progression.specs.BaseRecord.{cycle}
use Rattle.time_space.proofs.FinerGrids.{mul-le}
use Rattle.mirror_theory.proofs.Widest.{none_runs}
use Rattle.mirror_theory.proofs.Candidates.{runs_there, runs_turned}
use Rattle.mirror_theory.proofs.Ways.{cycle_kept}
use Rattle.mirror_theory.proofs.Phases.{phases_apart}
use Rattle.mirror_theory.proofs.Built.{half_cycle_best}
use Rattle.mirror_theory.specs.Promises.{IsSubject, HalfCyclesSuffice}

some_cycle : (a : Street) (t : TimingRecord) → IsSubject a t → 0 < cycle a (base t)
some_cycle a t h = let e : 2 * 2 ≤ a.head.parts * t.unit = mul-le h.valid.least_parts h.unit in omega (arith, e)

pub half_cycles_suffice : HalfCyclesSuffice
half_cycles_suffice = record {
  none = λ a t h f. none_runs a t h.valid h.unit h.even f;
  best = λ a t h x b r w u s g. half_cycle_best a t h.valid h.unit h.even x b s g r u w;
  turned = λ a t h x b r. runs_turned a t (some_cycle a t h) x b r;
  candidates = λ a t h x b r.
      let e = runs_there a t (some_cycle a t h) (let f = h.valid.few in omega arith) x b r in
      record { signal = e.signal; there = e.there; runs = e.runs };
  phases = λ a t h s best d i at.
      let e = cycle_kept a t 2 s best.has.keeps in (
        (λ f g. phases_apart a s d i (cycle a (base t)) (some_cycle a t h) (omega (arith, e)) g f),
        (λ n. elim (best.centred d i at) [ inl f ↦ absurd (n f) | inr f ↦ f ]),
      );
}
