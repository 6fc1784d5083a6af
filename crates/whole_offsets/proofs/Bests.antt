-- No good timing with a plan's grid, cycle, patterns and offsets has a greater weighted band.
use Rattle.std.proofs.Common.{◌≡◌, ℕ, ℤ, pos, ◌*◌, ◌≤◌, List, ap, arith, inl, inr, unsigned_abs}
use Rattle.std.proofs.lemmas.Int.{ints}
use Rattle.progression.specs.Street.{Street}
use Rattle.progression.specs.BaseRecord.{BaseRecord, cycle}
use Rattle.progression.specs.TimingRecord.{TimingRecord, base}
use Rattle.progression.specs.Lines.{RunsOn}
use Rattle.progression.specs.declared.parts.Dir.{Dir}
use Rattle.progression.specs.declared.parts.Dir.TheVariants.{Outbound, Inbound}
use Rattle.artery_model.specs.Valid.{IsValid}
use Rattle.time_space.proofs.FinerGrids.{mul-le}
use Rattle.band_measure.proofs.Cuts.{cut_most}
use Rattle.whole_offsets.specs.Offsets.{IsRival, IsWidth, IsPlanOf, IsBestOfRuns}
use Rattle.whole_offsets.proofs.Rank.{weighs_most}

within : (a : Street) (b : BaseRecord) (d : Dir) (x : ℤ) (width : ℕ) → IsWidth a b d x width → (s : BaseRecord) (y : ℤ) (w : ℕ) → IsRival a b d s → RunsOn a s d y w → w ≤ width
within a b d x width (inl h) s y w r g = h.widest s y w r g
within a b d x width (inr h) s y w r g = absurd (h.none s y w r g)

pub best_of_runs : (a : Street) → IsValid a → (b : BaseRecord) (k : ℕ) (offsets : List ℕ) (p : TimingRecord) → IsPlanOf a b k offsets p → IsBestOfRuns a p
best_of_runs a valid b k offsets p h s on pace g =
    let rival : (d : Dir) → IsRival a (base p) d (base s) = λ d. record { offsets = on; speeds = record { fast = g.base.fast d; slow = g.base.slow d }; pace = pace } in
    let out = within a (base p) Outbound p.first_out h.wide.outbound h.outbound (base s) s.first_out s.band_out (rival Outbound) g.outbound in
    let back = within a (base p) Inbound p.first_in h.wide.inbound h.inbound (base s) s.first_in s.band_in (rival Inbound) g.inbound in
    let e : pos (unsigned_abs a.head.ratio.num) ≡ a.head.ratio.num = let l = valid.ratio.least in omega (arith, ints, l) in
    let most = cut_most a (unsigned_abs a.head.ratio.num) e h.wide (record { outbound = p.band_out; inbound = p.band_in }) h.cut s.band_out s.band_in out back g.ratio g.equal in
    let same : cycle a (base s) ≡ cycle a (base p) = ap (cycle a) on in
    let unit = g.base.formed.unit in
    let parts = valid.least_parts in
    let four : 2 * 2 ≤ cycle a (base s) = mul-le parts unit in
    weighs_most a valid s p (omega (arith, four, same)) same most.0 most.1
