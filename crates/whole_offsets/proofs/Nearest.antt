-- The first offset is 0: so of those that are nearest to a base's, and after every move.
use Rattle.std.proofs.Common.{◌≡◌, ℕ, zero, suc, pos, ◌-ℤ◌, ◌+◌, ◌*◌, ◌%◌, ◌<◌, ◌≤◌, nat_le, Bool, true, false, All, List, slice_index, ◌∙◌, ap, refl, arith, mul-pos}
use Rattle.std.specs.Prelude.{◌&&◌, nat_lt, if◌then◌else◌}
use Rattle.std.proofs.Math.Nat.{zero-mod}
use Rattle.std.proofs.lemmas.Bool.{lt-leb}
use Rattle.std.proofs.lemmas.Int.{ints}
use Rattle.progression.specs.Street.{Street}
use Rattle.progression.specs.BaseRecord.{BaseRecord, cycle, common_red}
use Rattle.progression.specs.Good.{IsBase}
use Rattle.progression.proofs.Remainders.{mod_unique}
use Rattle.artery_model.specs.Valid.{IsValid}
use Rattle.second_plan.specs.Nearest.{IsNearest, AnyNumber}
use Rattle.second_plan.specs.Seconds.{red_after, AreOffsets}
use Rattle.whole_offsets.specs.Moves.{IsMoved}
use Rattle.whole_offsets.specs.declared.moves.Move.{Move}
use Rattle.whole_offsets.specs.Offsets.{AreWithin}

-- nothing is nearest to nothing
nearest_nothing : (d k n rounded : ℕ) → 0 < d → n ≡ 0 → IsNearest AnyNumber (k * n) d rounded → rounded ≡ 0
nearest_nothing d k n zero above e h = omega arith
nearest_nothing d k n (suc r) above e h =
    let none : k * n ≡ 0 = ap (λ m. k * m) e ∙ omega arith in
    let near = h.nearest 0 tt in
    let some : 0 < suc r * d = mul-pos (omega arith) above in
    absurd (omega (arith, none, near, some))

module _ (a : Street) (t : BaseRecord) (k : ℕ) (offsets : List ℕ) (valid : IsValid a) (base : IsBase a t) (h : AreOffsets a t k offsets) where
  cycle_above : 0 < cycle a t
  cycle_above = let unit = base.formed.unit in let parts = valid.least_parts in mul-pos (omega (arith, parts)) (omega (arith, unit))

  first_after : red_after a t 1 ≡ 0
  first_after = mod_unique (common_red t 1 -ℤ common_red t 1) (pos 0) (cycle a t) 0 (omega (arith, ints)) cycle_above

  pub nearest_begins : slice_index offsets 0 ≡ 0
  nearest_begins =
      let few = valid.few in
      let o = h.each 1 (omega arith, omega (arith, few)) in
      let none = nearest_nothing (cycle a t) k (red_after a t 1) o.rounded cycle_above first_after o.near in
      let zero_mod : 0 % k ≡ 0 = zero-mod k in
      o.within ∙ ap (λ r. r % k) none ∙ zero_mod

  pub nearest_within : All (λ n. n < k) offsets → AreWithin a k offsets
  nearest_within below = record { each_has = h.each_has; below = below; first = nearest_begins }

-- no move is one of the first signal
stays : (before : Bool) (stop moves there : ℕ) → before ≡ false → (if before && nat_lt 0 stop then moves else there) ≡ there
stays true stop moves there e = absurd cc
stays false stop moves there e = refl

pub moved_within : (a : Street) (k : ℕ) (offsets : List ℕ) (m : Move) (others : List ℕ) → IsValid a → AreWithin a k offsets → 1 ≤ m.start → IsMoved k offsets m others
    → All (λ n. n < k) others → AreWithin a k others
moved_within a k offsets m others valid h late moves below =
    let few = valid.few in
    let long = h.each_has in
    record {
      each_has = moves.as_many ∙ h.each_has;
      below = below;
      first = moves.each 0 (omega (arith, few, long)) ∙ stays (nat_le m.start 0) m.stop ((slice_index offsets 0 + m.step) % k) (slice_index offsets 0) (lt-leb m.start 0 (omega (arith, late)))
          ∙ h.first;
    }
