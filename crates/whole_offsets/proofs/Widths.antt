-- What is found in each direction makes the plan.
use Rattle.std.proofs.Common.{◌≡◌, ℕ, ℤ, pos, ◌*ℤ◌, ◌*◌, ◌≤◌, List, refl, sym, subst, arith, inl, inr, true, Option, None, Some}
use Rattle.std.specs.Prelude.{◌⊎◌}
use Rattle.progression.specs.Street.{Street}
use Rattle.progression.specs.BaseRecord.{BaseRecord}
use Rattle.progression.specs.TimingRecord.{TimingRecord, base, first, band}
use Rattle.progression.specs.Lines.{IsGreenWay, RunsOn}
use Rattle.progression.specs.declared.parts.Dir.{Dir}
use Rattle.artery_model.specs.Valid.{IsValid}
use Rattle.band_measure.specs.Pairs.{FinerPairs}
use Rattle.band_measure.specs.Widest.{NoneRuns, IsWidestBand, IsWidest as IsWidestPair}
use Rattle.band_measure.specs.declared.pair.Widest.{Widest}
use Rattle.free_runs.specs.Free.{KeepsSpeeds}
use Rattle.whole_offsets.specs.Scale.{limits_pace}
use Rattle.whole_offsets.specs.Offsets.{IsOnOffsets, IsWidest, HasNoLine, IsWidth}
use Rattle.whole_offsets.specs.Score.{IsLack}
use Rattle.whole_offsets.specs.Lines.{HasLine, LacksLine}
use Rattle.whole_offsets.specs.Measured.{or_nothing, lacking}
use Rattle.whole_offsets.proofs.Rivals.{rival_kept, rival_runs}

-- the width of a direction, and whether it has a line
pub record IsFound (a : Street) (p : TimingRecord) (d : Dir) (width lineless : ℕ) : Type 0 where
  pub is_width : IsWidth a (base p) d (first p d) width
  pub is_lack : IsLack a p d lineless

-- the plan's band is green where its first line has one that is no narrower
module _ (a : Street) (p : TimingRecord) (d : Dir) where
  pub green_of : (width : ℕ) → RunsOn a (base p) d (first p d) width → band p d ≤ width → IsGreenWay a p d
  green_of width r l = λ j m s q. r j m s (omega (arith, l, q))

  found_widest : (width lineless : ℕ) → lineless ≡ 0 → IsWidest a (base p) d (first p d) width → band p d ≤ width → IsFound a p d width lineless
  found_widest width lineless e w l = record { is_width = inl w; is_lack = inl (green_of width w.runs l, e) }

  found_none : (width lineless : ℕ) → lineless ≡ 1 → HasNoLine a (base p) d width → ¬ IsGreenWay a p d → IsFound a p d width lineless
  found_none width lineless e n g = record { is_width = inr n; is_lack = inr (g, e) }

-- with free runs
module _ (a : Street) (f : BaseRecord) (p : TimingRecord) (d : Dir) (on : IsOnOffsets f (base p)) (kept : KeepsSpeeds a (base p) d) where
  pub free_found : (runs : List ℕ) (start width lineless : ℕ) → (HasLine a f d runs start width × (lineless ≡ 0)) ⊎ (LacksLine a f d width × (lineless ≡ 1))
      → (HasLine a f d runs start width → RunsOn a (base p) d (first p d) width) → band p d ≤ width → IsFound a p d width lineless
  free_found runs start width lineless (inl h) r l = found_widest a p d width lineless h.1 (record {
    runs = r h.0;
    widest = λ s x w v g. h.0.widest s.run_out s.run_in x w (rival_kept a f (base p) on d s v) (rival_runs a f (base p) on d s v x w g);
  }) l
  free_found runs start width lineless (inr h) r l = found_none a p d width lineless h.1 (record {
    none = λ s x w v g. h.0.none s.run_out s.run_in x w (rival_kept a f (base p) on d s v) (rival_runs a f (base p) on d s v x w g);
    nothing = h.0.nothing;
  }) (λ g. h.0.none p.run_out p.run_in (first p d) (band p d) (subst (λ b. KeepsSpeeds a b d) on kept) (subst (λ b. RunsOn a b d (first p d) (band p d)) on g))

-- where pace is limited
module _ (a : Street) (p : TimingRecord) (d : Dir) (valid : IsValid a) (two : 2 ≤ p.unit) (finer : FinerPairs) (limited : limits_pace a ≡ true) where
  no_wider : (w : Widest) → IsWidestPair a (base p) d w.first w.band → (x : ℤ) (b : ℕ) → RunsOn a (base p) d x b → b ≤ w.band
  no_wider w h x b g =
      let more = h.widest 1 (x *ℤ pos 1) (b * 1) (omega arith) ((finer a (base p) d 1 x b valid two (omega arith)).0 g) in omega (arith, more)

  none_here : NoneRuns a (base p) d → (x : ℤ) (b : ℕ) → RunsOn a (base p) d x b → ⊥
  none_here n x b g = n 1 (x *ℤ pos 1) (b * 1) (omega arith) ((finer a (base p) d 1 x b valid two (omega arith)).0 g)

  pub pace_found : (found : Option Widest) → IsWidestBand a (base p) d found → first p d ≡ pos (or_nothing found).first
      → band p d ≤ (or_nothing found).band → IsFound a p d (or_nothing found).band (lacking found)
  pace_found (Some w) h e l = found_widest a p d w.band 0 refl (record {
    runs = subst (λ x. RunsOn a (base p) d x w.band) (sym e) h.runs;
    widest = λ s x b v g. no_wider w h x b (subst (λ q. RunsOn a q d x b) (v.pace limited) g);
  }) l
  pace_found None h e l = found_none a p d 0 1 refl (record {
    none = λ s x b v g. none_here h x b (subst (λ q. RunsOn a q d x b) (v.pace limited) g);
    nothing = refl;
  }) (λ g. none_here h (first p d) (band p d) g)
