-- What the recovery of a vertex promises: a place lies in the box, and a timing is good and has the vertex's weighted band.
use Rattle.std.proofs.Common.{◌≡◌, List, sym, ◌∙◌, ap, subst}
use Rattle.rational_theory.specs.Rational.{ℚ}
use Rattle.progression.specs.Street.{Street}
use Rattle.progression.specs.TimingRecord.{TimingRecord}
use Rattle.progression.specs.Good.{Good}
use Rattle.progression.specs.Best.{weighted_band}
use Rattle.linear_theory.specs.Boxes.{Area, IsBoxOf}
use Rattle.linear_theory.specs.Counts.{IsStreet}
use Rattle.recovery_theory.specs.Vertices.{IsVertex, goal_at}
use Rattle.recovery_theory.proofs.Kept.{vertices_recover}
use Rattle.search_box.specs.declared.span.At.{At}
use Rattle.search_box.specs.Places.{IsPlace}
use Rattle.offset_recovery.specs.Outcomes.{Splits, Gives}
use Rattle.offset_recovery.specs.Recovered.{recovered}
use Rattle.offset_recovery.proofs.Whole.{whole_of, place_inside, gives_timing, splits_place}

module _ (a : Street) (box : Area) (x : List ℚ) (h : IsStreet a) (b : IsBoxOf a box) (v : IsVertex a box x) where
  pub splits_inside : (place : At) → recovered a box x ≡ Splits place → IsPlace box place
  splits_inside place e = place_inside a box x place h b v (splits_place a box x place e)

  pub gives_good : (t : TimingRecord) → recovered a box x ≡ Gives t → Good a t × (weighted_band a t ≡ goal_at a x)
  gives_good t e =
      let g = gives_timing a box x t e in
      let w = whole_of a box x b g.0 in
      (subst (λ s. Good a s) g.1 (vertices_recover.good a box x h v w), ap (weighted_band a) (sym g.1) ∙ vertices_recover.band a box x h v w)
