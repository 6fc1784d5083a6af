-- What the recovery of a vertex of links promises: a place lies in the box, and a timing is good and has the vertex's goal as its value.
use Rattle.std.proofs.Common.{◌≡◌, List, arith}
use Rattle.rational_theory.specs.Rational.{ℚ}
use Rattle.progression.specs.Street.{Street}
use Rattle.linear_theory.specs.Boxes.{Area, IsBoxOf}
use Rattle.linear_theory.specs.Counts.{IsStreet}
use Rattle.search_box.specs.declared.span.At.{At}
use Rattle.search_box.specs.Places.{IsPlace}
use Rattle.link_theory.specs.LinkVertices.{IsLinkVertex}
use Rattle.link_theory.proofs.PlainVertices.{vertex_loops, vertex_turns}
use Rattle.offset_recovery.specs.Inside.{SplitsInside}
use Rattle.offset_recovery.specs.Outcomes.{Splits}
use Rattle.offset_recovery.specs.Recovered.{recovered_by}
use Rattle.offset_recovery.proofs.Whole.{place_within, by_splits, only_splits}
use Rattle.multi_band.specs.LinkRecovered.{link_number_tests, linked, link_recovered}

module _ (a : Street) (box : Area) (x : List ℚ) (h : IsStreet a) (b : IsBoxOf a box) (v : IsLinkVertex a box x) where
  pub link_inside : SplitsInside a box x
  link_inside = record {
    columns = let two = h.signals in let e = v.columns in omega arith;
    loops = vertex_loops a box x h b v;
    turns = vertex_turns a box x h b v;
  }

  pub splits_inside : (place : At) → link_recovered a box x ≡ Splits place → IsPlace box place
  unfolding link_recovered
  splits_inside place e =
      place_within a box x place link_inside
      (by_splits a box x (link_number_tests a x) place (only_splits (linked a x) (recovered_by a box x (link_number_tests a x)) place e))
