use Rattle.std.proofs.Common.{arith}
use Rattle.std.proofs.lemmas.Int.{to_z-of_z}
use borrow.Author.Count.{below_more}
use Rattle.progression.specs.Lines.{IsGreenAt}
use Rattle.time_space.proofs.Fits.{returned, first_size}
use Rattle.time_space.proofs.diagram.first_blocked.Goals as goal

pub loop-place-init : goal.loop-place-init
loop-place-init c =
    let r = returned c.first-line.result c.first-line.type_inv in
    record {
      here = λ h. simp (to_z-of_z, r) c.first-line.ensures.value;
      near = simp (to_z-of_z, r) (first_size c.first-line.result c.first-line.ensures.least c.first-line.ensures.most);
      green = λ k h. absurd (omega (arith, h));
    }

pub loop-place-preserved : goal.loop-place-preserved
loop-place-preserved c =
    let r = returned c.line_beyond-line.result c.line_beyond-line.type_inv in
    record {
      here = λ h. simp (to_z-of_z, r) (c.line_beyond-line.ensures.here h);
      near = simp (to_z-of_z, r) (omega arith);
      green = below_more (λ k. IsGreenAt c.args.artery.now c.args.timing.now c.args.dir k) c.loop-place.place c.loop-place.invariant.green c.in_default.ensures;
    }

pub returns-in-Some : goal.returns-in-Some
returns-in-Some c = record {
  at = c.loop-place.place;
  on_way = rw c.count-place-end.ensures.value at c.loop-place-test.true;
  here = c.in-Some.ensures;
  green_before = c.loop-place.invariant.green;
}

pub returns : goal.returns
returns c = λ j h. c.loop-place.invariant.green j (omega arith)
