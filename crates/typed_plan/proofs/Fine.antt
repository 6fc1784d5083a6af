-- The numbers of a plan that isn't too fine.
use Rattle.std.proofs.Common.{◌≡◌, ◌*◌, ◌^◌, ◌<◌, [], ◌∷◌, ◌++◌}
use Rattle.std.specs.Prelude.{None, All}
use Rattle.progression.specs.Street.{Street}
use Rattle.progression.specs.declared.parts.Dir.TheVariants.{Outbound, Inbound}
use Rattle.description_reader.specs.Typed.{Typed}
use Rattle.typed_plan.specs.Grid.{commons, with_part, with_offsets, with_out, least_grid, least_unit, runs, sizes, too_fine}
use Rattle.typed_plan.specs.declared.times.Times.TheVariants.{Part, After, Run}
use Rattle.typed_plan.proofs.First.{all_small, head_small, both_small}

pub record IsFine (a : Street) (p : Typed) : Type 0 where
  pub grid : least_grid a p < 2 ^ 80
  pub out : All (λ n. n < 2 ^ 80) (runs a p Outbound)
  pub back : All (λ n. n < 2 ^ 80) (runs a p Inbound)
  pub cycle : a.head.parts * least_unit a p < 2 ^ 80

pub is_fine : (a : Street) (p : Typed) → too_fine a p ≡ None → IsFine a p
is_fine a p h =
    let one = both_small (commons a p Part 1) (commons a p After (with_part a p) ++ (commons a p (Run Outbound) (with_offsets a p) ++ (commons a p (Run Inbound) (with_out a p) ++ sizes a p))) h in
    let two = both_small (commons a p After (with_part a p)) (commons a p (Run Outbound) (with_offsets a p) ++ (commons a p (Run Inbound) (with_out a p) ++ sizes a p)) one.1 in
    let three = both_small (commons a p (Run Outbound) (with_offsets a p)) (commons a p (Run Inbound) (with_out a p) ++ sizes a p) two.1 in
    let four = both_small (commons a p (Run Inbound) (with_out a p)) (sizes a p) three.1 in
    let grid = head_small (least_grid a p) (runs a p Outbound ++ (runs a p Inbound ++ (a.head.parts * least_unit a p ∷ []))) four.1 in
    let out = both_small (runs a p Outbound) (runs a p Inbound ++ (a.head.parts * least_unit a p ∷ [])) grid.1 in
    let back = both_small (runs a p Inbound) (a.head.parts * least_unit a p ∷ []) out.1 in
    record {
      grid = grid.0;
      out = all_small (runs a p Outbound) out.0;
      back = all_small (runs a p Inbound) back.0;
      cycle = (head_small (a.head.parts * least_unit a p) [] back.1).0;
    }
