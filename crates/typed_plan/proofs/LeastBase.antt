-- The numbers of the least base are those of a base that the program can hold.
use Rattle.std.proofs.Common.{◌≡◌, ℕ, ◌+◌, ◌-◌, ◌*◌, ◌^◌, ◌<◌, ◌≤◌, pos, List, length, map, refl, sym, ◌∙◌, ap, subst, arith}
use Rattle.std.specs.Prelude.{None, All}
use Rattle.std.proofs.Math.Nat.{mul-le-mul_right}
use Rattle.linear_theory.proofs.Points.{length-numbered}
use Rattle.progression.specs.Columns.{numbered}
use Rattle.progression.specs.Street.{Street, count}
use Rattle.progression.specs.declared.parts.Dir.{Dir}
use Rattle.progression.specs.declared.parts.Dir.TheVariants.{Outbound, Inbound}
use Rattle.artery_model.specs.Valid.{IsValid}
use Rattle.time_space.specs.Timing.{AreOfBase, base_of}
use Rattle.description_reader.specs.Typed.{Typed, IsTyped}
use Rattle.typed_plan.specs.Counts.{HasCounts}
use Rattle.typed_plan.specs.Grid.{AreLeast, least_grid, least_unit, red_tick, runs, size, too_fine, least_base}
use Rattle.typed_plan.specs.declared.times.Times.TheVariants.{Run}
use Rattle.typed_plan.proofs.Fine.{is_fine}
use Rattle.typed_plan.proofs.Forward.{begun}
use Rattle.typed_plan.proofs.LeastGrid.{grid_above, unit_least}

pub record AreParts (a : Street) (p : Typed) (grid unit : ℕ) (patterns reds run_out run_in : List ℕ) : Type 0 where
  pub grid_is : grid ≡ least_grid a p
  pub unit_is : unit ≡ least_unit a p
  pub patterns_are : patterns ≡ p.patterns
  pub reds_are : reds ≡ numbered (count a) 1 (red_tick a p)
  pub run_out_are : run_out ≡ runs a p Outbound
  pub run_in_are : run_in ≡ runs a p Inbound

pub parts_of : (a : Street) (p : Typed) {grid unit : ℕ} {patterns reds run_out run_in : List ℕ} → grid ≡ least_grid a p → unit ≡ least_unit a p → patterns ≡ p.patterns
    → reds ≡ numbered (count a) 1 (red_tick a p) → run_out ≡ runs a p Outbound → run_in ≡ runs a p Inbound → AreParts a p grid unit patterns reds run_out run_in
parts_of a p d e f g h i = record { grid_is = d; unit_is = e; patterns_are = f; reds_are = g; run_out_are = h; run_in_are = i }

-- what is known of the sizes of the least grid and a part on it
pub least_sizes : (a : Street) (p : Typed) → IsValid a → IsTyped p → too_fine a p ≡ None → AreLeast a p (least_grid a p) (least_unit a p)
least_sizes a p valid typed fine =
    let parts : 1 ≤ a.head.parts = let l = valid.least_parts in omega (arith, l) in
    let limits = is_fine a p fine in
    let two = unit_least a p parts (begun a p typed parts) in
    let m : 1 * least_unit a p ≤ a.head.parts * least_unit a p = mul-le-mul_right (least_unit a p) parts in
    let l = limits.cycle in
    record { grid_is = refl; unit_is = refl; grid_small = limits.grid; unit_some = omega (arith, two); unit_small = omega (arith, m, l); cycle_small = l }

pub are_least : (a : Street) (p : Typed) (grid unit : ℕ) → grid ≡ least_grid a p → unit ≡ least_unit a p → IsValid a → IsTyped p → too_fine a p ≡ None → AreLeast a p grid unit
are_least a p grid unit d e valid typed fine = subst (λ g. AreLeast a p g unit) (sym d) (subst (λ u. AreLeast a p (least_grid a p) u) (sym e) (least_sizes a p valid typed fine))

one_back : (n : ℕ) → 1 ≤ n → n - 1 + 1 ≡ n
one_back n h = omega arith

module _ (a : Street) (p : Typed) (grid unit : ℕ) (patterns reds run_out run_in : List ℕ) (h : AreParts a p grid unit patterns reds run_out run_in) where
  pub base_is : base_of grid unit patterns reds run_out run_in ≡ least_base a p
  base_is = λ i. record {
    grid = h.grid_is i;
    unit = h.unit_is i;
    patterns = h.patterns_are i;
    reds = map pos (h.reds_are i);
    run_out = h.run_out_are i;
    run_in = h.run_in_are i;
  }

  module _ (valid : IsValid a) (typed : IsTyped p) (counts : HasCounts a p) (fine : too_fine a p ≡ None) (small : All (λ n. n < 2 ^ 80) reds) where
    pub of_base : AreOfBase grid unit patterns reds run_out run_in
    of_base =
        let parts : 1 ≤ a.head.parts = let l = valid.least_parts in omega (arith, l) in
        let few : 1 ≤ count a = let l = valid.few in omega (arith, l) in
        let limits = is_fine a p fine in
        let begins = begun a p typed parts in
        let unit_small = (least_sizes a p valid typed fine).unit_small in
        let AllSmall : List ℕ → Type 0 = λ xs. All (λ n. n < 2 ^ 80) xs in
        let wide : length patterns ≡ count a = ap length h.patterns_are ∙ counts.patterns in
        let count_of = λ (d : Dir). ap (λ n. n + 1) (length-numbered (count a - 1) 1 (size a p (Run d))) ∙ one_back (count a) few ∙ sym wide in
        record {
          grid_least = subst (λ n. 1 ≤ n) (sym h.grid_is) (grid_above a p parts begins);
          grid_most = subst (λ n. n < 2 ^ 80) (sym h.grid_is) limits.grid;
          unit_least = subst (λ n. 2 ≤ n) (sym h.unit_is) (unit_least a p parts begins);
          unit_most = subst (λ n. n < 2 ^ 80) (sym h.unit_is) unit_small;
          few = let l = valid.few in omega (arith, l, wide);
          many = let l = valid.many in omega (arith, l, wide);
          reds_count = ap length h.reds_are ∙ length-numbered (count a) 1 (red_tick a p) ∙ sym wide;
          run_out_count = ap (λ xs. length xs + 1) h.run_out_are ∙ count_of Outbound;
          run_in_count = ap (λ xs. length xs + 1) h.run_in_are ∙ count_of Inbound;
          patterns_each = subst (λ xs. All (λ n. (1 ≤ n) × (n ≤ 4)) xs) (sym h.patterns_are) typed.patterns;
          reds_each = small;
          run_out_each = subst AllSmall (sym h.run_out_are) limits.out;
          run_in_each = subst AllSmall (sym h.run_in_are) limits.back;
        }
