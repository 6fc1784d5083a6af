-- The state of the loop over the steps of a node.
use Rattle.std.proofs.Common.{◌≡◌, ℕ, Bool, true, false, true≢false, Some, None, cond, min, add-one, ◌&&◌, ◌+◌, ◌-◌, ◌<◌, ◌≤◌, ◌^◌, ◌⊎◌, inl, inr, refl, sym, ◌∙◌, ap, ap₂, subst, arith}
use Rattle.simplex_theory.specs.Tableau.{Tableau, height, width, exchange}
use Rattle.simplex_theory.specs.Paths.{HaveSameBasics}
use Rattle.simplex_theory.proofs.Promises.{steps_end}
use Rattle.simplex_theory.specs.DualSteps.{IsDual}
use Rattle.simplex_theory.specs.BlandRule.{move, made, next, pivoted}
use Rattle.simplex_theory.proofs.BlandRule.{dual_next}
use Rattle.simplex_theory.specs.StepCounts.{after, is_pivot, steps_to_end}
use Rattle.simplex_theory.proofs.StepCounts.{steps_fall, next_is}
use Rattle.fraction_tableau.specs.NamedTableaus.{NamedTableau}
use Rattle.dual_simplex.specs.declared.outcome.Step.{Step}
use Rattle.dual_simplex.specs.declared.outcome.Step.TheVariants as steps
use Rattle.work_meter.specs.declared.meter.Meter.{Meter}
use Rattle.dual_simplex.specs.declared.outcome.NodeEnd.{NodeEnd}
use Rattle.fraction_tableau.specs.declared.wide_cell.WideCell.{WideCell}
use Rattle.dual_simplex.specs.declared.outcome.NodeEnd.TheVariants.{WorkOut, Wide}
use Rattle.dual_simplex.specs.Steps.{step_of, IsAfterStep}
use Rattle.dual_simplex.proofs.Steps.{Agrees, agrees}
use Rattle.work_meter.specs.Work.{capped, metered, is_out, IsWithin}
use Rattle.work_meter.proofs.Work.{below_limit, within_next, metered_none, metered_next}
use Rattle.dual_simplex.specs.Ends.{end_by_step, end_at, stepped, IsAfterEnd, Solved}

-- so many pivots were made
pub record Running (s : NamedTableau) (p : ℕ) (m : Meter) (u : NamedTableau) (q : ℕ) (n : Meter) : Type 0 where
  pub made : ℕ
  pub goes_on : (i : ℕ) → i < made → end_at (after s.table i) (metered m i) ≡ None
  pub table : u ≡ stepped s made
  pub dual : IsDual u.table
  pub meter : n ≡ metered m made
  pub pivots : q ≡ capped (p + made)
  pub within : IsWithin n.spent n.limit
  pub start : IsDual s.table
  pub left : made + steps_to_end u.table ≡ steps_to_end s.table

pub running_none : (s : NamedTableau) (p : ℕ) (m : Meter) → IsDual s.table → p < 2 ^ 64 → m.spent < 2 ^ 64 → IsWithin m.spent m.limit → Running s p m s p m
unfolding after
running_none s p m d h k w = record {
  made = 0;
  goes_on = λ i l. absurd (omega arith);
  table = refl;
  dual = d;
  meter = metered_none m k;
  pivots =
      omega arith;
  within = w;
  start = d;
  left = omega arith;
}

pivoted_next : (t : Tableau) (r j : ℕ) → move t ≡ pivoted r j → next t ≡ exchange r j t
pivoted_next t r j e = next_is t ∙ ap (λ m. made m t) e

-- no work was out, and the step made a pivot
on_step : (t : Tableau) (m : Meter) (r j : ℕ) → (is_out m && is_pivot (move t)) ≡ false → step_of t ≡ steps.Pivoted r j → end_at t m ≡ None
unfolding end_at
on_step t m r j b e = ap₂ (λ c s. cond c (Some WorkOut) (end_by_step s)) b e

not_out : (a b : Bool) → (a && b) ≡ false → b ≡ true → a ≡ false
not_out true true e h = absurd (true≢false e)
not_out true false e h = absurd (true≢false (sym h))
not_out false b e h = refl

pub running_next : (s : NamedTableau) (p : ℕ) (m : Meter) (u v : NamedTableau) (q r : ℕ) (n k : Meter) (i j : ℕ) → Running s p m u q n
    → (is_out n && is_pivot (move u.table)) ≡ false → step_of u.table ≡ steps.Pivoted i j
    → v ≡ record { table = exchange i j u.table; names = u.names; spent = u.spent } → r ≡ min (q + 1) (2 ^ 64 - 1) → k.spent ≡ capped (n.spent + 1) → k.limit ≡ n.limit → Running s p m v r k
unfolding after
running_next s p m u v q r n k i j a b e f g h l =
    let moves : move u.table ≡ pivoted i j = subst (λ (x : Step). Agrees x (move u.table)) e (agrees u.table) in
    let t : v.table ≡ next u.table = ap (λ (x : NamedTableau). x.table) f ∙ sym (pivoted_next u.table i j moves) in
    let table : u.table ≡ after s.table a.made = ap (λ (x : NamedTableau). x.table) a.table in
    let names : v.names ≡ s.names = ap (λ (x : NamedTableau). x.names) f ∙ ap (λ (x : NamedTableau). x.names) a.table in
    let spent : v.spent ≡ s.spent = ap (λ (x : NamedTableau). x.spent) f ∙ ap (λ (x : NamedTableau). x.spent) a.table in
    let new : v.table ≡ after s.table (a.made + 1) = t ∙ ap next table ∙ rw add-one refl in
    let c = a.pivots in
    let here = subst (λ x. end_at x (metered m a.made) ≡ None) table (subst (λ x. end_at u.table x ≡ None) a.meter (on_step u.table n i j b e)) in
    record {
      made = a.made + 1;
      goes_on = λ x y. step x (last x y) here;
      table = λ x. record { table = new x; names = names x; spent = spent x };
      dual = subst IsDual (sym t) (dual_next u.table a.dual);
      meter = metered_next m n k a.made a.meter h l;
      pivots = omega arith;
      within = subst (λ o. IsWithin k.spent o) (sym l)
          (within_next n.spent k.spent n.limit (below_limit n.spent n.limit (not_out (is_out n) (is_pivot (move u.table)) b (ap is_pivot moves)) a.within) h);
      start = a.start;
      left = omega (arith, a.left, steps_fall u.table a.dual (ap is_pivot moves), ap steps_to_end t);
    }
  where
    last : (x : ℕ) → x < a.made + 1 → (x ≡ a.made) ⊎ (x < a.made)
    last x y = grind arith

    step : (x : ℕ) → (x ≡ a.made) ⊎ (x < a.made) → end_at (after s.table a.made) (metered m a.made) ≡ None → end_at (after s.table x) (metered m x) ≡ None
    step x (inl y) z = rw y z
    step x (inr y) z = a.goes_on x y

pub running_falls : (u v : NamedTableau) (i j : ℕ) → IsDual u.table → step_of u.table ≡ steps.Pivoted i j → v ≡ record { table = exchange i j u.table; names = u.names; spent = u.spent }
    → steps_to_end v.table < steps_to_end u.table
running_falls u v i j d e f =
    let moves : move u.table ≡ pivoted i j = subst (λ (x : Step). Agrees x (move u.table)) e (agrees u.table) in
    let t : v.table ≡ next u.table = ap (λ (x : NamedTableau). x.table) f ∙ sym (pivoted_next u.table i j moves) in
    let g = steps_fall u.table d (ap is_pivot moves) in
    let k = ap steps_to_end t in
    omega arith

-- ---- the ends
-- no set of basic variables came twice, and there are fewer pivots than such sets
made_apart : (s : NamedTableau) (p : ℕ) (m : Meter) (u : NamedTableau) (q : ℕ) (n : Meter) → (a : Running s p m u q n) → (i j : ℕ) → i < j → j ≤ a.made
    → HaveSameBasics (after s.table i) (after s.table j) → ⊥
made_apart s p m u q n a i j h l same = let left = a.left in (steps_end s.table a.start).apart i j h (omega arith) same

made_few : (s : NamedTableau) (p : ℕ) (m : Meter) (u : NamedTableau) (q : ℕ) (n : Meter) → (a : Running s p m u q n) → a.made < 2 ^ (height s.table + width s.table)
made_few s p m u q n a = omega (arith, a.left, (steps_end s.table a.start).few)

-- work is out
pub stopped : (s : NamedTableau) (p : ℕ) (m : Meter) (u : NamedTableau) (q : ℕ) (n : Meter) → (a : Running s p m u q n) → (is_out n && is_pivot (move u.table)) ≡ true
    → Solved WorkOut s u m n p q a.made
unfolding end_at
stopped s p m u q n a b =
    let here : end_at u.table n ≡ Some WorkOut = ap (λ c. cond c (Some WorkOut) (end_by_step (step_of u.table))) b in
    record {
      goes_on = a.goes_on;
      ends = subst (λ x. end_at x (metered m a.made) ≡ Some WorkOut) (ap (λ (x : NamedTableau). x.table) a.table) (subst (λ x. end_at u.table x ≡ Some WorkOut) a.meter here);
      table = a.table;
      meter = a.meter;
      pivots = a.pivots;
      apart = made_apart s p m u q n a;
      few = made_few s p m u q n a;
    }

-- the step is an end
pub ended : (s : NamedTableau) (p : ℕ) (m : Meter) (u v : NamedTableau) (q : ℕ) (n : Meter) (x : Step) (e : NodeEnd) → (a : Running s p m u q n)
    → (is_out n && is_pivot (move u.table)) ≡ false → step_of u.table ≡ x → end_by_step x ≡ Some e
    → IsAfterEnd e u v → Solved e s v m n p q a.made
unfolding end_at
ended s p m u v q n x e a b f g h =
    let here : end_at u.table n ≡ Some e = ap₂ (λ c y. cond c (Some WorkOut) (end_by_step y)) b f ∙ g in
    record {
      goes_on = a.goes_on;
      ends = subst (λ y. end_at y (metered m a.made) ≡ Some e) (ap (λ (y : NamedTableau). y.table) a.table) (subst (λ y. end_at u.table y ≡ Some e) a.meter here);
      table = subst (λ y. IsAfterEnd e y v) a.table h;
      meter = a.meter;
      pivots = a.pivots;
      apart = made_apart s p m u q n a;
      few = made_few s p m u q n a;
    }

pub wide_after : (b : Bool) (w : WideCell) (s t : NamedTableau) → IsAfterStep (steps.Wide b w) s t → IsAfterEnd (Wide b w) s t
wide_after true w s t h = h
wide_after false w s t h = h
