-- From what the steps of a node answer to how the run of a line stopped.
use Rattle.std.proofs.Common.{arith, ◌≡◌, ℕ, ◌+◌, ◌≤◌, true, false, Option, Some, None, IfSome, sym, ◌∙◌, ap, subst}
use Rattle.simplex_theory.specs.Tableau.{IsShaped}
use Rattle.simplex_theory.specs.BlandRule.{optimal, infeasible, move}
use Rattle.simplex_theory.specs.StepCounts.{after, is_pivot}
use Rattle.fraction_tableau.specs.NamedTableaus.{NamedTableau}
use Rattle.dual_simplex.specs.declared.outcome.Step.TheVariants as steps
use Rattle.work_meter.specs.declared.meter.Meter.{Meter}
use Rattle.dual_simplex.specs.declared.outcome.NodeEnd.{NodeEnd}
use Rattle.dual_simplex.specs.declared.outcome.NodeEnd.TheVariants.{Optimal, Infeasible, WorkOut, Wide}
use Rattle.dual_simplex.specs.Steps.{step_of}
use Rattle.work_meter.specs.Work.{metered, is_at_limit, IsWithin, capped}
use Rattle.dual_simplex.specs.Ends.{Solved, stepped}
use Rattle.dual_simplex.proofs.Ends.{end_says}
use Rattle.program_builder.specs.Loading.{HasRoomFor}
use Rattle.program_builder.proofs.BuildingLaws.{made_spent}
use Rattle.branch_and_bound.specs.Lines.{BoxLine}
use Rattle.box_search.specs.Program.{Program}
use Rattle.box_search.specs.BoxRuns.{table_of}
use Rattle.box_search.specs.Ends.{table_after, named_after, named_first, steps_of}
use Rattle.box_search.specs.laws.RunLaws.{run_dual, run_height, run_width}
use Rattle.box_search.proofs.Runs.{ends_step, reached_by, table_by, end_here, due_at, due_before}
use Rattle.box_search.specs.Sites.{step_at, IsReached}
use Rattle.box_search.specs.Runs.{IsOptimalRun, IsInfeasibleRun, IsRunTo, IsRun}
use Rattle.box_search.proofs.Leaving.{wide_before}
use Rattle.std.proofs.lemmas.Bool.{eqb-true}

module _ {T W : Type 0} (p : Program T W) (line : BoxLine) (v : p.IsSound) (s t : NamedTableau) (m n : Meter) (old new k : ℕ) (o : s ≡ named_first p line) where
  here : after s.table k ≡ table_after p line k
  here = table_by p line s k (ap (λ u. u.table) o)

  stepped_is : stepped s k ≡ named_after p line k
  unfolding table_after
  stepped_is = ap (λ u. stepped u k) o

  reached : (e : NodeEnd) → Solved e s t m n old new k → IsReached p line k
  reached e h = reached_by p line e s t m n old new k (ap (λ u. u.table) o) h

  optimal_run : Solved Optimal s t m n old new k → (k ≡ steps_of p line) × IsOptimalRun p line t
  optimal_run h =
      let r = reached Optimal h in
      let w : move (table_after p line k) ≡ optimal = ap move (sym here) ∙ end_says (after s.table k) (metered m k) Optimal h.ends in
      let f = end_here p line v k r (ap is_pivot w) in (
        f,
        record {
          reached = subst (IsReached p line) f r;
          step = subst (λ j. step_at p line j ≡ steps.Optimal) f (ap step_of (sym here) ∙ ends_step (after s.table k) (metered m k) Optimal h.ends);
          move_is = subst (λ j. move (table_after p line j) ≡ optimal) f w;
          tableau_is = h.table ∙ stepped_is ∙ ap (named_after p line) f;
        },
      )

  infeasible_run : (row : ℕ) → Solved (Infeasible row) s t m n old new k → (k ≡ steps_of p line) × IsInfeasibleRun p line t row
  infeasible_run row h =
      let r = reached (Infeasible row) h in
      let w : move (table_after p line k) ≡ infeasible row = ap move (sym here) ∙ end_says (after s.table k) (metered m k) (Infeasible row) h.ends in
      let f = end_here p line v k r (ap is_pivot w) in (
        f,
        record {
          reached = subst (IsReached p line) f r;
          step = subst (λ j. step_at p line j ≡ steps.Infeasible row) f (ap step_of (sym here) ∙ ends_step (after s.table k) (metered m k) (Infeasible row) h.ends);
          move_is = subst (λ j. move (table_after p line j) ≡ infeasible row) f w;
          tableau_is = h.table ∙ stepped_is ∙ ap (named_after p line) f;
        },
      )

  limit_met : (spent : ℕ) (limit : Option ℕ) → is_at_limit spent limit ≡ true → limit ≡ Some spent
  limit_met spent None e = absurd (let f : false ≡ true = e in cc)
  limit_met spent (Some most) e = ap Some (sym (eqb-true spent most e))

  stops : (later : Meter) (e : NodeEnd) → later.spent ≡ n.spent → later.limit ≡ n.limit → Solved e s t m n old new k → IsRunTo p line t later k e
  stops later Optimal i j h = optimal_run h
  stops later (Infeasible row) i j h = infeasible_run row h
  stops later WorkOut i j h =
      let w = end_says _ (metered m k) WorkOut h.ends in
      let due = due_at p line k (reached WorkOut h) (ap (λ u. is_pivot (move u)) (sym here) ∙ w.0) in (
        due_before p line v k due,
        due,
        j ∙ ap (λ u. u.limit) h.meter ∙ limit_met _ _ w.1 ∙ ap Some (sym (i ∙ ap (λ u. u.spent) h.meter)),
      )
  stops later (Wide in_ratio cell) i j h =
      let r = reached (Wide in_ratio cell) h in
      let s = ap step_of (sym here) ∙ (end_says _ (metered m k) (Wide in_ratio cell) h.ends).0 in
      (wide_before p line v k in_ratio cell r s, r, s)

  -- the steps after a unit for the box
  pub run_from : (before later : Meter) (e : NodeEnd) → old ≡ 0 → m.spent ≡ capped (before.spent + 1) → later.spent ≡ n.spent → later.limit ≡ n.limit
      → IsWithin later.spent later.limit → Solved e s t m n old new k → IsRun p line t before later e new
  run_from before later e none unit i j within h = record {
    k = k;
    leaves = record { spent = i ∙ ap (λ u. u.spent) h.meter ∙ ap (λ x. capped (x + k)) unit ∙ omega arith; within = within };
    pivots_are = h.pivots ∙ ap (λ x. capped (x + k)) none ∙ ap capped (let z : 0 + k ≡ k = omega arith in z);
    stops = stops later e i j h;
  }

-- the tableau keeps room for the program's rows
module _ {T W : Type 0} (p : Program T W) (line : BoxLine) (v : p.IsSound) (s t : NamedTableau) (m n : Meter) (old new k : ℕ) (o : s ≡ named_first p line) where
  made_at : HasRoomFor (table_of p) (named_after p line k)
  made_at = record { rows = run_height p line v k; columns = run_width p line v k }

  made_by : stepped s k ≡ t → HasRoomFor (table_of p) t
  made_by e = subst (HasRoomFor (table_of p)) (sym (stepped_is p line v s t m n old new k o) ∙ e) made_at

  pub made_after : (e : NodeEnd) → IsShaped t.table → Solved e s t m n old new k → HasRoomFor (table_of p) t
  made_after Optimal g h = made_by (sym h.table)
  made_after (Infeasible row) g h = made_by (sym h.table)
  made_after WorkOut g h = made_by (sym h.table)
  made_after (Wide true cell) g h = made_by (sym h.table)
  made_after (Wide false cell) g h =
      made_spent (table_of p) (stepped s k) t (subst IsShaped (sym (here p line v s t m n old new k o)) (run_dual p line v k).shaped) g h.table
      (subst (HasRoomFor (table_of p)) (sym (stepped_is p line v s t m n old new k o)) made_at)

pub within_limit : (spent : ℕ) (limit : Option ℕ) → IfSome limit (λ most. spent ≤ most) → IsWithin spent limit
within_limit spent None h = tt
within_limit spent (Some most) h = h
