-- What opening a line's box has to answer, from what the calls on its tableau said: the end was reached after k steps, the leaf was read
-- off the tableau there, and no operation of its sum was refused.
use Rattle.std.proofs.Common.{◌≡◌, ℕ, None, refl, sym, ◌∙◌, ap, ap₂, subst}
use Rattle.rational_theory.specs.Rational.{ℚ}
use Rattle.linear_theory.specs.Boxes.{Area}
use Rattle.named_row.specs.declared.leaves.Leaf.{Leaf}
use Rattle.named_row.specs.declared.leaves.Point.{Point}
use Rattle.simplex_theory.specs.Tableau.{goal_bound}
use Rattle.simplex_theory.specs.RowLists.{vertex_point}
use Rattle.simplex_theory.specs.BlandRule.{optimal, infeasible}
use Rattle.fraction_tableau.specs.NamedTableaus.{NamedTableau}
use Rattle.dual_leaf.specs.Leaves.{goal_multipliers}
use Rattle.dual_simplex.specs.declared.outcome.Step.TheVariants as steps
use Rattle.search_box.specs.declared.span.At.{At}
use Rattle.branch_and_bound.specs.Lines.{BoxLine}
use Rattle.branch_and_bound.specs.Lineages.{Empty, IsOptimal}
use Rattle.work_meter.specs.Work.{capped}
use Rattle.branch_and_bound.specs.declared.opened.Opened.{Opened}
use Rattle.branch_and_bound.specs.OpenedNodes.{OpensEmpty, HasBound, OpensTimed, OpensCut, OpensStuck}
use Rattle.box_search.specs.declared.site.SitePart.{SitePart}
use Rattle.box_search.specs.declared.program.Read.{Read}
use Rattle.box_search.specs.declared.program.Read.TheVariants as reading
use Rattle.box_search.specs.BoxRuns.{outcome_by, IsCutBy, IsReadEnd}
use Rattle.box_search.specs.Program.{Program, Outcome, Refused, Splits, Gives}
use Rattle.box_search.specs.Ends.{steps_of, end_move, last_table, end_point, end_bound, end_leaf, ending_by, ending_of, ending_by_outcome}
use Rattle.box_search.specs.Sites.{step_at, IsReached}
use Rattle.box_search.specs.Runs.{IsOptimalRun}
use Rattle.box_search.specs.Meaning.{Meaning, rules_from, EndsProve}
use Rattle.box_search.specs.laws.Endings.{ends_by_outcome}
use Rattle.box_search.proofs.Runs.{wide_vertex}
use Rattle.box_search.proofs.Reading.{leaf_read, point_read, kept_read}

-- a line whose steps end at an infeasible row ends without a timing
ends_empty : {T W : Type 0} (p : Program T W) (line : BoxLine) (r : ℕ) → end_move p line ≡ infeasible r → ending_of p line ≡ Empty
unfolding ending_of
ends_empty p line r e = ap (ending_by p line) e

module _ {T K : Type 0} (p : Program T SitePart) (m : Meaning K p) (IsFor : Area → Type 0) (q : EndsProve p m IsFor)
    (line : BoxLine) (leaf : Leaf) (read : leaf.multipliers.items ≡ end_leaf p line) (f : p.leaf_fault line.area (end_leaf p line) ≡ None) where
  pub opens_empty : (i : ℕ) → end_move p line ≡ infeasible i → OpensEmpty (rules_from p m) line leaf
  opens_empty i e =
      let empty = ends_empty p line i e in
      record { end = empty; leaf_is = read; refutes = q.refutes line leaf read f empty }

  module _ (e : end_move p line ≡ optimal) (bound : ℚ) (known : bound ≡ end_bound p line) where
    ends : (o : Outcome T SitePart) → p.outcome line.area (end_point p line) ≡ o → ending_of p line ≡ ending_by_outcome o
    ends o g = ends_by_outcome p line o e g

    has_bound : IsOptimal (ending_of p line) → HasBound (rules_from p m) line leaf bound
    has_bound o = record { leaf_is = read; bound_is = known; covers = subst (m.Covers line.area leaf) (sym known) (q.covers line leaf read f o) }

    pub opens_timed : (t : T) → IsFor line.area → p.outcome line.area (end_point p line) ≡ Gives t → OpensTimed (rules_from p m) line leaf bound t
    opens_timed t b g =
        let reads = ends (Gives t) g in
        record { end = reads; bounds = has_bound (subst IsOptimal (sym reads) tt); good = subst (m.IsGood t) (sym known) (q.reads_good line t b reads g) }

    pub opens_cut : (place : At) (point : Point) (kept : K) → p.outcome line.area (end_point p line) ≡ Splits place → point.values.items ≡ end_point p line → m.Keeps (last_table p line) kept
        → OpensCut (rules_from p m) line leaf bound place point kept
    opens_cut place point kept g x k =
        let cuts = ends (Splits place) g in
        record { end = cuts; bounds = has_bound (subst IsOptimal (sym cuts) tt); vertex_is = x; kept_is = k }

    pub opens_stuck : (w : SitePart) (pivots k : ℕ) → IsReached p line k → step_at p line k ≡ steps.Optimal → k ≡ steps_of p line → pivots ≡ capped k
        → p.outcome line.area (end_point p line) ≡ Refused w → OpensStuck (rules_from p m) line leaf bound pivots w
    opens_stuck w pivots k r s n h g =
        let stuck = ends (Refused w) g in
        record {
          end = stuck;
          bounds = has_bound (subst IsOptimal (sym stuck) tt);
          pivots_is = h ∙ ap capped n;
          part_is = rw (← n) (wide_vertex p line k w r s f g);
        }

-- the same of an optimal end, from what was read off its tableau
module _ {T K : Type 0} (p : Program T SitePart) (m : Meaning K p) (IsFor : Area → Type 0) (q : EndsProve p m IsFor)
    (line : BoxLine) (area : Area) (e : line.area ≡ area) (tableau : NamedTableau) (r : IsOptimalRun p line tableau)
    (leaf : Leaf) (l : leaf.multipliers.items ≡ goal_multipliers tableau) (f : p.leaf_fault area leaf.multipliers.items ≡ None)
    (bound : ℚ) (b : bound ≡ goal_bound tableau.table) (point : Point) (x : point.values.items ≡ vertex_point tableau.table) where
  read : leaf.multipliers.items ≡ end_leaf p line
  read = leaf_read p line tableau leaf.multipliers.items r l

  fits : p.leaf_fault line.area (end_leaf p line) ≡ None
  fits = ap₂ p.leaf_fault e (sym read) ∙ f

  known : bound ≡ end_bound p line
  known = b ∙ ap (λ u. goal_bound u.table) r.tableau_is

  vertex : point.values.items ≡ end_point p line
  vertex = point_read p line tableau point.values.items r x

  outcome : (answer read_as : Read T) → p.outcome area point.values.items ≡ outcome_by answer → answer ≡ read_as → p.outcome line.area (end_point p line) ≡ outcome_by read_as
  outcome answer read_as o g = ap₂ p.outcome e (sym vertex) ∙ o ∙ ap outcome_by g

  pub read_timed : (answer : Read T) (t : T) → IsFor area → p.outcome area point.values.items ≡ outcome_by answer → answer ≡ reading.Timing t → OpensTimed (rules_from p m) line leaf bound t
  read_timed answer t h o g = opens_timed p m IsFor q line leaf read fits r.move_is bound known t (subst IsFor (sym e) h) (outcome answer (reading.Timing t) o g)

  pub read_cut : (answer : Read T) (place : At) (pivots : ℕ) (opened : Opened T K SitePart) → p.IsSound → IsCutBy m.Keeps tableau leaf bound place point opened
      → p.outcome area point.values.items ≡ outcome_by answer → answer ≡ reading.SplitAt place → IsReadEnd (rules_from p m) line pivots opened
  read_cut answer place pivots opened s cut o g =
      subst (IsReadEnd (rules_from p m) line pivots) (sym cut.1)
      (opens_cut p m IsFor q line leaf read fits r.move_is bound known place point cut.0 (outcome answer (reading.SplitAt place) o g) vertex (kept_read p line tableau m.Keeps cut.0 s r cut.2))

  pub read_stuck : (answer : Read T) (w : SitePart) (pivots : ℕ) → pivots ≡ capped (steps_of p line) → p.outcome area point.values.items ≡ outcome_by answer
      → answer ≡ reading.Wide w → OpensStuck (rules_from p m) line leaf bound pivots w
  read_stuck answer w pivots h o g = opens_stuck p m IsFor q line leaf read fits r.move_is bound known w pivots (steps_of p line) r.reached r.step refl h (outcome answer (reading.Wide w) o g)
