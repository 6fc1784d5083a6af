use Rattle.std.proofs.Common.{◌≡◌, ℕ, suc, None, ◌∷◌, ◌+◌, ◌-◌, ◌<◌, ◌≤◌, sym, ◌∙◌, ap, subst, arith}
use Rattle.progression.specs.Street.{Street, count}
use Rattle.progression.specs.declared.parts.Dir.TheVariants.{Outbound, Inbound}
use Rattle.linear_theory.specs.Boxes.{Area}
use Rattle.simplex_theory.specs.Tableau.{IsPlace, exchange}
use Rattle.fraction_tableau.specs.Narrow.{AreNarrow}
use Rattle.fraction_tableau.specs.NamedTableaus.{NamedTableau}
use Rattle.fraction_tableau.specs.Refusals.{pivot_refusal}
use Rattle.program_builder.specs.StartPivots.{after_pivots}
use Rattle.program_builder.proofs.StartPivots.{AreReady}
use Rattle.program_builder.specs.declared.pivots.StartPivot.{StartPivot}
use Rattle.program_builder.proofs.StartPivots.{IsOnTheWay, way_begins, way_next, way_ends}
use Rattle.multi_band.specs.LinkOpening.{half_pivot, half_pivots, link_pivots, link_opening, loaded_links, opened_links}
use Rattle.multi_band.proofs.LinkFits.{links_ready}
use Rattle.multi_band.proofs.building.enter_halves.Goals as goal

-- a pivot made
abbrev made : NamedTableau → StartPivot → NamedTableau
made t p = record t { table = exchange p.row p.column t.table }

module _ (a : Street) (s : NamedTableau) where
  -- a link's two pivots are the next of those that are left
  next_link : (t : NamedTableau) (i : ℕ) → i < count a → IsOnTheWay (link_pivots a) s t (half_pivots a i (count a - i))
      → IsOnTheWay (link_pivots a) s t (half_pivot a Outbound i ∷ half_pivot a Inbound i ∷ half_pivots a (i + 1) (count a - (i + 1)))
  next_link t i l w = let e : count a - i ≡ suc (count a - (i + 1)) = omega arith in subst (λ k. IsOnTheWay (link_pivots a) s t (half_pivots a i k)) e w

  -- with the outbound one made
  half_way : (t u : NamedTableau) (p : StartPivot) (i : ℕ) → i < count a → IsOnTheWay (link_pivots a) s t (half_pivots a i (count a - i)) → p ≡ half_pivot a Outbound i → u ≡ made t p
      → IsOnTheWay (link_pivots a) s u (half_pivot a Inbound i ∷ half_pivots a (i + 1) (count a - (i + 1)))
  half_way t u p i l w e f = way_next (link_pivots a) s t u (half_pivot a Outbound i) (half_pivot a Inbound i ∷ half_pivots a (i + 1) (count a - (i + 1))) (next_link t i l w) (f ∙ ap (made t) e)

  -- and the inbound one
  whole_way : (t u : NamedTableau) (p : StartPivot) (i : ℕ) → IsOnTheWay (link_pivots a) s t (half_pivot a Inbound i ∷ half_pivots a (i + 1) (count a - (i + 1)))
      → p ≡ half_pivot a Inbound i → u ≡ made t p
      → IsOnTheWay (link_pivots a) s u (half_pivots a (i + 1) (count a - (i + 1)))
  whole_way t u p i w e f = way_next (link_pivots a) s t u (half_pivot a Inbound i) (half_pivots a (i + 1) (count a - (i + 1))) w (f ∙ ap (made t) e)

  all_made : (t : NamedTableau) (box : Area) (i : ℕ) → count a ≤ i → s ≡ loaded_links a box → IsOnTheWay (link_pivots a) s t (half_pivots a i (count a - i)) → t ≡ opened_links a box
  unfolding link_opening
  all_made t box i l e w =
      let n : count a - i ≡ 0 = omega arith in
      way_ends (link_pivots a) s t (subst (λ k. IsOnTheWay (link_pivots a) s t (half_pivots a i k)) n w)
      ∙ ap (λ (u : NamedTableau). record u { table = after_pivots (link_pivots a) u.table }) e

-- a pivot that is ready, in other words
place_at : (t : NamedTableau) (p q : StartPivot) → p ≡ q → IsPlace t.table q.row q.column → IsPlace t.table p.row p.column
place_at t p q e h = subst (λ (r : StartPivot). IsPlace t.table r.row r.column) (sym e) h

fits_at : (t : NamedTableau) (p q : StartPivot) → p ≡ q → pivot_refusal q.row q.column t.table.rows t.table.goal ≡ None → pivot_refusal p.row p.column t.table.rows t.table.goal ≡ None
fits_at t p q e h = subst (λ (r : StartPivot). pivot_refusal r.row r.column t.table.rows t.table.goal ≡ None) (sym e) h

pub loop-link-init : goal.loop-link-init
loop-link-init c =
    let a = c.args.artery.now in
    let box = c.args.area.now in
    let narrow = subst (λ (t : NamedTableau). AreNarrow t.table.rows) c.requires.loaded c.known_named.ensures.narrow_rows in
    way_begins (link_pivots a) c.args.tableau.now
    (subst (λ (t : NamedTableau). AreReady (link_pivots a) t.table) (sym c.requires.loaded) (links_ready a c.known_valid.ensures box narrow))
    (ap (λ (t : NamedTableau). t.spent) c.requires.loaded)

pub pivot-requires-clause-place : goal.pivot-requires-clause-place
pivot-requires-clause-place c =
    let a = c.args.artery.now in
    let l : c.loop-link.link < count a = omega (arith, c.loop-link-test.true, c.count-link-end.ensures.value) in
    place_at c.loop-link.tableau c.pivot_of-there.result (half_pivot a Outbound c.loop-link.link) c.pivot_of-there.ensures
    (next_link a c.args.tableau.now c.loop-link.tableau c.loop-link.link l c.loop-link.invariant).ready.0

pub pivot-requires-clause-unspent : goal.pivot-requires-clause-unspent
pivot-requires-clause-unspent c = c.loop-link.invariant.unspent

pub pivot-requires-clause-fits : goal.pivot-requires-clause-fits
pivot-requires-clause-fits c =
    let a = c.args.artery.now in
    let l : c.loop-link.link < count a = omega (arith, c.loop-link-test.true, c.count-link-end.ensures.value) in
    fits_at c.loop-link.tableau c.pivot_of-there.result (half_pivot a Outbound c.loop-link.link) c.pivot_of-there.ensures
    (next_link a c.args.tableau.now c.loop-link.tableau c.loop-link.link l c.loop-link.invariant).ready.1

pub pivot-requires-in-loop-link-clause-place : goal.pivot-requires-in-loop-link-clause-place
pivot-requires-in-loop-link-clause-place c =
    let a = c.args.artery.now in
    let l : c.loop-link.link < count a = omega (arith, c.loop-link-test.true, c.count-link-end.ensures.value) in
    let w = half_way a c.args.tableau.now c.loop-link.tableau c.pivot.new.tableau c.pivot_of-there.result c.loop-link.link l c.loop-link.invariant c.pivot_of-there.ensures c.pivot.ensures in
    place_at c.pivot.new.tableau c.pivot_of-back.result (half_pivot a Inbound c.loop-link.link) c.pivot_of-back.ensures w.ready.0

pub pivot-requires-in-loop-link-clause-fits : goal.pivot-requires-in-loop-link-clause-fits
pivot-requires-in-loop-link-clause-fits c =
    let a = c.args.artery.now in
    let l : c.loop-link.link < count a = omega (arith, c.loop-link-test.true, c.count-link-end.ensures.value) in
    let w = half_way a c.args.tableau.now c.loop-link.tableau c.pivot.new.tableau c.pivot_of-there.result c.loop-link.link l c.loop-link.invariant c.pivot_of-there.ensures c.pivot.ensures in
    fits_at c.pivot.new.tableau c.pivot_of-back.result (half_pivot a Inbound c.loop-link.link) c.pivot_of-back.ensures w.ready.1

pub loop-link-preserved : goal.loop-link-preserved
loop-link-preserved c =
    let a = c.args.artery.now in
    let l : c.loop-link.link < count a = omega (arith, c.loop-link-test.true, c.count-link-end.ensures.value) in
    let w = half_way a c.args.tableau.now c.loop-link.tableau c.pivot.new.tableau c.pivot_of-there.result c.loop-link.link l c.loop-link.invariant c.pivot_of-there.ensures c.pivot.ensures in
    whole_way a c.args.tableau.now c.pivot.new.tableau c.pivot-in-loop-link.new.tableau c.pivot_of-back.result c.loop-link.link w c.pivot_of-back.ensures c.pivot-in-loop-link.ensures

pub returns : goal.returns
returns c =
    let a = c.args.artery.now in
    let n = c.known_valid.ensures.few in
    let l : count a ≤ c.loop-link.link = omega (arith, c.loop-link-test.false, c.count-link-end.ensures.value) in
    all_made a c.args.tableau.now c.loop-link.tableau c.args.area.now c.loop-link.link l c.requires.loaded c.loop-link.invariant
