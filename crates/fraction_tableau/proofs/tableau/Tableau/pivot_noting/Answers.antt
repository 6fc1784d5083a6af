use Rattle.std.proofs.Common.{◌≡◌, length, List, get_or, [], ◌<◌, sym, ◌∙◌, ap, subst, arith}
use Rattle.std.proofs.Math.ListN.{set}
use Rattle.std.specs.Vec.{with_items}
use Rattle.std.proofs.lemmas.List.{with_items_is, get_or_default}
use Rattle.rational_theory.specs.Rational.{ℚ}
use Rattle.simplex_theory.specs.Lines.{divided, cleared}
use Rattle.simplex_theory.specs.Tableau.{Tableau, exchange, height, width}
use Rattle.narrow_fraction.specs.Attempt.{attempt}
use Rattle.fraction_tableau.specs.Refusals.{exchanged_rows, pivot_refusal}
use Rattle.fraction_tableau.specs.NamedTableaus.{NamedTableau}
use Rattle.fraction_tableau.proofs.Tableaus.{new_table}
use Rattle.std.proofs.lemmas.Grind.{common_steps}
use Rattle.fraction_tableau.proofs.tableau.Tableau.pivot_noting.Goals as goal

pub returns-clause-pivots : goal.returns-clause-pivots
returns-clause-pivots c =
    let i = c.self.inside in
    let sparse_rows : (with_items i.sparse_rows c.exchange_cells.new.sparse_rows).items ≡ c.exchange_cells.new.sparse_rows =
    with_items_is i.sparse_rows c.exchange_cells.new.sparse_rows (c.exchange_cells.auto.sparse_rows ∙ ap length c.deref_mut.ensures.value ∙ sym i.sparse_rows.ok.0) in
    let t : Tableau = record { rows = i.sparse_rows.items; goal = i.goal; basic = i.basic.items; standing = i.standing.items } in
    let view : t ≡ c.args.self.now.table = ap (λ (s : NamedTableau). s.table) c.self.view_is in
    let row : c.args.row < height t = subst (λ (u : Tableau). c.args.row < height u) (sym view) c.requires.row in
    let col : c.args.col < width t = subst (λ (u : Tableau). c.args.col < width u) (sym view) c.requires.col in
    let a : (with_items i.sparse_rows c.exchange_cells.new.sparse_rows).items ≡ exchanged_rows c.args.row c.args.col t.rows =
    sparse_rows ∙ c.in_default.ensures.rows ∙ ap (exchanged_rows c.args.row c.args.col) c.deref_mut.ensures.value in
    let b : c.swap.new.x ≡ cleared c.args.col (divided c.args.col (get_or t.rows c.args.row [])) t.goal =
    c.swap.ensures.x_after ∙ c.in_default.ensures.goal_row ∙ ap (λ (l : List (List ℚ)). cleared c.args.col (divided c.args.col (get_or l c.args.row [])) t.goal) c.deref_mut.ensures.value in
    let d : set i.basic.items c.args.row c.index.result.now ≡ set t.basic c.args.row (get_or t.standing c.args.col 0) =
    ap (set i.basic.items c.args.row) (c.index.ensures ∙ get_or_default i.standing.items c.args.col c.index.result.now 0 col) in
    let e : set i.standing.items c.args.col c.index-leaving.result.now ≡ set t.standing c.args.col (get_or t.basic c.args.row 0) =
    ap (set i.standing.items c.args.col) (c.index-leaving.ensures ∙ get_or_default i.basic.items c.args.row c.index-leaving.result.now 0 (let g = c.self.invariant.shaped.basics in omega arith)) in
    let new = new_table t c.args.row c.args.col _ _ _ _ a b d e in
    record {
      outcome = c.in_default.ensures.outcome
          ∙ ap (λ (l : List (List ℚ)). attempt (pivot_refusal c.args.row c.args.col l t.goal) tt) c.deref_mut.ensures.value
          ∙ ap (λ (u : Tableau). attempt (pivot_refusal c.args.row c.args.col u.rows u.goal) tt) view;
      exchanged = λ k. record {
        table = (new ∙ ap (exchange c.args.row c.args.col) view) k;
        names = (ap (λ (s : NamedTableau). s.names) c.self.view_is) k;
        spent = (ap (λ (s : NamedTableau). s.spent) c.self.view_is) k;
      };
      spent = tt;
    }

pub invariant_of-self : goal.invariant_of-self
invariant_of-self c = grind (arith, common_steps)

pub invariant_of-self-2 : goal.invariant_of-self-2
invariant_of-self-2 c = grind (arith, common_steps)

pub index_mut-requires-2 : goal.index_mut-requires-2
index_mut-requires-2 c = grind (arith, common_steps)
