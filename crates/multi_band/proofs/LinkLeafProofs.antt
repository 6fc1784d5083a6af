-- The leaf of an end of links, and the start leaf, as proofs that the checker of link certificates accepts: where no operation of the sum leaves 128 bits. So the ends
-- of the artery's lines prove what a search of links wants of them.
use Rattle.std.proofs.Common.{◌≡◌, ◌≤◌, inl, None, Some, Option, List, refl, sym, subst}
use Rattle.rational_theory.specs.Rational.{ℚ}
use Rattle.progression.specs.Street.{Street, count}
use Rattle.artery_model.specs.Valid.{IsValid}
use Rattle.linear_theory.specs.Boxes.{Area, IsBoxOf, root_box}
use Rattle.named_row.specs.declared.leaves.Weight.{Weight}
use Rattle.loop_rows.specs.Weights.{fault_of, total_of}
use Rattle.loop_rows.proofs.LeafSums.{no_fault_by}
use Rattle.simplex_theory.specs.BlandRule.{optimal}
use Rattle.certificate_checker.specs.TreeProofs.{Keeps}
use Rattle.link_theory.specs.LinkNames.{HasLinkRow, link_row}
use Rattle.link_theory.specs.LinkVertices.{IsLinkVertex}
use Rattle.link_space.specs.LinkSheets.{link_goal_sheet}
use Rattle.link_space.specs.LinkWeights.{link_name_at, link_rows}
use Rattle.link_space.proofs.LinkRowTests.{link_row_decided, links_stand}
use Rattle.link_proof.specs.LinkAccepted.{link_aim}
use Rattle.branch_and_bound.specs.Lines.{BoxLine}
use Rattle.branch_and_bound.specs.Lineages.{Empty, IsOptimal}
use Rattle.box_search.specs.Meaning.{EndsProve}
use Rattle.box_search.specs.Ends.{end_move, end_point, end_bound, end_leaf, ending_of}
use Rattle.box_search.specs.laws.Endings.{optimal_from}
use Rattle.box_search.proofs.LeafFaults.{AddsRight, leaf_proof, leaf_free}
use Rattle.multi_band.specs.LinkProgram.{link_program}
use Rattle.multi_band.specs.LinkRelaxed.{IsLinkLeaf}
use Rattle.multi_band.specs.LinkRules.{link_meaning}
use Rattle.multi_band.specs.LinkStarts.{link_start_leaf, link_start_bound}
use Rattle.multi_band.proofs.LinkLeaves.{link_covers_total, link_refutes_total}
use Rattle.multi_band.specs.laws.LinkLines.{link_end_vertex}
use Rattle.multi_band.proofs.LinkLines.{link_end_covers, link_end_refutes, link_reads_good}
use Rattle.multi_band.proofs.LinkStarts.{start_links_cover}
use Rattle.multi_band.proofs.LinkStartFits.{start_links_fit}

links_add : (a : Street) (box : Area) → 2 ≤ count a → AddsRight (link_rows a box)
links_add a box two sum w e =
    let p = no_fault_by (link_rows a box) link_name_at (HasLinkRow a) (link_row a box) (links_stand a box two) sum w e in
    ((link_row_decided a (link_name_at w.row)).1 p.there, p.positive, p.fits)

links_leaf : (a : Street) (limit : Option ℚ) (box : Area) (ws : List Weight) → 2 ≤ count a → fault_of (link_rows a box) ws ≡ None
    → Keeps (link_goal_sheet a) limit (total_of (link_rows a box) ws) → IsLinkLeaf a limit box ws
links_leaf a limit box ws two f k = leaf_proof (link_rows a box) (links_add a box two) (link_aim a limit) ws f k

module _ (a : Street) (line : BoxLine) (v : IsValid a) (f : fault_of (link_rows a line.area) (end_leaf (link_program a) line) ≡ None) where
  end_covers : IsOptimal (ending_of (link_program a) line) → IsLinkLeaf a (Some (end_bound (link_program a) line)) line.area (end_leaf (link_program a) line)
  end_covers o =
      links_leaf a (Some (end_bound (link_program a) line)) line.area (end_leaf (link_program a) line) v.few f
      (inl (link_covers_total a line.area v.few (end_leaf (link_program a) line) (end_bound (link_program a) line) (link_end_covers a line v (optimal_from (link_program a) line o))))

  end_refutes : ending_of (link_program a) line ≡ Empty → IsLinkLeaf a None line.area (end_leaf (link_program a) line)
  end_refutes e =
      links_leaf a None line.area (end_leaf (link_program a) line) v.few f (link_refutes_total a line.area v.few (end_leaf (link_program a) line) (link_end_refutes a line v e))

pub link_ends_prove : (a : Street) → IsValid a → EndsProve (link_program a) (link_meaning a) (IsBoxOf a)
link_ends_prove a v = record {
  covers = λ line leaf read f o. rw read (end_covers a line v f o);
  refutes = λ line leaf read f e. rw read (end_refutes a line v f e);
  covering_free = λ box leaf value h. leaf_free (link_rows a box) (link_aim a (Some value)) leaf.multipliers.items h;
  refuting_free = λ box leaf h. leaf_free (link_rows a box) (link_aim a None) leaf.multipliers.items h;
  reads_good = λ line timing b e g. link_reads_good a line v b timing e g;
  ratios_named = λ cell. refl;
  pivots_named = λ cell. refl;
  sums_named = λ row at. refl;
}

-- the start leaf always is one
pub start_links_prove : (a : Street) → IsValid a → IsLinkLeaf a (Some (link_start_bound a)) (root_box a) (link_start_leaf a)
start_links_prove a v =
    links_leaf a (Some (link_start_bound a)) (root_box a) (link_start_leaf a) v.few (start_links_fit a v (root_box a))
    (inl (link_covers_total a (root_box a) v.few (link_start_leaf a) (link_start_bound a) (start_links_cover a v)))

-- the vertex of an optimal end is one of links of the box
pub link_vertex_there : (a : Street) (line : BoxLine) → IsValid a → (box : Area) (xs : List ℚ) → line.area ≡ box → end_move (link_program a) line ≡ optimal
    → xs ≡ end_point (link_program a) line → IsLinkVertex a box xs
link_vertex_there a line v box xs e o x = subst (λ b. IsLinkVertex a b xs) e (subst (IsLinkVertex a line.area) (sym x) (link_end_vertex a line v o))
