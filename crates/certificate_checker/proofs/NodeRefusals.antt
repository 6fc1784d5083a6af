-- The nodes, one after another.
use Rattle.std.proofs.Common.{◌≡◌, ◌≢◌, ℕ, ◌+◌, ◌<◌, Option, None, Some, List, [], ◌∷◌, length, map, drop, get_or, refl, sym, ap, ap₂, subst}
use Rattle.rational_theory.specs.Rational.{ℚ}
use Rattle.progression.specs.Street.{Street}
use Rattle.linear_theory.specs.Boxes.{Area}
use Rattle.narrow_fraction.specs.Attempt.{earlier}
use Rattle.narrow_fraction.proofs.Attempt.{neither}
use Rattle.named_row.specs.Sheets.{Sheet}
use Rattle.named_row.specs.declared.leaves.Weight.{Weight}
use Rattle.search_box.specs.Places.{low_part, high_part}
use Rattle.certificate_model.specs.declared.certificate.CertNode.{CertNode}
use Rattle.certificate_model.specs.Warrants.{Node, SplitAt, LeafOf, node_of, AreTrees}
use Rattle.loop_rows.specs.Weights.{Source, artery_rows}
use Rattle.loop_rows.proofs.LeafSums.{at_left}
use Rattle.certificate_checker.specs.Accepted.{IsProof, AreProofs}
use Rattle.certificate_checker.specs.Checked.{Checked, aim_at, nodes_refusal_of}
use Rattle.certificate_checker.specs.TreeProofs.{ProveAll, IsLeafProof, IsTreeProof}
use Rattle.certificate_checker.specs.TreeRefusals.{tree_refusal, IsFirst}
use Rattle.certificate_checker.specs.declared.leaves.Aim.{Aim}
use Rattle.certificate_checker.specs.declared.reject.Reject.{Reject}
use Rattle.certificate_checker.specs.declared.reject.Reject.TheVariants.{TimingFails, ValueDiffers, BoundBelow, SplitOutside, NoSuchRow, Negative, Wide, LeafTooWeak, Memory}
use Rattle.certificate_checker.proofs.PlaceTests.{place_in, place_out}
use Rattle.certificate_checker.proofs.LeafRefusals.{proof_in, proof_out}
use Rattle.certificate_checker.proofs.ArteryLeaves.{aim_of, leaf_in, leaf_out}

-- ---- nodes that are not refused, as many trees as boxes, are proofs, and back
module _ {F : Type 0} (rows : Area → Source) (aim : Aim) where
  pub tree_in : (nodes leaves : ℕ) (boxes : List Area) (ns : List Node) → AreTrees (length boxes) ns → tree_refusal {F = F} rows aim nodes leaves boxes ns ≡ None → IsTreeProof rows aim boxes ns
  tree_in nodes leaves [] [] t e = tt
  tree_in nodes leaves [] (n ∷ ns) t e = absurd t
  tree_in nodes leaves (box ∷ boxes) [] t e = absurd t
  tree_in nodes leaves (box ∷ boxes) (SplitAt at ∷ ns) t e =
      let p = neither _ _ e in
      (place_in box (nodes + 1) at p.0, tree_in (nodes + 1) leaves (low_part box at ∷ high_part box at ∷ boxes) ns t p.1)
  tree_in nodes leaves (box ∷ boxes) (LeafOf ws ∷ ns) t e =
      let p = neither _ _ e in
      (proof_in (rows box) aim (leaves + 1) ws p.0, tree_in (nodes + 1) (leaves + 1) boxes ns t p.1)

  pub tree_out : (nodes leaves : ℕ) (boxes : List Area) (ns : List Node) → IsTreeProof rows aim boxes ns → tree_refusal {F = F} rows aim nodes leaves boxes ns ≡ None
  tree_out nodes leaves [] [] h = refl
  tree_out nodes leaves [] (n ∷ ns) h = refl
  tree_out nodes leaves (box ∷ boxes) [] h = refl
  tree_out nodes leaves (box ∷ boxes) (SplitAt at ∷ ns) h =
      ap₂ earlier (place_out box (nodes + 1) at h.0) (tree_out (nodes + 1) leaves (low_part box at ∷ high_part box at ∷ boxes) ns h.1)
  tree_out nodes leaves (box ∷ boxes) (LeafOf ws ∷ ns) h =
      ap₂ earlier (proof_out (rows box) aim (leaves + 1) ws h.0) (tree_out (nodes + 1) (leaves + 1) boxes ns h.1)

-- where more holds of each leaf
more_proved : (P Q : Area → List Weight → Type 0) → ((box : Area) (ws : List Weight) → P box ws → Q box ws) → (boxes : List Area) (ns : List Node) → ProveAll P boxes ns → ProveAll Q boxes ns
more_proved P Q f [] [] h = tt
more_proved P Q f [] (n ∷ ns) h = absurd h
more_proved P Q f (box ∷ boxes) [] h = absurd h
more_proved P Q f (box ∷ boxes) (SplitAt at ∷ ns) h = (h.0, more_proved P Q f (low_part box at ∷ high_part box at ∷ boxes) ns h.1)
more_proved P Q f (box ∷ boxes) (LeafOf ws ∷ ns) h = (f box ws h.0, more_proved P Q f boxes ns h.1)

-- of an artery
pub tree_proofs : (a : Street) (limit : Option ℚ) (boxes : List Area) (ns : List Node) → IsTreeProof (artery_rows a) (aim_of a limit) boxes ns → AreProofs a limit boxes ns
tree_proofs a limit = more_proved (λ box ws. IsLeafProof (artery_rows a box) (aim_of a limit) ws) (IsProof a limit) (leaf_in a limit)

pub proofs_tree : (a : Street) (limit : Option ℚ) (boxes : List Area) (ns : List Node) → AreProofs a limit boxes ns → IsTreeProof (artery_rows a) (aim_of a limit) boxes ns
proofs_tree a limit = more_proved (IsProof a limit) (λ box ws. IsLeafProof (artery_rows a box) (aim_of a limit) ws) (leaf_out a limit)

-- ---- the first refusal
-- of the nodes that are left, for timings of a kind
abbrev pub refusal_left : {T F : Type 0} → Checked T F → Aim → ℕ → ℕ → List Area → List Node → Option (Reject F)
refusal_left k aim nodes leaves boxes ns = tree_refusal k.rows aim nodes leaves boxes ns

-- the tree that is refused is that of the timings of a kind
pub same_tree : {T F : Type 0} (k : Checked T F) (limit : Option ℚ) (goal : Sheet) (root : Area) (ns : List Node) → goal ≡ k.goal → root ≡ k.root
    → nodes_refusal_of k limit ns ≡ tree_refusal {F = F} k.rows (record { goal = goal; limit = limit }) 0 0 (root ∷ []) ns
same_tree {F = F} k limit goal root ns e f = ap₂ (λ (g : Sheet) box. tree_refusal {F = F} k.rows (record { goal = g; limit = limit }) 0 0 (box ∷ []) ns) (sym e) (sym f)

module _ {F : Type 0} where
  pub is_first : (o : Option (Reject F)) (r : Reject F) → o ≡ Some r → IsFirst o r
  is_first o (TimingFails f) e = e
  is_first o (ValueDiffers kept claimed) e = e
  is_first o (BoundBelow bound value) e = e
  is_first o (SplitOutside node) e = e
  is_first o (NoSuchRow leaf row) e = e
  is_first o (Negative leaf row) e = e
  is_first o (Wide leaf row at) e = e
  is_first o (LeafTooWeak leaf place) e = e
  is_first o Memory e = tt

  -- the first but for want of memory
  pub told : (o : Option (Reject F)) (r : Reject F) → IsFirst o r → r ≢ Memory → o ≡ Some r
  told o (TimingFails f) h n = h
  told o (ValueDiffers kept claimed) h n = h
  told o (BoundBelow bound value) h n = h
  told o (SplitOutside node) h n = h
  told o (NoSuchRow leaf row) h n = h
  told o (Negative leaf row) h n = h
  told o (Wide leaf row at) h n = h
  told o (LeafTooWeak leaf place) h n = h
  told o Memory h n = absurd (n refl)

  -- of an equal one
  pub first_moved : (o p : Option (Reject F)) (r : Reject F) → p ≡ o → IsFirst o r → IsFirst p r
  first_moved o p r e h = subst (λ q. IsFirst q r) (sym e) h

-- ---- reading
-- the next node is read
pub node_left : (ns : List CertNode) (i : ℕ) (n : CertNode) → i < length ns → n ≡ get_or ns i n → map node_of (drop i ns) ≡ node_of n ∷ map node_of (drop (i + 1) ns)
node_left ns i n h e = ap (map node_of) (at_left ns i n h e)
