-- The certificate of an answer: what it keeps, and that it is accepted where a search gave the answer.
use Rattle.std.proofs.Common.{◌≡◌, ℕ, List, [], ◌∷◌, length, map, Option, Some, None, option_map, refl, sym, ◌∙◌, subst}
use Rattle.rational_theory.specs.Rational.{ℚ}
use Rattle.linear_theory.specs.Boxes.{Area}
use Rattle.search_box.specs.Places.{low_part, high_part}
use Rattle.certificate_model.specs.Families.{Table}
use Rattle.certificate_model.specs.declared.certificate.Claim.{Claim}
use Rattle.certificate_model.specs.Warrants.{Node, SplitAt, LeafOf, WarrantWith, AreTrees, HasTiming, IsCertificateIn}
use Rattle.named_row.specs.declared.leaves.Weight.{Weight}
use Rattle.certificate_checker.specs.TreeProofs.{ProveAll}
use Rattle.certificate_checker.specs.Accepted as accepted
use Rattle.certificate_checker.specs.Accepted.{limit_of, IsTimedBy, IsBoundAbove}
use Rattle.branch_and_bound.specs.Rules.{Rules}
use Rattle.branch_and_bound.specs.Answer as engine
use Rattle.branch_and_bound.specs.declared.incumbent.Incumbent.{Incumbent}
use Rattle.branch_and_bound.specs.declared.node.TreeNode.{TreeNode}
use Rattle.branch_and_bound.specs.declared.found.Found.{Found}
use Rattle.branch_and_bound.specs.declared.found.Verdict.{Verdict}
use Rattle.branch_and_bound.specs.declared.found.Verdict.TheVariants.{Best, NoTiming, Stopped}
use Rattle.branch_and_bound.specs.Answer.{IsAnswer}
use Rattle.box_search.specs.Certified.{claim_by, warrant_by}
use Rattle.box_search.specs.Told.{valued, IsTimed, IsCertifiableIn}
use Rattle.box_search.specs.Trees.{node_of}

-- nodes that prove for some boxes are as many whole trees
pub proven_trees : (P : Area → List Weight → Type 0) (boxes : List Area) (nodes : List Node) → ProveAll P boxes nodes → AreTrees (length boxes) nodes
proven_trees P [] [] h = tt
proven_trees P [] (n ∷ ns) h = absurd h
proven_trees P (box ∷ boxes) [] h = absurd h
proven_trees P (box ∷ boxes) (SplitAt at ∷ ns) h = proven_trees P (low_part box at ∷ high_part box at ∷ boxes) ns h.1
proven_trees P (box ∷ boxes) (LeafOf ws ∷ ns) h = proven_trees P boxes ns h.1

-- ---- the timing of a best answer
module _ {T : Type 0} where
  some_value : (x y : Incumbent T) → Some x ≡ Some y → x.value ≡ y.value
  some_value x y e = cc

  some_timing : (x y : Incumbent T) → Some x ≡ Some y → x.timing ≡ y.timing
  some_timing x y e = cc

-- ---- of any rules whose good timings are good so and worth so much, and whose trees are proofs
module _ {T K W : Type 0} (r : Rules T K W) (Good : T → Type 0) (worth : T → ℚ) (good : (t : T) (v : ℚ) → r.IsGood t v → Good t × (worth t ≡ v))
    (Proofs : Option ℚ → List Node → Type 0) (proofs : (claim : Option ℚ) (nodes : List TreeNode) → engine.IsAccepted r claim nodes → Proofs claim (map node_of nodes)) where
  -- a claim with its timing and its nodes is accepted
  abbrev IsCertified : Claim → Option T → List Node → Type 0
  IsCertified claim timing nodes = IsTimedBy Good worth timing (accepted.value_of claim) × IsBoundAbove claim × Proofs (limit_of claim) nodes

  pub certified_by : (nodes : List TreeNode) (limit : Option ℕ) (bound : ℚ) (spent : ℕ) (timing : Option T) (verdict : Verdict W)
      → IsAnswer r limit nodes (valued worth timing) bound spent verdict → IsCertified (claim_by verdict bound (option_map worth timing)) timing (map node_of nodes)
  certified_by nodes limit bound spent None Best h = absurd (let e = h.best_is in cc)
  certified_by nodes limit bound spent (Some t) Best h =
      let value : worth t ≡ bound = some_value _ _ h.best_is in
      let same : h.timing ≡ t = sym (some_timing _ _ h.best_is) in
      let is : r.IsGood t bound = subst (λ s. r.IsGood s bound) same h.good in
      (((good t bound is).0, refl), tt, subst (λ x. Proofs (Some x) (map node_of nodes)) (sym value) (proofs (Some bound) nodes h.finished.accepted))
  certified_by nodes limit bound spent None NoTiming h = (tt, tt, proofs None nodes h.finished.accepted)
  certified_by nodes limit bound spent (Some t) NoTiming h = absurd (let e = h.best_is in cc)
  certified_by nodes limit bound spent None (Stopped stop) h = (tt, tt, proofs (Some bound) nodes h.accepted)
  certified_by nodes limit bound spent (Some t) (Stopped stop) h = (((good t (worth t) h.good.0).0, refl), h.good.1, proofs (Some bound) nodes h.accepted)

-- ---- what is made of an answer's parts
-- a timing stands exactly where the claim has a value
has_timing : {T W : Type 0} (worth : T → ℚ) (timing : Option T) (verdict : Verdict W) (bound : ℚ) → IsTimed timing verdict → HasTiming (claim_by verdict bound (option_map worth timing)) timing
has_timing worth None Best bound h = tt
has_timing worth (Some t) Best bound h = tt
has_timing worth None NoTiming bound h = tt
has_timing worth (Some t) NoTiming bound h = absurd (let e = h in cc)
has_timing worth None (Stopped stop) bound h = tt
has_timing worth (Some t) (Stopped stop) bound h = tt

module _ {T W : Type 0} (worth : T → ℚ) (found : Found T W) (value : Option ℚ) (claim : Claim) (timing : Option T) (nodes : List TreeNode) (made : List Node)
    (e : value ≡ option_map worth found.timing) (f : claim ≡ claim_by found.verdict found.bound value) (g : timing ≡ found.timing) (h : made ≡ map node_of nodes) (i : nodes ≡ found.nodes.items) where
  parts_are : record { claim = claim; timing = timing; nodes = made } ≡ warrant_by worth found
  parts_are = rw (f, e, g, h, i) refl

  pub certificate_is : (warrant : WarrantWith T) → warrant ≡ record { claim = claim; timing = timing; nodes = made } → warrant ≡ warrant_by worth found
  certificate_is warrant w = w ∙ parts_are

  pub certificate_parts : (names : Table) → IsCertifiableIn names found → IsCertificateIn names (record { claim = claim; timing = timing; nodes = made })
  certificate_parts names c = subst (λ (w : WarrantWith T). IsCertificateIn names w) (sym parts_are)
      (record { timing = has_timing worth found.timing found.verdict found.bound c.timing; tree = c.tree; nodes = c.nodes })
