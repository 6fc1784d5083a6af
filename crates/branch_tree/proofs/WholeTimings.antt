-- The timings of an artery are a kind that can be sought.
use Rattle.std.proofs.Common.{◌≡◌, ℕ, [], ◌∷◌, subst, sym}
use Rattle.progression.specs.Street.{Street}
use Rattle.artery_model.specs.Valid.{IsValid}
use Rattle.linear_theory.specs.Boxes.{IsBoxOf, root_box}
use Rattle.certificate_model.specs.Warrants.{LeafOf, Warrant}
use Rattle.certificate_model.proofs.KeptNodes.{IsNode}
use Rattle.named_row.specs.declared.leaves.Leaf.{Leaf}
use Rattle.certificate_checker.specs.Accepted.{value_of, limit_of, IsTimed, IsBoundAbove, AreProofs, IsAccepted}
use Rattle.branch_and_bound.specs.Answer.{IsSite}
use Rattle.branch_and_bound.specs.Lines.{BoxLine}
use Rattle.branch_and_bound.specs.Rules.{IsMet}
use Rattle.branch_and_bound.specs.declared.found.Site.{Site}
use Rattle.box_search.specs.declared.site.SitePart.{SitePart}
use Rattle.branch_tree.specs.ArteryProgram.{program_of}
use Rattle.branch_tree.specs.ArteryRules.{rules_of}
use Rattle.box_search.specs.Ends.{end_leaf}
use Rattle.box_search.specs.Kinds.{CanBeSought}
use Rattle.branch_tree.specs.Relaxed.{IsStartLeaf}
use Rattle.branch_tree.specs.SiteNames.{IsSiteOf}
use Rattle.branch_tree.specs.WholeBands.{whole_bands}
use Rattle.branch_tree.specs.laws.Lineage.{searchable, boxed}
use Rattle.branch_tree.proofs.KeptLeaves.{end_kept, start_kept}
use Rattle.branch_tree.proofs.NamedSites.{part_named}
use Rattle.branch_tree.proofs.TreeProofs.{leaf_proof}
use Rattle.branch_tree.proofs.Units.{boxes_short}

site_named : (a : Street) (line : BoxLine) (k : ℕ) (site : Site SitePart) → IsMet (rules_of a) line → IsSite (rules_of a) line k site → IsSiteOf a site
site_named a line k site m h = record {
  boxed = subst (IsBoxOf a) (sym h.area_is) (boxed a line m);
  part = part_named a line (searchable a line m).valid k site.part h.part_is.refused;
}

leaf_kept : (a : Street) → IsValid a → (line : BoxLine) (leaf : Leaf) → leaf.multipliers.items ≡ end_leaf (program_of a) line → IsNode (LeafOf leaf.multipliers.items)
leaf_kept a v line leaf e = subst (λ us. IsNode (LeafOf us)) (sym e) (end_kept a v line)

first_kept : (a : Street) → IsValid a → (leaf : Leaf) → IsStartLeaf a leaf → IsNode (LeafOf leaf.multipliers.items)
first_kept a v leaf e = subst (λ us. IsNode (LeafOf us)) (sym e) (start_kept a v)

accepted_by : (a : Street) (c : Warrant) → IsTimed a c.timing (value_of c.claim) → IsBoundAbove c.claim → AreProofs a (limit_of c.claim) (root_box a ∷ []) c.nodes → IsAccepted a c
accepted_by a c timing bound tree = record { timing = timing; bound = bound; tree = tree }

pub can_be_sought : (a : Street) → IsValid a → CanBeSought (whole_bands a)
can_be_sought a v = record {
  good = λ timing value g. g;
  ends_kept = leaf_kept a v;
  start_kept = first_kept a v;
  sited = site_named a;
  short = boxes_short a;
  proved = leaf_proof a;
  accepted = accepted_by a;
}
