-- A kind of timing that is sought over boxes, as whole timings or link timings are: what is good, what its certificates are and what they prove, and what
-- a search of it answers.
use Rattle.std.specs.Prelude.{◌≡◌, ℕ, List, [], ◌∷◌, Option, None, IfSome}
use Rattle.rational_theory.specs.Rational.{ℚ, ◌≤ℚ◌}
use Rattle.progression.specs.Objectives.{Objective, BoundedBy, NoneOf}
use Rattle.linear_theory.specs.Boxes.{Area}
use Rattle.named_row.specs.declared.leaves.Leaf.{Leaf}
use Rattle.named_row.specs.declared.leaves.Weight.{Weight}
use Rattle.certificate_model.specs.Families.{Table}
use Rattle.certificate_model.specs.Warrants.{WarrantWith, IsNodeIn, LeafOf}
use Rattle.certificate_checker.specs.Accepted as checker
use Rattle.certificate_checker.specs.Accepted.{limit_of, IsTimedBy, IsBoundAbove}
use Rattle.certificate_checker.specs.Claims.{IsBestBy}
use Rattle.certificate_checker.specs.TreeProofs.{ProveAll}
use Rattle.branch_and_bound.specs.Answer as engine
use Rattle.branch_and_bound.specs.Enough.{IsShort}
use Rattle.branch_and_bound.specs.Lines.{BoxLine}
use Rattle.branch_and_bound.specs.Rules.{Rules, IsMet}
use Rattle.branch_and_bound.specs.declared.found.Found.{Found}
use Rattle.branch_and_bound.specs.declared.found.Site.{Site}
use Rattle.branch_and_bound.specs.declared.found.Verdict.{Verdict}
use Rattle.branch_and_bound.specs.declared.found.Verdict.TheVariants.{Best, NoTiming, Stopped}
use Rattle.box_search.specs.Certified.{warrant_by}
use Rattle.box_search.specs.Enough.{enough_for, IsWithin}
use Rattle.box_search.specs.SiteNames.{EndsAt}
use Rattle.box_search.specs.Told.{IsAnswered}

pub record Kind {T K W : Type 0} (r : Rules T K W) : Type 1 where
  pub objective : Objective T
  -- the names of the rows in certificates, what the site of a stop names, and how many sets of basic variables there are
  pub names : Table
  pub IsSite : Site W → Type 0
  pub sets : ℕ
  -- what a leaf proves of its box for what is claimed, and which certificates are accepted
  pub IsProof : Option ℚ → Area → List Weight → Type 0
  pub IsAccepted : WarrantWith T → Type 0

-- what a search rests on
pub record CanBeSought {T K W : Type 0} {r : Rules T K W} (k : Kind r) : Type 0 where
  -- a timing that is read off a vertex is good, and worth the bound
  pub good : (t : T) (value : ℚ) → r.IsGood t value → k.objective.IsGood t × (k.objective.worth t ≡ value)
  -- a certificate keeps the leaf of an end, and the one before any step
  pub ends_kept : (line : BoxLine) (leaf : Leaf) → r.IsLeaf line leaf → IsNodeIn k.names (LeafOf leaf.multipliers.items)
  pub start_kept : (leaf : Leaf) → r.IsStart leaf → IsNodeIn k.names (LeafOf leaf.multipliers.items)
  pub sited : (line : BoxLine) (steps : ℕ) (site : Site W) → IsMet r line → engine.IsSite r line steps site → k.IsSite site
  pub short : IsShort r k.sets
  pub proved : (limit : Option ℚ) (box : Area) (leaf : Leaf) → engine.IsProof r limit box leaf → k.IsProof limit box leaf.multipliers.items
  pub accepted : (c : WarrantWith T) → IsTimedBy k.objective.IsGood k.objective.worth c.timing (checker.value_of c.claim) → IsBoundAbove c.claim → ProveAll (k.IsProof (limit_of c.claim)) (r.root ∷ []) c.nodes
      → k.IsAccepted c

-- what a verdict says of all good timings, and of its own: the timing is best and the bound is its value; or none is good; or no good one is worth more than the bound, and a timing that stands is good
abbrev pub ProvesBy : {T W : Type 0} → Objective T → Option T → ℚ → Verdict W → Type 0
ProvesBy o timing bound Best = IsBestBy o timing bound
ProvesBy o timing bound NoTiming = (timing ≡ None) × NoneOf o
ProvesBy o timing bound (Stopped stop) = BoundedBy o bound × IfSome timing (λ t. o.IsGood t × (o.worth t ≤ℚ bound))

-- A search within the limit of units of work, where there is one, found this, and its certificate is accepted. A stop by work comes only where there is a
-- limit, and it is less than enough. A site that the verdict names is one of the kind.
pub record IsSearchedOf {T K W : Type 0} {r : Rules T K W} (k : Kind r) (limit : Option ℕ) (found : Found T W) : Type 0 where
  pub search : IsAnswered r k.objective.worth limit found
  pub enough : IsWithin (enough_for r.root k.sets) limit found.verdict
  pub site : EndsAt k.IsSite found.verdict
  pub proves : ProvesBy k.objective found.timing found.bound found.verdict
  pub accepted : k.IsAccepted (warrant_by k.objective.worth found)
