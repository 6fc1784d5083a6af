-- Accepted certificates: the timing is good and has the claimed value, and the tree of boxes proves the claim, leaf by leaf.
use Rattle.std.specs.Prelude.{◌≡◌, ◌⊎◌, List, [], ◌∷◌, map, Option, None, Some}
use Rattle.rational_theory.specs.Rational.{ℚ, ◌≤ℚ◌}
use Rattle.rational_theory.specs.Rows as maths
use Rattle.progression.specs.Street.{Street, count}
use Rattle.progression.specs.TimingRecord.{TimingRecord}
use Rattle.progression.specs.Good.{Good}
use Rattle.progression.specs.Best.{weighted_band}
use Rattle.linear_theory.specs.Places.{width}
use Rattle.linear_theory.specs.Boxes.{Area, root_box}
use Rattle.linear_theory.specs.Covering.{CoversGoal, RefutesAll}
use Rattle.linear_theory.specs.Trees.{leaf_sum, AreWeights}
use Rattle.named_row.specs.Sheets.{Sheet, blank}
use Rattle.named_row.specs.declared.leaves.Weight.{Weight}
use Rattle.loop_rows.specs.Weights.{named, artery_rows}
use Rattle.certificate_model.specs.declared.certificate.Claim.{Claim}
use Rattle.certificate_model.specs.declared.certificate.Claim.TheVariants.{Best, NoTiming, Stopped}
use Rattle.certificate_model.specs.Warrants.{Warrant, Node}
use Rattle.certificate_checker.specs.TreeProofs.{FitAlong, ProveAll}

-- ---- the claim
-- the value that is claimed for the timing, and the number that no weighted band is claimed to exceed
abbrev pub value_of : Claim → Option ℚ
value_of (Best value) = Some value
value_of NoTiming = None
value_of (Stopped bound value) = value

abbrev pub limit_of : Claim → Option ℚ
limit_of (Best value) = Some value
limit_of NoTiming = None
limit_of (Stopped bound value) = Some bound

-- a timing stands exactly where a value does, is good, and has the value: for any kind of timing, whatever is good of that kind and what it is worth
abbrev pub IsTimedBy : {T : Type 0} → (T → Type 0) → (T → ℚ) → Option T → Option ℚ → Type 0
IsTimedBy good worth None None = Unit {0}
IsTimedBy good worth None (Some value) = ⊥
IsTimedBy good worth (Some t) None = ⊥
IsTimedBy good worth (Some t) (Some value) = good t × (worth t ≡ value)

-- of an artery
abbrev pub IsTimed : Street → Option TimingRecord → Option ℚ → Type 0
IsTimed a = IsTimedBy (Good a) (weighted_band a)

-- a claimed bound is not less than a claimed value
abbrev pub IsBoundAbove : Claim → Type 0
IsBoundAbove (Best value) = Unit {0}
IsBoundAbove NoTiming = Unit {0}
IsBoundAbove (Stopped bound None) = Unit {0}
IsBoundAbove (Stopped bound (Some value)) = value ≤ℚ bound

-- ---- leaves
-- no operation of the sum leaves 128 bits, from this sum on
abbrev pub FitsAlong : Street → Area → Sheet → List Weight → Type 0
FitsAlong a box = FitAlong (artery_rows a box)

-- no point meets the row, or the row keeps the weighted band down to the limit
abbrev pub Shows : Street → Option ℚ → maths.Row → Type 0
Shows a None r = RefutesAll a r
Shows a (Some limit) r = CoversGoal a limit r ⊎ RefutesAll a r

-- a leaf names rows of the artery, with multipliers of at least 0, whose sum shows what is claimed
pub record IsProof (a : Street) (limit : Option ℚ) (box : Area) (ws : List Weight) : Type 0 where
  pub rows : AreWeights a (map named ws)
  pub fits : FitsAlong a box (blank (width (count a))) ws
  pub shows : Shows a limit (leaf_sum a box (map named ws))

-- ---- trees
-- the nodes, read in their order, are whole trees for these boxes: each split's place lies in its box, and its two parts
-- are the next boxes; each leaf is a proof for its box
abbrev pub AreProofs : Street → Option ℚ → List Area → List Node → Type 0
AreProofs a limit = ProveAll (IsProof a limit)

pub record IsAccepted (a : Street) (c : Warrant) : Type 0 where
  pub timing : IsTimed a c.timing (value_of c.claim)
  pub bound : IsBoundAbove c.claim
  pub tree : AreProofs a (limit_of c.claim) (root_box a ∷ []) c.nodes
