-- A certificate as contracts see it: a claim, a timing of some kind where the claim has a value, and a tree of splits and leaves.
use Rattle.std.specs.Prelude.{◌≡◌, ℕ, suc, zero, ◌≤◌, List, [], ◌∷◌, length, map, All, true, Option, None, Some}
use Rattle.progression.specs.TimingRecord.{TimingRecord}
use Rattle.named_row.specs.declared.leaves.Weight.{Weight}
use Rattle.named_row.specs.declared.names.RowId.{RowId}
use Rattle.search_box.specs.declared.span.At.{At}
use Rattle.search_box.specs.declared.span.At.TheVariants.{Loop, Turn}
use Rattle.certificate_model.specs.declared.certificate.Claim.{Claim}
use Rattle.certificate_model.specs.declared.certificate.Claim.TheVariants.{Best, NoTiming, Stopped}
use Rattle.certificate_model.specs.declared.certificate.CertNode.{CertNode}
use Rattle.certificate_model.specs.declared.certificate.CertNode.TheVariants.{Split, Leaf}
use Rattle.certificate_model.specs.Families.{Table, ordinary, IsNamedIn, is_after}

-- a box is split at a place, or rows are summed, each with its multiplier
pub data Node : Type 0 where
  SplitAt : At → Node
  LeafOf : List Weight → Node

pub record WarrantWith (T : Type 0) : Type 0 where
  pub claim : Claim
  pub timing : Option T
  pub nodes : List Node

-- an ordinary one, whose timing has one band a direction
abbrev pub Warrant : Type 0
Warrant = WarrantWith TimingRecord

abbrev pub node_of : CertNode → Node
node_of (Split at) = SplitAt at
node_of (Leaf leaf) = LeafOf leaf.multipliers.items

-- the one of these parts
abbrev pub warrant_of : {T : Type 0} → Claim → Option T → List CertNode → WarrantWith T
warrant_of claim timing nodes = record { claim = claim; timing = timing; nodes = map node_of nodes }

-- Whole trees in preorder, so many of them. A split takes the place of one tree by two, and a leaf is one.
abbrev pub AreTrees : ℕ → List Node → Type 0
AreTrees zero [] = Unit {0}
AreTrees zero (n ∷ ns) = ⊥
AreTrees (suc owed) [] = ⊥
AreTrees (suc owed) (SplitAt at ∷ ns) = AreTrees (suc (suc owed)) ns
AreTrees (suc owed) (LeafOf ws ∷ ns) = AreTrees owed ns

-- a timing stands exactly where a value does
abbrev pub HasTiming : {T : Type 0} → Claim → Option T → Type 0
HasTiming (Best value) None = ⊥
HasTiming (Best value) (Some t) = Unit {0}
HasTiming NoTiming None = Unit {0}
HasTiming NoTiming (Some t) = ⊥
HasTiming (Stopped bound None) None = Unit {0}
HasTiming (Stopped bound None) (Some t) = ⊥
HasTiming (Stopped bound (Some value)) None = ⊥
HasTiming (Stopped bound (Some value)) (Some t) = Unit {0}

-- the rows ascend, from one after the last on
abbrev pub Ascend : Option RowId → List Weight → Type 0
Ascend last [] = Unit {0}
Ascend last (w ∷ ws) = (is_after last w.row ≡ true) × Ascend (Some w.row) ws

-- links and signals count from 1; a leaf's rows have names and ascend, and there are at most 10,000
abbrev pub IsNodeIn : Table → Node → Type 0
IsNodeIn table (SplitAt (Loop link at)) = 1 ≤ link
IsNodeIn table (SplitAt (Turn signal rank)) = 1 ≤ signal
IsNodeIn table (LeafOf ws) = (length ws ≤ 10000) × Ascend None ws × All (λ w. IsNamedIn table w.row) ws

-- what every certificate of the program keeps, whose rows have names in a table
pub record IsCertificateIn {T : Type 0} (table : Table) (c : WarrantWith T) : Type 0 where
  pub timing : HasTiming c.claim c.timing
  pub tree : AreTrees 1 c.nodes
  pub nodes : All (IsNodeIn table) c.nodes

-- and an ordinary one
abbrev pub IsCertificate : Warrant → Type 0
IsCertificate c = IsCertificateIn ordinary c
