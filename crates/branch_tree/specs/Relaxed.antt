-- An artery as a relaxation that is searched by branch and bound, as Little searched his mixed-integer program of 1966: what a
-- timing and a leaf are, and the laws that the search relies on.
use Rattle.std.specs.Prelude.{◌≡◌, Some, None}
use Rattle.rational_theory.specs.Rational.{ℚ}
use Rattle.progression.specs.Street.{Street}
use Rattle.progression.specs.TimingRecord.{TimingRecord}
use Rattle.progression.specs.Good.{Good}
use Rattle.progression.specs.Best.{weighted_band}
use Rattle.linear_theory.specs.Boxes.{Area}
use Rattle.named_row.specs.declared.leaves.Leaf.{Leaf}
use Rattle.certificate_checker.specs.Accepted.{IsProof}
use Rattle.branch_tree.specs.Starts.{start_leaf}

abbrev pub IsStartLeaf : Street → Leaf → Type 0
IsStartLeaf a leaf = leaf.multipliers.items ≡ start_leaf a

-- the timing is good, and has the value
abbrev pub IsTiming : Street → TimingRecord → ℚ → Type 0
IsTiming a t value = Good a t × (weighted_band a t ≡ value)

-- what the checker of certificates accepts as a leaf
abbrev pub RefutesBox : Street → Area → Leaf → Type 0
RefutesBox a box leaf = IsProof a None box leaf.multipliers.items

abbrev pub CoversBox : Street → Area → Leaf → ℚ → Type 0
CoversBox a box leaf value = IsProof a (Some value) box leaf.multipliers.items
