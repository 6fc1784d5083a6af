-- The links of an artery as a relaxation that is searched by branch and bound: what a link timing and a leaf are.
use Rattle.std.specs.Prelude.{◌≡◌, List, Option, Some, None}
use Rattle.rational_theory.specs.Rational.{ℚ}
use Rattle.progression.specs.Street.{Street}
use Rattle.linear_theory.specs.Boxes.{Area}
use Rattle.named_row.specs.declared.leaves.Leaf.{Leaf}
use Rattle.named_row.specs.declared.leaves.Weight.{Weight}
use Rattle.certificate_checker.specs.TreeProofs.{IsLeafProof}
use Rattle.link_theory.specs.LinkRecord.{LinkRecord}
use Rattle.link_theory.specs.GoodLinks.{GoodLinks}
use Rattle.link_theory.specs.BestLinks.{link_value}
use Rattle.link_space.specs.LinkWeights.{link_rows}
use Rattle.link_proof.specs.LinkAccepted.{link_aim}
use Rattle.multi_band.specs.LinkStarts.{link_start_leaf}

abbrev pub IsLinkStartLeaf : Street → Leaf → Type 0
IsLinkStartLeaf a leaf = leaf.multipliers.items ≡ link_start_leaf a

-- the link timing is good, and has the value
abbrev pub IsLinkTiming : Street → LinkRecord → ℚ → Type 0
IsLinkTiming a t value = GoodLinks a t × (link_value a t ≡ value)

-- what the checker of link certificates accepts as a leaf
abbrev pub IsLinkLeaf : Street → Option ℚ → Area → List Weight → Type 0
IsLinkLeaf a limit box ws = IsLeafProof (link_rows a box) (link_aim a limit) ws

abbrev pub RefutesLinkBox : Street → Area → Leaf → Type 0
RefutesLinkBox a box leaf = IsLinkLeaf a None box leaf.multipliers.items

abbrev pub CoversLinkBox : Street → Area → Leaf → ℚ → Type 0
CoversLinkBox a box leaf value = IsLinkLeaf a (Some value) box leaf.multipliers.items
