-- The leaf that bounds the root of links before any step: twice each row by which a wait and its link's outbound half fit into the green at the link's own signal, and
-- twice the ratio so many times each inbound one. As a link's half is at most the green there, together they bound the value of links.
use Rattle.std.specs.Prelude.{ℕ, zero, suc, ◌+◌, ◌-◌, List, [], ◌∷◌, ◌++◌, map, if◌then◌else◌}
use Rattle.std.specs.Ordering.{eq_by_cmp}
use Rattle.rational_theory.specs.Rational.{ℚ, ◌*ℚ◌}
use Rattle.rational_theory.specs.Compare.{cmp_ℚ}
use Rattle.progression.specs.Street.{Street, count}
use Rattle.progression.specs.Speeds.{number}
use Rattle.progression.specs.declared.parts.Dir.{Dir}
use Rattle.progression.specs.declared.parts.Dir.TheVariants.{Outbound, Inbound}
use Rattle.linear_theory.specs.Boxes.{root_box}
use Rattle.named_row.specs.declared.leaves.Weight.{Weight}
use Rattle.link_theory.specs.LinkTrees.{link_sum}
use Rattle.link_space.specs.LinkWeights.{link_named}
use Rattle.multi_band.specs.LinkOpening.{far_family}

-- a multiplier for the row of a link
abbrev pub far_weight : Dir → ℚ → ℕ → Weight
far_weight d by i = record { row = record { family = far_family d; index = i }; by = by }

-- and for those of so many links from link i on
abbrev pub far_weights : Dir → ℚ → ℕ → ℕ → List Weight
far_weights d by i zero = []
far_weights d by i (suc k) = far_weight d by i ∷ far_weights d by (i + 1) k

abbrev pub twice_ratio : Street → ℚ
twice_ratio a = number 2 *ℚ a.head.ratio

-- no row where the ratio is 0
abbrev pub inbound_weights : Street → List Weight
inbound_weights a = if eq_by_cmp cmp_ℚ a.head.ratio (number 0) then [] else far_weights Inbound (twice_ratio a) 1 (count a - 1)

abbrev pub link_start_leaf : Street → List Weight
link_start_leaf a = far_weights Outbound (number 2) 1 (count a - 1) ++ inbound_weights a

-- the bound of its sum
unfoldable pub link_start_bound : Street → ℚ
link_start_bound a = (link_sum a (root_box a) (map link_named (link_start_leaf a))).bound
