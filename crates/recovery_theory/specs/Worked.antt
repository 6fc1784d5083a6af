-- A vertex worked by hand: two signals 250 metres apart, the outbound band as wide as the green and no inbound band.
use Rattle.std.specs.Prelude.{◌≡◌, List, [], ◌∷◌, pos}
use Rattle.rational_theory.specs.Rational.{ℚ, ◌/ℚ◌}
use Rattle.progression.specs.Speeds.{number}
use Rattle.linear_theory.specs.Boxes.{Area, root_box, low_loop}
use Rattle.linear_theory.specs.Worked.{apart}
use Rattle.progression.specs.Worked.{one_way}
use Rattle.recovery_theory.specs.Placing.{timing_of}
use Rattle.recovery_theory.specs.Vertices.{IsVertex}

-- with this inbound wait at the second signal
abbrev pub quarter_point : ℚ → List ℚ
quarter_point wait_in =
    number 1 /ℚ number 2 ∷ number 0 ∷ number 1 /ℚ number 100 ∷ number 0 ∷ number 0 ∷ number 0 ∷ wait_in
    ∷ number 1 /ℚ number 4 ∷ number 1 /ℚ number 4 ∷ number 0 ∷ number 0 ∷ []

-- the part of the root box where the block sum is 0
abbrev pub quarter_box : Area
quarter_box = low_loop (root_box (apart 250)) 1 (pos 0)

pub record WorkedVertices : Type 0 where
  -- it meets the rows of that part
  pub quarter_vertex : IsVertex (apart 250) quarter_box (quarter_point (number 1 /ℚ number 2))
  -- and without the inbound wait those of the root box
  pub root_vertex : IsVertex (apart 250) (root_box (apart 250)) (quarter_point (number 0))
  -- two ticks a second and a part, the second signal a quarter of a cycle after the first
  pub quarter_apart : timing_of (apart 250) (quarter_point (number 1 /ℚ number 2)) ≡ one_way 1
