-- The certificate of what a search found: its claim, its timing and its tree, without the vertices.
use Rattle.std.specs.Prelude.{map, option_map, List, Option, Some, None}
use Rattle.rational_theory.specs.Rational.{ℚ}
use Rattle.certificate_model.specs.Warrants as warrants
use Rattle.certificate_model.specs.Warrants.{WarrantWith}
use Rattle.certificate_model.specs.declared.certificate.CertNode.{CertNode}
use Rattle.certificate_model.specs.declared.certificate.Claim.{Claim}
use Rattle.certificate_model.specs.declared.certificate.Claim.TheVariants as claim
use Rattle.branch_and_bound.specs.declared.found.Found as engine
use Rattle.branch_and_bound.specs.declared.found.Verdict.{Verdict}
use Rattle.branch_and_bound.specs.declared.found.Verdict.TheVariants.{Best, NoTiming, Stopped}
use Rattle.box_search.specs.Trees.{node_of}

-- a best timing's value is claimed; without one there is nothing to claim
abbrev pub best_claim : Option ℚ → Claim
best_claim None = claim.NoTiming
best_claim (Some value) = claim.Best value

abbrev pub claim_by : {W : Type 0} → Verdict W → ℚ → Option ℚ → Claim
claim_by Best bound value = best_claim value
claim_by NoTiming bound value = claim.NoTiming
claim_by (Stopped stop) bound value = claim.Stopped bound value

-- ---- of timings of any type
-- of these parts
abbrev pub warrant_from : {T : Type 0} → Claim → Option T → List CertNode → WarrantWith T
warrant_from claim timing nodes = record { claim = claim; timing = timing; nodes = map warrants.node_of nodes }

-- by their values
abbrev pub warrant_by : {T W : Type 0} → (T → ℚ) → engine.Found T W → WarrantWith T
warrant_by value found = record {
  claim = claim_by found.verdict found.bound (option_map value found.timing);
  timing = found.timing;
  nodes = map node_of found.nodes.items;
}
