-- What the answer of a search tells of its timing, and what a certificate keeps of it.
use Rattle.std.specs.Prelude.{◌≡◌, ℕ, All, map, Option, Some, None, IfSome, IsSome}
use Rattle.rational_theory.specs.Rational.{ℚ, ◌≤ℚ◌}
use Rattle.certificate_model.specs.Families.{Table}
use Rattle.certificate_model.specs.Warrants.{AreTrees, IsNodeIn}
use Rattle.branch_and_bound.specs.Answer.{IsAnswer}
use Rattle.branch_and_bound.specs.Rules.{Rules}
use Rattle.branch_and_bound.specs.declared.incumbent.Incumbent.{Incumbent}
use Rattle.branch_and_bound.specs.declared.found.Found as engine
use Rattle.branch_and_bound.specs.declared.found.Verdict.{Verdict}
use Rattle.branch_and_bound.specs.declared.found.Verdict.TheVariants.{Best, NoTiming, Stopped}
use Rattle.box_search.specs.Trees.{node_of}

-- ---- of timings of any type, by their values
-- a timing with its value
abbrev pub valued : {T : Type 0} → (T → ℚ) → Option T → Option (Incumbent T)
valued value None = None
valued value (Some timing) = Some (record { value = value timing; timing = timing })

abbrev pub IsValued : {T : Type 0} → (T → ℚ) → Option T → ℚ → Type 0
IsValued value None bound = ⊥
IsValued value (Some timing) bound = value timing ≡ bound

-- what a verdict tells of the timing and the bound
abbrev pub TellsOf : {T W : Type 0} → (T → ℚ) → Option T → ℚ → Verdict W → Type 0
TellsOf value timing bound Best = IsValued value timing bound
TellsOf value timing bound NoTiming = timing ≡ None
TellsOf value timing bound (Stopped stop) = IfSome timing (λ t. value t ≤ℚ bound)

-- an accepted tree that was needed, its units, and why the search stopped
abbrev pub IsAnswered : {T K W : Type 0} → Rules T K W → (T → ℚ) → Option ℕ → engine.Found T W → Type 0
IsAnswered r value limit found = IsAnswer r limit found.nodes.items (valued value found.timing) found.bound found.spent found.verdict

-- ---- the tree
-- a timing stands under the verdict that claims one, and none where none is claimed
abbrev pub IsTimed : {T W : Type 0} → Option T → Verdict W → Type 0
IsTimed timing Best = IsSome timing
IsTimed timing NoTiming = timing ≡ None
IsTimed timing (Stopped stop) = Unit {0}

-- one whole tree in preorder, of splits and leaves that a certificate keeps whose rows have names in a table, and the timing that the verdict wants
pub record IsCertifiableIn {T W : Type 0} (names : Table) (found : engine.Found T W) : Type 0 where
  pub timing : IsTimed found.timing found.verdict
  pub tree : AreTrees 1 (map node_of found.nodes.items)
  pub nodes : All (IsNodeIn names) (map node_of found.nodes.items)
