-- What holds of a request that words ask for, and how commands are asked.
use Rattle.std.specs.Prelude.{◌≡◌, ℕ, max, List, [], ◌∷◌, Option, Some, None, length, IfSome}
use Rattle.run_inputs.specs.Lines.{cannot_read_line}
use Rattle.run_inputs.specs.Reading.{Value, Values}
use Rattle.run_inputs.specs.declared.cause.Cause.{Cause}
use Rattle.run_inputs.specs.declared.reader.ReadAs.{ReadAs}
use Rattle.run_inputs.specs.declared.reader.ReadAs.TheVariants.{Description, Timing, Certificate, LinkCertificate, Timed, TypedPlan, AnyFile}
use Rattle.run_commands.specs.Settings.{Settings, InLimits}
use Rattle.run_commands.specs.Table.{readers, Finds}
use Rattle.run_commands.specs.Words.{Request}
use Rattle.run_commands.specs.declared.table.Usage.{Usage}

-- as many names as its row has files, and settings in their limits
pub record IsFit (r : Request) : Type 0 where
  pub names : length r.reads ≡ length (readers r.usage)
  pub limits : InLimits r.settings

-- room for the line of each file of these names that can't be read
abbrev pub room_of : List (List ℕ) → ℕ
room_of [] = 0
room_of (name ∷ names) = max (length (cannot_read_line name)) (room_of names)

-- a value of one reader as that of another, where the two are the same
abbrev pub value_as : (r s : ReadAs) → Value r → Option (Value s)
value_as Description Description v = Some v
value_as Timing Timing v = Some v
value_as Certificate Certificate v = Some v
value_as LinkCertificate LinkCertificate v = Some v
value_as Timed Timed v = Some v
value_as TypedPlan TypedPlan v = Some v
value_as AnyFile AnyFile v = Some v
value_as r s v = None

abbrev pub both : (s : ReadAs) (ss : List ReadAs) → Option (Value s) → Option (Values ss) → Option (Values (s ∷ ss))
both s ss (Some v) (Some w) = Some (v, w)
both s ss v w = None

abbrev pub values_as : (rs ss : List ReadAs) → Values rs → Option (Values ss)
values_as [] [] v = Some tt
values_as (r ∷ rs) (s ∷ ss) v = both s ss (value_as r s v.0) (values_as rs ss v.1)
values_as rs ss v = None

-- what a command finds of values of these readers, where they are its own
abbrev pub FindsAs : Usage → Settings → Cause → List ℕ → Option (List ℕ) → (rs : List ReadAs) → Values rs → Type 0
FindsAs u s c lines put rs v = IfSome (values_as rs (readers u) v) (λ w. Finds u w s c lines put)
