-- What `make` finds: the artery that is made with so many signals from this seed, as `show` does.
use Rattle.std.specs.Prelude.{ℕ, List}
use Rattle.workload_maker.specs.Made.{made_street}
use Rattle.run_commands.specs.Show.{Shows}
use Rattle.run_inputs.specs.declared.cause.Cause.{Cause}

abbrev pub Makes : ℕ → ℕ → Cause → List ℕ → Type 0
Makes signals seed c lines = Shows (made_street signals seed) c lines
