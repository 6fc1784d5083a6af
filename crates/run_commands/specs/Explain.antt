-- What `explain` finds of a file.
use Rattle.std.specs.Prelude.{ℕ, List}
use Rattle.file_words.specs.Explained.{Tells}
use Rattle.run_inputs.specs.declared.cause.Cause.{Cause}

-- what is told of its bytes
abbrev pub ExplainFinds : List ℕ → Cause → List ℕ → Type 0
ExplainFinds bytes c lines = Tells bytes c lines
