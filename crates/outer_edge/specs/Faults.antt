-- What is seen of the system's files: how many reads and how many puts have failed.
use Rattle.std.specs.Prelude.{ℕ}

pub record Faults : Type 0 where
  pub reads : ℕ
  pub puts : ℕ
