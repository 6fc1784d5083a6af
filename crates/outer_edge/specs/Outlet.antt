-- Outputs in memory: the bytes taken and the room that is left.
use Rattle.std.specs.Prelude.{ℕ, List}

pub record Outlet : Type 0 where
  pub taken : List ℕ
  pub room : ℕ

-- an output that takes at most `piece` bytes a call; calls whose number stands in `fail` fail
pub record PieceOutlet : Type 0 where
  pub taken : List ℕ
  pub room : ℕ
  pub piece : ℕ
  pub fail : List ℕ
  pub calls : ℕ
  pub faults : ℕ
