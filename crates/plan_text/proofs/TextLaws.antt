-- What the lines of a timing are that was read.
use Rattle.std.proofs.Common.{◌≡◌, ℕ, List}
use Rattle.plan_text.specs.TimingTexts.{TimingText}
use Rattle.plan_text.proofs.WordLines.{ended_and}

-- it is spelled so, and the program can hold it
pub record IsTextOf {T : Type 0} (text : TimingText T) (bytes : List ℕ) (x : T × List ℕ) : Type 0 where
  pub parts : bytes ≡ ended_and (text.lines x.0) x.1
  pub held : text.IsHeld x.0
