-- The last frame's run by the words that the system gives, or by the error in their place.
use Rattle.std.specs.Prelude.{ℕ, List, Result, Ok, Err, IfOk, IfErr, MatchResult, map, drop}
use Rattle.std.specs.List.{drop-map}
use Rattle.std.specs.declared.io.Error.{Error}
use Rattle.outer_edge.specs.declared.files.Files as files
use Rattle.outer_edge.specs.declared.sink.Sink as sink
use Rattle.maxband_run.specs.Program.{Exits, HasNoWords, IsRun}

-- Words without the first are texts without the first word's.
pub is_run : {A B F K : Type 0} (items : A → List B) (text : B → List ℕ) (f : files.Ghosts F) (k : sink.Ghosts K)
    (gives : Result (List (List ℕ)) Error → Type 0) (opens closes : F → K → Type 0) (status : ℕ) (r : Result A Error) (before after : F) (old new : K)
    → IfOk r (λ a. gives (Ok (map text (items a)))) → IfErr r (λ e. gives (Err e)) → opens before old → closes after new
    → MatchResult r (λ a. Exits f k before after old new (map text (drop 1 (items a))) status) (HasNoWords before after old new status)
    → IsRun f k gives opens closes status
is_run items text f k gives opens closes status (Ok a) before after old new given error opened closed exits = record {
  words = Ok (map text (items a));
  given = given;
  before = before;
  old = old;
  opened = opened;
  after = after;
  new = new;
  closed = closed;
  exits = rw (drop-map text 1 (items a)) exits;
}
is_run items text f k gives opens closes status (Err e) before after old new given error opened closed exits = record {
  words = Err e;
  given = error;
  before = before;
  old = old;
  opened = opened;
  after = after;
  new = new;
  closed = closed;
  exits = exits;
}
