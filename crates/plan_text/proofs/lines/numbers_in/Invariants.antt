use Rattle.std.proofs.Common.{◌≡◌, drop, map}
use Rattle.plan_text.specs.Lines.{numbers_in}
use Rattle.plan_text.proofs.Loop.{with_front}
use Rattle.plan_text.proofs.lines.numbers_in.Given as goal

-- the numbers so far and those of the rest are those of all words
abbrev pub invariant-loop-word : goal.invariant-loop-word
invariant-loop-word l = with_front l.numbers.items (numbers_in l.place (map (λ w. w.now) (drop l.word-index l.words))) ≡ numbers_in l.place (map (λ w. w.now) l.words)
