use Rattle.std.proofs.Common.{◌≡◌, map, drop}
use Rattle.std.specs.List.{find}
use Rattle.artery_model.specs.Limits.{is_text}
use Rattle.fault_words.specs.Examples.{sample_of, sample_at}
use Rattle.fault_words.proofs.example.example_at.Given as goal

-- the key is none of those so far
abbrev pub invariant-loop-example : goal.invariant-loop-example
invariant-loop-example l = sample_at l.fn.section l.name ≡ find (λ s. is_text l.name s.name) (map sample_of (drop l.example-index l.example-items))
