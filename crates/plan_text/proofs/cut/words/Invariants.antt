use Rattle.std.proofs.Common.{◌≡◌, ◌++◌, map, length}
use Rattle.certificate_model.specs.Words.{words}
use Rattle.plan_text.proofs.cut.words.Given as goal

-- the words so far and those of the rest are the line's
abbrev pub invariant-cuts : goal.invariant-cuts
invariant-cuts l = words l.line ≡ map (λ w. w.now) l.found.items ++ words l.rest

abbrev pub decreases-cuts : goal.decreases-cuts
decreases-cuts l = length l.rest
