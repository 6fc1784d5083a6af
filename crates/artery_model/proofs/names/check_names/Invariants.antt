use Rattle.std.proofs.Common.{◌≡◌, ◌+◌, [], drop, map}
use Rattle.artery_model.specs.Limits.{first_repeated}
use Rattle.artery_model.proofs.names.check_names.Given as goal

-- the names so far are all different, and are the seen ones
abbrev pub invariant-loop-index : goal.invariant-loop-index
invariant-loop-index l = first_repeated 1 [] l.signals ≡ first_repeated (l.index + 1) (map (λ k. k.now) l.seen.keys) (drop l.index l.signals)
