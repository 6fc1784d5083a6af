use Rattle.std.proofs.Common.{◌≡◌, inl, inr, ◌⊎◌, ◌%◌}
use Rattle.std.proofs.lemmas.Cmp.{ranked}
use Rattle.narrow_fraction.proofs.Steps.{apart_rank, step_rank, rest_rank}
use Rattle.narrow_fraction.proofs.compare.+compare_sizes.Goals as goal
use Rattle.narrow_fraction.proofs.compare.+compare_sizes.Goals.{then-r-eq0-via-then-r-eq0, then-r-eq0-via-else-r-eq0+then-s-eq0}

pub returns-then-q-p : goal.returns-then-q-p
returns-then-q-p t c = apart_rank _ _ _ _ _ c.requires.left c.requires.right c.if-q-p.true (ranked _ _ _ c.cmp.ensures)

pub returns-then-r-eq0 : goal.returns-then-r-eq0
returns-then-r-eq0 t c =
    let z : (c.args.a % c.args.b ≡ 0) ⊎ (c.args.c % c.args.d ≡ 0) = elim c.then-r-eq0.branch [
      | then-r-eq0-via-then-r-eq0 w ↦ inl w.if-r-eq0.true
      | then-r-eq0-via-else-r-eq0+then-s-eq0 w ↦ inr w.if-s-eq0.true
    ] in
    rest_rank _ _ _ _ _ c.requires.left c.requires.right c.if-q-p.false z (ranked _ _ _ c.cmp-then-r-eq0.ensures)

pub returns : goal.returns
returns t c = step_rank _ _ _ _ _ c.if-q-p.false c.compare_sizes.ensures
