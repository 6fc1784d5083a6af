use Rattle.std.proofs.Common.{length, ◌+◌, pos, sym, ◌∙◌, ap, subst}
use Rattle.std.proofs.lemmas.List.{length-replicate}
use Rattle.rational_theory.specs.Rational.{whole}
use Rattle.fraction_tableau.specs.NamedTableaus.{NamedTableau, IsSound}
use Rattle.fraction_tableau.proofs.Tableaus.{blank_is, sound_blank}
use Rattle.fraction_tableau.proofs.tableau.Tableau.new.Goals as goal

pub invariant_of-result : goal.invariant_of-result
invariant_of-result c =
    let m = c.args.rows in
    let w = c.args.width in
    let e = blank_is m w _ _ _ _ _ c.in_ok-sparse_rows.ensures c.in_ok-goal.ensures c.in_ok-basic.ensures c.in_ok-standing.ensures c.in_ok-names.ensures in
    let a = ap length c.in_ok-spare.ensures ∙ length-replicate (w + 1) (whole (pos 0)) in
    let b = ap length c.in_ok-held.ensures ∙ length-replicate (w + 1) (whole (pos 0)) in
    let d = ap length c.in_ok-room.ensures ∙ length-replicate (w + 1) (whole (pos 0)) in
    subst (λ (t : NamedTableau). IsSound t (length c.in_ok-spare.spare) (length c.in_ok-held.held) (length c.in_ok-room.room)) (sym e) (rw (a, b, d) (sound_blank m w c.requires))

pub returns : goal.returns
returns c = blank_is c.args.rows c.args.width _ _ _ _ _ c.in_ok-sparse_rows.ensures c.in_ok-goal.ensures c.in_ok-basic.ensures c.in_ok-standing.ensures c.in_ok-names.ensures
