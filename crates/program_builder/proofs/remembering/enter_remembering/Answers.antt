use Rattle.std.proofs.Common.{sym, ◌∙◌, ap, subst}
use Rattle.std.specs.Prelude.{is_none}
use Rattle.simplex_theory.specs.DualSteps.{IsDual}
use Rattle.simplex_theory.specs.RowLists.{StandsForRows}
use Rattle.fraction_tableau.specs.NamedTableaus.{NamedTableau}
use Rattle.program_builder.specs.Opening.{box_rows, goal_of}
use Rattle.program_builder.specs.Building.{IsMadeFor}
use Rattle.program_builder.proofs.Entry.{ready, entered, made_entered}
use Rattle.program_builder.proofs.remembering.enter_remembering.Goals as goal

pub returns-then-enter_known-clause-outcome : goal.returns-then-enter_known-clause-outcome
returns-then-enter_known-clause-outcome c = sym (ap is_none (c.enter_known.ensures.passed c.if-enter_known.true))

pub returns-then-enter_known-clause-state : goal.returns-then-enter_known-clause-state
returns-then-enter_known-clause-state c = c.enter_known.ensures.entered c.if-enter_known.true

pub returns-then-enter_known-clause-dual : goal.returns-then-enter_known-clause-dual
returns-then-enter_known-clause-dual c =
    subst (λ (t : NamedTableau). IsDual t.table) (sym (c.enter_known.ensures.entered c.if-enter_known.true)) (entered c.args.artery.now c.args.area.now c.args.basis.now c.requires.basis).dual

pub returns-then-enter_known-clause-stands : goal.returns-then-enter_known-clause-stands
returns-then-enter_known-clause-stands c =
    subst (λ (t : NamedTableau). StandsForRows t.table (box_rows c.args.artery.now c.args.area.now) (goal_of c.args.artery.now)) (sym (c.enter_known.ensures.entered c.if-enter_known.true))
    (entered c.args.artery.now c.args.area.now c.args.basis.now c.requires.basis).stands

pub returns-then-enter_known-clause-made : goal.returns-then-enter_known-clause-made
returns-then-enter_known-clause-made c =
    subst (IsMadeFor c.args.artery.now) (sym (c.enter_known.ensures.entered c.if-enter_known.true))
    (made_entered c.args.artery.now c.args.area.now c.args.basis.now (ready c.args.artery.now c.args.area.now c.args.basis.now c.requires.basis))

pub enter_anew-requires-clause-loaded : goal.enter_anew-requires-clause-loaded
enter_anew-requires-clause-loaded c = c.enter_known.ensures.stays c.if-enter_known.false ∙ c.load_from.ensures

pub returns-then-entered-clause-outcome : goal.returns-then-entered-clause-outcome
returns-then-entered-clause-outcome c = sym c.if-entered.true ∙ c.in_ok-entered.ensures.outcome

pub returns-then-entered-clause-state : goal.returns-then-entered-clause-state
returns-then-entered-clause-state c = c.in_ok-entered.ensures.entered c.if-entered.true

pub returns-then-entered-clause-dual : goal.returns-then-entered-clause-dual
returns-then-entered-clause-dual c =
    subst (λ (t : NamedTableau). IsDual t.table) (sym (c.in_ok-entered.ensures.entered c.if-entered.true)) (entered c.args.artery.now c.args.area.now c.args.basis.now c.requires.basis).dual

pub returns-then-entered-clause-stands : goal.returns-then-entered-clause-stands
returns-then-entered-clause-stands c =
    subst (λ (t : NamedTableau). StandsForRows t.table (box_rows c.args.artery.now c.args.area.now) (goal_of c.args.artery.now)) (sym (c.in_ok-entered.ensures.entered c.if-entered.true))
    (entered c.args.artery.now c.args.area.now c.args.basis.now c.requires.basis).stands

pub returns-clause-outcome : goal.returns-clause-outcome
returns-clause-outcome c = sym c.if-entered.false ∙ c.in_ok-entered.ensures.outcome
