use Rattle.std.proofs.Common.{sym, ◌∙◌, ap, subst}
use Rattle.std.specs.Prelude.{is_none}
use Rattle.simplex_theory.specs.DualSteps.{IsDual}
use Rattle.simplex_theory.specs.RowLists.{StandsForRows}
use Rattle.narrow_fraction.proofs.Attempt.{attempt_ok, attempt_err}
use Rattle.fraction_tableau.specs.NamedTableaus.{NamedTableau}
use Rattle.entry_theory.specs.Entry.{entry}
use Rattle.entry_theory.specs.Ready.{IsReady}
use Rattle.program_builder.specs.EntryRefusals.{entry_refusal, IsSpentOnTheWay}
use Rattle.program_builder.specs.Opening.{box_rows, goal_of}
use Rattle.program_builder.specs.Building.{IsMadeFor}
use Rattle.program_builder.proofs.Entry.{ready, entered}
use Rattle.program_builder.proofs.Entry.{made_on_the_way, made_entered}
use Rattle.program_builder.proofs.entering.enter.Goals as goal

pub enter_columns-requires-clause-ready : goal.enter_columns-requires-clause-ready
enter_columns-requires-clause-ready c =
    subst (λ (t : NamedTableau). IsReady c.args.basis.now t.table) (sym c.load_box.ensures.loaded) (ready c.args.artery.now c.args.area.now c.args.basis.now c.requires.basis)

pub reset-requires-clause-made : goal.reset-requires-clause-made
reset-requires-clause-made c =
    made_on_the_way c.args.artery.now c.args.area.now c.args.basis.now c.enter_columns.new.tableau (ready c.args.artery.now c.args.area.now c.args.basis.now c.requires.basis)
    c.known_named.ensures.shaped
    (subst (λ (s : NamedTableau). IsSpentOnTheWay c.args.basis.now s c.enter_columns.new.tableau) c.load_box.ensures.loaded c.in-Err.ensures.spent)

pub returns-in-Ok-clause-outcome : goal.returns-in-Ok-clause-outcome
returns-in-Ok-clause-outcome c =
    sym (ap is_none (sym (ap (λ (t : NamedTableau). entry_refusal c.args.basis.now t.table) c.load_box.ensures.loaded) ∙ (attempt_ok _ _ _ c.in-Ok.ensures.outcome).0))

pub returns-in-Ok-clause-state : goal.returns-in-Ok-clause-state
returns-in-Ok-clause-state c =
    c.in-Ok.ensures.entered ∙ ap (λ (t : NamedTableau). record { table = entry c.args.basis.now t.table; names = t.names; spent = t.spent }) c.load_box.ensures.loaded

pub returns-in-Ok-clause-dual : goal.returns-in-Ok-clause-dual
returns-in-Ok-clause-dual c =
    subst (λ (t : NamedTableau). IsDual t.table)
    (sym (c.in-Ok.ensures.entered ∙ ap (λ (t : NamedTableau). record { table = entry c.args.basis.now t.table; names = t.names; spent = t.spent }) c.load_box.ensures.loaded))
    (entered c.args.artery.now c.args.area.now c.args.basis.now c.requires.basis).dual

pub returns-in-Ok-clause-stands : goal.returns-in-Ok-clause-stands
returns-in-Ok-clause-stands c =
    subst (λ (t : NamedTableau). StandsForRows t.table (box_rows c.args.artery.now c.args.area.now) (goal_of c.args.artery.now))
    (sym (c.in-Ok.ensures.entered ∙ ap (λ (t : NamedTableau). record { table = entry c.args.basis.now t.table; names = t.names; spent = t.spent }) c.load_box.ensures.loaded))
    (entered c.args.artery.now c.args.area.now c.args.basis.now c.requires.basis).stands

pub returns-in-Ok-clause-made : goal.returns-in-Ok-clause-made
returns-in-Ok-clause-made c =
    subst (IsMadeFor c.args.artery.now)
    (sym (c.in-Ok.ensures.entered ∙ ap (λ (t : NamedTableau). record { table = entry c.args.basis.now t.table; names = t.names; spent = t.spent }) c.load_box.ensures.loaded))
    (made_entered c.args.artery.now c.args.area.now c.args.basis.now (ready c.args.artery.now c.args.area.now c.args.basis.now c.requires.basis))

pub returns-in-Err-clause-outcome : goal.returns-in-Err-clause-outcome
returns-in-Err-clause-outcome c =
    sym (ap is_none (sym (ap (λ (t : NamedTableau). entry_refusal c.args.basis.now t.table) c.load_box.ensures.loaded) ∙ attempt_err _ _ _ c.in-Err.ensures.outcome))
