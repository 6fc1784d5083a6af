use Rattle.std.proofs.Common.{List, ◌+◌, length, refl, sym, ◌∙◌, ap, subst}
use Rattle.simplex_theory.specs.Tableau.{height}
use Rattle.fraction_tableau.specs.NamedTableaus.{NamedTableau}
use Rattle.entry_theory.specs.Entry.{entry}
use Rattle.entry_theory.specs.Ready.{IsReady}
use Rattle.program_builder.specs.Opening.{artery_table}
use Rattle.program_builder.specs.Building.{IsMadeFor}
use Rattle.program_builder.specs.EntryRefusals.{entry_refusal}
use Rattle.program_builder.specs.Remembering.{HaveRoom, IsRemembered, IsEntryOf}
use Rattle.program_builder.specs.declared.noting.NotedPivot.{NotedPivot}
use Rattle.program_builder.proofs.LoadedTables.{height-loaded}
use Rattle.program_builder.proofs.Entry.{ready}
use Rattle.program_builder.proofs.Memories.{remembered_here, entry_here, room_here, forgotten, made_either, made_loaded}
use Rattle.program_builder.proofs.remembering.enter_known.Goals as goal

pub enter_again-requires-clause-remembered : goal.enter_again-requires-clause-remembered
enter_again-requires-clause-remembered c =
    subst (λ (ts : List NotedPivot). IsRemembered c.args.basis.now ts c.args.tableau.now.table) (sym c.deref.ensures.value)
    (subst (λ (s : NamedTableau). IsRemembered c.args.basis.now c.args.memory.now.pivots.items s.table) (sym c.requires.loaded)
    (remembered_here c.args.artery.now c.args.area.now c.args.basis.now c.args.memory.now c.requires.basis (c.requires.memory.kept (c.is_for.ensures.kept c.if-not-is_for.false))
    (c.is_for.ensures.basis c.if-not-is_for.false)))

pub enter_again-requires-clause-ready : goal.enter_again-requires-clause-ready
enter_again-requires-clause-ready c =
    subst (λ (s : NamedTableau). IsReady c.args.basis.now s.table) (sym c.requires.loaded) (ready c.args.artery.now c.args.area.now c.args.basis.now c.requires.basis)

pub enter_again-requires-clause-columns : goal.enter_again-requires-clause-columns
enter_again-requires-clause-columns c =
    subst (λ (ts : List NotedPivot). HaveRoom ts (height c.args.tableau.now.table + 1)) (sym c.deref.ensures.value)
    (subst (λ (s : NamedTableau). HaveRoom c.args.memory.now.pivots.items (height s.table + 1)) (sym c.requires.loaded)
    (room_here c.args.artery.now c.args.area.now c.args.memory.now.pivots.items c.requires.memory.columns))

pub enter_again-requires-clause-bounds : goal.enter_again-requires-clause-bounds
enter_again-requires-clause-bounds c =
    ap length c.deref_mut.ensures.value ∙ c.requires.memory.bounds ∙ ap (λ n. n + 1) (sym (height-loaded (artery_table c.args.artery.now) c.args.area.now))
    ∙ sym (ap (λ (s : NamedTableau). height s.table + 1) c.requires.loaded)

pub enter_again-requires-clause-entered : goal.enter_again-requires-clause-entered
enter_again-requires-clause-entered c =
    subst (IsEntryOf c.args.basis.now c.args.memory.now.tableau) (sym c.requires.loaded)
    (entry_here c.args.artery.now c.args.area.now c.args.basis.now c.args.memory.now c.requires.basis (c.requires.memory.kept (c.is_for.ensures.kept c.if-not-is_for.false))
    (c.is_for.ensures.basis c.if-not-is_for.false))

pub returns-clause-passed : goal.returns-clause-passed
returns-clause-passed c = λ e. sym (ap (λ (s : NamedTableau). entry_refusal c.args.basis.now s.table) c.requires.loaded) ∙ c.enter_again.ensures.passed e

pub returns-clause-entered : goal.returns-clause-entered
returns-clause-entered c =
    λ e. c.enter_again.ensures.entered e ∙ ap (λ (s : NamedTableau). record { table = entry c.args.basis.now s.table; names = s.names; spent = s.spent }) c.requires.loaded

pub returns-clause-memory : goal.returns-clause-memory
returns-clause-memory c =
    forgotten c.args.artery.now c.args.memory.now _ c.requires.memory refl c.requires.memory.columns refl
    (made_either c.enter_again.result c.args.artery.now c.enter_again.new.kept c.args.tableau.now c.args.memory.now.tableau c.enter_again.ensures.swapped c.enter_again.ensures.kept
    (subst (IsMadeFor c.args.artery.now) (sym c.requires.loaded) (made_loaded c.args.artery.now c.args.area.now)) c.requires.memory.made)
