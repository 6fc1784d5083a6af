use Rattle.std.proofs.Common.{◌≡◌, List, ◌+◌, length, sym, ◌∙◌, ap, subst}
use Rattle.std.specs.Prelude.{is_none}
use Rattle.std.specs.Vec.{with_items}
use Rattle.std.proofs.lemmas.List.{with_items_is}
use Rattle.simplex_theory.specs.Tableau.{height, width}
use Rattle.narrow_fraction.proofs.Attempt.{attempt_ok, attempt_err}
use Rattle.fraction_tableau.specs.NamedTableaus.{NamedTableau}
use Rattle.entry_theory.specs.Entry.{entry}
use Rattle.entry_theory.specs.Ready.{IsReady}
use Rattle.program_builder.specs.BoxRows.{rows_of}
use Rattle.program_builder.specs.Building.{IsMadeFor}
use Rattle.program_builder.specs.Opening.{loaded}
use Rattle.program_builder.specs.EntryRefusals.{entry_refusal, IsSpentOnTheWay}
use Rattle.program_builder.specs.Remembering.{HaveRoom, AreNotesOf, IsMemoryOf}
use Rattle.program_builder.specs.declared.noting.NotedPivot.{NotedPivot}
use Rattle.program_builder.specs.declared.remembering.EntryMemory.{EntryMemory}
use Rattle.program_builder.proofs.Entry.{ready, made_on_the_way, made_entered}
use Rattle.program_builder.proofs.Memories.{room_here, room_back, forgotten, holding, made_loaded}
use Rattle.program_builder.proofs.remembering.enter_anew.Goals as goal

pub returns-in_err-start-clause-made : goal.returns-in_err-start-clause-made
returns-in_err-start-clause-made c = subst (IsMadeFor c.args.artery.now) (sym c.requires.loaded) (made_loaded c.args.artery.now c.args.area.now)

pub returns-in_err-start-clause-memory : goal.returns-in_err-start-clause-memory
returns-in_err-start-clause-memory c =
    let rest = c.start.ensures.rest in
    forgotten c.args.artery.now c.args.memory.now c.start.new.self c.requires.memory (ap (λ (m : EntryMemory). m.is_kept) c.start.ensures.rest)
    (subst (λ (ts : List NotedPivot). HaveRoom ts (length (rows_of c.args.artery.now) + 1)) (sym (ap (λ (m : EntryMemory). m.pivots.items) c.start.ensures.rest)) c.requires.memory.columns)
    (ap (λ (m : EntryMemory). m.bounds.len) c.start.ensures.rest)
    (subst (IsMadeFor c.args.artery.now) (sym (ap (λ (m : EntryMemory). m.tableau) c.start.ensures.rest)) c.requires.memory.made)

pub enter_columns-requires-clause-ready : goal.enter_columns-requires-clause-ready
enter_columns-requires-clause-ready c =
    subst (λ (s : NamedTableau). IsReady c.args.basis.now s.table) (sym c.requires.loaded) (ready c.args.artery.now c.args.area.now c.args.basis.now c.requires.basis)

pub enter_columns-requires-clause-room : goal.enter_columns-requires-clause-room
enter_columns-requires-clause-room c =
    subst (λ (ts : List NotedPivot). HaveRoom ts (height c.args.tableau.now.table + 1)) (sym (c.deref_mut.ensures.value ∙ ap (λ (m : EntryMemory). m.pivots.items) c.start.ensures.rest))
    (subst (λ (s : NamedTableau). HaveRoom c.args.memory.now.pivots.items (height s.table + 1)) (sym c.requires.loaded)
    (room_here c.args.artery.now c.args.area.now c.args.memory.now.pivots.items c.requires.memory.columns))

pub keep-requires-clause-rows : goal.keep-requires-clause-rows
keep-requires-clause-rows c =
    let e = c.in-Ok.ensures.entered ∙ ap (λ (s : NamedTableau). record { table = entry c.args.basis.now s.table; names = s.names; spent = s.spent }) c.requires.loaded in
    ap (λ (m : EntryMemory). height m.tableau.table) c.start.ensures.rest ∙ c.requires.memory.made.rows
    ∙ sym ((made_entered c.args.artery.now c.args.area.now c.args.basis.now (ready c.args.artery.now c.args.area.now c.args.basis.now c.requires.basis)).rows)
    ∙ sym (ap (λ (s : NamedTableau). height s.table) e)

pub keep-requires-clause-columns : goal.keep-requires-clause-columns
keep-requires-clause-columns c =
    let e = c.in-Ok.ensures.entered ∙ ap (λ (s : NamedTableau). record { table = entry c.args.basis.now s.table; names = s.names; spent = s.spent }) c.requires.loaded in
    ap (λ (m : EntryMemory). width m.tableau.table) c.start.ensures.rest ∙ c.requires.memory.made.columns
    ∙ sym ((made_entered c.args.artery.now c.args.area.now c.args.basis.now (ready c.args.artery.now c.args.area.now c.args.basis.now c.requires.basis)).columns)
    ∙ sym (ap (λ (s : NamedTableau). width s.table) e)

pub returns-in-Ok-clause-outcome : goal.returns-in-Ok-clause-outcome
returns-in-Ok-clause-outcome c =
    sym (ap is_none (sym (ap (λ (t : NamedTableau). entry_refusal c.args.basis.now t.table) c.requires.loaded) ∙ (attempt_ok _ _ _ c.in-Ok.ensures.outcome).0))

pub returns-in-Ok-clause-entered : goal.returns-in-Ok-clause-entered
returns-in-Ok-clause-entered c =
    λ _. c.in-Ok.ensures.entered ∙ ap (λ (s : NamedTableau). record { table = entry c.args.basis.now s.table; names = s.names; spent = s.spent }) c.requires.loaded

pub returns-in-Ok-clause-made : goal.returns-in-Ok-clause-made
returns-in-Ok-clause-made c =
    let e = c.in-Ok.ensures.entered ∙ ap (λ (s : NamedTableau). record { table = entry c.args.basis.now s.table; names = s.names; spent = s.spent }) c.requires.loaded in
    subst (IsMadeFor c.args.artery.now) (sym e)
    (made_entered c.args.artery.now c.args.area.now c.args.basis.now (ready c.args.artery.now c.args.area.now c.args.basis.now c.requires.basis))

pub returns-in-Ok-clause-memory : goal.returns-in-Ok-clause-memory
returns-in-Ok-clause-memory c =
    let e = c.in-Ok.ensures.entered ∙ ap (λ (s : NamedTableau). record { table = entry c.args.basis.now s.table; names = s.names; spent = s.spent }) c.requires.loaded in
    let made = subst (IsMadeFor c.args.artery.now) (sym e)
    (made_entered c.args.artery.now c.args.area.now c.args.basis.now (ready c.args.artery.now c.args.area.now c.args.basis.now c.requires.basis)) in
    let v = c.start.new.self.pivots in
    let w : (with_items c.start.new.self.pivots c.enter_columns.new.notes).items ≡ c.enter_columns.new.notes =
    with_items_is c.start.new.self.pivots c.enter_columns.new.notes (c.enter_columns.auto.notes ∙ ap length c.deref_mut.ensures.value ∙ sym c.start.new.self.pivots.ok.0) in
    let room = room_back c.args.artery.now c.args.area.now c.enter_columns.new.notes
    (subst (λ (s : NamedTableau). HaveRoom c.enter_columns.new.notes (height s.table + 1)) c.requires.loaded c.in-Ok.ensures.room) in
    let notes = subst (λ (s : NamedTableau). AreNotesOf c.args.basis.now s.table c.enter_columns.new.notes) c.requires.loaded c.in-Ok.ensures.noted in
    subst (IsMemoryOf c.args.artery.now) (sym c.keep.ensures)
    (holding c.args.artery.now c.args.area.now c.args.basis.now c.args.memory.now _ c.requires.memory
    (ap (λ (m : EntryMemory). m.bounds.len) c.start.ensures.rest)
    (subst (λ (ts : List NotedPivot). HaveRoom ts (length (rows_of c.args.artery.now) + 1)) (sym w) room)
    made
    c.in_ok-start.ensures.basis
    (sym (ap (λ (t : NamedTableau). entry_refusal c.args.basis.now t.table) c.requires.loaded) ∙ (attempt_ok _ _ _ c.in-Ok.ensures.outcome).0)
    (subst (λ (ts : List NotedPivot). AreNotesOf c.args.basis.now (loaded c.args.artery.now c.args.area.now) ts) (sym w) notes)
    e)

pub returns-in-Err-clause-outcome : goal.returns-in-Err-clause-outcome
returns-in-Err-clause-outcome c =
    sym (ap is_none (sym (ap (λ (t : NamedTableau). entry_refusal c.args.basis.now t.table) c.requires.loaded) ∙ attempt_err _ _ _ c.in-Err.ensures.outcome))

pub returns-in-Err-clause-made : goal.returns-in-Err-clause-made
returns-in-Err-clause-made c =
    made_on_the_way c.args.artery.now c.args.area.now c.args.basis.now c.enter_columns.new.tableau (ready c.args.artery.now c.args.area.now c.args.basis.now c.requires.basis)
    c.known_named.ensures.shaped
    (subst (λ (s : NamedTableau). IsSpentOnTheWay c.args.basis.now s c.enter_columns.new.tableau) c.requires.loaded c.in-Err.ensures.spent)

pub returns-in-Err-clause-memory : goal.returns-in-Err-clause-memory
returns-in-Err-clause-memory c =
    let w : (with_items c.start.new.self.pivots c.enter_columns.new.notes).items ≡ c.enter_columns.new.notes =
    with_items_is c.start.new.self.pivots c.enter_columns.new.notes (c.enter_columns.auto.notes ∙ ap length c.deref_mut.ensures.value ∙ sym c.start.new.self.pivots.ok.0) in
    let room = room_back c.args.artery.now c.args.area.now c.enter_columns.new.notes
    (subst (λ (s : NamedTableau). HaveRoom c.enter_columns.new.notes (height s.table + 1)) c.requires.loaded c.in-Err.ensures.room) in
    forgotten c.args.artery.now c.args.memory.now _ c.requires.memory (ap (λ (m : EntryMemory). m.is_kept) c.start.ensures.rest)
    (subst (λ (ts : List NotedPivot). HaveRoom ts (length (rows_of c.args.artery.now) + 1)) (sym w) room)
    (ap (λ (m : EntryMemory). m.bounds.len) c.start.ensures.rest)
    (subst (IsMadeFor c.args.artery.now) (sym (ap (λ (m : EntryMemory). m.tableau) c.start.ensures.rest)) c.requires.memory.made)
