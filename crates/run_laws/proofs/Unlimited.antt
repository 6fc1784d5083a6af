-- A search without a limit isn't stopped by work.
use Rattle.std.proofs.Common.{◌≡◌, ℕ, List, [], ◌∷◌, All, Option, Some, None, inl, inr, sym, subst}
use Rattle.std.specs.List.{AllZip}
use Rattle.std.proofs.lemmas.List.Elements.{All-nil, All-cons}
use Rattle.rational_theory.specs.Rational.{ℚ}
use Rattle.progression.specs.Street.{Street}
use Rattle.branch_and_bound.specs.declared.found.Verdict.{Verdict}
use Rattle.branch_and_bound.specs.declared.found.Verdict.TheVariants.{Best, NoTiming, Stopped}
use Rattle.branch_and_bound.specs.declared.found.Stop.TheVariants.{Work, Wide}
use Rattle.box_search.specs.declared.site.SitePart.{SitePart}
use Rattle.box_search.specs.Enough.{IsWithin}
use Rattle.branch_tree.specs.Enough.{enough_of}
use Rattle.multi_band.specs.LinkEnough.{link_enough_of}
use Rattle.cycle_sweep.specs.Rows.{at_cycle}
use Rattle.cycle_sweep.specs.declared.row.SweepRow.{SweepRow}
use Rattle.cycle_sweep.specs.declared.row.SweepRow.TheVariants as row
use Rattle.workload_maker.specs.Made.{made_street}
use Rattle.run_inputs.specs.Puts.{NamedBytes}
use Rattle.maxband_run.specs.Outside.{Outside}
use Rattle.run_inputs.specs.Reading.{input, inputs, Values, IsUnread, StopsReading}
use Rattle.run_inputs.specs.declared.reader.ReadAs.TheVariants.{Description}
use Rattle.run_commands.specs.Searched.{cause_of}
use Rattle.run_commands.specs.Settings.{Settings}
use Rattle.run_commands.specs.Table.{readers, Finds}
use Rattle.run_commands.specs.Words.{Request}
use Rattle.run_commands.specs.declared.table.Usage.{Usage}
use Rattle.run_commands.specs.declared.table.Usage.TheVariants as usage
use Rattle.maxband_run.specs.Run.{question, Answers, Ends}
use Rattle.run_laws.specs.PlanLaws.{SaysCycle}
use Rattle.run_laws.specs.StopLaws.{Searches, IsUnlimited, EndsOtherThanByWork, IsOtherThanByWork, AllNeverStopsByWork}
use Rattle.run_inputs.specs.declared.cause.Cause.{Cause}
use Rattle.run_inputs.specs.declared.cause.Cause.TheVariants as cause

verdict_end : (enough : ℕ) (verdict : Verdict SitePart) → IsWithin enough None verdict → EndsOtherThanByWork (cause_of verdict)
verdict_end enough Best h = tt
verdict_end enough NoTiming h = tt
verdict_end enough (Stopped (Work units)) h = absurd h
verdict_end enough (Stopped (Wide site)) h = tt

found_end : (enough : ℕ) (c : Cause) (verdict : Verdict SitePart) → c ≡ cause_of verdict → IsWithin enough None verdict → EndsOtherThanByWork c
found_end enough c verdict e h = subst EndsOtherThanByWork (sym e) (verdict_end enough verdict h)

-- what ends a run at its description
unread_end : (artery : List ℕ) (held : List ℕ → Option (List ℕ)) (before after : List ℕ → ℕ) (c : Cause) (lines : List ℕ)
    → IsUnread (input Description artery) 1 held before after c lines → EndsOtherThanByWork c
unread_end artery held before after (cause.ReadFault file) lines h = tt
unread_end artery held before after (cause.TooLong file) lines h = tt
unread_end artery held before after (cause.Refused refusal) lines h = tt
unread_end artery held before after c lines h = absurd h.1.2

-- or at one of the files of a command that reads a description alone
stop_end : (names : List (List ℕ)) (held : List ℕ → Option (List ℕ)) (before after : List ℕ → ℕ) (c : Cause) (lines : List ℕ)
    → StopsReading (inputs (Description ∷ []) names) 1 held before after c lines → EndsOtherThanByWork c
stop_end [] held before after c lines h = absurd h
stop_end (artery ∷ names) held before after c lines (inl h) = unread_end artery held before after c lines h
stop_end (artery ∷ names) held before after c lines (inr h) = absurd h.2

-- a search within a limit, of which there is none
no_limit : (enough : ℕ) (limit : Option ℕ) (verdict : Verdict SitePart) → limit ≡ None → IsWithin enough limit verdict → IsWithin enough None verdict
no_limit enough limit verdict e h = subst (λ (o : Option ℕ). IsWithin enough o verdict) e h

stops_end : (u : Usage) → Searches u → (names : List (List ℕ)) (held : List ℕ → Option (List ℕ)) (before after : List ℕ → ℕ) (c : Cause) (lines : List ℕ)
    → StopsReading (inputs (readers u) names) 1 held before after c lines → EndsOtherThanByWork c
stops_end usage.Solve s names held before after c lines h = stop_end names held before after c lines h
stops_end usage.Links s names held before after c lines h = stop_end names held before after c lines h
stops_end usage.Sweep s names held before after c lines h = stop_end names held before after c lines h
stops_end usage.Sensitivity s names held before after c lines h = stop_end names held before after c lines h
stops_end usage.Trial s names held before after c lines h = absurd h
stops_end u s names held before after c lines h = absurd s

finds_end : (u : Usage) → Searches u → (v : Values (readers u)) (n : Settings) → n.limit ≡ None → (c : Cause) (lines : List ℕ) (put : Option (List ℕ)) → Finds u v n c lines put → EndsOtherThanByWork c
finds_end usage.Solve s v n e c lines put h =
    found_end (enough_of v.0) c h.2.found.verdict h.2.cause_is (no_limit (enough_of v.0) n.limit h.2.found.verdict e h.2.searched.enough)
finds_end usage.Links s v n e c lines put h =
    found_end (link_enough_of v.0) c h.2.found.verdict h.2.cause_is (no_limit (link_enough_of v.0) n.limit h.2.found.verdict e h.2.searched.enough)
finds_end usage.Trial s v n e c lines put h =
    let enough = enough_of (made_street n.signals n.seed) in
    found_end enough c h.found.verdict h.cause_is (no_limit enough n.limit h.found.verdict e h.searched.enough)
finds_end usage.Sweep s v n e c lines put h = subst EndsOtherThanByWork (sym h.2.cause_is) tt
finds_end usage.Sensitivity s v n e c lines put h = subst EndsOtherThanByWork (sym h.2.cause_is) tt
finds_end u s v n e c lines put h = absurd s

answer_end : (r : Request) → IsUnlimited r → (held : List ℕ → Option (List ℕ)) (before after : List ℕ → ℕ) (c : Cause) (lines : List ℕ) (put : Option NamedBytes)
    → Answers held before after (question (Some r)) c lines put → EndsOtherThanByWork c
answer_end r u held before after c lines put (inl h) = stops_end r.usage u.0 r.reads held before after c lines h.stops
answer_end r u held before after c lines put (inr h) = finds_end r.usage u.0 h.values r.settings u.1 c lines h.bytes h.finds.finds

run_end : (before now : Outside) (asked : Request) (c : Cause) → IsUnlimited asked → Ends before now (question (Some asked)) c → EndsOtherThanByWork c
run_end before now asked cause.WriteFault u h = tt
run_end before now asked cause.Memory u h = tt
run_end before now asked c u h = answer_end asked u before.holds before.reads now.reads c h.0 h.1 h.2

-- ---- the rows of a table
not_work : (enough : ℕ) (verdict : Verdict SitePart) → IsWithin enough None verdict → (units : ℕ) → verdict ≡ Stopped (Work units) → ⊥
not_work enough verdict h units e = subst (λ (v : Verdict SitePart). IsWithin enough None v) e h

row_end : (a : Street) (cycle : ℚ) (row : SweepRow) → SaysCycle a None cycle row → IsOtherThanByWork row
row_end a cycle (row.Outside shown) h = tt
row_end a cycle (row.Searched shown found) h = not_work (enough_of (at_cycle a cycle)) found.verdict h.found.2.enough

rows_end : (a : Street) (cycles : List ℚ) (rows : List SweepRow) → AllZip (SaysCycle a None) cycles rows → All IsOtherThanByWork rows
rows_end a [] [] h = All-nil IsOtherThanByWork
rows_end a [] (row ∷ rows) h = absurd h
rows_end a (cycle ∷ cycles) [] h = absurd h
rows_end a (cycle ∷ cycles) (row ∷ rows) h = All-cons IsOtherThanByWork row rows (row_end a cycle row h.0) (rows_end a cycles rows h.1)

pub unlimited : AllNeverStopsByWork
unlimited = record { ends = run_end; rows = λ before now artery table words p. rows_end p.street p.cycles p.rows p.each }
