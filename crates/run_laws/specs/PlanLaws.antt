-- What the statuses of `bands`, `half`, `timing`, `round`, `draw`, `sheet` and `sweep` say of the model: statements about the definitions of a run, each of which a public call proves.
use Rattle.std.specs.Prelude.{◌≡◌, ◌≢◌, ◌⊎◌, ℕ, ◌-◌, ◌≤◌, List, [], ◌∷◌, ◌++◌, length, slice_index, codes, Option, None, Some, Ok, IsSome, IfSome}
use Rattle.std.specs.List.{AllZip}
use Rattle.rational_theory.specs.Rational.{ℚ, ◌+ℚ◌, ◌≤ℚ◌}
use Rattle.outer_edge.specs.Held.{SameFiles, HoldsExactly}
use Rattle.outer_edge.specs.Taken.{Appends}
use Rattle.progression.specs.Street.{Street, count, HasSignal}
use Rattle.progression.specs.Speeds.{number}
use Rattle.progression.specs.TimingRecord.{TimingRecord, base}
use Rattle.progression.specs.Good.{Good, IsBase}
use Rattle.progression.specs.Best.{weighted_band}
use Rattle.progression.specs.declared.parts.Dir.TheVariants.{Outbound, Inbound}
use Rattle.time_space.specs.Failing.{BaseFails, Fails}
use Rattle.time_space.specs.declared.failing.Failing.{Failing}
use Rattle.time_space.specs.declared.failing.Failing.TheVariants as rule
use Rattle.band_measure.specs.Widest.{IsWidestBand}
use Rattle.band_measure.specs.declared.pair.Widest.{Widest}
use Rattle.mirror_theory.specs.EqualBands.{HasNone, IsHalfCycleBest}
use Rattle.half_integer.specs.Answers as half
use Rattle.half_integer.specs.declared.end.HalfEnd.{HalfEnd}
use Rattle.timing_measures.specs.Measures.{cycle_seconds, offset}
use Rattle.second_plan.specs.Planned.{IsPlanned, IsBestOfOffsets}
use Rattle.second_plan.specs.declared.answer.PlanEnd.{PlanEnd}
use Rattle.artery_model.specs.declared.kind.Refusal.{Refusal}
use Rattle.speed_steps.specs.Moved.{street_moved, narrow, widen}
use Rattle.speed_steps.specs.declared.way.Way.{Way}
use Rattle.speed_steps.specs.declared.way.Way.TheVariants.{Inwards, Outwards}
use Rattle.description_reader.specs.Described.{Described}
use Rattle.description_reader.specs.Typed.{Typed}
use Rattle.description_reader.specs.declared.measure.Reference.{Reference}
use Rattle.typed_plan.specs.Ends.{IsTimingOf, Refuses}
use Rattle.typed_plan.specs.declared.timing.Measured.{Measured}
use Rattle.typed_plan.specs.declared.timing.TypedFault.TheVariants as fault
use Rattle.certificate_model.specs.Warrants.{Warrant}
use Rattle.certificate_model.specs.declared.certificate.Claim.{Claim}
use Rattle.certificate_model.specs.declared.certificate.Claim.TheVariants as claim
use Rattle.plan_text.specs.Spelling.{timing_text}
use Rattle.plan_text.specs.Reading.{timing_of}
use Rattle.certificate_checker.specs.Accepted.{IsAccepted}
use Rattle.cycle_sweep.specs.declared.row.SweepRow.{SweepRow}
use Rattle.cycle_sweep.specs.Rows.{IsRow}
use Rattle.cycle_sweep.specs.Says.{SaysRow}
use Rattle.cycle_sweep.specs.Table.{row_fields, sweep_text}
use Rattle.run_inputs.specs.Cycles.{cycle_of, AreSpelled}
use Rattle.maxband_run.specs.Outside.{Outside}
use Rattle.run_laws.specs.Asked as ask
use Rattle.run_inputs.specs.Reading.{input, most_bytes, Reads, StopsReading}
use Rattle.run_inputs.specs.declared.reader.ReadAs.TheVariants.{Description, Timing, Certificate, Timed, TypedPlan}
use Rattle.run_commands.specs.Bands.{widest_line}
use Rattle.run_commands.specs.Hold.{IsJudged, verdict_line}
use Rattle.run_commands.specs.Typed.{measured_lines}
use Rattle.run_commands.specs.Half.{half_lines}
use Rattle.run_commands.specs.Bound.{IsBound}
use Rattle.run_commands.specs.Round.{plan_lines, Unplans}
use Rattle.run_commands.specs.Narrow.{moved_lines}
use Rattle.run_commands.specs.Draw.{drawn_lines, picture_of}
use Rattle.run_commands.specs.Sheet.{sheet_lines, table_of}
use Rattle.run_commands.specs.Sweep.{rows_line}
use Rattle.run_commands.specs.Sought.{whole_bands}
use Rattle.run_commands.specs.Checked.{whole_checked}
use Rattle.maxband_run.specs.Run.{Ends, Question}
use Rattle.run_laws.specs.Laws.{SaysAccepted, SaysRejected}
use Rattle.run_inputs.specs.Status.{number_of, IsReached}
use Rattle.run_inputs.specs.declared.cause.Cause.{Cause}
use Rattle.run_inputs.specs.declared.cause.Cause.TheVariants as cause

-- ---- bands
-- `bands` with status 0: the base of the second file's timing keeps the rules of the artery of the first, and these are the widest bands on its offsets,
-- over all finer grids
pub record SaysWidest (before now : Outside) (artery timing : List ℕ) : Type 0 where
  pub street : Street
  pub given : TimingRecord
  pub outbound : Option Widest
  pub inbound : Option Widest
  pub description : Reads Description (before.holds artery) street
  pub text : Reads Timing (before.holds timing) given
  pub outbound_is : IsWidestBand street (base given) Outbound outbound
  pub inbound_is : IsWidestBand street (base given) Inbound inbound
  pub base : IsBase street (base given)
  pub told : Appends before.taken now.taken (widest_line street given Outbound outbound ++ widest_line street given Inbound inbound)

-- `bands` and `half` with status 4: this rule of the base fails, and no file has changed
pub record SaysNoBase (before now : Outside) (artery timing : List ℕ) (c : Cause) : Type 0 where
  pub street : Street
  pub given : TimingRecord
  pub failing : Failing
  pub description : Reads Description (before.holds artery) street
  pub text : Reads Timing (before.holds timing) given
  pub fails : BaseFails street (base given) failing
  pub not_base : ¬ IsBase street (base given)
  pub cause_is : c ≡ cause.Fails failing
  pub kept : SameFiles before.holds now.holds

abbrev pub BandsSay : Type 0
BandsSay = (before now : Outside) (artery timing : List ℕ) (c : Cause) → Ends before now (ask.bands artery timing) c
    → (number_of c ≡ 0 → SaysWidest before now artery timing) × (number_of c ≡ 4 → SaysNoBase before now artery timing c)

-- ---- half
-- a timing with the widest equal bands over all offsets on all grids is put and told
pub record PutsHalf (before now : Outside) (a : Street) (t : TimingRecord) (new : List ℕ) : Type 0 where
  pub made : TimingRecord
  pub best : IsHalfCycleBest a t made
  pub put : HoldsExactly (now.holds new) (timing_text made)
  pub read_back : timing_of (timing_text made) ≡ Ok made
  pub told : Appends before.taken now.taken (half_lines a made)

-- no offsets on any grid have equal bands: no file changes
pub record SaysNoHalf (before now : Outside) (a : Street) (t : TimingRecord) : Type 0 where
  pub none : HasNone a t
  pub kept : SameFiles before.holds now.holds
  pub told : Appends before.taken now.taken (codes "no equal band\n")

-- `half` with status 0: one of the two, of a timing whose base keeps its rules
pub record SaysHalf (before now : Outside) (artery timing new : List ℕ) : Type 0 where
  pub street : Street
  pub given : TimingRecord
  pub description : Reads Description (before.holds artery) street
  pub text : Reads Timing (before.holds timing) given
  pub base : IsBase street (base given)
  pub found : SaysNoHalf before now street given ⊎ PutsHalf before now street given new

-- `half` with status 11: the timing can have no half-cycle plan, for this first reason, and no file has changed
pub record SaysUnmatched (before now : Outside) (artery timing : List ℕ) (c : Cause) : Type 0 where
  pub street : Street
  pub given : TimingRecord
  pub reason : HalfEnd
  pub description : Reads Description (before.holds artery) street
  pub text : Reads Timing (before.holds timing) given
  pub base : IsBase street (base given)
  pub first : half.Ends street given reason
  pub not_ready : ¬ half.IsReady street given
  pub cause_is : c ≡ cause.Unmatched reason
  pub kept : SameFiles before.holds now.holds

abbrev pub HalfSays : Type 0
HalfSays = (before now : Outside) (artery timing new : List ℕ) (c : Cause) → Ends before now (ask.half artery timing new) c
    → (number_of c ≡ 0 → SaysHalf before now artery timing new) × (number_of c ≡ 4 → SaysNoBase before now artery timing c) × (number_of c ≡ 11 → SaysUnmatched before now artery timing c)

-- ---- round
-- A plan in whole seconds of a given timing is put: the file holds, where it is told, the text of a timing that is good on the described artery and is read back. Its cycle
-- and its offsets are those of the given timing, rounded, and are told with its bands and the loss. No good timing with its offsets, patterns, runs and cycle has a greater
-- weighted band on its grid (on a finer one, some may), and none at all has one that is greater by more than the loss.
pub record PutsPlan (before now : Outside) (a : Street) (given : TimingRecord) (plan : List ℕ) : Type 0 where
  pub timing : TimingRecord
  pub seconds : ℕ
  pub offsets : List ℕ
  pub loss : ℚ
  pub planned : IsPlanned a (base given) seconds offsets timing
  pub cycle_is : cycle_seconds a (base timing) ≡ number seconds
  pub offsets_are : (i : ℕ) → HasSignal a i → offset a (base timing) i ≡ number (slice_index offsets (i - 1))
  pub good : Good a timing
  pub best : IsBestOfOffsets a timing
  pub lost : (s : TimingRecord) → Good a s → weighted_band a s ≤ℚ (weighted_band a timing +ℚ loss)
  pub put : HoldsExactly (now.holds plan) (timing_text timing)
  pub read_back : timing_of (timing_text timing) ≡ Ok timing
  pub told : Appends before.taken now.taken (plan_lines a seconds offsets timing loss)

-- `round` with status 0: so of the timing of the certificate, which is accepted
pub record PutsOwnPlan (before now : Outside) (artery certificate plan : List ℕ) : Type 0 where
  pub street : Street
  pub warrant : Warrant
  pub given : TimingRecord
  pub description : Reads Description (before.holds artery) street
  pub text : Reads Certificate (before.holds certificate) warrant
  pub accepted : IsAccepted street warrant
  pub given_is : warrant.timing ≡ Some given
  pub puts : PutsPlan before now street given plan

-- with status 10: the certificate is accepted, no plan is made of it, for this first reason, and no file has changed
pub record SaysUnplanned (before now : Outside) (artery certificate : List ℕ) (c : Cause) : Type 0 where
  pub street : Street
  pub warrant : Warrant
  pub reason : PlanEnd
  pub description : Reads Description (before.holds artery) street
  pub text : Reads Certificate (before.holds certificate) warrant
  pub accepted : IsAccepted street warrant
  pub first : Unplans IsAccepted street warrant warrant.timing reason
  pub cause_is : c ≡ cause.Unplanned reason
  pub kept : SameFiles before.holds now.holds

abbrev pub RoundSays : Type 0
RoundSays = (before now : Outside) (artery certificate plan : List ℕ) (c : Cause) → Ends before now (ask.round artery certificate plan) c
    → (number_of c ≡ 0 → PutsOwnPlan before now artery certificate plan)
    × (number_of c ≡ 4 → SaysRejected whole_bands whole_checked before now artery certificate c)
    × (number_of c ≡ 10 → SaysUnplanned before now artery certificate c)

-- `round-from` with status 4: this rule fails, so that the timing isn't good, and no file has changed
pub record SaysFailing (before now : Outside) (artery timed : List ℕ) (c : Cause) : Type 0 where
  pub street : Street
  pub timing : TimingRecord
  pub failing : Failing
  pub description : Reads Description (before.holds artery) street
  pub text : Reads Timed (before.holds timed) (Some timing)
  pub fails : Fails street timing failing
  pub not_good : ¬ Good street timing
  pub cause_is : c ≡ cause.Fails failing
  pub kept : SameFiles before.holds now.holds

-- `round-from` with status 0: a plan of the other timing is put, and the certificate, from whose claim the loss is counted, is accepted for the artery, or for the artery with
-- its limits of speed moved outwards
pub record PutsOtherPlan (before now : Outside) (artery certificate other plan : List ℕ) : Type 0 where
  pub street : Street
  pub warrant : Warrant
  pub given : TimingRecord
  pub description : Reads Description (before.holds artery) street
  pub text : Reads Certificate (before.holds certificate) warrant
  pub accepted : IsBound street warrant
  pub given_is : Reads Timed (before.holds other) (Some given)
  pub puts : PutsPlan before now street given plan

-- with status 10: the certificate is accepted so, no plan is made of the other timing, for this first reason, and no file has changed
pub record SaysUnplannedFrom (before now : Outside) (artery certificate other : List ℕ) (c : Cause) : Type 0 where
  pub street : Street
  pub warrant : Warrant
  pub given : Option TimingRecord
  pub reason : PlanEnd
  pub description : Reads Description (before.holds artery) street
  pub text : Reads Certificate (before.holds certificate) warrant
  pub given_is : Reads Timed (before.holds other) given
  pub accepted : IsBound street warrant
  pub first : Unplans IsBound street warrant given reason
  pub cause_is : c ≡ cause.Unplanned reason
  pub kept : SameFiles before.holds now.holds

-- with status 4, where it is no rule that fails: neither the artery nor the widened one accepts the certificate, and no file has changed
pub record SaysUnbound (before now : Outside) (artery certificate : List ℕ) (c : Cause) : Type 0 where
  pub rejected : SaysRejected whole_bands whole_checked before now artery certificate c
  pub not_widened : ¬ IsAccepted (widen rejected.street) rejected.warrant

abbrev pub RoundFromSays : Type 0
RoundFromSays = (before now : Outside) (artery certificate other plan : List ℕ) (c : Cause) → Ends before now (ask.round_from artery certificate other plan) c
    → (number_of c ≡ 0 → PutsOtherPlan before now artery certificate other plan)
    × (number_of c ≡ 4 → SaysUnbound before now artery certificate c ⊎ SaysFailing before now artery other c)
    × (number_of c ≡ 10 → SaysUnplannedFrom before now artery certificate other c)

-- A run of `hold` over the same description and the file that `round` put accepts it, unless a fault or want of memory ends it: where these are two files that tell
-- their bytes, and the plan isn't too long to be read.
abbrev pub PlanIsHeld : Type 0
PlanIsHeld = (before between now : Outside) (artery certificate plan : List ℕ) (c d : Cause)
    → artery ≢ plan → IsSome (before.holds artery) → IsSome (between.holds plan) → IfSome (between.holds plan) (λ bytes. length bytes ≤ most_bytes Timing)
    → number_of c ≡ 0 → Ends before between (ask.round artery certificate plan) c → IsReached d → Ends between now (ask.hold artery plan) d → d ≡ cause.Done

-- ---- narrow and widen
-- with status 0: the file that is put holds, where it is told, a text that is described as the street with its limits of speed moved, and what was told says how
pub record PutsMoved (way : Way) (before now : Outside) (artery new : List ℕ) (a : Street) : Type 0 where
  pub description : Reads Description (before.holds artery) a
  pub text : List ℕ
  pub put : HoldsExactly (now.holds new) text
  pub described : Described text (street_moved way a)
  pub told : Appends before.taken now.taken (moved_lines way a)

-- `narrow`: and every timing that is good for that street is good for the first file's
pub record SaysNarrowed (before now : Outside) (artery new : List ℕ) : Type 0 where
  pub street : Street
  pub puts : PutsMoved Inwards before now artery new street
  pub within : (t : TimingRecord) → Good (narrow street) t → Good street t

abbrev pub NarrowSays : Type 0
NarrowSays = (before now : Outside) (artery new : List ℕ) (c : Cause) → Ends before now (ask.narrow artery new) c → number_of c ≡ 0 → SaysNarrowed before now artery new

-- `widen`: and every good timing of the first file's street is good for that street
pub record SaysWidened (before now : Outside) (artery new : List ℕ) : Type 0 where
  pub street : Street
  pub puts : PutsMoved Outwards before now artery new street
  pub holds_all : (t : TimingRecord) → Good street t → Good (widen street) t

abbrev pub WidenSays : Type 0
WidenSays = (before now : Outside) (artery new : List ℕ) (c : Cause) → Ends before now (ask.widen artery new) c → number_of c ≡ 0 → SaysWidened before now artery new

-- ---- timing
-- `timing` with status 0: the file that is put holds, where it is told, the text of the timing of the typed plan, whichever rules it breaks, and is read back; its bands and
-- its weighted band were told, and then the first rule that it breaks, or that it holds
pub record PutsTyped (before now : Outside) (artery plan timing : List ℕ) : Type 0 where
  pub street : Street
  pub typed : Typed
  pub made : Measured
  pub broken : Option Failing
  pub description : Reads Description (before.holds artery) street
  pub text : Reads TypedPlan (before.holds plan) typed
  pub made_is : IsTimingOf street typed made
  pub judged : IsJudged street made.timing broken
  pub put : HoldsExactly (now.holds timing) (timing_text made.timing)
  pub read_back : timing_of (timing_text made.timing) ≡ Ok made.timing
  pub told : Appends before.taken now.taken (measured_lines street made ++ verdict_line broken)

-- with status 3: one of the two files isn't read
pub record StopsTyped (before now : Outside) (artery plan timing : List ℕ) (c : Cause) : Type 0 where
  pub lines : List ℕ
  pub stops : StopsReading (input Description artery ∷ input TypedPlan plan ∷ []) 1 before.holds before.reads now.reads c lines
  pub kept : SameFiles before.holds now.holds

-- or the plan has more or fewer numbers at this place than the artery has signals or links
pub record SaysMiscounted (before now : Outside) (artery plan : List ℕ) (c : Cause) : Type 0 where
  pub street : Street
  pub typed : Typed
  pub refusal : Refusal
  pub description : Reads Description (before.holds artery) street
  pub text : Reads TypedPlan (before.holds plan) typed
  pub first : Refuses street typed (fault.Refused refusal)
  pub cause_is : c ≡ cause.Refused refusal
  pub kept : SameFiles before.holds now.holds

-- with status 11: so many ticks are past the limit of a timing
pub record SaysTooFine (before now : Outside) (artery plan : List ℕ) (c : Cause) : Type 0 where
  pub street : Street
  pub typed : Typed
  pub ticks : ℕ
  pub description : Reads Description (before.holds artery) street
  pub text : Reads TypedPlan (before.holds plan) typed
  pub first : Refuses street typed (fault.TooFine ticks)
  pub cause_is : c ≡ cause.TooFine ticks
  pub kept : SameFiles before.holds now.holds

abbrev pub TimingSays : Type 0
TimingSays = (before now : Outside) (artery plan timing : List ℕ) (c : Cause) → Ends before now (ask.timing artery plan timing) c
    → (number_of c ≡ 0 → PutsTyped before now artery plan timing)
    × (number_of c ≡ 3 → StopsTyped before now artery plan timing c ⊎ SaysMiscounted before now artery plan c)
    × (number_of c ≡ 4 → ⊥)
    × (number_of c ≡ 11 → SaysTooFine before now artery plan c)

-- what a claim bounds: the best value, or the bound where the search stopped; where there is no good timing, none has a value
abbrev pub IsWithin : Claim → ℚ → Type 0
IsWithin (claim.Best best) value = value ≤ℚ best
IsWithin claim.NoTiming value = ⊥
IsWithin (claim.Stopped bound found) value = value ≤ℚ bound

-- a plan that `timing` told to hold is worth no more than what a certificate that `check` accepted bounds
pub record IsWorthNoMore (before now checked_before checked_now : Outside) (artery plan timing certificate : List ℕ) : Type 0 where
  pub put : PutsTyped before now artery plan timing
  pub accepted : SaysAccepted whole_bands whole_checked checked_before checked_now artery certificate
  pub same : accepted.street ≡ put.street
  pub within : put.broken ≡ None → IsWithin accepted.warrant.claim (weighted_band put.street put.made.timing)

-- So wherever both have status 0 over the same description.
abbrev pub TimingIsBounded : Type 0
TimingIsBounded = (before now checked_before checked_now : Outside) (artery plan timing certificate : List ℕ) (c d : Cause) → IsSome (before.holds artery) → checked_before.holds artery ≡ before.holds artery
    → Ends before now (ask.timing artery plan timing) c → number_of c ≡ 0 → Ends checked_before checked_now (ask.check artery certificate) d → number_of d ≡ 0
    → IsWorthNoMore before now checked_before checked_now artery plan timing certificate

-- ---- draw and sheet
-- what lines tell of a timing of a street that breaks this rule first, or none
abbrev pub Tells : Type 0
Tells = Street → TimingRecord → Option Failing → List ℕ

-- what is made of it
abbrev pub Makes : Type 0
Makes = Street → TimingRecord → List ℕ

-- with status 0: the timing of the second file, good or not, has the number of signals of the artery of the first, and the file that is put holds, where it is told, what is made
-- of it; what was told has the first rule that it breaks, where it breaks one
pub record PutsMade (before now : Outside) (artery timed new : List ℕ) (tells : Tells) (made : Makes) : Type 0 where
  pub street : Street
  pub timing : TimingRecord
  pub broken : Option Failing
  pub description : Reads Description (before.holds artery) street
  pub text : Reads Timed (before.holds timed) (Some timing)
  pub shape : length timing.patterns ≡ count street
  pub judged : IsJudged street timing broken
  pub put : HoldsExactly (now.holds new) (made street timing)
  pub told : Appends before.taken now.taken (tells street timing broken)

-- with status 4: it has another number of signals
pub record SaysUnshaped (before now : Outside) (artery timed : List ℕ) (c : Cause) : Type 0 where
  pub street : Street
  pub timing : TimingRecord
  pub description : Reads Description (before.holds artery) street
  pub text : Reads Timed (before.holds timed) (Some timing)
  pub unshaped : length timing.patterns ≢ count street
  pub cause_is : c ≡ cause.Fails rule.Shape
  pub kept : SameFiles before.holds now.holds

-- with status 10: the second file is a certificate without a timing, and no file has changed
pub record SaysUntimed (before now : Outside) (artery timed : List ℕ) (c : Cause) : Type 0 where
  pub street : Street
  pub description : Reads Description (before.holds artery) street
  pub text : Reads Timed (before.holds timed) None
  pub cause_is : c ≡ cause.Untimed
  pub kept : SameFiles before.holds now.holds

-- what the statuses say of a command that is asked so, makes this of the timing and tells so of it
abbrev pub MadeSays : (List ℕ → List ℕ → List ℕ → Question) → Tells → Makes → Type 0
MadeSays asks tells made = (before now : Outside) (artery timed new : List ℕ) (c : Cause) → Ends before now (asks artery timed new) c
    → (number_of c ≡ 0 → PutsMade before now artery timed new tells made)
    × (number_of c ≡ 4 → SaysUnshaped before now artery timed c)
    × (number_of c ≡ 10 → SaysUntimed before now artery timed c)

-- `draw` makes the picture of the timing, with the title where there is one
abbrev pub DrawSays : Type 0
DrawSays = (title : Option (List ℕ)) → MadeSays (ask.draw title) (λ a t. drawn_lines) (λ a. picture_of a title)

-- `sheet` makes its table, counted from the moment that the reference names
abbrev pub SheetSays : Type 0
SheetSays = (reference : Reference) → MadeSays (ask.sheet reference) sheet_lines (λ a. table_of a reference)

-- ---- sweep
-- what is found at a cycle, and what its record says of the street
pub record SaysCycle (a : Street) (limit : Option ℕ) (cycle : ℚ) (row : SweepRow) : Type 0 where
  pub found : IsRow a limit cycle row
  pub says : SaysRow a limit cycle row (row_fields a row)

-- `sweep` with status 0: the file that is put holds, where it is told, the table of the cycles that the words spell, a record for each
pub record PutsTable (before now : Outside) (artery table : List ℕ) (limit : Option ℕ) (words : List (List ℕ)) : Type 0 where
  pub street : Street
  pub cycles : List ℚ
  pub rows : List SweepRow
  pub description : Reads Description (before.holds artery) street
  pub cycles_are : AreSpelled cycle_of words cycles
  pub each : AllZip (SaysCycle street limit) cycles rows
  pub put : HoldsExactly (now.holds table) (sweep_text street rows)
  pub told : Appends before.taken now.taken (rows_line (length words))

abbrev pub SweepSays : Type 0
SweepSays = (before now : Outside) (artery table : List ℕ) (limit : Option ℕ) (words : List (List ℕ)) (c : Cause) → Ends before now (ask.sweep artery table limit words) c
    → number_of c ≡ 0 → PutsTable before now artery table limit words
