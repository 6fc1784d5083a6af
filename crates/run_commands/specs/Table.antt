-- The commands: the row of each, and what it finds.
use Rattle.std.specs.Prelude.{ℕ, List, Option}
use Rattle.run_inputs.specs.Puts.{With}
use Rattle.run_inputs.specs.Reading.{Values}
use Rattle.run_inputs.specs.Status.{IsOwnAnswer}
use Rattle.run_inputs.specs.declared.cause.Cause.{Cause}
use Rattle.run_inputs.specs.declared.reader.ReadAs.{ReadAs}
use Rattle.run_commands.specs.Settings.{Settings}
use Rattle.run_commands.specs.Rows.{Row, Page, row_of, page_of}
use Rattle.run_commands.specs.Pages.{help_line, page_text}
use Rattle.run_commands.specs.Hold.{HoldFinds}
use Rattle.run_commands.specs.Show.{Shows}
use Rattle.run_commands.specs.Check.{CheckFinds, CheckLinksFinds}
use Rattle.run_commands.specs.Solve.{IsSolution}
use Rattle.run_commands.specs.Links.{IsLinkSolution}
use Rattle.run_commands.specs.Renew.{IsRenewal}
use Rattle.run_commands.specs.Bands.{BandsFinds}
use Rattle.run_commands.specs.Round.{RoundFinds, RoundFromFinds}
use Rattle.run_inputs.specs.Cycles.{seconds_of, AreSpelled}
use Rattle.run_commands.specs.Whole.{WholeFinds}
use Rattle.run_commands.specs.Explain.{ExplainFinds}
use Rattle.run_commands.specs.Half.{HalfFinds}
use Rattle.run_commands.specs.Typed.{TypedFinds}
use Rattle.run_commands.specs.Draw.{DrawFinds}
use Rattle.run_commands.specs.Sheet.{SheetFinds}
use Rattle.run_commands.specs.Help.{HelpFinds, VersionFinds}
use Rattle.speed_steps.specs.declared.way.Way.TheVariants.{Inwards, Outwards}
use Rattle.run_commands.specs.Narrow.{IsMove}
use Rattle.run_commands.specs.Make.{Makes}
use Rattle.run_commands.specs.Trial.{IsTrial}
use Rattle.run_commands.specs.Sweep.{IsSweep}
use Rattle.run_commands.specs.Sensitivity.{IsSensitivity}
use Rattle.run_commands.specs.Ends.{IsDone, IsVerdict, IsTestEnd, IsCheckEnd, IsLinkCheckEnd, IsRoundEnd, IsRoundFromEnd, IsHalfEnd, IsTypedEnd, IsDrawingEnd, IsExplainEnd}
use Rattle.run_commands.specs.declared.table.Usage.{Usage}
use Rattle.run_commands.specs.declared.table.Usage.TheVariants.{Solve, Check, Bands, Round, RoundFrom, Whole, Half, TimingOf, Draw, Sheet, Renew, Links, CheckLinks, Hold, Show, Explain, Narrow, Widen, Make, Trial, Sweep, Sensitivity, Help, Version}
use Rattle.run_commands.specs.declared.table.TheConstants.{SOLVE, CHECK, BANDS, ROUND, ROUND_FROM, WHOLE, HALF, TIMING_OF, DRAW, SHEET, RENEW, LINKS, CHECK_LINKS, HOLD, SHOW, EXPLAIN, NARROW, WIDEN, MAKE, TRIAL, SWEEP, SENSITIVITY, HELP, VERSION, USAGES}
use Rattle.run_commands.specs.declared.table.TheConstants.{SOLVE_PAGE, CHECK_PAGE, BANDS_PAGE, ROUND_PAGE, ROUND_FROM_PAGE, WHOLE_PAGE, HALF_PAGE, TIMING_OF_PAGE, DRAW_PAGE, SHEET_PAGE, RENEW_PAGE, LINKS_PAGE, CHECK_LINKS_PAGE, HOLD_PAGE, SHOW_PAGE, EXPLAIN_PAGE, NARROW_PAGE, WIDEN_PAGE, MAKE_PAGE, TRIAL_PAGE, SWEEP_PAGE, SENSITIVITY_PAGE, HELP_PAGE, VERSION_PAGE}

abbrev pub row : Usage → Row
row Solve = row_of SOLVE
row Check = row_of CHECK
row Bands = row_of BANDS
row Round = row_of ROUND
row RoundFrom = row_of ROUND_FROM
row Whole = row_of WHOLE
row Half = row_of HALF
row TimingOf = row_of TIMING_OF
row Draw = row_of DRAW
row Sheet = row_of SHEET
row Renew = row_of RENEW
row Links = row_of LINKS
row CheckLinks = row_of CHECK_LINKS
row Hold = row_of HOLD
row Show = row_of SHOW
row Explain = row_of EXPLAIN
row Narrow = row_of NARROW
row Widen = row_of WIDEN
row Make = row_of MAKE
row Trial = row_of TRIAL
row Sweep = row_of SWEEP
row Sensitivity = row_of SENSITIVITY
row Help = row_of HELP
row Version = row_of VERSION

abbrev pub page : Usage → Page
page Solve = page_of SOLVE_PAGE
page Check = page_of CHECK_PAGE
page Bands = page_of BANDS_PAGE
page Round = page_of ROUND_PAGE
page RoundFrom = page_of ROUND_FROM_PAGE
page Whole = page_of WHOLE_PAGE
page Half = page_of HALF_PAGE
page TimingOf = page_of TIMING_OF_PAGE
page Draw = page_of DRAW_PAGE
page Sheet = page_of SHEET_PAGE
page Renew = page_of RENEW_PAGE
page Links = page_of LINKS_PAGE
page CheckLinks = page_of CHECK_LINKS_PAGE
page Hold = page_of HOLD_PAGE
page Show = page_of SHOW_PAGE
page Explain = page_of EXPLAIN_PAGE
page Narrow = page_of NARROW_PAGE
page Widen = page_of WIDEN_PAGE
page Make = page_of MAKE_PAGE
page Trial = page_of TRIAL_PAGE
page Sweep = page_of SWEEP_PAGE
page Sensitivity = page_of SENSITIVITY_PAGE
page Help = page_of HELP_PAGE
page Version = page_of VERSION_PAGE

-- its line of the help, and what the help has of it alone
abbrev pub line_of : Usage → List ℕ
line_of u = help_line (row u) (page u)

abbrev pub lines_of : Usage → List ℕ
lines_of u = page_text (row u) (page u)

abbrev pub readers : Usage → List ReadAs
readers u = (row u).reads

-- what is found of the values of files and of settings: the cause, the lines, and the bytes of the file that is put, where one is
abbrev pub Finding : List ReadAs → Type 1
Finding rs = Values rs → Settings → Cause → List ℕ → Option (List ℕ) → Type 0

-- what each command finds
abbrev pub Finds : (u : Usage) → Finding (readers u)
Finds Solve v s c lines put = With (IsSolution v.0 s.limit c lines) put
Finds Check v s c lines put = CheckFinds v.0 v.1.0 c lines
Finds Bands v s c lines put = BandsFinds v.0 v.1.0 c lines
Finds Round v s c lines put = RoundFinds v.0 v.1.0 c lines put
Finds RoundFrom v s c lines put = RoundFromFinds v.0 v.1.0 v.1.1.0 c lines put
Finds Whole v s c lines put = (named : List ℕ) × AreSpelled seconds_of s.whole_cycles named × WholeFinds v.0 v.1.0 named c lines put
Finds Half v s c lines put = HalfFinds v.0 v.1.0 c lines put
Finds TimingOf v s c lines put = TypedFinds v.0 v.1.0 c lines put
Finds Draw v s c lines put = DrawFinds v.0 v.1.0 s.title c lines put
Finds Sheet v s c lines put = SheetFinds v.0 v.1.0 s.reference c lines put
Finds Renew v s c lines put = With (IsRenewal v.0 c lines) put
Finds Links v s c lines put = With (IsLinkSolution v.0 s.limit c lines) put
Finds CheckLinks v s c lines put = CheckLinksFinds v.0 v.1.0 c lines
Finds Hold v s c lines put = HoldFinds v.0 v.1.0 c lines
Finds Show v s c lines put = Shows v.0 c lines
Finds Explain v s c lines put = ExplainFinds v.0 c lines
Finds Narrow v s c lines put = With (IsMove Inwards v.0 c lines) put
Finds Widen v s c lines put = With (IsMove Outwards v.0 c lines) put
Finds Make v s c lines put = Makes s.signals s.seed c lines
Finds Trial v s c lines put = IsTrial s.signals s.seed s.limit c lines
Finds Sweep v s c lines put = With (IsSweep v.0 s.limit s.cycles c lines) put
Finds Sensitivity v s c lines put = With (IsSensitivity v.0 s.limit c lines) put
Finds Help v s c lines put = HelpFinds line_of lines_of USAGES s.about c lines
Finds Version v s c lines put = VersionFinds c lines

-- with which causes it ends, once its files were read
abbrev pub IsOwnEnd : Usage → Cause → Type 0
IsOwnEnd Solve c = IsVerdict c
IsOwnEnd Check c = IsCheckEnd c
IsOwnEnd Bands c = IsTestEnd c
IsOwnEnd Round c = IsRoundEnd c
IsOwnEnd RoundFrom c = IsRoundFromEnd c
IsOwnEnd Whole c = IsRoundEnd c
IsOwnEnd Half c = IsHalfEnd c
IsOwnEnd TimingOf c = IsTypedEnd c
IsOwnEnd Draw c = IsDrawingEnd c
IsOwnEnd Sheet c = IsDrawingEnd c
IsOwnEnd Renew c = IsDone c
IsOwnEnd Links c = IsVerdict c
IsOwnEnd CheckLinks c = IsLinkCheckEnd c
IsOwnEnd Hold c = IsTestEnd c
IsOwnEnd Show c = IsDone c
IsOwnEnd Explain c = IsExplainEnd c
IsOwnEnd Narrow c = IsDone c
IsOwnEnd Widen c = IsDone c
IsOwnEnd Make c = IsDone c
IsOwnEnd Trial c = IsVerdict c
IsOwnEnd Sweep c = IsDone c
IsOwnEnd Sensitivity c = IsDone c
IsOwnEnd Help c = IsDone c
IsOwnEnd Version c = IsDone c

-- it finds this, ends so, and gives an answer of its own
pub record IsFound (u : Usage) (v : Values (readers u)) (s : Settings) (c : Cause) (lines : List ℕ) (put : Option (List ℕ)) : Type 0 where
  pub finds : Finds u v s c lines put
  pub ends : IsOwnEnd u c
  pub answer : IsOwnAnswer c put
