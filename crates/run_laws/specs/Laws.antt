-- Statements about the definitions of a run, each of which a public call proves.
use Rattle.std.specs.Prelude.{◌≡◌, ◌≢◌, ◌⊎◌, ℕ, ◌≤◌, Bool, true, false, List, [], ◌∷◌, ◌++◌, length, codes, Option, Some, None, Ok, IsSome, IfSome, option_map}
use Rattle.rational_theory.specs.Rational.{ℚ, ◌≤ℚ◌}
use Rattle.outer_edge.specs.Counts.{SameCounts}
use Rattle.outer_edge.specs.Held.{SameFiles, HoldsExactly}
use Rattle.outer_edge.specs.Taken.{Appends}
use Rattle.progression.specs.Street.{Street, count}
use Rattle.progression.specs.TimingRecord.{TimingRecord}
use Rattle.progression.specs.Objectives.{BoundedBy, BestOf, NoneOf}
use Rattle.progression.specs.Good.{Good}
use Rattle.progression.specs.Best.{weighted_band}
use Rattle.time_space.specs.Failing.{Fails}
use Rattle.time_space.specs.declared.failing.Failing.{Failing}
use Rattle.certificate_model.specs.Warrants.{Warrant}
use Rattle.certificate_model.specs.Families.{Table}
use Rattle.plan_text.specs.SecondText.{second_text}
use Rattle.plan_text.specs.CertificateReading.{certificate_of}
use Rattle.certificate_model.specs.declared.certificate.Claim.{Claim}
use Rattle.certificate_model.specs.declared.certificate.Claim.TheVariants as claim
use Rattle.branch_and_bound.specs.declared.found.Stop.{Stop}
use Rattle.branch_and_bound.specs.declared.found.Stop.TheVariants.{Work, Wide}
use Rattle.box_search.specs.declared.site.SitePart.{SitePart}
use Rattle.branch_tree.specs.Certified.{warrant_of}
use Rattle.diagram_print.specs.Measures.{measure_line}
use Rattle.diagram_print.specs.Report.{stop_lines, bound_line}
use Rattle.multi_band.specs.LinkCertified.{link_warrant_of}
use Rattle.run_commands.specs.CheckLines.{accepted_line}
use Rattle.run_commands.specs.Lines.{holds_lines}
use Rattle.run_inputs.specs.Puts.{NamedBytes}
use Rattle.maxband_run.specs.Outside.{Outside}
use Rattle.run_laws.specs.Asked as ask
use Rattle.run_inputs.specs.Reading.{Value, inputs, most_bytes, IsReadAs, Reads, Describes, AreTold}
use Rattle.run_inputs.specs.declared.reader.ReadAs.{ReadAs}
use Rattle.run_inputs.specs.declared.reader.ReadAs.TheVariants.{Description, Timing, Certificate}
use Rattle.run_commands.specs.Ends.{IsVerdict}
use Rattle.run_commands.specs.Settings.{unsaid}
use Rattle.run_commands.specs.Table.{row, line_of, lines_of}
use Rattle.run_commands.specs.Words.{Request, request_of}
use Rattle.run_commands.specs.declared.table.Usage.{Usage}
use Rattle.run_commands.specs.declared.table.Usage.TheVariants as usage
use Rattle.run_commands.specs.Sought.{Sought, Proves, whole_bands, bands_of_links}
use Rattle.run_commands.specs.Checked.{Checked, whole_checked, links_checked}
use Rattle.run_commands.specs.Solve.{IsSolution}
use Rattle.run_commands.specs.Links.{IsLinkSolution}
use Rattle.maxband_run.specs.Run.{Question, question, Answers, Ends}
use Rattle.run_inputs.specs.Status.{number_of, IsReached}
use Rattle.run_inputs.specs.declared.cause.Cause.{Cause}
use Rattle.run_inputs.specs.declared.cause.Cause.TheVariants as cause
use Rattle.artery_model.specs.declared.kind.Kind.TheVariants.{NotToml}

-- a read, a put or a write failed
abbrev pub IsFault : Cause → Type 0
IsFault (cause.ReadFault file) = Unit {0}
IsFault cause.WriteFault = Unit {0}
IsFault _ = ⊥

-- ---- one answer
-- the same bytes are put into the same file, or nothing is; but a table's searches may find other rows
abbrev pub SameBytes : Usage → Option NamedBytes → Option NamedBytes → Type 0
SameBytes usage.Sweep p q = option_map (λ b. b.name) p ≡ option_map (λ b. b.name) q
SameBytes u p q = p ≡ q

-- the same lines; but what `explain` says of a text that is no TOML goes by what its reader says
abbrev pub SameLines : Usage → Cause → List ℕ → List ℕ → Type 0
SameLines usage.Explain (cause.Refused r) x y = (x ≡ y) ⊎ (r.kind ≡ NotToml)
SameLines u c x y = x ≡ y

abbrev pub SameTold : Option Request → Cause → List ℕ → List ℕ → Type 0
SameTold None c x y = x ≡ y
SameTold (Some r) c x y = SameLines r.usage c x y

abbrev pub SamePut : Option Request → Option NamedBytes → Option NamedBytes → Type 0
SamePut None p q = p ≡ q
SamePut (Some r) p q = SameBytes r.usage p q

pub record Same (asked : Option Request) (c : Cause) (x : List ℕ) (p : Option NamedBytes) (d : Cause) (y : List ℕ) (q : Option NamedBytes) : Type 0 where
  pub cause : c ≡ d
  pub lines : SameTold asked c x y
  pub put : SamePut asked p q

-- whether any of several best answers may be told
abbrev pub chooses : Option Request → Bool
chooses None = false
chooses (Some r) = (row r.usage).chooses

-- a cause with which a command may tell any of several answers: that of a search, or that a search leads to a plan in whole seconds or to none
abbrev pub IsChosen : Usage → Cause → Type 0
IsChosen usage.Whole (cause.Unplanned e) = Unit {0}
IsChosen u c = IsVerdict c

abbrev pub IsChosenBy : Option Request → Cause → Type 0
IsChosenBy None c = ⊥
IsChosenBy (Some r) c = IsChosen r.usage c

-- Two answers to the same words are the same. Two of a command that chooses may both be chosen, since of several best timings any may be found; where it reads no file
-- they are.
abbrev pub Agree : Bool → List ReadAs → Type 0 → Type 0 → Type 0
Agree false readers same chosen = same
Agree true [] same chosen = chosen
Agree true (r ∷ rs) same chosen = same ⊎ chosen

-- What files that tell their bytes hold, and the words, leave one answer, its cause, its lines and what it puts: so each status but 0, 1 and 2 of `solve`, `links` and
-- `trial`, 0 and 10 of `whole`, that of a fault and that of want of memory comes exactly by its cause.
abbrev pub AnswersAgree : (List ℕ → Option (List ℕ)) → (List ℕ → ℕ) → (List ℕ → ℕ) → Option Request → Question → Type 0
AnswersAgree held before after asked q = (c d : Cause) (x y : List ℕ) (put other : Option NamedBytes) → AreTold held (inputs q.readers q.names) → IsReached c → IsReached d
    → Answers held before after q c x put → Answers held before after q d y other → Agree (chooses asked) q.readers (Same asked c x put d y other) (IsChosenBy asked c × IsChosenBy asked d)

abbrev pub OneAnswer : Type 0
OneAnswer = (held : List ℕ → Option (List ℕ)) (before after : List ℕ → ℕ) (words : List (List ℕ)) → AnswersAgree held before after (request_of words) (question (request_of words))

-- ---- faults
-- Unless the run ends by a fault no count has changed: each failed read, put and write is told.
abbrev pub FaultsAreTold : Type 0
FaultsAreTold = (before now : Outside) (asked : Option Request) (c : Cause) → Ends before now (question asked) c → ¬ IsFault c
    → SameCounts before.reads now.reads × SameCounts before.puts now.puts × (now.writes ≡ before.writes)

-- A run that ends neither with a verdict nor by a failed put or write leaves every file that tells as it was.
abbrev pub RefusalsKeepFiles : Type 0
RefusalsKeepFiles = (before now : Outside) (asked : Option Request) (c : Cause) → Ends before now (question asked) c → ¬ IsVerdict c → c ≢ cause.WriteFault → SameFiles before.holds now.holds

-- ---- a search and its check
-- a search within the limit ends with this cause, these lines, this text and this certificate
abbrev pub Solves : Sought → Type 1
Solves k = Street → Option ℕ → Cause → List ℕ → List ℕ → Value k.reader → Type 0

abbrev pub whole_solves : Solves whole_bands
whole_solves a limit c lines text w = (s : IsSolution a limit c lines text) × (w ≡ warrant_of a s.found)

abbrev pub links_solve : Solves bands_of_links
links_solve a limit c lines text w = (s : IsLinkSolution a limit c lines text) × (w ≡ link_warrant_of a s.found)

-- What a search found, of the artery that the file described, and that the check accepts the file that was put with just the claim of that.
pub record IsConfirmed (k : Sought) (s : Checked k) (solves : Solves k) (before between now : Outside) (artery certificate : List ℕ) (limit : Option ℕ) (c d : Cause) : Type 0 where
  pub street : Street
  pub lines : List ℕ
  pub text : List ℕ
  pub warrant : Value k.reader
  pub description : Reads Description (before.holds artery) street
  pub solved : solves street limit c lines text warrant
  pub done : d ≡ cause.Done
  pub certificate_is : Reads k.reader (between.holds certificate) warrant
  pub accepted : s.Accepted street warrant
  pub proves : Proves k street warrant
  pub told : Appends between.taken now.taken (accepted_line (k.claim warrant))

-- After a verdict of a search that is asked for so, a run of its check over the same description and the file that was put accepts what was found, unless a fault or
-- want of memory ends it: where these are two files that tell their bytes, and the certificate isn't too long to be read.
abbrev pub SearchIsAccepted : (k : Sought) → Checked k → Solves k → (List ℕ → List ℕ → Option ℕ → Question) → (List ℕ → List ℕ → Question) → Type 0
SearchIsAccepted k s solves asks checks = (before between now : Outside) (artery certificate : List ℕ) (limit : Option ℕ) (c d : Cause)
    → artery ≢ certificate → IsSome (before.holds artery) → IsSome (between.holds certificate) → IfSome (between.holds certificate) (λ bytes. length bytes ≤ most_bytes k.reader)
    → IsVerdict c → Ends before between (asks artery certificate limit) c
    → IsReached d → Ends between now (checks artery certificate) d → IsConfirmed k s solves before between now artery certificate limit c d

abbrev pub PutIsAccepted : Type 0
PutIsAccepted = SearchIsAccepted whole_bands whole_checked whole_solves ask.solve ask.check

abbrev pub PutLinksAreAccepted : Type 0
PutLinksAreAccepted = SearchIsAccepted bands_of_links links_checked links_solve ask.links ask.check_links

-- ---- what the numbers of the statuses say of the model
-- The file holds, where it is told, a text that is read as a certificate with this claim and this timing, and the check of its kind accepts that on the artery.
pub record HoldsCertificate (k : Sought) (s : Checked k) (a : Street) (held : Option (List ℕ)) (claimed : Claim) (timing : Option k.Timing) : Type 0 where
  pub text : List ℕ
  pub warrant : Value k.reader
  pub put : HoldsExactly held text
  pub read : IsReadAs k.reader text warrant
  pub accepted : s.Accepted a warrant
  pub claim_is : k.claim warrant ≡ claimed
  pub timing_is : k.timing warrant ≡ timing

-- the output grew by lines of which these are the first
abbrev pub TellsFirst : Outside → Outside → List ℕ → Type 0
TellsFirst before now first = (more : List ℕ) × Appends before.taken now.taken (first ++ more)

-- the line of the value of a timing that is found, or that none is
abbrev pub value_line : Option ℚ → List ℕ
value_line None = codes "no timing\n"
value_line (Some value) = measure_line (codes "weighted") value 6

-- A search with status 0: this timing is best on the described artery, its value is told after the verdict, and the file that is put has it, with its value.
pub record PutsBest (k : Sought) (s : Checked k) (before now : Outside) (artery certificate : List ℕ) : Type 0 where
  pub street : Street
  pub timing : k.Timing
  pub description : Describes (before.holds artery) street
  pub best : BestOf (k.objective street) timing
  pub told : TellsFirst before now (codes "verdict best\n" ++ value_line (Some ((k.objective street).worth timing)))
  pub put : HoldsCertificate k s street (now.holds certificate) (claim.Best ((k.objective street).worth timing)) (Some timing)

-- With status 1: no timing is good on the described artery, that alone is told, and the file that is put claims it.
pub record PutsNone (k : Sought) (s : Checked k) (before now : Outside) (artery certificate : List ℕ) : Type 0 where
  pub street : Street
  pub description : Describes (before.holds artery) street
  pub none : NoneOf (k.objective street)
  pub told : Appends before.taken now.taken (codes "verdict none\n")
  pub put : HoldsCertificate k s street (now.holds certificate) claim.NoTiming None

-- a stop by work spent all units of the limit
abbrev pub IsWholeLimit : Option ℕ → Stop SitePart → Type 0
IsWholeLimit limit (Work units) = limit ≡ Some units
IsWholeLimit limit (Wide site) = Unit {0}

-- the verdict of a search that stopped, why it did, the bound, and the value of the timing that stands
abbrev pub open_lines : Table → Street → Stop SitePart → ℚ → Option ℚ → List ℕ
open_lines table a stop bound value = codes "verdict open\n" ++ (stop_lines table (count a) stop ++ (bound_line bound ++ value_line value))

-- With status 2: no good timing of the described artery has a value above the bound, a timing that stands is good and no better than that, these are told, the file that
-- is put has both, and the cause is why the search stopped: by work only where the whole limit was spent.
pub record PutsBound (k : Sought) (s : Checked k) (before now : Outside) (artery certificate : List ℕ) (limit : Option ℕ) (c : Cause) : Type 0 where
  pub street : Street
  pub bound : ℚ
  pub timing : Option k.Timing
  pub stop : Stop SitePart
  pub description : Describes (before.holds artery) street
  pub bounded : BoundedBy (k.objective street) bound
  pub good : IfSome timing (λ plan. (k.objective street).IsGood plan × ((k.objective street).worth plan ≤ℚ bound))
  pub told : TellsFirst before now (open_lines s.table street stop bound (option_map (k.objective street).worth timing))
  pub put : HoldsCertificate k s street (now.holds certificate) (claim.Stopped bound (option_map (k.objective street).worth timing)) timing
  pub cause_is : c ≡ cause.Stopped stop
  pub whole_limit : IsWholeLimit limit stop

-- what the statuses of a command say that is asked for so and searches for this
abbrev pub SearchSays : (k : Sought) → Checked k → (List ℕ → List ℕ → Option ℕ → Question) → Type 0
SearchSays k s asks = (before now : Outside) (artery certificate : List ℕ) (limit : Option ℕ) (c : Cause) → Ends before now (asks artery certificate limit) c
    → (number_of c ≡ 0 → PutsBest k s before now artery certificate)
    × (number_of c ≡ 1 → PutsNone k s before now artery certificate)
    × (number_of c ≡ 2 → PutsBound k s before now artery certificate limit c)

abbrev pub SolveSays : Type 0
SolveSays = SearchSays whole_bands whole_checked ask.solve

abbrev pub LinksSay : Type 0
LinksSay = SearchSays bands_of_links links_checked ask.links

-- the line of a command begins with the program's name and its word
pub record IsNamedBy (line word : List ℕ) : Type 0 where
  pub more : List ℕ
  pub is : line ≡ codes "maxband " ++ (word ++ 32 ∷ more)

-- `--help` with status 0: the command that these words ask for has its line in what was written, which begins with the first of them
pub record TellsUsage (before now : Outside) (asked : Request) (word : List ℕ) : Type 0 where
  pub front : List ℕ
  pub back : List ℕ
  pub told : Appends before.taken now.taken (front ++ (line_of asked.usage ++ back))
  pub named : IsNamedBy (line_of asked.usage) word

-- with a word behind it: that is a command's, and just what the help has of it alone was written
pub record TellsCommand (before now : Outside) (word : List ℕ) : Type 0 where
  pub command : Usage
  pub word_is : (row command).word ≡ word
  pub told : Appends before.taken now.taken (lines_of command)

-- so of any words that ask for something
pub record HelpSays : Type 0 where
  pub all : (before now : Outside) (word : List ℕ) (words : List (List ℕ)) (asked : Request) (c : Cause)
      → Ends before now (ask.asked usage.Help [] None unsaid) c → number_of c ≡ 0 → request_of (word ∷ words) ≡ Some asked → TellsUsage before now asked word
  pub one : (before now : Outside) (word : List ℕ) (c : Cause) → Ends before now (question (request_of ((row usage.Help).word ∷ word ∷ []))) c → number_of c ≡ 0 → TellsCommand before now word

-- `hold` with status 0: the timing of the second file is good on the artery of the first, and its weighted band is printed
pub record SaysGood (before now : Outside) (artery timing : List ℕ) : Type 0 where
  pub street : Street
  pub given : TimingRecord
  pub description : Reads Description (before.holds artery) street
  pub text : Reads Timing (before.holds timing) given
  pub good : Good street given
  pub told : Appends before.taken now.taken (holds_lines (weighted_band street given))

-- `hold` with status 4: this rule fails, so that the timing isn't good
pub record SaysBroken (before : Outside) (artery timing : List ℕ) (c : Cause) : Type 0 where
  pub street : Street
  pub given : TimingRecord
  pub failing : Failing
  pub description : Reads Description (before.holds artery) street
  pub text : Reads Timing (before.holds timing) given
  pub fails : Fails street given failing
  pub not_good : ¬ Good street given
  pub cause_is : c ≡ cause.Fails failing

abbrev pub HoldSays : Type 0
HoldSays = (before now : Outside) (artery timing : List ℕ) (c : Cause) → Ends before now (ask.hold artery timing) c
    → (number_of c ≡ 0 → SaysGood before now artery timing) × (number_of c ≡ 4 → SaysBroken before artery timing c)

-- a check with status 0: what the certificate of the second file claims holds of every timing of its kind on the artery of the first, and the claim is printed
pub record SaysAccepted (k : Sought) (s : Checked k) (before now : Outside) (artery certificate : List ℕ) : Type 0 where
  pub street : Street
  pub warrant : Value k.reader
  pub description : Reads Description (before.holds artery) street
  pub text : Reads k.reader (before.holds certificate) warrant
  pub proves : Proves k street warrant
  pub told : Appends before.taken now.taken (accepted_line (k.claim warrant))

-- a check with status 4: the certificate isn't accepted, this is its first refusal, and no file has changed
pub record SaysRejected (k : Sought) (s : Checked k) (before now : Outside) (artery certificate : List ℕ) (c : Cause) : Type 0 where
  pub street : Street
  pub warrant : Value k.reader
  pub reject : s.Reject
  pub description : Reads Description (before.holds artery) street
  pub text : Reads k.reader (before.holds certificate) warrant
  pub first : s.First street warrant reject
  pub not_accepted : ¬ s.Accepted street warrant
  pub cause_is : c ≡ s.cause reject
  pub kept : SameFiles before.holds now.holds

-- what the statuses of a command say that is asked for so and checks these
abbrev pub SaysChecked : (k : Sought) → Checked k → (List ℕ → List ℕ → Question) → Type 0
SaysChecked k s asks = (before now : Outside) (artery certificate : List ℕ) (c : Cause) → Ends before now (asks artery certificate) c
    → (number_of c ≡ 0 → SaysAccepted k s before now artery certificate) × (number_of c ≡ 4 → SaysRejected k s before now artery certificate c)

abbrev pub CheckSays : Type 0
CheckSays = SaysChecked whole_bands whole_checked ask.check

abbrev pub CheckLinksSays : Type 0
CheckLinksSays = SaysChecked bands_of_links links_checked ask.check_links

-- `renew` with status 0: the file that is put holds, where it is told, the second text of the certificate that the first file held, and that text is read as just
-- this certificate
pub record PutsRenewed (before now : Outside) (certificate new : List ℕ) : Type 0 where
  pub warrant : Warrant
  pub text : Reads Certificate (before.holds certificate) warrant
  pub put : HoldsExactly (now.holds new) (second_text warrant)
  pub read_back : certificate_of (second_text warrant) ≡ Ok warrant

abbrev pub RenewSays : Type 0
RenewSays = (before now : Outside) (certificate new : List ℕ) (c : Cause) → Ends before now (ask.renew certificate new) c → number_of c ≡ 0 → PutsRenewed before now certificate new
