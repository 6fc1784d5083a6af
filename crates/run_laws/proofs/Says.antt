-- What the numbers of the statuses say of the model.
use Rattle.std.proofs.Common.{◌≡◌, ℕ, List, ◌++◌, Option, Some, None, Ok, ◌<◌, inl, inr, refl, sym, ◌∙◌, ap, subst, arith, append_assoc}
use Rattle.std.specs.Prelude.{codes, IfSome, option_map}
use Rattle.outer_edge.specs.Held.{SameFiles, HoldsExactly}
use Rattle.outer_edge.specs.Taken.{Appends}
use Rattle.rational_theory.specs.Rational.{ℚ, ◌≤ℚ◌}
use Rattle.progression.specs.Street.{Street, count}
use Rattle.progression.specs.TimingRecord.{TimingRecord}
use Rattle.progression.specs.Objectives.{BoundedBy, BestOf, NoneOf}
use Rattle.plan_text.specs.CertificateReading.{certificate_of}
use Rattle.certificate_model.specs.declared.certificate.Claim.{Claim}
use Rattle.certificate_model.specs.declared.certificate.Claim.TheVariants as claim
use Rattle.time_space.specs.Failing.{FailsRulesOut}
use Rattle.certificate_checker.specs.Claims.{IsBestBy}
use Rattle.certificate_checker.specs.Laws.{RefusedIsNotAccepted}
use Rattle.link_proof.specs.LinkLaws.{LinkRefusedIsNotAccepted}
use Rattle.branch_and_bound.specs.Rules.{Rules}
use Rattle.branch_and_bound.specs.Answer.{IsAnswer, IsStoppedAnswer}
use Rattle.branch_and_bound.specs.declared.incumbent.Incumbent.{Incumbent}
use Rattle.branch_and_bound.specs.declared.node.TreeNode.{TreeNode}
use Rattle.branch_and_bound.specs.declared.found.Site.{Site}
use Rattle.branch_and_bound.specs.declared.found.Stop.{Stop}
use Rattle.branch_and_bound.specs.declared.found.Stop.TheVariants.{Work, Wide}
use Rattle.branch_and_bound.specs.declared.found.Verdict.{Verdict}
use Rattle.branch_and_bound.specs.declared.found.Verdict.TheVariants.{Best, NoTiming, Stopped}
use Rattle.box_search.specs.declared.site.SitePart.{SitePart}
use Rattle.box_search.specs.Certified.{claim_by}
use Rattle.branch_tree.specs.Certified.{warrant_of}
use Rattle.branch_tree.specs.ArteryRules.{rules_of}
use Rattle.branch_tree.specs.Searches.{incumbent_of}
use Rattle.box_search.specs.SiteNames.{EndsAt}
use Rattle.branch_tree.specs.SiteNames.{IsSiteOf}
use Rattle.box_search.specs.Enough.{IsTooLow, IsWithin}
use Rattle.branch_tree.specs.Enough.{enough_of}
use Rattle.link_theory.specs.LinkRecord.{LinkRecord}
use Rattle.diagram_print.specs.Report.{best_lines, verdict_lines, timing_lines}
use Rattle.multi_band.specs.LinkReport.{link_timing_lines}
use Rattle.multi_band.specs.LinkCertified.{link_warrant_of}
use Rattle.multi_band.specs.LinkRules.{link_rules}
use Rattle.multi_band.specs.LinkSearches.{link_incumbent_of}
use Rattle.multi_band.specs.LinkSites.{IsLinkSiteOf}
use Rattle.multi_band.specs.LinkEnough.{link_enough_of}
use Rattle.run_laws.specs.Asked as ask
use Rattle.maxband_run.specs.Outside.{Outside}
use Rattle.box_search.specs.Kinds.{ProvesBy}
use Rattle.run_commands.specs.Searched.{cause_of}
use Rattle.run_inputs.specs.Reading.{Value, IsReadAs, Reads}
use Rattle.run_inputs.specs.declared.reader.ReadAs.TheVariants.{Description}
use Rattle.run_commands.specs.Sought.{Sought, whole_bands, bands_of_links}
use Rattle.maxband_run.specs.Run.{Question, Ends}
use Rattle.run_laws.specs.Laws.{IsWholeLimit, HoldsCertificate, value_line, open_lines, PutsBest, PutsNone, PutsBound, SearchSays}
use Rattle.run_laws.specs.Laws.{SolveSays, LinksSay, HoldSays, CheckSays, CheckLinksSays, SaysGood, SaysBroken, SaysAccepted, SaysRejected}
use Rattle.run_laws.specs.Laws.{SaysChecked, PutsRenewed, RenewSays}
use Rattle.run_laws.specs.StopLaws.{IsOutOfWork, StopsFor, SearchStops, whole_stops, link_stops, StopSays, SolveStopSays, LinksStopSays}
use Rattle.run_inputs.specs.Status.{number_of}
use Rattle.run_inputs.specs.declared.cause.Cause.{Cause}
use Rattle.run_inputs.specs.declared.cause.Cause.TheVariants as cause
use Rattle.run_commands.specs.Ends.{IsVerdict}
use Rattle.run_commands.specs.Checked.{Checked, whole_checked, links_checked}
use Rattle.run_commands.specs.Check.{Accepts, Rejects, Checks}
use Rattle.run_laws.proofs.Complete.{Completes}
use Rattle.run_laws.proofs.Found.{Found, zero_is, found_done, found_four}
use Rattle.run_laws.proofs.Once.{RefusedApart}
use Rattle.run_laws.proofs.Kept.{found_keeps, four_refuses}
use Rattle.run_laws.proofs.Reports.{after_value, open_first, after_weighted, weighted_first, after_link_value}
use Rattle.run_laws.proofs.PutRead.{verdict_found, is_put}

-- ---- which cause has a number
one_is : (c : Cause) → number_of c ≡ 1 → c ≡ cause.NoTiming
one_is cause.NoTiming e = refl
one_is c e = absurd cc

two_is : (c : Cause) → number_of c ≡ 2 → (stop : Stop SitePart) × (c ≡ cause.Stopped stop)
two_is (cause.Stopped stop) e = (stop, refl)
two_is c e = absurd cc

-- ---- a search
-- of a found answer the verdict that has this cause
verdict_done : (v : Verdict SitePart) → cause.Done ≡ cause_of v → v ≡ Best
verdict_done Best e = refl
verdict_done v e = absurd cc

verdict_none : (v : Verdict SitePart) → cause.NoTiming ≡ cause_of v → v ≡ NoTiming
verdict_none NoTiming e = refl
verdict_none v e = absurd cc

same_stop : (stop other : Stop SitePart) → cause.Stopped stop ≡ cause.Stopped other → other ≡ stop
same_stop stop other e = cc

verdict_stopped : (stop : Stop SitePart) (v : Verdict SitePart) → cause.Stopped stop ≡ cause_of v → v ≡ Stopped stop
verdict_stopped stop (Stopped other) e = ap Stopped (same_stop stop other e)
verdict_stopped stop v e = absurd cc

abbrev claimed_by : (k : Sought) → Street → Option k.Timing → ℚ → Verdict SitePart → Claim
claimed_by k a timing bound verdict = claim_by verdict bound (option_map (k.objective a).worth timing)

-- what the text that is put, and the lines that are told, say of what was found, and why the search stopped, where it did
record Tells (k : Sought) (s : Checked k) (stops : SearchStops k.Timing) (a : Street) (limit : Option ℕ) (c : Cause) (lines text : List ℕ) : Type 0 where
  pub verdict : Verdict SitePart
  pub timing : Option k.Timing
  pub bound : ℚ
  pub warrant : Value k.reader
  pub cause_is : c ≡ cause_of verdict
  pub proves : ProvesBy (k.objective a) timing bound verdict
  pub accepted : s.Accepted a warrant
  pub read_back : IsReadAs k.reader text warrant
  pub claim_is : k.claim warrant ≡ claimed_by k a timing bound verdict
  pub timing_is : k.timing warrant ≡ timing
  pub report : k.Timing → List ℕ
  pub rest : k.Timing → List ℕ
  pub begins : (t : k.Timing) → report t ≡ value_line (Some ((k.objective a).worth t)) ++ rest t
  pub lines_are : lines ≡ verdict_lines s.table (count a) (option_map report timing) bound verdict
  pub why : (stop : Stop SitePart) → verdict ≡ Stopped stop → stops a limit timing bound stop

record HasPut (k : Sought) (s : Checked k) (stops : SearchStops k.Timing) (before now : Outside) (artery certificate : List ℕ) (limit : Option ℕ) (c : Cause) : Type 0 where
  pub street : Street
  pub description : Reads Description (before.holds artery) street
  pub lines : List ℕ
  pub written : Appends before.taken now.taken lines
  pub text : List ℕ
  pub held : HoldsExactly (now.holds certificate) text
  pub tells : Tells k s stops street limit c lines text

best_plan : (k : Sought) (a : Street) (timing : Option k.Timing) (bound : ℚ) → IsBestBy (k.objective a) timing bound → (found : k.Timing) × (timing ≡ Some found) × BestOf (k.objective a) found
best_plan k a None bound h = absurd h
best_plan k a (Some found) bound h = (found, refl, h.0)

-- a stop for such a reason spent the whole limit, where it is by work
abbrev WholeLimits : (T : Type 0) → SearchStops T → Type 0
WholeLimits T stops = (a : Street) (limit : Option ℕ) (timing : Option T) (bound : ℚ) (stop : Stop SitePart) → stops a limit timing bound stop → IsWholeLimit limit stop

module _ (k : Sought) (s : Checked k) (stops : SearchStops k.Timing) (whole : WholeLimits k.Timing stops) (before now : Outside) (artery certificate : List ℕ) (limit : Option ℕ) where
  -- the certificate that is put, with this claim
  holds_claim : (c : Cause) (h : HasPut k s stops before now artery certificate limit c) (claimed : Claim) (timing : Option k.Timing)
      → k.claim h.tells.warrant ≡ claimed → k.timing h.tells.warrant ≡ timing
      → HoldsCertificate k s h.street (now.holds certificate) claimed timing
  holds_claim c h claimed timing e f =
      record { text = h.text; warrant = h.tells.warrant; put = h.held; read = h.tells.read_back; accepted = h.tells.accepted; claim_is = e; timing_is = f }

  puts_best : HasPut k s stops before now artery certificate limit cause.Done → PutsBest k s before now artery certificate
  puts_best h =
      let a = h.street in
      let t = h.tells in
      let is = verdict_done t.verdict t.cause_is in
      let best = best_plan k a t.timing t.bound (subst (λ (v : Verdict SitePart). ProvesBy (k.objective a) t.timing t.bound v) is t.proves) in
      let claimed : k.claim t.warrant ≡ claim.Best ((k.objective a).worth best.0) =
      t.claim_is ∙ ap (claimed_by k a t.timing t.bound) is ∙ ap (λ (o : Option k.Timing). claimed_by k a o t.bound Best) best.1 in
      let first = codes "verdict best\n" in
      let value = value_line (Some ((k.objective a).worth best.0)) in
      let lines : h.lines ≡ (first ++ value) ++ t.rest best.0 =
      t.lines_are
      ∙ ap (verdict_lines s.table (count a) (option_map t.report t.timing) t.bound) is
      ∙ ap (λ (o : Option k.Timing). best_lines (option_map t.report o)) best.1
      ∙ ap (λ l. first ++ l) (t.begins best.0)
      ∙ sym (append_assoc first value (t.rest best.0)) in
      record {
        street = a;
        timing = best.0;
        description = h.description;
        best = best.2;
        told = (t.rest best.0, subst (λ (l : List ℕ). Appends before.taken now.taken l) lines h.written);
        put = holds_claim cause.Done h (claim.Best ((k.objective a).worth best.0)) (Some best.0) claimed (t.timing_is ∙ best.1);
      }

  puts_none : HasPut k s stops before now artery certificate limit cause.NoTiming → PutsNone k s before now artery certificate
  puts_none h =
      let a = h.street in
      let t = h.tells in
      let is = verdict_none t.verdict t.cause_is in
      let none = subst (λ (v : Verdict SitePart). ProvesBy (k.objective a) t.timing t.bound v) is t.proves in
      let claimed : k.claim t.warrant ≡ claim.NoTiming = t.claim_is ∙ ap (claimed_by k a t.timing t.bound) is in
      let lines : h.lines ≡ codes "verdict none\n" = t.lines_are ∙ ap (verdict_lines s.table (count a) (option_map t.report t.timing) t.bound) is in
      record {
        street = a;
        description = h.description;
        none = none.1;
        told = subst (λ (l : List ℕ). Appends before.taken now.taken l) lines h.written;
        put = holds_claim cause.NoTiming h claim.NoTiming None claimed (t.timing_is ∙ none.0);
      }

  abbrev PutsStop : Cause → Type 0
  PutsStop c = (p : PutsBound k s before now artery certificate limit c) × stops p.street limit p.timing p.bound p.stop

  puts_stop : (stop : Stop SitePart) → HasPut k s stops before now artery certificate limit (cause.Stopped stop) → PutsStop (cause.Stopped stop)
  puts_stop stop h =
      let a = h.street in
      let t = h.tells in
      let is = verdict_stopped stop t.verdict t.cause_is in
      let bound = subst (λ (v : Verdict SitePart). ProvesBy (k.objective a) t.timing t.bound v) is t.proves in
      let value = option_map (k.objective a).worth t.timing in
      let claimed : k.claim t.warrant ≡ claim.Stopped t.bound value = t.claim_is ∙ ap (claimed_by k a t.timing t.bound) is in
      let more = after_value k a t.report t.rest t.begins t.timing in
      let lines : h.lines ≡ open_lines s.table a stop t.bound value ++ more =
      t.lines_are ∙ ap (verdict_lines s.table (count a) (option_map t.report t.timing) t.bound) is ∙ open_first k a t.report t.rest t.begins s.table t.timing t.bound stop in
      let why = t.why stop is in (
        record {
          street = a;
          bound = t.bound;
          timing = t.timing;
          stop = stop;
          description = h.description;
          bounded = bound.0;
          good = bound.1;
          told = (more, subst (λ (l : List ℕ). Appends before.taken now.taken l) lines h.written);
          put = holds_claim (cause.Stopped stop) h (claim.Stopped t.bound value) t.timing claimed t.timing_is;
          cause_is = refl;
          whole_limit = whole a limit t.timing t.bound stop why;
        },
        why,
      )

module _ (k : Sought) (s : Checked k) (stops : SearchStops k.Timing) (whole : WholeLimits k.Timing stops) (asks : List ℕ → List ℕ → Option ℕ → Question)
    (put : (before now : Outside) (artery certificate : List ℕ) (limit : Option ℕ) (c : Cause) → IsVerdict c → Completes before now (asks artery certificate limit) c
    → HasPut k s stops before now artery certificate limit c)
  where
    module _ (before now : Outside) (artery certificate : List ℕ) (limit : Option ℕ) where
      zero_says : (c : Cause) → c ≡ cause.Done → Ends before now (asks artery certificate limit) c → PutsBest k s before now artery certificate
      zero_says c e h =
          puts_best k s stops whole before now artery certificate limit (put before now artery certificate limit cause.Done tt
          (subst (λ (d : Cause). Ends before now (asks artery certificate limit) d) e h))

      one_says : (c : Cause) → c ≡ cause.NoTiming → Ends before now (asks artery certificate limit) c → PutsNone k s before now artery certificate
      one_says c e h =
          puts_none k s stops whole before now artery certificate limit (put before now artery certificate limit cause.NoTiming tt
          (subst (λ (d : Cause). Ends before now (asks artery certificate limit) d) e h))

      two_says : (c : Cause) (stop : Stop SitePart) → c ≡ cause.Stopped stop → Ends before now (asks artery certificate limit) c → PutsStop k s stops whole before now artery certificate limit c
      two_says c stop e h = subst (λ (d : Cause). PutsStop k s stops whole before now artery certificate limit d) (sym e)
          (puts_stop k s stops whole before now artery certificate limit stop (put before now artery certificate limit (cause.Stopped stop) tt
          (subst (λ (d : Cause). Ends before now (asks artery certificate limit) d) e h)))

    stop_says : StopSays k s stops asks
    stop_says before now artery certificate limit c h e = let stop = two_is c e in two_says before now artery certificate limit c stop.0 stop.1 h

    search_says : SearchSays k s asks
    search_says before now artery certificate limit c h = (
      (λ e. zero_says before now artery certificate limit c (zero_is c e) h),
      (λ e. one_says before now artery certificate limit c (one_is c e) h),
      (λ e. (stop_says before now artery certificate limit c h e).0),
    )

-- ---- why it stopped
module _ {T K : Type 0} (r : Rules T K SitePart) (enough : ℕ) (IsNamed : Site SitePart → Type 0) (limit : Option ℕ) (bound : ℚ) where
  whole_limit : (best : Option (Incumbent T)) (stop : Stop SitePart) → StopsFor r enough IsNamed limit best bound stop → IsWholeLimit limit stop
  whole_limit best (Work units) h = h.by_work.1 ∙ ap Some (sym h.by_work.0)
  whole_limit best (Wide site) h = tt

  too_low : (spent : ℕ) → limit ≡ Some spent → IsTooLow enough limit → spent < enough
  too_low spent e h = subst (λ (o : Option ℕ). IsTooLow enough o) e h

  out_of_work : (nodes : List TreeNode) (best : Option (Incumbent T)) (spent : ℕ) (stop : Stop SitePart)
      → IsStoppedAnswer r limit nodes best bound spent stop → IsWithin {W = SitePart} enough limit (Stopped stop) → IsOutOfWork enough limit spent stop
  out_of_work nodes best spent (Work units) h w = (h.cause.0, h.cause.1, too_low spent h.cause.1 w)
  out_of_work nodes best spent (Wide site) h w = tt

  stopped_for : (nodes : List TreeNode) (best : Option (Incumbent T)) (spent : ℕ) (verdict : Verdict SitePart) → IsAnswer r limit nodes best bound spent verdict
      → IsWithin enough limit verdict → EndsAt IsNamed verdict
      → (stop : Stop SitePart) → verdict ≡ Stopped stop → StopsFor r enough IsNamed limit best bound stop
  stopped_for nodes best spent verdict h w n stop e =
      let answer : IsStoppedAnswer r limit nodes best bound spent stop = subst (λ (v : Verdict SitePart). IsAnswer r limit nodes best bound spent v) e h in
      let within : IsWithin {W = SitePart} enough limit (Stopped stop) = subst (λ (v : Verdict SitePart). IsWithin enough limit v) e w in
      record {
        nodes = nodes;
        spent = spent;
        answer = answer;
        by_work = out_of_work nodes best spent stop answer within;
        named = subst (λ (v : Verdict SitePart). EndsAt IsNamed v) e n;
      }

-- ---- solve
solve_put : (before now : Outside) (artery certificate : List ℕ) (limit : Option ℕ) (c : Cause) → IsVerdict c → Completes before now (ask.solve artery certificate limit) c
    → HasPut whole_bands whole_checked whole_stops before now artery certificate limit c
solve_put before now artery certificate limit c v h =
    let f = verdict_found before.holds before.reads now.reads (ask.solve artery certificate limit) c h.0 h.1 v h.2 in
    let s = f.finds.finds.2 in
    record {
      street = f.values.0;
      description = f.read.0;
      lines = h.0;
      written = h.3.written;
      text = f.finds.finds.0;
      held = (is_put before now certificate f.finds.finds.0 h.0 h.1 f.bytes f.put_is f.finds.finds.1 h.3).0;
      tells = record {
        verdict = s.found.verdict;
        timing = s.found.timing;
        bound = s.found.bound;
        warrant = warrant_of f.values.0 s.found;
        cause_is = s.cause_is;
        proves = s.searched.proves;
        accepted = s.searched.accepted;
        read_back = s.certificate_is.read_back;
        claim_is = refl;
        timing_is = refl;
        report = timing_lines f.values.0;
        rest = after_weighted f.values.0;
        begins = weighted_first f.values.0;
        lines_are = s.lines_are;
        why = stopped_for (rules_of f.values.0) (enough_of f.values.0) (IsSiteOf f.values.0) limit s.found.bound s.found.nodes.items
            (incumbent_of f.values.0 s.found.timing) s.found.spent s.found.verdict
            s.searched.search s.searched.enough s.searched.site;
      };
    }

whole_spent : WholeLimits TimingRecord whole_stops
whole_spent a limit timing bound stop h = whole_limit (rules_of a) (enough_of a) (IsSiteOf a) limit bound (incumbent_of a timing) stop h

pub solve_says : SolveSays
solve_says = search_says whole_bands whole_checked whole_stops whole_spent ask.solve solve_put

pub solve_stop_says : SolveStopSays
solve_stop_says = stop_says whole_bands whole_checked whole_stops whole_spent ask.solve solve_put

-- ---- links
links_put : (before now : Outside) (artery certificate : List ℕ) (limit : Option ℕ) (c : Cause) → IsVerdict c → Completes before now (ask.links artery certificate limit) c
    → HasPut bands_of_links links_checked link_stops before now artery certificate limit c
links_put before now artery certificate limit c v h =
    let f = verdict_found before.holds before.reads now.reads (ask.links artery certificate limit) c h.0 h.1 v h.2 in
    let s = f.finds.finds.2 in
    record {
      street = f.values.0;
      description = f.read.0;
      lines = h.0;
      written = h.3.written;
      text = f.finds.finds.0;
      held = (is_put before now certificate f.finds.finds.0 h.0 h.1 f.bytes f.put_is f.finds.finds.1 h.3).0;
      tells = record {
        verdict = s.found.verdict;
        timing = s.found.timing;
        bound = s.found.bound;
        warrant = link_warrant_of f.values.0 s.found;
        cause_is = s.cause_is;
        proves = s.searched.proves;
        accepted = s.searched.accepted;
        read_back = s.certificate_is.read_back;
        claim_is = refl;
        timing_is = refl;
        report = link_timing_lines f.values.0;
        rest = after_link_value f.values.0;
        begins = λ t. refl;
        lines_are = s.lines_are;
        why = stopped_for (link_rules f.values.0) (link_enough_of f.values.0) (IsLinkSiteOf f.values.0) limit s.found.bound s.found.nodes.items
            (link_incumbent_of f.values.0 s.found.timing) s.found.spent s.found.verdict
            s.searched.search s.searched.enough s.searched.site;
      };
    }

links_spent : WholeLimits LinkRecord link_stops
links_spent a limit timing bound stop h = whole_limit (link_rules a) (link_enough_of a) (IsLinkSiteOf a) limit bound (link_incumbent_of a timing) stop h

pub links_say : LinksSay
links_say = search_says bands_of_links links_checked link_stops links_spent ask.links links_put

pub links_stop_says : LinksStopSays
links_stop_says = stop_says bands_of_links links_checked link_stops links_spent ask.links links_put

-- ---- hold
module _ (rules : FailsRulesOut) (before now : Outside) (artery timing : List ℕ) where
  says_good : Found before now (ask.hold artery timing) cause.Done → SaysGood before now artery timing
  says_good f = record {
    street = f.answer.values.0;
    given = f.answer.values.1.0;
    description = f.answer.read.0;
    text = f.answer.read.1.0;
    good = f.answer.finds.finds.0;
    told = subst (λ (l : List ℕ). Appends before.taken now.taken l) f.answer.finds.finds.1 f.done.written;
  }

  says_broken : (c : Cause) → number_of c ≡ 4 → Found before now (ask.hold artery timing) c → SaysBroken before artery timing c
  says_broken (cause.Fails f) e k = record {
    street = k.answer.values.0;
    given = k.answer.values.1.0;
    failing = f;
    description = k.answer.read.0;
    text = k.answer.read.1.0;
    fails = k.answer.finds.finds.0.fails;
    not_good = rules k.answer.values.0 k.answer.values.1.0 f k.answer.finds.finds.0.fails;
    cause_is = refl;
  }
  says_broken (cause.Rejected r) e k = absurd k.answer.finds.finds
  says_broken (cause.LinkRejected r) e k = absurd k.answer.finds.finds
  says_broken c e k = absurd cc

pub hold_says : FailsRulesOut → HoldSays
hold_says rules before now artery timing c h = (
  (λ e. says_good rules before now artery timing (found_done before now (ask.hold artery timing) c e h)),
  (λ e. says_broken rules before now artery timing c e (found_four before now (ask.hold artery timing) c e h)),
)

-- ---- check and check-links
-- each refusal of a check has status 4
abbrev AllFour : (k : Sought) → Checked k → Type 0
AllFour k s = (r : s.Reject) → number_of (s.cause r) ≡ 4

zero_apart : ◌≡◌ {A = ℕ} 0 4 → ⊥
zero_apart e = omega (arith, e)

-- what was found of a certificate, and told
record FoundChecked (k : Sought) (s : Checked k) (before now : Outside) (artery certificate : List ℕ) (c : Cause) : Type 0 where
  pub street : Street
  pub warrant : Value k.reader
  pub lines : List ℕ
  pub description : Reads Description (before.holds artery) street
  pub text : Reads k.reader (before.holds certificate) warrant
  pub finds : Checks k s street warrant c lines
  pub told : Appends before.taken now.taken lines
  pub kept : (IsVerdict c → ⊥) → SameFiles before.holds now.holds

module _ (k : Sought) (s : Checked k) (four : AllFour k s) (apart : RefusedApart k s) (before now : Outside) (artery certificate : List ℕ) where
  accepts_of : (a : Street) (w : Value k.reader) (l : List ℕ) → Checks k s a w cause.Done l → Accepts k s a w cause.Done l
  accepts_of a w l (inl h) = h
  accepts_of a w l (inr h) = absurd (zero_apart (ap number_of h.cause_is ∙ four h.reject))

  rejects_of : (a : Street) (w : Value k.reader) (c : Cause) (l : List ℕ) → number_of c ≡ 4 → Checks k s a w c l → Rejects k s a w c l
  rejects_of a w c l e (inl h) = absurd (zero_apart (sym (ap number_of h.cause_is) ∙ e))
  rejects_of a w c l e (inr h) = h

  says_accepted : FoundChecked k s before now artery certificate cause.Done → SaysAccepted k s before now artery certificate
  says_accepted f = let h = accepts_of f.street f.warrant f.lines f.finds in
      record {
        street = f.street;
        warrant = f.warrant;
        description = f.description;
        text = f.text;
        proves = h.proves;
        told = subst (λ (l : List ℕ). Appends before.taken now.taken l) h.lines_are f.told;
      }

  says_rejected : (c : Cause) → number_of c ≡ 4 → FoundChecked k s before now artery certificate c → SaysRejected k s before now artery certificate c
  says_rejected c e f = let h = rejects_of f.street f.warrant c f.lines e f.finds in
      record {
        street = f.street;
        warrant = f.warrant;
        reject = h.reject;
        description = f.description;
        text = f.text;
        first = h.first;
        not_accepted = apart f.street f.warrant h.reject h.first h.kept;
        cause_is = h.cause_is;
        kept = f.kept (four_refuses c e);
      }

module _ (k : Sought) (s : Checked k) (asks : List ℕ → List ℕ → Question)
    (checked : (before now : Outside) (artery certificate : List ℕ) (c : Cause) → Found before now (asks artery certificate) c → FoundChecked k s before now artery certificate c) where
  says_checked : AllFour k s → RefusedApart k s → SaysChecked k s asks
  says_checked four apart before now artery certificate c h = (
    (λ e. says_accepted k s four apart before now artery certificate (checked before now artery certificate cause.Done (found_done before now (asks artery certificate) c e h))),
    (λ e. says_rejected k s four apart before now artery certificate c e (checked before now artery certificate c (found_four before now (asks artery certificate) c e h))),
  )

check_found : (before now : Outside) (artery certificate : List ℕ) (c : Cause) → Found before now (ask.check artery certificate) c
    → FoundChecked whole_bands whole_checked before now artery certificate c
check_found before now artery certificate c f = record {
  street = f.answer.values.0;
  warrant = f.answer.values.1.0;
  lines = f.lines;
  description = f.answer.read.0;
  text = f.answer.read.1.0;
  finds = f.answer.finds.finds;
  told = f.done.written;
  kept = λ n. found_keeps before now (ask.check artery certificate) c n f f.answer.finds.answer;
}

pub check_says : RefusedIsNotAccepted → CheckSays
check_says apart = says_checked whole_bands whole_checked ask.check check_found (λ r. refl) apart

check_links_found : (before now : Outside) (artery certificate : List ℕ) (c : Cause) → Found before now (ask.check_links artery certificate) c
    → FoundChecked bands_of_links links_checked before now artery certificate c
check_links_found before now artery certificate c f = record {
  street = f.answer.values.0;
  warrant = f.answer.values.1.0;
  lines = f.lines;
  description = f.answer.read.0;
  text = f.answer.read.1.0;
  finds = f.answer.finds.finds;
  told = f.done.written;
  kept = λ n. found_keeps before now (ask.check_links artery certificate) c n f f.answer.finds.answer;
}

pub check_links_says : LinkRefusedIsNotAccepted → CheckLinksSays
check_links_says apart = says_checked bands_of_links links_checked ask.check_links check_links_found (λ r. refl) apart

-- ---- renew
module _ (before now : Outside) (certificate new : List ℕ) where
  puts_renewed : Completes before now (ask.renew certificate new) cause.Done → PutsRenewed before now certificate new
  puts_renewed h =
      let f = verdict_found before.holds before.reads now.reads (ask.renew certificate new) cause.Done h.0 h.1 tt h.2 in
      let held = is_put before now new f.finds.finds.0 h.0 h.1 f.bytes f.put_is f.finds.finds.1 h.3 in
      record {
        warrant = f.values.0;
        text = f.read.0;
        put = subst (λ (x : List ℕ). HoldsExactly (now.holds new) x) f.finds.finds.2.text_is.written held.0;
        read_back = subst (λ (x : List ℕ). certificate_of x ≡ Ok f.values.0) f.finds.finds.2.text_is.written f.finds.finds.2.text_is.read_back;
      }

pub renew_says : RenewSays
renew_says before now certificate new c h e = puts_renewed before now certificate new (subst (λ (d : Cause). Ends before now (ask.renew certificate new) d) (zero_is c e) h)
