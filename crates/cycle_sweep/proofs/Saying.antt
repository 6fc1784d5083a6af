-- What the rows say, from what a search answers and what its accepted certificate proves.
use Rattle.std.proofs.Common.{ℕ, List, map, Option, Some, None, refl, sym, ap, subst}
use Rattle.std.proofs.lemmas.Option.{none-some}
use Rattle.rational_theory.specs.Rational.{ℚ}
use Rattle.progression.specs.Street.{Street}
use Rattle.progression.specs.TimingRecord.{TimingRecord}
use Rattle.certificate_model.specs.Warrants.{Warrant}
use Rattle.certificate_checker.specs.Accepted.{IsAccepted}
use Rattle.branch_and_bound.specs.declared.node.TreeNode.{TreeNode}
use Rattle.branch_and_bound.specs.declared.incumbent.Incumbent.{Incumbent}
use Rattle.branch_and_bound.specs.declared.found.Stop.{Stop}
use Rattle.branch_and_bound.specs.declared.found.Stop.TheVariants.{Work, Wide}
use Rattle.branch_and_bound.specs.declared.found.Verdict.{Verdict}
use Rattle.branch_and_bound.specs.declared.found.Verdict.TheVariants.{Best, NoTiming, Stopped}
use Rattle.branch_and_bound.specs.Answer.{IsAnswer}
use Rattle.box_search.specs.declared.site.SitePart.{SitePart}
use Rattle.branch_tree.specs.Searches.{incumbent_of}
use Rattle.branch_tree.specs.ArteryRules.{rules_of}
use Rattle.box_search.specs.Trees.{node_of}
use Rattle.box_search.specs.Certified.{claim_by}
use Rattle.branch_tree.specs.Certified.{value_of}
use Rattle.box_search.specs.Kinds.{ProvesBy}
use Rattle.progression.specs.Best.{bands_of}
use Rattle.cycle_sweep.specs.declared.row.SweepRow.TheVariants.{Outside, Searched}
use Rattle.cycle_sweep.specs.Rows.{at_cycle}
use Rattle.cycle_sweep.specs.Table.{verdict_text, cause_text, bound_of, cycle_fields, outside_fields, found_fields}
use Rattle.cycle_sweep.specs.Says.{IsWhy, Telling, SaysFound, RowsSay}

-- ---- what was found of any street, told in any form of record
-- the certificate of what was found
abbrev certificate_of : Street → Option TimingRecord → ℚ → Verdict SitePart → List TreeNode → Warrant
certificate_of a timing bound verdict nodes = record { claim = claim_by verdict bound (value_of a timing); timing = timing; nodes = map node_of nodes }

-- a stop by work comes at the limit
why_of : (a : Street) (limit : Option ℕ) (nodes : List TreeNode) (best : Option (Incumbent TimingRecord)) (bound : ℚ) (spent : ℕ) (stop : Stop SitePart)
    → IsAnswer (rules_of a) limit nodes best bound spent (Stopped stop) → IsWhy limit spent stop
why_of a limit nodes best bound spent (Work units) h = (h.cause.0, h.cause.1)
why_of a limit nodes best bound spent (Wide site) h = tt

pub says_found : (a : Street) (limit : Option ℕ) (tell : Telling) (nodes : List TreeNode) (timing : Option TimingRecord) (bound : ℚ) (spent : ℕ) (verdict : Verdict SitePart)
    → IsAnswer (rules_of a) limit nodes (incumbent_of a timing) bound spent verdict
    → ProvesBy (bands_of a) timing bound verdict → IsAccepted a (certificate_of a timing bound verdict nodes)
    → SaysFound a limit tell spent verdict (tell (verdict_text verdict) (value_of a timing) (bound_of verdict bound (value_of a timing)) (cause_text verdict))
says_found a limit tell nodes None bound spent Best s h k = absurd h
says_found a limit tell nodes (Some timing) bound spent Best s h k = record {
  timing = timing;
  best = h.0;
  certified = record { certificate = certificate_of a (Some timing) bound Best nodes; accepted = k; claim_is = refl; timing_is = refl };
  texts_are = refl;
}
says_found a limit tell nodes None bound spent NoTiming s h k = record {
  none = h.1;
  certified = record { certificate = certificate_of a None bound NoTiming nodes; accepted = k; claim_is = refl; timing_is = refl };
  texts_are = refl;
}
says_found a limit tell nodes (Some timing) bound spent NoTiming s h k = absurd (none-some timing (sym h.0))
says_found a limit tell nodes timing bound spent (Stopped stop) s h k = record {
  bound = bound;
  timing = timing;
  bounded = h.0;
  good = h.1;
  certified = record { certificate = certificate_of a timing bound (Stopped stop) nodes; accepted = k; claim_is = refl; timing_is = refl };
  why = why_of a limit nodes (incumbent_of a timing) bound spent stop s;
  texts_are = refl;
}

pub rows_say : RowsSay
rows_say a limit cycle (Outside shown) r = (r.1, ap outside_fields r.0)
rows_say a limit cycle (Searched shown found) r = (
  r.1,
  subst (λ c. SaysFound (at_cycle a cycle) limit (cycle_fields cycle) found.spent found.verdict (found_fields a c found)) (sym r.0)
      (says_found (at_cycle a cycle) limit (cycle_fields cycle) found.nodes.items found.timing found.bound found.spent found.verdict r.2.search r.2.proves r.2.accepted),
)
