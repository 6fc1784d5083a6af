-- What the engine's answer tells of a search of any kind of timing: its timing, its tree, its site, when work may have stopped it, and that its certificate is
-- accepted.
use Rattle.std.proofs.Common.{◌≡◌, ℕ, [], ◌∷◌, map, Option, Some, None, IfSome, option_map, subst}
use Rattle.rational_theory.specs.Rational.{ℚ}
use Rattle.certificate_model.specs.Warrants.{WarrantWith}
use Rattle.certificate_checker.specs.TreeProofs.{ProveAll}
use Rattle.branch_and_bound.specs.Answer.{IsFound}
use Rattle.branch_and_bound.specs.Enough.{IsEnough}
use Rattle.branch_and_bound.specs.Rules.{Rules}
use Rattle.branch_and_bound.specs.declared.found.Found.{Found}
use Rattle.branch_and_bound.specs.declared.found.Verdict.{Verdict}
use Rattle.branch_and_bound.specs.declared.found.Verdict.TheVariants.{Best, NoTiming, Stopped}
use Rattle.box_search.specs.Certified.{claim_by, warrant_by}
use Rattle.box_search.specs.Enough.{enough_for, IsWithin}
use Rattle.certificate_checker.specs.Claims.{IsBestBy, ClaimHoldsBy}
use Rattle.box_search.specs.Kinds.{Kind, CanBeSought, ProvesBy}
use Rattle.box_search.specs.SiteNames.{EndsAt}
use Rattle.box_search.specs.Told.{valued, IsAnswered, TellsOf, IsCertifiableIn}
use Rattle.box_search.specs.Trees.{node_of}
use Rattle.box_search.proofs.Answering.{found_valued, timing_good, tells, timed, answer_kept, sited_by}
use Rattle.box_search.proofs.Certificates.{proven_trees, certified_by}
use Rattle.box_search.proofs.Enough.{within}
use Rattle.box_search.proofs.TreeProofs.{trees_proven}

each_good : {T : Type 0} (P Q : T → Type 0) → ((t : T) → P t → Q t) → (timing : Option T) → IfSome timing P → IfSome timing Q
each_good P Q f None h = tt
each_good P Q f (Some t) h = f t h

-- what is told of an answer of the engine
pub record IsTold {T K W : Type 0} {r : Rules T K W} (k : Kind r) (limit : Option ℕ) (found : Found T W) : Type 0 where
  pub answer : IsAnswered r k.objective.worth limit found
  pub good : IfSome found.timing k.objective.IsGood
  pub tells : TellsOf k.objective.worth found.timing found.bound found.verdict
  pub certifiable : IsCertifiableIn k.names found
  pub site : EndsAt k.IsSite found.verdict
  pub enough : IsWithin (enough_for r.root k.sets) limit found.verdict

module _ {T K W : Type 0} (r : Rules T K W) (k : Kind r) (can : CanBeSought k) (limit : Option ℕ) (found : Found T W) where
  own : (t : T) (v : ℚ) → r.IsGood t v → k.objective.worth t ≡ v
  own t v g = (can.good t v g).1

  module _ (h : IsAnswered r k.objective.worth limit found) where
    timing_is_good : IfSome found.timing k.objective.IsGood
    timing_is_good =
        each_good (λ t. r.IsGood t (k.objective.worth t)) k.objective.IsGood (λ t g. (can.good t (k.objective.worth t) g).0) found.timing
        (timing_good r k.objective.worth own limit found.nodes.items found.bound found.spent found.timing found.verdict h)

    told : TellsOf k.objective.worth found.timing found.bound found.verdict
    told = tells r k.objective.worth own limit found.nodes.items found.bound found.spent found.timing found.verdict h

    pub is_accepted : k.IsAccepted (warrant_by k.objective.worth found)
    is_accepted =
        let c = certified_by r k.objective.IsGood k.objective.worth can.good (λ claim ns. ProveAll (k.IsProof claim) (r.root ∷ []) ns)
        (trees_proven r k.IsProof can.proved) found.nodes.items limit found.bound found.spent
        found.timing found.verdict h in
        can.accepted (warrant_by k.objective.worth found) c.0 c.1 c.2

    certifiable : IsCertifiableIn k.names found
    certifiable = record {
      timing = timed k.objective.worth found.timing found.bound found.verdict told;
      tree =
          proven_trees _ (r.root ∷ []) (map node_of found.nodes.items)
          (certified_by r k.objective.IsGood k.objective.worth can.good (λ claim ns. ProveAll (k.IsProof claim) (r.root ∷ []) ns)
          (trees_proven r k.IsProof can.proved) found.nodes.items limit found.bound found.spent
          found.timing found.verdict h).2;
      nodes = answer_kept r k.names can.ends_kept can.start_kept limit found.nodes.items found.bound found.spent (valued k.objective.worth found.timing) found.verdict h;
    }

    answer_tells : r.IsSound → IsEnough r → IsTold k limit found
    answer_tells sound enough = record {
      answer = h;
      good = timing_is_good;
      tells = told;
      certifiable = certifiable;
      site = sited_by r sound k.IsSite can.sited limit found.nodes.items found.bound found.spent (valued k.objective.worth found.timing) found.verdict h;
      enough = within r k.sets can.short sound enough limit found.nodes.items (valued k.objective.worth found.timing) found.bound found.spent found.verdict h;
    }

  pub found_tells : r.IsSound → IsEnough r → IsFound r limit found → IsTold k limit found
  found_tells sound enough h = answer_tells (found_valued r k.objective.worth own limit found h) sound enough

-- ---- what an accepted certificate says of all timings
module _ {T K W : Type 0} (r : Rules T K W) (k : Kind r) where
  verdict_proves : (timing : Option T) (bound : ℚ) (verdict : Verdict W) → IfSome timing k.objective.IsGood → TellsOf k.objective.worth timing bound verdict
      → ClaimHoldsBy k.objective (claim_by verdict bound (option_map k.objective.worth timing)) timing → ProvesBy k.objective timing bound verdict
  verdict_proves None bound Best g t h = absurd t
  verdict_proves (Some s) bound Best g t h = subst (λ v. IsBestBy k.objective (Some s) v) t h
  verdict_proves timing bound NoTiming g t h = (t, h)
  verdict_proves None bound (Stopped stop) g t h = (h.0, tt)
  verdict_proves (Some s) bound (Stopped stop) g t h = (h.0, (g, t))

  pub found_proves : (found : Found T W) (warrant : WarrantWith T) → IfSome found.timing k.objective.IsGood → TellsOf k.objective.worth found.timing found.bound found.verdict
      → warrant ≡ warrant_by k.objective.worth found → ClaimHoldsBy k.objective warrant.claim warrant.timing → ProvesBy k.objective found.timing found.bound found.verdict
  found_proves found warrant g t e h = verdict_proves found.timing found.bound found.verdict g t (subst (λ (w : WarrantWith T). ClaimHoldsBy k.objective w.claim w.timing) e h)
