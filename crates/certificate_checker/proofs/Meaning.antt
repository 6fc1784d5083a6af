-- What an accepted certificate says of every good timing.
use Rattle.std.proofs.Common.{◌⊎◌, inl, inr, arith, Option, None, Some, List, [], ◌∷◌, map, sym, subst}
use Rattle.rational_theory.specs.Rational.{ℚ}
use Rattle.rational_theory.specs.Rows as maths
use Rattle.rational_theory.specs.Rows.{IsMet}
use Rattle.progression.specs.Street.{Street}
use Rattle.progression.specs.TimingRecord.{TimingRecord}
use Rattle.progression.specs.Good.{Good}
use Rattle.progression.specs.Best.{bands_of, weighted_band, Bounded}
use Rattle.progression.specs.Columns.{point}
use Rattle.linear_theory.specs.Boxes.{Area, InBox, IsBoxOf, root_box}
use Rattle.linear_theory.specs.Counts.{IsStreet}
use Rattle.linear_theory.specs.Trees.{leaf_sum}
use Rattle.linear_theory.proofs.TreeLaws.{leaf_met}
use Rattle.linear_theory.proofs.Bounds.{covers_law, refutes_law}
use Rattle.linear_theory.proofs.Roots.{root_law, shift_there}
use Rattle.linear_theory.proofs.RootBoxes.{root_boxed, root_is}
use Rattle.linear_theory.proofs.Splits.{loop_split}
use Rattle.linear_theory.proofs.TurnSplits.{turn_split}
use Rattle.loop_rows.specs.Weights.{named}
use Rattle.named_row.specs.declared.leaves.Weight.{Weight}
use Rattle.search_box.specs.Places.{IsPlace, low_part, high_part}
use Rattle.search_box.specs.declared.span.At.{At}
use Rattle.search_box.specs.declared.span.At.TheVariants.{Loop, Turn}
use Rattle.certificate_model.specs.declared.certificate.Claim.{Claim}
use Rattle.certificate_model.specs.declared.certificate.Claim.TheVariants.{Best, NoTiming, Stopped}
use Rattle.certificate_model.specs.Warrants.{Warrant, Node, SplitAt, LeafOf}
use Rattle.certificate_checker.specs.TreeProofs.{ProveAll}
use Rattle.certificate_checker.specs.Accepted.{IsTimed, Shows, IsProof, AreProofs, IsAccepted, limit_of, value_of}
use Rattle.search_box.proofs.Parts.{parts_boxed}
use Rattle.certificate_checker.proofs.LeafMeaning.{IsWithin}
use Rattle.certificate_checker.specs.Claims.{IsBestBy, ClaimHolds}

-- a box of the artery that holds the timing, and one of several
abbrev pub HoldsTiming : Street → TimingRecord → Area → Type 0
HoldsTiming a t box = IsBoxOf a box × InBox a box t

abbrev pub InSome : Street → TimingRecord → List Area → Type 0
InSome a t [] = ⊥
InSome a t (box ∷ boxes) = HoldsTiming a t box ⊎ InSome a t boxes

module _ (a : Street) (t : TimingRecord) where
  in_part : (box : Area) (at : At) → IsPlace box at → HoldsTiming a t box → InBox a (low_part box at) t ⊎ InBox a (high_part box at) t
  in_part box (Loop i at) p k = loop_split a box t i at k.0 p k.1
  in_part box (Turn i rank) p k = turn_split a box t i rank k.0 p k.1

  -- a box that holds the timing has a part that does
  part_holds : (box : Area) (at : At) → IsPlace box at → HoldsTiming a t box → HoldsTiming a t (low_part box at) ⊎ HoldsTiming a t (high_part box at)
  part_holds box at p k = let boxed = parts_boxed a box at p k.0 in elim (in_part box at p k) [ inl m ↦ inl (boxed.0, m) | inr m ↦ inr (boxed.1, m) ]

  -- what each leaf says of a timing that its box holds, the trees say of one that one of their boxes holds
  module _ (P : Area → List Weight → Type 0) (Q : Type 0) (leaf : (box : Area) (ws : List Weight) → HoldsTiming a t box → P box ws → Q) where
    pub trees_say : (boxes : List Area) (ns : List Node) → ProveAll P boxes ns → InSome a t boxes → Q
    trees_say [] [] c k = absurd k
    trees_say [] (n ∷ ns) c k = absurd k
    trees_say (box ∷ boxes) [] c k = absurd c
    trees_say (box ∷ boxes) (SplitAt at ∷ ns) c (inl k) =
        trees_say (low_part box at ∷ high_part box at ∷ boxes) ns c.1 (elim (part_holds box at c.0 k) [ inl m ↦ inl m | inr m ↦ inr (inl m) ])
    trees_say (box ∷ boxes) (SplitAt at ∷ ns) c (inr k) = trees_say (low_part box at ∷ high_part box at ∷ boxes) ns c.1 (inr (inr k))
    trees_say (box ∷ boxes) (LeafOf ws ∷ ns) c (inl k) = leaf box ws k c.0
    trees_say (box ∷ boxes) (LeafOf ws ∷ ns) c (inr k) = trees_say boxes ns c.1 k

module _ (a : Street) (t : TimingRecord) (h : IsStreet a) (g : Good a t) where
  sum_says : (limit : Option ℚ) (r : maths.Row) → IsMet (point a t) r → Shows a limit r → IsWithin limit (weighted_band a t)
  sum_says None r m s = refutes_law a t h g r m s
  sum_says (Some limit) r m (inl s) = covers_law a t h g r limit m s
  sum_says (Some limit) r m (inr s) = absurd (refutes_law a t h g r m s)

  leaf_says : (limit : Option ℚ) (box : Area) (ws : List Weight) → HoldsTiming a t box → IsProof a limit box ws → IsWithin limit (weighted_band a t)
  leaf_says limit box ws k c =
      sum_says limit (leaf_sum a box (map named ws))
      (leaf_met a box t (record { street = h; good = g; boxed = k.0; inside = k.1 }) (map named ws) c.rows) c.shows

  -- the root box holds each good timing
  root_says : (limit : Option ℚ) (ns : List Node) → AreProofs a limit (root_box a ∷ []) ns → IsWithin limit (weighted_band a t)
  root_says limit ns c =
      let root = root_is a (omega (arith, h.signals)) in
      trees_say a t (IsProof a limit) (IsWithin limit (weighted_band a t)) (leaf_says limit) (root_box a ∷ []) ns c
      (inl (root_boxed a (root_box a) (shift_there a t h g) root, root_law a t h g (root_box a) root))

best_timed : (a : Street) (value : ℚ) (timing : Option TimingRecord) → Bounded a value → IsTimed a timing (Some value) → IsBestBy (bands_of a) timing value
best_timed a value None b h = h
best_timed a value (Some t) b h = (record { good = h.0; greatest = subst (Bounded a) (sym h.1) b }, h.1)

-- what an accepted certificate claims holds
claim_holds : (a : Street) (claim : Claim) (timing : Option TimingRecord) (ns : List Node) → IsStreet a → IsTimed a timing (value_of claim)
    → AreProofs a (limit_of claim) (root_box a ∷ []) ns → ClaimHolds a claim timing
claim_holds a (Best value) timing ns h i c = best_timed a value timing (λ t g. root_says a t h g (Some value) ns c) i
claim_holds a NoTiming timing ns h i c = λ t g. root_says a t h g None ns c
claim_holds a (Stopped bound value) timing ns h i c = (λ t g. root_says a t h g (Some bound) ns c, i)

pub accepted_holds : (a : Street) (c : Warrant) → IsStreet a → IsAccepted a c → ClaimHolds a c.claim c.timing
accepted_holds a c h k = claim_holds a c.claim c.timing c.nodes h k.timing k.tree
