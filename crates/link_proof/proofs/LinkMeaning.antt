-- What an accepted link certificate says of every good link timing.
use Rattle.std.proofs.Common.{◌≡◌, ◌-◌, ◌≤◌, inl, arith, true, Option, None, Some, List, [], ◌∷◌, length, refl, sym, subst, length-append}
use Rattle.std.proofs.lemmas.List.{length-replicate}
use Rattle.rational_theory.specs.Rational.{ℚ, ◌*ℚ◌}
use Rattle.rational_theory.specs.Rows.{IsMet}
use Rattle.progression.specs.Street.{Street, count}
use Rattle.progression.specs.Speeds.{number}
use Rattle.linear_theory.specs.Places.{width}
use Rattle.linear_theory.specs.Boxes.{Area, root_box}
use Rattle.linear_theory.specs.Counts.{IsStreet}
use Rattle.linear_theory.proofs.RootBoxes.{root_is}
use Rattle.named_row.specs.Sheets.{row_of}
use Rattle.named_row.specs.declared.names.RowId.{RowId}
use Rattle.named_row.specs.declared.leaves.Weight.{Weight}
use Rattle.loop_rows.proofs.LeafSums.{total_width_by}
use Rattle.certificate_model.specs.declared.certificate.Claim.{Claim}
use Rattle.certificate_model.specs.declared.certificate.Claim.TheVariants.{Best, NoTiming, Stopped}
use Rattle.certificate_model.specs.Warrants.{Node}
use Rattle.certificate_checker.specs.Accepted.{value_of, limit_of, IsTimedBy}
use Rattle.certificate_checker.specs.Claims.{IsBestBy}
use Rattle.certificate_checker.specs.TreeProofs.{IsLeafProof, IsTreeProof}
use Rattle.certificate_checker.proofs.LeafMeaning.{IsWithin, leaf_says}
use Rattle.certificate_checker.proofs.Meaning.{HoldsTiming, trees_say}
use Rattle.link_theory.specs.LinkRecord.{LinkRecord, lines}
use Rattle.link_theory.specs.GoodLinks.{GoodLinks}
use Rattle.link_theory.specs.BestLinks.{link_value, links_of, BoundedLinks}
use Rattle.link_theory.specs.LinkCounts.{LinkCounts, IsGoodLinkPoint}
use Rattle.link_theory.specs.LinkColumns.{link_width, link_point}
use Rattle.link_theory.specs.LinkNames.{HasLinkRow, link_row}
use Rattle.link_theory.proofs.LinkGoals.{link_point_not_negative, link_goal_value}
use Rattle.link_theory.proofs.LinkTreeLaws.{lines_in_root, lines_root_boxed}
use Rattle.link_space.specs.LinkWeights.{link_rows, link_name_at}
use Rattle.link_space.specs.LinkSheets.{link_goal_sheet}
use Rattle.link_space.specs.laws.LinkSheets.{link_sheet_met}
use Rattle.link_space.proofs.LinkRowTests.{link_row_decided, links_stand}
use Rattle.link_proof.specs.LinkWarrants.{LinkWarrant}
use Rattle.link_proof.specs.LinkAccepted.{link_aim, IsLinkAccepted}
use Rattle.link_proof.specs.LinkClaims.{LinkClaimHolds}

-- the goal is as wide as the rows
pub link_goal_wide : (a : Street) → 2 ≤ count a → length (link_goal_sheet a).coefs ≡ link_width (count a)
link_goal_wide a two =
    let n = count a in
    let zeros = length-replicate (width n) (number 0) in
    let twos = length-replicate (n - 1) (number 2) in
    let others = length-replicate (n - 1) (number 2 *ℚ a.head.ratio) in
    rw (length-append, length-append) (omega arith)

module _ (a : Street) (t : LinkRecord) (h : IsStreet a) (g : GoodLinks a t) (limit : Option ℚ) where
  -- the point of a good link timing of a box meets the rows there
  rows_met : (box : Area) → HoldsTiming a (lines t) box → (row : RowId) → (link_rows a box).has row ≡ true → IsMet (link_point a t) (row_of ((link_rows a box).row row))
  rows_met box k row e =
      let counts : LinkCounts a box t = record { street = h; good = g; boxed = k.0; inside = k.1 } in
      let point : IsGoodLinkPoint a box (link_point a t) = record { timing = t; counts = counts; is = refl } in
      link_sheet_met a box (link_point a t) (link_name_at row) point ((link_row_decided a (link_name_at row)).0 e)

  -- a leaf keeps the value of a good link timing whose lines its box holds down to the limit
  leaf_keeps : (box : Area) (ws : List Weight) → HoldsTiming a (lines t) box → IsLeafProof (link_rows a box) (link_aim a limit) ws → IsWithin limit (link_value a t)
  leaf_keeps box ws k c =
      subst (IsWithin limit) (link_goal_value a t h g)
      (leaf_says (link_rows a box) (total_width_by (link_rows a box) link_name_at (HasLinkRow a) (link_row a box) (links_stand a box h.signals))
      (link_point a t) (link_point_not_negative a t h g) (rows_met box k) (link_aim a limit) (link_goal_wide a h.signals) ws c)

  -- the root box holds the lines of each good link timing
  root_keeps : (ns : List Node) → IsTreeProof (link_rows a) (link_aim a limit) (root_box a ∷ []) ns → IsWithin limit (link_value a t)
  root_keeps ns c =
      let root = root_is a (omega (arith, h.signals)) in
      trees_say a (lines t) (λ box ws. IsLeafProof (link_rows a box) (link_aim a limit) ws) (IsWithin limit (link_value a t)) leaf_keeps (root_box a ∷ []) ns c
      (inl (lines_root_boxed a t h g (root_box a) root, lines_in_root a t h g (root_box a) root))

best_timed : (a : Street) (value : ℚ) (timing : Option LinkRecord) → BoundedLinks a value → IsTimedBy (GoodLinks a) (link_value a) timing (Some value) → IsBestBy (links_of a) timing value
best_timed a value None b h = h
best_timed a value (Some t) b h = (record { good = h.0; greatest = subst (BoundedLinks a) (sym h.1) b }, h.1)

-- what an accepted link certificate claims holds
claim_holds : (a : Street) (claim : Claim) (timing : Option LinkRecord) (ns : List Node) → IsStreet a → IsTimedBy (GoodLinks a) (link_value a) timing (value_of claim)
    → IsTreeProof (link_rows a) (link_aim a (limit_of claim)) (root_box a ∷ []) ns → LinkClaimHolds a claim timing
claim_holds a (Best value) timing ns h i c = best_timed a value timing (λ t g. root_keeps a t h g (Some value) ns c) i
claim_holds a NoTiming timing ns h i c = λ t g. root_keeps a t h g None ns c
claim_holds a (Stopped bound value) timing ns h i c = (λ t g. root_keeps a t h g (Some bound) ns c, i)

pub links_accepted_holds : (a : Street) (c : LinkWarrant) → IsStreet a → IsLinkAccepted a c → LinkClaimHolds a c.claim c.timing
links_accepted_holds a c h k = claim_holds a c.claim c.timing c.nodes h k.timing k.tree
