-- Where the limits of a direction move to: to slower or faster speeds, whose runs are less than a step from theirs.
use Rattle.std.proofs.Common.{◌≡◌, ℕ, ◌<◌, ◌≤◌, pos, List, [], ◌∷◌, map, Bool, true, false, ◌&&◌, if◌then◌else◌, Option, None, Some, refl, sym, ◌∙◌, ap, subst, arith, lit<}
use Rattle.std.specs.Prelude.{find, Contains}
use Rattle.std.specs.Option.{option_or, unwrap_or}
use Rattle.std.specs.Ordering.{is_eq}
use Rattle.std.proofs.lemmas.Option.{none-some, same_Some}
use Rattle.rational_theory.specs.Rational.{ℚ, whole, over, ◌≤ℚ◌, ◌<ℚ◌}
use Rattle.rational_theory.specs.Compare.{cmp_ℚ}
use Rattle.rational_theory.proofs.Compare.{le_true}
use Rattle.rational_theory.proofs.Order.{≤ℚ_refl, ≤ℚ_trans}
use Rattle.progression.specs.Speeds.{seconds}
use Rattle.progression.specs.declared.parts.Pair.{Pair}
use Rattle.progression.specs.declared.parts.Units.{Units}
use Rattle.progression.specs.declared.parts.Units.TheVariants.{Metric, English}
use Rattle.artery_model.specs.Limits.{at_most}
use Rattle.artery_model.proofs.Quotients.{over_positive}
use Rattle.artery_parts.proofs.Quantities.{order_is}
use Rattle.speed_steps.specs.Steps.{steps, shorter, longer, faster, slower}
use Rattle.speed_steps.specs.Moved.{is_speed, are_limits, at_step, both_moved, with_moved, each_moved, limits_moved, moved}
use Rattle.speed_steps.specs.Laws.{AreNear}
use Rattle.speed_steps.specs.declared.way.Way.{Way}
use Rattle.speed_steps.specs.declared.way.Way.TheVariants.{Inwards, Outwards}
use Rattle.speed_steps.proofs.Tests.{both_of, both_is as and_is, Each, found}
use Rattle.speed_steps.proofs.Multiples.{shorter_most, shorter_near, longer_least, longer_near, same_near, more_near}
use Rattle.speed_steps.proofs.Speeds.{above_of, is_above, run_back, slower_by}

-- ---- steps
record IsTried (units : Units) (step : ℚ) : Type 0 where
  pub above : whole (pos 0) <ℚ step
  pub among : Contains (steps units) step

over_above : (n d : ℕ) → 0 < n → 0 < d → whole (pos 0) <ℚ over (pos n) d
over_above n d h k = above_of (over (pos n) d) (over_positive n d h k)

each_tried : (units : Units) → Each (IsTried units) (steps units)
each_tried Metric = (
  record { above = over_above 1 10 (lit< tt) (lit< tt); among = (0, lit< tt, refl) },
  (record { above = over_above 9 25 (lit< tt) (lit< tt); among = (1, lit< tt, refl) }, (record { above = over_above 18 5 (lit< tt) (lit< tt); among = (2, lit< tt, refl) }, tt)),
)
each_tried English = (
  record { above = over_above 3 44 (lit< tt) (lit< tt); among = (0, lit< tt, refl) },
  (record { above = over_above 3 22 (lit< tt) (lit< tt); among = (1, lit< tt, refl) }, (record { above = over_above 15 22 (lit< tt) (lit< tt); among = (2, lit< tt, refl) }, tt)),
)

first_step : (units : Units) → (step : ℚ) × IsTried units step
first_step Metric = (over (pos 1) 10, (each_tried Metric).0)
first_step English = (over (pos 3) 44, (each_tried English).0)

-- ---- slower and faster speeds
-- w is no faster than v, and their runs are near
pub record IsSlower (units : Units) (length : ℕ) (v w : ℚ) : Type 0 where
  pub order : seconds units length v ≤ℚ seconds units length w
  pub near : AreNear units (seconds units length v) (seconds units length w)

pub record IsFaster (units : Units) (length : ℕ) (v w : ℚ) : Type 0 where
  pub order : seconds units length w ≤ℚ seconds units length v
  pub near : AreNear units (seconds units length v) (seconds units length w)

-- what the move of both limits means
abbrev pub Moves : Way → Units → ℕ → Pair → Pair → Type 0
Moves Inwards units length p q = IsFaster units length p.least q.least × IsSlower units length p.most q.most
Moves Outwards units length p q = IsSlower units length p.least q.least × IsFaster units length p.most q.most

near_same : (units : Units) (run : ℚ) → AreNear units run run
near_same units run =
    let s = first_step units in
    record { step = s.0; among = s.1.among; above = same_near s.0 s.1.above run; below = same_near s.0 s.1.above run }

slower_same : (units : Units) (length : ℕ) (v : ℚ) → IsSlower units length v v
slower_same units length v = record { order = ≤ℚ_refl (seconds units length v); near = near_same units (seconds units length v) }

faster_same : (units : Units) (length : ℕ) (v : ℚ) → IsFaster units length v v
faster_same units length v = record { order = ≤ℚ_refl (seconds units length v); near = near_same units (seconds units length v) }

moves_same : (way : Way) (units : Units) (length : ℕ) (p : Pair) → Moves way units length p p
moves_same Inwards units length p = (faster_same units length p.least, slower_same units length p.most)
moves_same Outwards units length p = (slower_same units length p.least, faster_same units length p.most)

module _ (units : Units) (length : ℕ) (some : 1 ≤ length) where
  slower_is : (v step : ℚ) → IsTried units step → is_speed (slower units length v step) ≡ true → IsSlower units length v (slower units length v step)
  slower_is v step t h =
      let run = seconds units length v in
      let e = run_back length some units (longer step run) h in
      record {
        order = subst (λ r. run ≤ℚ r) (sym e) (longer_least step t.above run);
        near = subst (λ r. AreNear units run r) (sym e) (record {
          step = step;
          among = t.among;
          above = more_near step t.above run (longer step run) (longer_least step t.above run);
          below = longer_near step t.above run;
        });
      }

  faster_is : (v step : ℚ) → IsTried units step → is_speed (faster units length v step) ≡ true → IsFaster units length v (faster units length v step)
  faster_is v step t h =
      let run = seconds units length v in
      let e = run_back length some units (shorter step run) h in
      record {
        order = subst (λ r. r ≤ℚ run) (sym e) (shorter_most step t.above run);
        near = subst (λ r. AreNear units run r) (sym e) (record {
          step = step;
          among = t.among;
          above = shorter_near step t.above run;
          below = more_near step t.above (shorter step run) run (shorter_most step t.above run);
        });
      }

  -- ---- a step by which both are limits
  both_speeds : (p : Pair) → are_limits p ≡ true → (is_speed p.least ≡ true) × (is_speed p.most ≡ true)
  both_speeds p h = both_of (is_speed p.least) (is_speed p.most) (both_of _ _ h).0

  step_moves : (way : Way) (p : Pair) (step : ℚ) → IsTried units step → are_limits (at_step way units length p step) ≡ true → Moves way units length p (at_step way units length p step)
  step_moves Inwards p step t h = let s = both_speeds (at_step Inwards units length p step) h in (faster_is p.least step t s.0, slower_is p.most step t s.1)
  step_moves Outwards p step t h = let s = both_speeds (at_step Outwards units length p step) h in (slower_is p.least step t s.0, faster_is p.most step t s.1)

  -- moved limits are limits of a description, and moved as they should be
  pub record IsMoved (way : Way) (p q : Pair) : Type 0 where
    pub limits : are_limits q ≡ true
    pub moves : Moves way units length p q

  both_is : (way : Way) (p q : Pair) → both_moved way units length p ≡ Some q → IsMoved way p q
  both_is way p q e =
      found (at_step way units length p) are_limits (IsTried units) (IsMoved way p) (λ s t h. record { limits = h; moves = step_moves way p s t h })
      (steps units) (each_tried units) q e

  -- ---- each by itself
  -- a limit that stays, or moves
  abbrev Slowed : ℚ → Option ℚ → Type 0
  Slowed v o = (w : ℚ) → o ≡ Some w → (is_speed w ≡ true) × IsSlower units length v w

  abbrev Sped : ℚ → Option ℚ → Type 0
  Sped v o = (w : ℚ) → o ≡ Some w → (is_speed w ≡ true) × IsFaster units length v w

  slow_end : (v : ℚ) (o : Option ℚ) → is_speed v ≡ true → Slowed v o → (is_speed (unwrap_or o v) ≡ true) × IsSlower units length v (unwrap_or o v)
  slow_end v None h f = (h, slower_same units length v)
  slow_end v (Some w) h f = f w refl

  fast_end : (v : ℚ) (o : Option ℚ) → is_speed v ≡ true → Sped v o → (is_speed (unwrap_or o v) ≡ true) × IsFaster units length v (unwrap_or o v)
  fast_end v None h f = (h, faster_same units length v)
  fast_end v (Some w) h f = f w refl

  joined : (p : Pair) (v w : ℚ) → are_limits p ≡ true → (is_speed v ≡ true) × IsSlower units length p.least v → (is_speed w ≡ true) × IsFaster units length p.most w
      → IsMoved Outwards p (record { least = v; most = w })
  joined p v w h f g =
      let s = both_speeds p h in
      let order = le_true p.least p.most (sym (both_of _ _ h).1) in
      let low = slower_by length some units v p.least (is_above v f.0) (is_above p.least s.0) f.1.order in
      let high = slower_by length some units p.most w (is_above p.most s.1) (is_above w g.0) g.1.order in
      record {
        limits = and_is (is_speed v && is_speed w) (at_most v w) (and_is (is_speed v) (is_speed w) f.0 g.0) (order_is v w (≤ℚ_trans v p.least w low (≤ℚ_trans p.least p.most w order high)));
        moves = (f.1, g.1);
      }

  ends : (p : Pair) (o m : Option ℚ) → are_limits p ≡ true → Slowed p.least o → Sped p.most m → IsMoved Outwards p (record { least = unwrap_or o p.least; most = unwrap_or m p.most })
  ends p o m h f g =
      let s = both_speeds p h in
      joined p (unwrap_or o p.least) (unwrap_or m p.most) h (slow_end p.least o s.0 f) (fast_end p.most m s.1 g)

  with_is : (p q : Pair) (o m : Option ℚ) → are_limits p ≡ true → Slowed p.least o → Sped p.most m → with_moved p o m ≡ Some q → IsMoved Outwards p q
  with_is p q None None h f g e = absurd (none-some q e)
  with_is p q None (Some w) h f g e = subst (IsMoved Outwards p) (same_Some _ q e) (ends p None (Some w) h f g)
  with_is p q (Some v) None h f g e = subst (IsMoved Outwards p) (same_Some _ q e) (ends p (Some v) None h f g)
  with_is p q (Some v) (Some w) h f g e = subst (IsMoved Outwards p) (same_Some _ q e) (ends p (Some v) (Some w) h f g)

  each_is : (p q : Pair) → are_limits p ≡ true → each_moved units length p ≡ Some q → IsMoved Outwards p q
  each_is p q h e =
      with_is p q _ _ h
      (λ w f. found (slower units length p.least) is_speed (IsTried units) (λ w. (is_speed w ≡ true) × IsSlower units length p.least w) (λ s t k. (k, slower_is p.least s t k))
      (steps units) (each_tried units) w f)
      (λ w f. found (faster units length p.most) is_speed (IsTried units) (λ w. (is_speed w ≡ true) × IsFaster units length p.most w) (λ s t k. (k, faster_is p.most s t k))
      (steps units) (each_tried units) w f)
      e

  -- ---- the move
  inwards_is : (b : Bool) (p q : Pair) → (if b then None else both_moved Inwards units length p) ≡ Some q → IsMoved Inwards p q
  inwards_is true p q e = absurd (none-some q e)
  inwards_is false p q e = both_is Inwards p q e

  outwards_is : (p q : Pair) (o : Option Pair) → are_limits p ≡ true → o ≡ both_moved Outwards units length p → option_or o (each_moved units length p) ≡ Some q → IsMoved Outwards p q
  outwards_is p q None h e f = each_is p q h f
  outwards_is p q (Some r) h e f = both_is Outwards p q (sym e ∙ f)

  limits_is : (way : Way) (p q : Pair) → are_limits p ≡ true → limits_moved way units length p ≡ Some q → IsMoved way p q
  limits_is Inwards p q h e = inwards_is (is_eq (cmp_ℚ p.least p.most)) p q e
  limits_is Outwards p q h e = outwards_is p q (both_moved Outwards units length p) h refl e

  or_stays : (way : Way) (p : Pair) (o : Option Pair) → are_limits p ≡ true → o ≡ limits_moved way units length p → IsMoved way p (unwrap_or o p)
  or_stays way p None h e = record { limits = h; moves = moves_same way units length p }
  or_stays way p (Some q) h e = limits_is way p q h (sym e)

  pub moved_is : (way : Way) (p : Pair) → are_limits p ≡ true → IsMoved way p (moved way units length p)
  moved_is way p h = or_stays way p (limits_moved way units length p) h refl
