-- The order of the failings tells any two apart that fail, so that only one is the first.
use Rattle.std.proofs.Common.{◌≡◌, ℕ, ◌-◌, ◌<◌, refl, sym, subst, ◌∙◌, ap, arith, inl, inr}
use Rattle.std.specs.Prelude.{ℤ, pos, ◌+ℤ◌}
use Rattle.std.proofs.lemmas.Bool.{cases_lt}
use Rattle.progression.specs.Street.{Street, count}
use Rattle.progression.specs.TimingRecord.{TimingRecord}
use Rattle.progression.specs.Lines.{stop, crossing}
use Rattle.progression.specs.declared.parts.Dir.{Dir}
use Rattle.progression.specs.declared.parts.Dir.TheVariants.{Outbound, Inbound}
use Rattle.time_space.specs.FirstRed.{IsFirstRed}
use Rattle.time_space.specs.Blocked.{IsBlockedAt, IsBlockedSomewhere}
use Rattle.time_space.specs.Failing.{Fails}
use Rattle.time_space.specs.FirstFailing.{rule_order, dir_order, direction_order, place_order, IsNoLater, OneFirst}
use Rattle.time_space.specs.declared.failing.Failing.{Failing}
use Rattle.time_space.specs.declared.failing.Failing.TheVariants as failing

-- neither of two first ticks comes before the other
one_red : (c : ℕ) (start : ℤ) (red : ℕ) (x : ℤ) (b s t : ℕ) → IsFirstRed c start red x b s → IsFirstRed c start red x b t → s < t → ⊥
one_red c start red x b s t f g l = let yes = g.green_before s l in let no = f.red_there in cc

-- so there is one first tick
pub one_tick : (c : ℕ) (start : ℤ) (red : ℕ) (x : ℤ) (b s t : ℕ) → IsFirstRed c start red x b s → IsFirstRed c start red x b t → s ≡ t
one_tick c start red x b s t f g = elim (cases_lt s t) [
  | inl l ↦ absurd (one_red c start red x b s t f g l)
  | inr h ↦ elim (cases_lt t s) [ inl l ↦ absurd (one_red c start red x b t s g f l) | inr k ↦ omega arith ]
]

one_stop : (d : Dir) (n j k : ℕ) → j < n → k < n → stop d n j ≡ stop d n k → j ≡ k
one_stop Outbound n j k h l e = omega (arith, e)
one_stop Inbound n j k h l e = omega (arith, e)

-- at one signal a band is blocked first at one tick
same_after : (a : Street) (t : TimingRecord) (d : Dir) (j k s r : ℕ) → j ≡ k → IsBlockedAt a t d j s → IsBlockedAt a t d k r → crossing a t d j +ℤ pos s ≡ crossing a t d k +ℤ pos r
same_after a t d j k s r e f g = alike s r (one_tick _ _ _ _ _ s r f (subst (λ m. IsBlockedAt a t d m r) (sym e) g))
  where
    alike : (s r : ℕ) → s ≡ r → crossing a t d j +ℤ pos s ≡ crossing a t d k +ℤ pos r
    alike s r h = λ i. crossing a t d (e i) +ℤ pos (h i)

one_block : (a : Street) (t : TimingRecord) (d : Dir) (i : ℕ) (x y : ℤ) → IsBlockedSomewhere a t d i x → IsBlockedSomewhere a t d i y → x ≡ y
one_block a t d i x y f g =
    let e = one_stop d (count a) f.at g.at f.on_way g.on_way (sym f.here.signal_is ∙ g.here.signal_is) in
    f.here.tick_is ∙ same_after a t d f.at g.at f.here.after g.here.after e f.here.blocked g.here.blocked ∙ sym g.here.tick_is

same_dir : (d e : Dir) → dir_order d ≡ dir_order e → d ≡ e
same_dir Outbound Outbound h = refl
same_dir Inbound Inbound h = refl
same_dir Outbound Inbound h = absurd (omega (arith, h))
same_dir Inbound Outbound h = absurd (omega (arith, h))

blocked_out : (a : Street) (t : TimingRecord) (i j : ℕ) (x y : ℤ) → i ≡ j → IsBlockedSomewhere a t Outbound i x → IsBlockedSomewhere a t Outbound j y
    → ◌≡◌ {A = Failing} (failing.Outbound i x) (failing.Outbound j y)
blocked_out a t i j x y e p q = let h = one_block a t Outbound i x y p (subst (λ m. IsBlockedSomewhere a t Outbound m y) (sym e) q) in λ k. failing.Outbound (e k) (h k)

blocked_in : (a : Street) (t : TimingRecord) (i j : ℕ) (x y : ℤ) → i ≡ j → IsBlockedSomewhere a t Inbound i x → IsBlockedSomewhere a t Inbound j y
    → ◌≡◌ {A = Failing} (failing.Inbound i x) (failing.Inbound j y)
blocked_in a t i j x y e p q = let h = one_block a t Inbound i x y p (subst (λ m. IsBlockedSomewhere a t Inbound m y) (sym e) q) in λ k. failing.Inbound (e k) (h k)

-- a signal of the inbound way is told by its distance from the last
one_signal : (a : Street) (t : TimingRecord) (i j : ℕ) (x y : ℤ) → IsBlockedSomewhere a t Inbound i x → IsBlockedSomewhere a t Inbound j y → count a - i ≡ count a - j → i ≡ j
one_signal a t i j x y p q e = let u = p.here.signal_is in let v = q.here.signal_is in let k = p.on_way in let l = q.on_way in omega (arith, e)

-- failings with the same place in the order are the same
same_failing : (a : Street) (t : TimingRecord) (f g : Failing) → Fails a t f → Fails a t g → rule_order f ≡ rule_order g → direction_order f ≡ direction_order g
    → place_order a f ≡ place_order a g → f ≡ g
same_failing a t failing.Shape failing.Shape p q r d e = refl
same_failing a t failing.CycleShort failing.CycleShort p q r d e = refl
same_failing a t failing.CycleLong failing.CycleLong p q r d e = refl
same_failing a t failing.Ratio failing.Ratio p q r d e = refl
same_failing a t failing.Equal failing.Equal p q r d e = refl
same_failing a t (failing.Least x) (failing.Least y) p q r d e = ap failing.Least (same_dir x y d)
same_failing a t (failing.Pattern i) (failing.Pattern j) p q r d e = ap failing.Pattern e
same_failing a t (failing.Fast x i) (failing.Fast y j) p q r d e = λ k. failing.Fast (same_dir x y d k) (e k)
same_failing a t (failing.Slow x i) (failing.Slow y j) p q r d e = λ k. failing.Slow (same_dir x y d k) (e k)
same_failing a t (failing.Rise x i) (failing.Rise y j) p q r d e = λ k. failing.Rise (same_dir x y d k) (e k)
same_failing a t (failing.Drop x i) (failing.Drop y j) p q r d e = λ k. failing.Drop (same_dir x y d k) (e k)
same_failing a t (failing.Outbound i x) (failing.Outbound j y) p q r d e = blocked_out a t i j x y e p q
same_failing a t (failing.Inbound i x) (failing.Inbound j y) p q r d e = blocked_in a t i j x y (one_signal a t i j x y p q e) p q
same_failing a t f g p q r d e = absurd (omega (arith, r))

-- two that fail, neither of which comes after the other, are the same
pub neither_later : (a : Street) (t : TimingRecord) (f g : Failing) → Fails a t f → Fails a t g → IsNoLater a f g → IsNoLater a g f → f ≡ g
neither_later a t f g p q h k =
    let r : rule_order f ≡ rule_order g = omega (arith, h.rule, k.rule) in
    let d : direction_order f ≡ direction_order g = omega (arith, h.direction r, k.direction (sym r)) in
    same_failing a t f g p q r d (omega (arith, h.place r d, k.place (sym r) (sym d)))

pub one_first : OneFirst
one_first a t f g p q = neither_later a t f g p.fails q.fails (p.first g q.fails) (q.first f p.fails)
