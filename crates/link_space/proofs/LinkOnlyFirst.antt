-- The order of the link failings tells any two apart that fail, so that only one is the first.
use Rattle.std.proofs.Common.{◌≡◌, ℕ, arith, subst, sym, ap}
use Rattle.std.specs.Prelude.{ℤ, pos, ◌+ℤ◌}
use Rattle.progression.specs.Street.{Street}
use Rattle.progression.specs.declared.parts.Dir.{Dir}
use Rattle.progression.specs.declared.parts.Dir.TheVariants.{Outbound, Inbound}
use Rattle.time_space.proofs.Firsts.{fails_of_base}
use Rattle.time_space.proofs.OnlyFirst.{one_tick, neither_later}
use Rattle.link_theory.specs.LinkRecord.{LinkRecord, lines}
use Rattle.link_space.specs.LinkGreens.{edge, travel_order, IsBlockedEnd}
use Rattle.link_space.specs.LinkFailing.{LinkFails}
use Rattle.link_space.specs.FirstLinkFailing.{variant_order, link_order, signal_order, IsNoLaterLink, OneFirstLink}
use Rattle.link_space.specs.declared.failing.LinkFailing.{LinkFailing}
use Rattle.link_space.specs.declared.failing.LinkFailing.TheVariants as failing

-- at one signal of a link its band is blocked first at one tick
one_block : (a : Street) (t : LinkRecord) (d : Dir) (i s : ℕ) (x y : ℤ) → IsBlockedEnd a t d i s x → IsBlockedEnd a t d i s y → x ≡ y
one_block a t d i s x y f g =
    let e = one_tick _ _ _ _ _ f.after g.after f.blocked g.blocked in
    rw (f.tick_is, g.tick_is) (ap (λ n. edge a t d i s +ℤ pos n) e)

-- the place of a signal in travel order tells the signals of a link apart
one_signal : (a : Street) (t : LinkRecord) (d : Dir) (i s r : ℕ) (x y : ℤ) → IsBlockedEnd a t d i s x → IsBlockedEnd a t d i r y → travel_order a d s ≡ travel_order a d r → s ≡ r
one_signal a t Outbound i s r x y p q e = e
one_signal a t Inbound i s r x y p q e = omega (arith, p.has.1, p.end.most, q.end.most, e)

-- one list of three numbers for two that fail
same_place : (a : Street) (t : LinkRecord) (d : Dir) (i k s r : ℕ) (x y : ℤ) → IsBlockedEnd a t d i s x → IsBlockedEnd a t d k r y → i ≡ k → travel_order a d s ≡ travel_order a d r → (s ≡ r) × (x ≡ y)
same_place a t d i k s r x y p q e h =
    let moved = subst (λ m. IsBlockedEnd a t d m r y) (sym e) q in
    let n = one_signal a t d i s r x y p moved h in
    (n, one_block a t d i s x y p (subst (λ m. IsBlockedEnd a t d i m y) (sym n) moved))

blocked_out : (i k s r : ℕ) (x y : ℤ) → i ≡ k → (s ≡ r) × (x ≡ y) → ◌≡◌ {A = LinkFailing} (failing.Outbound i s x) (failing.Outbound k r y)
blocked_out i k s r x y e h = λ m. failing.Outbound (e m) (h.0 m) (h.1 m)

blocked_in : (i k s r : ℕ) (x y : ℤ) → i ≡ k → (s ≡ r) × (x ≡ y) → ◌≡◌ {A = LinkFailing} (failing.Inbound i s x) (failing.Inbound k r y)
blocked_in i k s r x y e h = λ m. failing.Inbound (e m) (h.0 m) (h.1 m)

-- failings neither of which comes after the other are the same
same_failing : (a : Street) (t : LinkRecord) (f g : LinkFailing) → LinkFails a t f → LinkFails a t g → IsNoLaterLink a f g → IsNoLaterLink a g f
    → variant_order f ≡ variant_order g → link_order f ≡ link_order g → signal_order a f ≡ signal_order a g → f ≡ g
same_failing a t (failing.Base f) (failing.Base g) p q h k v l s = ap failing.Base (neither_later a (lines t) f g (fails_of_base a (lines t) f p) (fails_of_base a (lines t) g q) h.base k.base)
same_failing a t (failing.Ratio i) (failing.Ratio j) p q h k v l s = ap failing.Ratio l
same_failing a t (failing.Outbound i n x) (failing.Outbound j m y) p q h k v l s = blocked_out i j n m x y l (same_place a t Outbound i j n m x y p q l s)
same_failing a t (failing.Inbound i n x) (failing.Inbound j m y) p q h k v l s = blocked_in i j n m x y l (same_place a t Inbound i j n m x y p q l s)
same_failing a t f g p q h k v l s = absurd (omega (arith, v))

pub one_first_link : OneFirstLink
one_first_link a t f g p q =
    let h = p.first g q.fails in
    let k = q.first f p.fails in
    let v : variant_order f ≡ variant_order g = omega (arith, h.variant, k.variant) in
    let l : link_order f ≡ link_order g = omega (arith, h.link v, k.link (sym v)) in
    same_failing a t f g p.fails q.fails h k v l (omega (arith, h.signal v l, k.signal (sym v) (sym l)))
