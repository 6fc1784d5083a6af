-- Names among the names that were seen.
use Rattle.std.proofs.Common.{◌≡◌, ℕ, suc, ◌+◌, ◌<◌, List, [], ◌∷◌, ◌++◌, refl, sym, ◌∙◌, ap, map, Bor, nat_eq, ◌||◌, Bool, true, false, true≢false}
use Rattle.std.proofs.Common.{if◌then◌else◌, not, length, drop, slice_index_or, Some, drop-cons, arith}
use Rattle.std.specs.Prelude.{codes}
use Rattle.std.specs.List.{list_any}
use Rattle.std.specs.Cmp.Lexicographic.{pointwise}
use Rattle.progression.specs.declared.parts.Signal.{Signal}
use Rattle.artery_model.specs.Faults.{signal_place}
use Rattle.artery_model.specs.Limits.{is_text, first_repeated}
use Rattle.artery_model.specs.declared.kind.Kind.TheVariants as kind

-- a text is among references where it is among what they refer to
pub among_refs : (ks : List (Bor (List ℕ))) (name : List ℕ) → list_any (λ k. pointwise nat_eq name k.now) ks ≡ list_any (λ t. is_text name t) (map (λ k. k.now) ks)
among_refs [] name = refl
among_refs (k ∷ ks) name = ap (λ b. pointwise nat_eq name k.now || b) (among_refs ks name)

-- one reference more refers to one text more
pub map_more : (ks : List (Bor (List ℕ))) (k : Bor (List ℕ)) → map (λ k. k.now) (ks ++ k ∷ []) ≡ map (λ k. k.now) ks ++ k.now ∷ []
map_more [] k = refl
map_more (x ∷ ks) k = ap (λ xs. x.now ∷ xs) (map_more ks k)

-- a name that is new goes last
pub goes_last : (ks more : List (Bor (List ℕ))) (seen new : Bool) (k : Bor (List ℕ)) → new ≡ not seen → more ≡ (if seen then ks else ks ++ k ∷ [])
    → new ≡ true → map (λ k. k.now) more ≡ map (λ k. k.now) ks ++ k.now ∷ []
goes_last ks more true new k e f t = absurd (true≢false (sym t ∙ e))
goes_last ks more false new k e f t = rw f (map_more ks k)

drop_at : (signals : List Signal) (k : ℕ) (s : Signal) → k < length signals → s ≡ slice_index_or signals k s → drop k signals ≡ s ∷ drop (k + 1) signals
drop_at signals k s lt at =
    let next : suc k ≡ k + 1 = omega arith in
    drop-cons signals k s lt ∙ ap (λ x. x ∷ drop (suc k) signals) (sym at) ∙ ap (λ n. s ∷ drop n signals) next

-- ---- the first name that stands twice
not_false : (b new : Bool) → new ≡ not b → new ≡ false → b ≡ true
not_false true new e f = refl
not_false false new e f = absurd (true≢false (sym e ∙ f))

not_true : (b new : Bool) → new ≡ not b → new ≡ true → b ≡ false
not_true true new e f = absurd (true≢false (sym f ∙ e))
not_true false new e f = refl

-- a name that was seen is the first that stands twice
pub found_twice : (i k : ℕ) (keys : List (List ℕ)) (signals : List Signal) (s : Signal) (name : List ℕ) (new : Bool) → k < length signals → s ≡ slice_index_or signals k s → name ≡ s.name
    → new ≡ not (list_any (λ t. is_text name t) keys) → new ≡ false → first_repeated i keys (drop k signals) ≡ Some (record { kind = kind.RepeatedName; place = signal_place i (codes "name") })
found_twice i k keys signals s name new lt at n e f =
    let seen : list_any (λ t. is_text s.name t) keys ≡ true = not_false (list_any (λ t. is_text s.name t) keys) new (rw (← n) e) f in
    rw (drop_at signals k s lt at, seen) refl

-- a name that is new is seen from then on
pub found_new : (i k : ℕ) (keys : List (List ℕ)) (signals : List Signal) (s : Signal) (name : List ℕ) (new : Bool) → k < length signals → s ≡ slice_index_or signals k s → name ≡ s.name
    → new ≡ not (list_any (λ t. is_text name t) keys) → new ≡ true → first_repeated i keys (drop k signals) ≡ first_repeated (i + 1) (keys ++ name ∷ []) (drop (k + 1) signals)
found_new i k keys signals s name new lt at n e f =
    let seen : list_any (λ t. is_text s.name t) keys ≡ false = not_true (list_any (λ t. is_text s.name t) keys) new (rw (← n) e) f in
    rw (drop_at signals k s lt at, seen, n) refl
