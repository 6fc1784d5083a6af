-- A warning's line stands exactly where its rule holds, and each warning of each place is looked at.
use Rattle.std.proofs.Common.{◌≡◌, ℕ, zero, suc, pos, ◌+◌, ◌-◌, ◌*◌, ◌<◌, ◌≤◌, List, [], ◌∷◌, ◌++◌, length, Bool}
use Rattle.std.proofs.Common.{true, false, not, ◌&&◌, ◌||◌, if◌then◌else◌, nat_lt, nat_eq, flat_map, refl, sym, ◌∙◌, ap, subst, arith, inl, inr}
use Rattle.std.proofs.Common.{lit<}
use Rattle.std.specs.Prelude.{◌⊎◌, ◌↔◌, Contains, IsTrue}
use Rattle.std.specs.List.{filter, range_with_len}
use Rattle.std.specs.Cmp.Lexicographic.{pointwise}
use Rattle.std.proofs.lemmas.Bool.{ltb-true, lt-ltb, eqb-true, eq-eqb, and_parts, and_from, or_cases, or_left, or_right, not-true, not_from_false, true≢false}
use Rattle.std.proofs.lemmas.List.Elements.{Contains-append_left, Contains-append_right, Contains-append_cases, Contains-push_cases}
use Rattle.std.proofs.lemmas.List.FromFn.{length-range_with_len, get_or-range_with_len}
use Rattle.std.proofs.lemmas.Slice.Eq.{bytes_eq-Decides}
use Rattle.rational_theory.specs.Rational.{ℚ, whole, ◌<ℚ◌}
use Rattle.rational_theory.proofs.Compare.{lt_says, eq_says}
use Rattle.progression.specs.Speeds.{run_low}
use Rattle.progression.specs.Street.{Street, count, red_parts, speed, HasSignal, HasLink}
use Rattle.progression.specs.declared.parts.Dir.{Dir}
use Rattle.progression.specs.declared.parts.Dir.TheVariants.{Outbound, Inbound}
use Rattle.street_words.specs.Streets.{name_of}
use Rattle.street_words.specs.Warnings.{least_travel, most_travel, fastest, slowest, most_ticks, plain_name, ticks_for}
use Rattle.street_words.specs.Warnings.{may_starve, applies, warning_line, told, way_warnings, link_warnings, signal_warnings}
use Rattle.street_words.specs.Warnings.{name_warnings, street_warnings, all_warnings, warning_lines}
use Rattle.street_words.specs.Laws.{MayBeStarved, Rule, IsOf, AreWarned, WarningsSay}
use Rattle.street_words.proofs.Grids.{long_rule, rule_long}
use Rattle.street_words.specs.declared.warning.Warning.{Warning}
use Rattle.street_words.specs.declared.warning.Warning.TheVariants.{TakesLittle, TakesLong, TooFast, TooSlow, MostlyRed, AlikeNames, MayStarve, LongFractions}

-- ---- members of lists
none_in : {A B : Type 0} (y : A) → Contains [] y → B
none_in y (k, l, e) = absurd (omega arith)

cons_cases : {A : Type 0} (x : A) (xs : List A) (y : A) → Contains (x ∷ xs) y → (x ≡ y) ⊎ Contains xs y
cons_cases x xs y h = elim (Contains-append_cases (x ∷ []) xs y h) [
  | inl w ↦ elim (Contains-push_cases [] x y w) [ inl n ↦ none_in y n | inr e ↦ inl e ]
  | inr w ↦ inr w
]

first_in : {A : Type 0} (x : A) (xs : List A) → Contains (x ∷ xs) x
first_in x xs = Contains-append_left (x ∷ []) xs x (0, lit< tt, refl)

-- among what each of some numbers gives
in_flat : {A : Type 0} (f : ℕ → List A) (xs : List ℕ) (i : ℕ) (y : A) → Contains xs i → Contains (f i) y → Contains (flat_map f xs) y
in_flat f [] i y h k = none_in i h
in_flat {A} f (x ∷ xs) i y h k = elim (cons_cases x xs i h) [
  | inl e ↦ Contains-append_left (f x) (flat_map f xs) y (subst (λ n. Contains (f n) y) (sym e) k)
  | inr w ↦ Contains-append_right (f x) (flat_map f xs) y (in_flat f xs i y w k)
]

-- what holds of all that one of them gives holds of it
out_flat : {A : Type 0} (P : A → Type 0) (f : ℕ → List A) (xs : List ℕ) (y : A) → ((i : ℕ) → Contains xs i → Contains (f i) y → P y) → Contains (flat_map f xs) y → P y
out_flat P f [] y g h = none_in y h
out_flat P f (x ∷ xs) y g h = elim (Contains-append_cases (f x) (flat_map f xs) y h) [
  | inl w ↦ g x (first_in x xs) w
  | inr w ↦ out_flat P f xs y (λ i l k. g i (Contains-append_right (x ∷ []) xs i l) k) w
]

in_range : (n i : ℕ) → 1 ≤ i → i ≤ n → Contains (range_with_len 1 n) i
in_range n i s l = (i - 1, rw length-range_with_len (omega arith), get_or-range_with_len 1 n (i - 1) i (omega arith) ∙ omega arith)

out_range : (n i : ℕ) → Contains (range_with_len 1 n) i → (1 ≤ i) × (i ≤ n)
out_range n i (k, l, e) =
    let below : k < n = rw length-range_with_len at l in
    let is : 1 + k ≡ i = sym (get_or-range_with_len 1 n k i below) ∙ e in
    (omega arith, omega arith)

-- two texts are the same
same_says : (xs ys : List ℕ) → IsTrue (pointwise nat_eq xs ys) ↔ (xs ≡ ys)
same_says xs ys = let d = bytes_eq-Decides xs ys in (d.0, d.1)

-- ---- each warning of each place is looked at
in_way : (d : Dir) (i : ℕ) (w : Warning) → Contains (way_warnings d i) w → Contains (link_warnings i) w
in_way Outbound i w h = Contains-append_left (way_warnings Outbound i) (way_warnings Inbound i) w h
in_way Inbound i w h = Contains-append_right (way_warnings Outbound i) (way_warnings Inbound i) w h

in_signal : (d : Dir) (i : ℕ) → Contains (signal_warnings i) (MostlyRed d i)
in_signal Outbound i = (0, lit< tt, refl)
in_signal Inbound i = (1, lit< tt, refl)

module _ (a : Street) where
  in_link : (i : ℕ) (d : Dir) (w : Warning) → HasLink a i → Contains (way_warnings d i) w → Contains (all_warnings (count a)) w
  in_link i d w l h =
      Contains-append_left (flat_map link_warnings (range_with_len 1 (count a - 1))) _ w
      (in_flat link_warnings (range_with_len 1 (count a - 1)) i w (in_range (count a - 1) i l.0 (omega (arith, l.1))) (in_way d i w h))

  in_signals : (i : ℕ) (d : Dir) → HasSignal a i → Contains (all_warnings (count a)) (MostlyRed d i)
  in_signals i d l =
      Contains-append_right (flat_map link_warnings (range_with_len 1 (count a - 1))) _ (MostlyRed d i)
      (Contains-append_left (flat_map signal_warnings (range_with_len 1 (count a))) _ (MostlyRed d i)
      (in_flat signal_warnings (range_with_len 1 (count a)) i (MostlyRed d i) (in_range (count a) i l.0 l.1) (in_signal d i)))

  behind : (w : Warning) → Contains (flat_map name_warnings (range_with_len 1 (count a - 1)) ++ street_warnings) w → Contains (all_warnings (count a)) w
  behind w h =
      Contains-append_right (flat_map link_warnings (range_with_len 1 (count a - 1))) _ w
      (Contains-append_right (flat_map signal_warnings (range_with_len 1 (count a))) _ w h)

  in_names : (i : ℕ) → HasLink a i → Contains (all_warnings (count a)) (AlikeNames i)
  in_names i l =
      behind (AlikeNames i)
      (Contains-append_left (flat_map name_warnings (range_with_len 1 (count a - 1))) street_warnings (AlikeNames i)
      (in_flat name_warnings (range_with_len 1 (count a - 1)) i (AlikeNames i) (in_range (count a - 1) i l.0 (omega (arith, l.1))) (0, lit< tt, refl)))

  in_street : (w : Warning) → Contains street_warnings w → Contains (all_warnings (count a)) w
  in_street w h = behind w (Contains-append_right (flat_map name_warnings (range_with_len 1 (count a - 1))) street_warnings w h)

  looked_at : (w : Warning) → IsOf a w → Contains (all_warnings (count a)) w
  looked_at (TakesLittle d i) l = in_link i d (TakesLittle d i) l (0, lit< tt, refl)
  looked_at (TakesLong d i) l = in_link i d (TakesLong d i) l (1, lit< tt, refl)
  looked_at (TooFast d i) l = in_link i d (TooFast d i) l (2, lit< tt, refl)
  looked_at (TooSlow d i) l = in_link i d (TooSlow d i) l (3, lit< tt, refl)
  looked_at (MostlyRed d i) l = in_signals i d l
  looked_at (AlikeNames i) l = in_names i l
  looked_at MayStarve l = in_street MayStarve (0, lit< tt, refl)
  looked_at LongFractions l = in_street LongFractions (1, lit< tt, refl)

  -- ---- and no other
  is_of : (x w : Warning) → x ≡ w → IsOf a x → IsOf a w
  is_of x w e h = subst (IsOf a) e h

  way_is : (d : Dir) (i : ℕ) (w : Warning) → HasLink a i → Contains (way_warnings d i) w → IsOf a w
  way_is d i w l h = elim (cons_cases (TakesLittle d i) (TakesLong d i ∷ TooFast d i ∷ TooSlow d i ∷ []) w h) [
    | inl e ↦ is_of (TakesLittle d i) w e l
    | inr h ↦ elim (cons_cases (TakesLong d i) (TooFast d i ∷ TooSlow d i ∷ []) w h) [
      | inl e ↦ is_of (TakesLong d i) w e l
      | inr h ↦ elim (cons_cases (TooFast d i) (TooSlow d i ∷ []) w h) [
        | inl e ↦ is_of (TooFast d i) w e l
        | inr h ↦ elim (cons_cases (TooSlow d i) [] w h) [ inl e ↦ is_of (TooSlow d i) w e l | inr h ↦ none_in w h ]
      ]
    ]
  ]

  link_is : (w : Warning) (i : ℕ) → Contains (range_with_len 1 (count a - 1)) i → Contains (link_warnings i) w → IsOf a w
  link_is w i m h =
      let r = out_range (count a - 1) i m in
      let l : HasLink a i = (r.0, omega (arith, r.0, r.1)) in
      elim (Contains-append_cases (way_warnings Outbound i) (way_warnings Inbound i) w h) [ inl h ↦ way_is Outbound i w l h | inr h ↦ way_is Inbound i w l h ]

  signal_is : (w : Warning) (i : ℕ) → Contains (range_with_len 1 (count a)) i → Contains (signal_warnings i) w → IsOf a w
  signal_is w i m h =
      let l = out_range (count a) i m in
      elim (cons_cases (MostlyRed Outbound i) (MostlyRed Inbound i ∷ []) w h) [
        | inl e ↦ is_of (MostlyRed Outbound i) w e l
        | inr h ↦ elim (cons_cases (MostlyRed Inbound i) [] w h) [ inl e ↦ is_of (MostlyRed Inbound i) w e l | inr h ↦ none_in w h ]
      ]

  name_is : (w : Warning) (i : ℕ) → Contains (range_with_len 1 (count a - 1)) i → Contains (name_warnings i) w → IsOf a w
  name_is w i m h =
      let r = out_range (count a - 1) i m in
      let l : HasLink a i = (r.0, omega (arith, r.0, r.1)) in
      elim (cons_cases (AlikeNames i) [] w h) [ inl e ↦ is_of (AlikeNames i) w e l | inr h ↦ none_in w h ]

  street_is : (w : Warning) → Contains street_warnings w → IsOf a w
  street_is w h = elim (cons_cases MayStarve (LongFractions ∷ []) w h) [
    | inl e ↦ is_of MayStarve w e tt
    | inr h ↦ elim (cons_cases LongFractions [] w h) [ inl e ↦ is_of LongFractions w e tt | inr h ↦ none_in w h ]
  ]

  no_other : (w : Warning) → Contains (all_warnings (count a)) w → IsOf a w
  no_other w h = elim (Contains-append_cases (flat_map link_warnings (range_with_len 1 (count a - 1))) _ w h) [
    | inl h ↦ out_flat (IsOf a) link_warnings (range_with_len 1 (count a - 1)) w (link_is w) h
    | inr h ↦ elim (Contains-append_cases (flat_map signal_warnings (range_with_len 1 (count a))) _ w h) [
      | inl h ↦ out_flat (IsOf a) signal_warnings (range_with_len 1 (count a)) w (signal_is w) h
      | inr h ↦ elim (Contains-append_cases (flat_map name_warnings (range_with_len 1 (count a - 1))) street_warnings w h) [
        | inl h ↦ out_flat (IsOf a) name_warnings (range_with_len 1 (count a - 1)) w (name_is w) h
        | inr h ↦ street_is w h
      ]
    ]
  ]

  -- ---- a rule and its test
  below_says : (x y : ℕ) → IsTrue (nat_lt x y) ↔ (x < y)
  below_says x y = (ltb-true x y, lt-ltb x y)

  starve_says : IsTrue (may_starve a) ↔ MayBeStarved a
  starve_says =
      let one = eq_says a.head.ratio (whole (pos 1)) _ refl in
      let out = eq_says a.head.least_out (whole (pos 0)) _ refl in
      let back = eq_says a.head.least_in (whole (pos 0)) _ refl in (
        λ t.
            let p = and_parts _ _ t in
            let q = and_parts _ _ p.1 in
            record {
              alike = one.0 p.0;
              unequal = not-true a.head.equal q.0;
              unbounded = elim (or_cases _ _ q.1) [ inl w ↦ inl (out.0 w) | inr w ↦ inr (back.0 w) ];
            },
        λ m. and_from _ _ (one.1 m.alike) (and_from _ _ (not_from_false a.head.equal m.unequal) (elim m.unbounded [ inl w ↦ or_left _ _ (out.1 w) | inr w ↦ or_right _ _ (back.1 w) ])),
      )

  rule_says : (w : Warning) → IsTrue (applies a w) ↔ Rule a w
  rule_says (TakesLittle d i) = lt_says (run_low a d i) (whole (pos least_travel)) _ refl
  rule_says (TakesLong d i) = lt_says (whole (pos most_travel)) (run_low a d i) _ refl
  rule_says (TooFast d i) = lt_says (whole (pos (fastest a.head.units))) (speed a d i).most _ refl
  rule_says (TooSlow d i) = lt_says (speed a d i).least (whole (pos (slowest a.head.units))) _ refl
  rule_says (MostlyRed d i) = below_says (3 * a.head.parts) (4 * red_parts a d i)
  rule_says (AlikeNames i) = same_says (plain_name (name_of a i)) (plain_name (name_of a (i + 1)))
  rule_says MayStarve = starve_says
  rule_says LongFractions = let b = below_says most_ticks (ticks_for a (count a - 1)) in (λ t. long_rule a (b.0 t), λ r. b.1 (rule_long a r))

-- ---- a line that stands or doesn't
stands_if : (b : Bool) (line : List ℕ) → IsTrue b → (if b then line else []) ≡ line
stands_if true line t = refl
stands_if false line t = absurd (true≢false (sym t))

silent_if : (b : Bool) (line : List ℕ) → (IsTrue b → ⊥) → (if b then line else []) ≡ []
silent_if true line n = absurd (n refl)
silent_if false line n = refl

stands_of : (a : Street) (w : Warning) → Rule a w → told a w ≡ warning_line a w
unfolding told
stands_of a w r = stands_if (applies a w) (warning_line a w) ((rule_says a w).1 r)

silent_of : (a : Street) (w : Warning) → (Rule a w → ⊥) → told a w ≡ []
unfolding told
silent_of a w n = silent_if (applies a w) (warning_line a w) (λ t. n ((rule_says a w).0 t))

-- ---- the lines of those whose rule holds
module _ {A : Type 0} where
  keeps_if : (b : Bool) (x : A) (xs : List A) (y : A) → Contains (if b then x ∷ xs else xs) y → ((x ≡ y) × IsTrue b) ⊎ Contains xs y
  keeps_if true x xs y h = elim (cons_cases x xs y h) [ inl e ↦ inl (e, refl) | inr k ↦ inr k ]
  keeps_if false x xs y h = inr h

  kept_of : (p : A → Bool) (xs : List A) (y : A) → Contains (filter p xs) y → Contains xs y × IsTrue (p y)
  kept_of p [] y h = none_in y h
  kept_of p (x ∷ xs) y h = elim (keeps_if (p x) x (filter p xs) y h) [
    | inl e ↦ (subst (λ z. Contains (x ∷ xs) z) e.0 (first_in x xs), subst (λ z. IsTrue (p z)) e.0 e.1)
    | inr k ↦ let m = kept_of p xs y k in (Contains-append_right (x ∷ []) xs y m.0, m.1)
  ]

  first_if : (b : Bool) (x : A) (xs : List A) (y : A) → IsTrue b → x ≡ y → Contains (if b then x ∷ xs else xs) y
  first_if true x xs y t e = subst (λ z. Contains (x ∷ xs) z) e (first_in x xs)
  first_if false x xs y t e = absurd (true≢false (sym t))

  later_if : (b : Bool) (x : A) (xs : List A) (y : A) → Contains xs y → Contains (if b then x ∷ xs else xs) y
  later_if true x xs y h = Contains-append_right (x ∷ []) xs y h
  later_if false x xs y h = h

  of_kept : (p : A → Bool) (xs : List A) (y : A) → Contains xs y → IsTrue (p y) → Contains (filter p xs) y
  of_kept p [] y h t = none_in y h
  of_kept p (x ∷ xs) y h t = elim (cons_cases x xs y h) [
    | inl e ↦ first_if (p x) x (filter p xs) y (subst (λ z. IsTrue (p z)) (sym e) t) e
    | inr k ↦ later_if (p x) x (filter p xs) y (of_kept p xs y k t)
  ]

  texts_if : (b : Bool) (g : A → List ℕ) (x : A) (xs : List A) → flat_map g (if b then x ∷ xs else xs) ≡ (if b then g x else []) ++ flat_map g xs
  texts_if true g x xs = refl
  texts_if false g x xs = refl

told_texts : (a : Street) (ws : List Warning) → flat_map (told a) ws ≡ flat_map (warning_line a) (filter (applies a) ws)
unfolding told
told_texts a [] = refl
told_texts a (w ∷ ws) = ap (λ t. told a w ++ t) (told_texts a ws) ∙ sym (texts_if (applies a w) (warning_line a) w (filter (applies a) ws))

warned : (a : Street) → AreWarned a (warning_lines a)
unfolding warning_lines
warned a = record {
  warnings = filter (applies a) (all_warnings (count a));
  just = λ w. (
    λ h. let k = kept_of (applies a) (all_warnings (count a)) w h in (no_other a w k.0, (rule_says a w).0 k.1),
    λ h. of_kept (applies a) (all_warnings (count a)) w (looked_at a w h.0) ((rule_says a w).1 h.1),
  );
  lines_are = told_texts a (all_warnings (count a));
}

pub warnings_say : WarningsSay
warnings_say = record { looked_at = λ a w. (looked_at a w, no_other a w); stands = stands_of; silent = silent_of; lines = warned }
