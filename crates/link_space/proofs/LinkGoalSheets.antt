-- The goal of links, written half by half.
use Rattle.std.proofs.Common.{◌≡◌, ◌≤◌, ℕ, zero, suc, ◌+◌, ◌-◌, ◌*◌, ◌*ℤ◌, List, [], ◌∷◌, ◌++◌, length, set, replicate, pos, false, refl, sym, ap, ap₂, ◌∙◌, arith, length-append}
use Rattle.std.proofs.lemmas.List.{length-replicate, append_assoc, append-nil, replicate-append-replicate}
use Rattle.rational_theory.specs.Rational.{ℚ, whole, over, ◌*ℚ◌}
use Rattle.progression.specs.Street.{Street, count}
use Rattle.progression.specs.Speeds.{number}
use Rattle.progression.specs.declared.parts.Dir.{Dir}
use Rattle.progression.specs.declared.parts.Dir.TheVariants.{Outbound, Inbound}
use Rattle.linear_theory.specs.Places.{width}
use Rattle.named_row.specs.Sheets.{Sheet, blank, with_place}
use Rattle.named_row.specs.declared.names.Place.TheVariants.{Cell}
use Rattle.link_theory.specs.LinkColumns.{link_width, half_place}
use Rattle.link_space.specs.LinkSheets.{with_run, link_goal_sheet}

-- ---- numbers
one_times : (d : ℕ) → 1 * d ≡ d
one_times d = omega arith

pub twice_is : (k : ℚ) → over (pos 2 *ℤ k.num) k.den ≡ number 2 *ℚ k
unfolding ◌*ℚ◌ whole
twice_is k = ap (over (pos 2 *ℤ k.num)) (sym (one_times k.den))

-- ---- runs of numbers
-- the next of them
pub run_next : (n : ℕ) (d : Dir) (i : ℕ) (v : ℚ) (r : Sheet) → 1 ≤ i → with_place (Cell (half_place n d i)) v (with_run (half_place n d 1) (i - 1) v r) ≡ with_run (half_place n d 1) (i + 1 - 1) v r
run_next n Outbound i v r h =
    let e : 5 * n + i ≡ 5 * n + 1 + (i - 1) = omega arith in let f : suc (i - 1) ≡ i + 1 - 1 = omega arith in
    ap (λ j. with_place (Cell j) v (with_run (5 * n + 1) (i - 1) v r)) e ∙ ap (λ k. with_run (5 * n + 1) k v r) f
run_next n Inbound i v r h =
    let e : 6 * n - 1 + i ≡ 6 * n - 1 + 1 + (i - 1) = omega arith in let f : suc (i - 1) ≡ i + 1 - 1 = omega arith in
    ap (λ j. with_place (Cell j) v (with_run (6 * n - 1 + 1) (i - 1) v r)) e ∙ ap (λ k. with_run (6 * n - 1 + 1) k v r) f

-- in place of as many others, behind some
set-behind : (xs ys : List ℚ) (k : ℕ) (x v : ℚ) → set (xs ++ (replicate k v ++ (x ∷ ys))) (length xs + k) v ≡ xs ++ (replicate (suc k) v ++ ys)
set-behind [] ys zero x v = refl
set-behind [] ys (suc k) x v =
    let e : 0 + suc k ≡ suc (0 + k) = omega arith in
    ap (λ j. set (v ∷ (replicate k v ++ (x ∷ ys))) j v) e ∙ ap (λ us. v ∷ us) (set-behind [] ys k x v)
set-behind (u ∷ xs) ys k x v =
    let e : suc (length xs) + k ≡ suc (length xs + k) = omega arith in
    ap (λ j. set (u ∷ (xs ++ (replicate k v ++ (x ∷ ys)))) j v) e ∙ ap (λ us. u ∷ us) (set-behind xs ys k x v)

replicate-behind : (k : ℕ) (x : ℚ) (ys : List ℚ) → replicate (suc k) x ++ ys ≡ replicate k x ++ (x ∷ ys)
replicate-behind zero x ys = refl
replicate-behind (suc k) x ys = ap (λ us. x ∷ us) (replicate-behind k x ys)

abbrev sheet : List ℚ → Sheet
sheet xs = record { coefs = xs; bound = whole (pos 0); spent = false }

run_put : (xs ys : List ℚ) (k : ℕ) (x v : ℚ) → with_run (length xs) k v (sheet (xs ++ (replicate k x ++ ys))) ≡ sheet (xs ++ (replicate k v ++ ys))
unfolding with_place
run_put xs ys zero x v = refl
run_put xs ys (suc k) x v =
    ap (λ us. with_run (length xs) (suc k) v (sheet (xs ++ us))) (replicate-behind k x ys)
    ∙ ap (with_place (Cell (length xs + k)) v) (run_put xs (x ∷ ys) k x v)
    ∙ ap sheet (set-behind xs ys k x v)

-- as above, in a list given in other words and from a place given in others
run_at : (zs xs ys : List ℚ) (first k : ℕ) (x v : ℚ) → zs ≡ xs ++ (replicate k x ++ ys) → first ≡ length xs → with_run first k v (sheet zs) ≡ sheet (xs ++ (replicate k v ++ ys))
run_at zs xs ys first k x v e f = ap₂ (λ j us. with_run j k v (sheet us)) f e ∙ run_put xs ys k x v

-- ---- the goal
module _ (a : Street) (two : 2 ≤ count a) where
  abbrev zeros : List ℚ
  zeros = replicate (width (count a)) (number 0)

  abbrev links : ℚ → List ℚ
  links v = replicate (count a - 1) v

  all_zeros : replicate (link_width (count a)) (number 0) ≡ zeros ++ (links (number 0) ++ links (number 0))
  all_zeros =
      let m = count a - 1 in let e : 7 * count a - 1 ≡ width (count a) + (m + m) = omega arith in
      ap (λ n. replicate n (number 0)) e
      ∙ sym (replicate-append-replicate (width (count a)) (m + m) (number 0))
      ∙ ap (λ us. zeros ++ us) (sym (replicate-append-replicate m m (number 0)))

  outbound_put : (v : ℚ) → with_run (half_place (count a) Outbound 1) (count a - 1) v (blank (link_width (count a))) ≡ sheet (zeros ++ (links v ++ links (number 0)))
  unfolding blank
  outbound_put v =
      let w = length-replicate (width (count a)) (number 0) in
      run_at (replicate (link_width (count a)) (number 0)) zeros (links (number 0)) (half_place (count a) Outbound 1) (count a - 1) (number 0) v all_zeros (omega arith)

  inbound_put : (v u : ℚ) → with_run (half_place (count a) Inbound 1) (count a - 1) u (sheet (zeros ++ (links v ++ links (number 0)))) ≡ sheet (zeros ++ (links v ++ links u))
  inbound_put v u =
      let w = length-replicate (width (count a)) (number 0) in let k = length-replicate (count a - 1) v in let l = length-append zeros (links v) in
      run_at (zeros ++ (links v ++ links (number 0))) (zeros ++ links v) [] (half_place (count a) Inbound 1) (count a - 1) (number 0) u
      (ap (λ us. zeros ++ (links v ++ us)) (sym (append-nil (links (number 0)))) ∙ sym (append_assoc zeros (links v) (links (number 0) ++ []))) (omega arith)
      ∙ ap sheet (append_assoc zeros (links v) (links u ++ []) ∙ ap (λ us. zeros ++ (links v ++ us)) (append-nil (links u)))

  pub goal_is : with_run (half_place (count a) Inbound 1) (count a - 1) (number 2 *ℚ a.head.ratio)
      (with_run (half_place (count a) Outbound 1) (count a - 1) (number 2) (blank (link_width (count a)))) ≡ link_goal_sheet a
  goal_is =
      ap (with_run (half_place (count a) Inbound 1) (count a - 1) (number 2 *ℚ a.head.ratio)) (outbound_put (number 2)) ∙ inbound_put (number 2) (number 2 *ℚ a.head.ratio)
