-- How many rows of links there are from a direction's far rows on.
use Rattle.std.proofs.Common.{◌≡◌, ◌≢◌, ℕ, suc, Bool, true, false, length, ◌+◌, ◌-◌, ◌*◌, ◌≤◌, refl, sym, ◌∙◌, ap, arith, length-append}
use Rattle.std.specs.Ordering.{eq_by_cmp}
use Rattle.rational_theory.specs.Compare.{cmp_ℚ}
use Rattle.rational_theory.proofs.Compare.{eq_true, eq_false}
use Rattle.progression.specs.Street.{Street, count}
use Rattle.progression.specs.Speeds.{number}
use Rattle.progression.specs.declared.parts.Dir.{Dir}
use Rattle.progression.specs.declared.parts.Dir.TheVariants.{Outbound, Inbound}
use Rattle.program_builder.specs.BoxRows.{names_below, names_through}
use Rattle.program_builder.proofs.FirstRows.{HasUpTo, up_to_from, below_all, length-indices_to}
use Rattle.link_theory.specs.declared.ends.LinkEnd.TheVariants.{Here, Next}
use Rattle.link_theory.specs.LinkNames.{NearRow, FarRow, LinkRatioRow}
use Rattle.link_space.proofs.LinkRowTests.{link_row_decided}
use Rattle.multi_band.specs.LinkTables.{is_link_there, names_of_links}
use Rattle.multi_band.specs.LinkOpening.{rows_before}
use Rattle.multi_band.specs.laws.FarRows.{far_rows, link_to}

-- the families from that of a direction's far rows to the one before the ratio's
abbrev pub families_from : Dir → ℕ
families_from Outbound = 6
families_from Inbound = 2

module _ (a : Street) where
  -- ---- how many rows there are from a family on
  abbrev through : ℕ → ℕ
  through f = length (names_through (is_link_there a) (suc (count a)) f)

  family_rows : (f k : ℕ) → HasUpTo (is_link_there a) (suc f) k → k ≤ count a → through (suc f) ≡ through f + k
  unfolding names_through
  family_rows f k u l =
      let e = below_all (is_link_there a) (suc f) k (count a) u l in
      let w = length-indices_to (suc f) k in
      length-append (names_through (is_link_there a) (suc (count a)) f) (names_below (is_link_there a) (suc f) (suc (count a)))
      ∙ ap (λ xs. through f + length xs) e ∙ ap (λ n. through f + n) w

  ratio_one_rows : a.head.ratio ≡ number 1 → HasUpTo (is_link_there a) 30 0
  ratio_one_rows e = up_to_from (is_link_there a) 30 0 (λ i. let d = link_row_decided a (LinkRatioRow i) in (λ b. absurd ((d.0 b).1 e), λ h. absurd (let l = h.0 in let m = h.1 in omega arith)))

  ratio_other_rows : a.head.ratio ≢ number 1 → HasUpTo (is_link_there a) 30 (count a - 1)
  ratio_other_rows n =
      up_to_from (is_link_there a) 30 (count a - 1) (λ i. let d = link_row_decided a (LinkRatioRow i) in
      (λ b. let h = (d.0 b).0 in (h.0, let l = h.1 in omega arith), λ h. d.1 ((h.0, let l = h.0 in let m = h.1 in omega arith), n)))

  between : through 27 ≡ through 23 + 4 * (count a - 1)
  between =
      let n = count a - 1 in
      let b = family_rows 23 n (far_rows a Outbound) (omega arith) in
      let c = family_rows 24 n (up_to_from (is_link_there a) 25 n (λ i. link_to a i _ (link_row_decided a (FarRow Outbound Next i)))) (omega arith) in
      let d = family_rows 25 n (up_to_from (is_link_there a) 26 n (λ i. link_to a i _ (link_row_decided a (NearRow Inbound Here i)))) (omega arith) in
      let e = family_rows 26 n (up_to_from (is_link_there a) 27 n (λ i. link_to a i _ (link_row_decided a (NearRow Inbound Next i)))) (omega arith) in
      omega (arith, b, c, d, e)

  ends_from : through 29 ≡ through 23 + 6 * (count a - 1)
  ends_from =
      let n = count a - 1 in
      let b = between in
      let c = family_rows 27 n (far_rows a Inbound) (omega arith) in
      let d = family_rows 28 n (up_to_from (is_link_there a) 29 n (λ i. link_to a i _ (link_row_decided a (FarRow Inbound Next i)))) (omega arith) in
      omega (arith, b, c, d)

  -- all rows of links, with those of the ratio
  all_rows : (k : ℕ) → (a.head.ratio ≡ number 1 → k ≡ 0) → (a.head.ratio ≢ number 1 → k ≡ count a - 1) → length (names_of_links a) ≡ through 29 + k
  unfolding names_of_links
  all_rows k f g = pick (eq_by_cmp cmp_ℚ a.head.ratio (number 1)) refl
    where
      pick : (b : Bool) → eq_by_cmp cmp_ℚ a.head.ratio (number 1) ≡ b → through 30 ≡ through 29 + k
      pick true e = let q = eq_true a.head.ratio (number 1) (sym e) in family_rows 29 0 (ratio_one_rows q) (omega arith) ∙ ap (λ n. through 29 + n) (sym (f q))
      pick false e =
          let q = eq_false a.head.ratio (number 1) (sym e) in
          family_rows 29 (count a - 1) (ratio_other_rows q) (omega arith) ∙ ap (λ n. through 29 + n) (sym (g q))

  pub rows_from : (d : Dir) (k : ℕ) → (a.head.ratio ≡ number 1 → k ≡ 0) → (a.head.ratio ≢ number 1 → k ≡ count a - 1)
      → length (names_of_links a) ≡ rows_before a d + (families_from d * (count a - 1) + k)
  rows_from Outbound k f g = let e = all_rows k f g in let b = ends_from in omega (arith, e, b)
  rows_from Inbound k f g = let e = all_rows k f g in let b = ends_from in let c = between in omega (arith, e, b, c)
