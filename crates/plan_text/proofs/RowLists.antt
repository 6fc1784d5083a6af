-- The list of rows that is read is the one that was written, and what was written is read again.
use Rattle.std.proofs.Common.{◌≡◌, ℕ, ◌+◌, ◌*◌, ◌-◌, ◌<◌, ◌^◌, true, List, [], ◌∷◌, ◌++◌, map, length, All, Option, None, Some, Ok, refl, sym, ap, subst, ◌∙◌, append-nil, inl, inr, arith}
use Rattle.std.specs.Prelude.{◌⊎◌, ◌==◌, ◌||◌, ◌&&◌, nat_lt}
use Rattle.std.specs.Fmt.{decimal}
use Rattle.std.specs.List.{AllByRecursion}
use Rattle.std.proofs.lemmas.Bool.Decides.{nat_tests}
use Rattle.named_row.specs.declared.leaves.Weight.{Weight}
use Rattle.named_row.specs.declared.names.RowId.{RowId}
use Rattle.named_row.specs.Order.{is_below, IsBelow}
use Rattle.plan_text.specs.declared.fault.TextFault.TheVariants.{Shape}
use Rattle.certificate_model.specs.Words.{is_text, line_of}
use Rattle.plan_text.specs.Numbers.{number}
use Rattle.plan_text.specs.Lines.{◌>>=◌, ranged, words_at}
use Rattle.certificate_model.specs.Families.{Table, ordinary, IsNamed, IsNamedIn, row_words_in}
use Rattle.certificate_model.specs.Warrants.{Node, SplitAt, LeafOf}
use Rattle.certificate_model.proofs.KeptNodes.{IsNode}
use Rattle.plan_text.specs.CertificateText.{IsHeldWeight, IsHeldNode}
use Rattle.plan_text.specs.SecondText.{rows_key}
use Rattle.plan_text.specs.Leaves.{rows_of, AscendRows}
use Rattle.plan_text.specs.CertificateReading.{range_of, row_of, own_row, names_at, row_count, rows_at}
use Rattle.plan_text.proofs.Fields.{bind_ok, guard_ok, moved, same_text, number_takes, number_again}
use Rattle.plan_text.proofs.ExactWords.{decimal_word}
use Rattle.plan_text.proofs.WordLines.{words_take, words_again, ended_and}
use Rattle.plan_text.proofs.FamilyNames.{Tells}
use Rattle.plan_text.proofs.WeightLines.{row_takes, row_again, row_line_again}
use Rattle.std.proofs.lemmas.List.Elements.{recursion_from_All}
use Rattle.plan_text.proofs.ListedRows.{IsListed, IsIn, IsUsed, rows_named, rows_only}
use Rattle.plan_text.proofs.NamedRows.{IsRowIn}
use Rattle.plan_text.proofs.RowLoop.{AscendBy, ReadsAs, rising_lengths, rising_takes, rising_again}

abbrev pub list_lines : Table → List RowId → List (List ℕ)
list_lines table rows = line_of (rows_key ∷ decimal (length rows) ∷ []) ∷ map (λ row. line_of (row_words_in table row)) rows

pub record RowListOf (table : Table) (bytes : List ℕ) (x : List RowId × ℕ × List ℕ) : Type 0 where
  pub parts : bytes ≡ ended_and (list_lines table x.0) x.2
  pub ascend : AscendRows None x.0
  pub rows : AllByRecursion (IsRowIn table) x.0

ascend_from : (last : Option RowId) (rs : List RowId) → AscendBy own_row last rs → AscendRows last rs
ascend_from last [] a = tt
ascend_from last (r ∷ rs) a = (a.0, ascend_from (Some r) rs a.1)

ascend_to : (last : Option RowId) (rs : List RowId) → AscendRows last rs → AscendBy own_row last rs
ascend_to last [] a = tt
ascend_to last (r ∷ rs) a = (a.0, ascend_to (Some r) rs a.1)

count_takes : (line : ℕ) (ws : List (List ℕ)) (n : ℕ) → row_count line ws ≡ Ok n → ws ≡ rows_key ∷ decimal n ∷ []
unfolding row_count
count_takes line [] n e = absurd cc
count_takes line (key ∷ []) n e = absurd cc
count_takes line (key ∷ w ∷ []) n e =
    let g = guard_ok (is_text key rows_key) line Shape (ranged (range_of line 0 (2 ^ 64 - 1)) (number w)) n e in
    let t = number_takes (range_of line 0 (2 ^ 64 - 1)) w n g.1 in
    let k = same_text key rows_key g.0 in
    λ i. k i ∷ t.0 i ∷ []
count_takes line (key ∷ w ∷ v ∷ ws) n e = absurd cc

pub rows_take : (table : Table) (line : ℕ) (bytes : List ℕ) (x : List RowId × ℕ × List ℕ) → rows_at table line bytes ≡ Ok x → RowListOf table bytes x
unfolding rows_at
rows_take table line bytes x e =
    let a = bind_ok (words_at line bytes) (λ l. row_count line l.0 >>= λ count. names_at table count None (line + 1) l.1 >>= λ rows. Ok (rows.0, line + 1 + count, rows.1)) x e in
    let b = bind_ok (row_count line a.0.0) (λ count. names_at table count None (line + 1) a.0.1 >>= λ rows. Ok (rows.0, line + 1 + count, rows.1)) x a.2 in
    let d = bind_ok (names_at table b.0 None (line + 1) a.0.1) (λ rows. Ok (rows.0, line + 1 + b.0, rows.1)) x b.2 in
    let count = (rising_lengths own_row (row_of table) b.0 None (line + 1) a.0.1 d.0 d.1).0 in
    let t = rising_takes own_row (row_of table) (row_words_in table) (IsRowIn table) (λ line ws row e. let r = row_takes table line ws row e in
    (r.spelled, record { named = r.named; index = r.index })) b.0 None (line + 1) a.0.1 d.0 d.1 in
    let words : a.0.0 ≡ rows_key ∷ decimal (length d.0.0) ∷ [] = count_takes line a.0.0 b.0 b.1 ∙ ap (λ (n : ℕ). rows_key ∷ decimal n ∷ []) (sym count) in
    moved (RowListOf table bytes) (d.0.0, line + 1 + b.0, d.0.1) x d.2 (record {
      parts = words_take line bytes a.0 a.1 ∙ (λ i. line_of (words i) ++ 10 ∷ t.parts i);
      ascend = ascend_from None d.0.0 t.ascend;
      rows = t.kept;
    })

row_reads : (table : Table) (row : RowId) → Tells table → IsRowIn table row → ReadsAs (row_of table) (row_words_in table) row
row_reads table row tells is = record {
  again = λ line. row_again table line row tells is.named is.index;
  words = λ line rest. subst (λ ws. words_at line (line_of ws ++ 10 ∷ rest) ≡ Ok (ws, rest)) (append-nil (row_words_in table row)) (row_line_again table line row [] rest tells is.named is.index tt);
}

rows_read : (table : Table) (rs : List RowId) → Tells table → AllByRecursion (IsRowIn table) rs → AllByRecursion (ReadsAs (row_of table) (row_words_in table)) rs
rows_read table [] tells all = tt
rows_read table (r ∷ rs) tells all = (row_reads table r tells all.0, rows_read table rs tells all.1)

count_again : (line n : ℕ) → n < 2 ^ 64 → row_count line (rows_key ∷ decimal n ∷ []) ≡ Ok n
unfolding row_count
count_again line n few = rw (number_again (range_of line 0 (2 ^ 64 - 1)) n (record { least = omega arith; greatest = omega arith; limit = omega arith })) refl

count_line : (line n : ℕ) (rest : List ℕ) → n < 2 ^ 64 → words_at line (line_of (rows_key ∷ decimal n ∷ []) ++ 10 ∷ rest) ≡ Ok (rows_key ∷ decimal n ∷ [], rest)
count_line line n rest few = words_again line rows_key (decimal n ∷ []) rest (record { spaces = refl; feeds = refl }, (decimal_word n (omega arith), tt))

pub rows_again : (table : Table) (line : ℕ) (rs : List RowId) (rest : List ℕ) → Tells table → length rs < 2 ^ 64 → AscendRows None rs
    → AllByRecursion (IsRowIn table) rs → rows_at table line (ended_and (list_lines table rs) rest) ≡ Ok (rs, line + 1 + length rs, rest)
unfolding rows_at
rows_again table line rs rest tells few ascend all =
    rw (
      count_line line (length rs) (ended_and (map (λ row. line_of (row_words_in table row)) rs) rest) few,
      count_again line (length rs) few,
      rising_again own_row (row_of table) (row_words_in table) rs None (line + 1) rest (ascend_to None rs ascend) (rows_read table rs tells all),
    ) refl

-- ---- the rows of a tree

ordinary_length : length ordinary ≡ 21
unfolding ordinary
ordinary_length = refl

-- an index of each row fits 32 bits
kept_from : (rs : List RowId) → AllByRecursion (λ r. IsNamedIn ordinary r) rs → AllByRecursion (λ (r : RowId). r.index < 2 ^ 32) rs → AllByRecursion (IsRowIn ordinary) rs
kept_from [] named few = tt
kept_from (r ∷ rs) named few = (record { named = named.0; index = few.0 }, kept_from rs named.1 few.1)

each_listed : (P : RowId → Type 0) (rs : List RowId) → ((s : RowId) → IsListed rs s → P s) → AllByRecursion P rs
each_listed P [] h = tt
each_listed P (r ∷ rs) h = (h r (inl refl), each_listed P rs (λ s k. h s (inr k)))

in_small : (ws : List Weight) (s : RowId) → IsIn ws s → AllByRecursion IsHeldWeight ws → s.index < 2 ^ 32
in_small [] s h held = absurd h
in_small (w ∷ ws) s (inl e) held = subst (λ (r : RowId). r.index < 2 ^ 32) e held.0.index
in_small (w ∷ ws) s (inr h) held = in_small ws s h held.1

used_small : (ns : List Node) (s : RowId) → IsUsed ns s → AllByRecursion IsHeldNode ns → s.index < 2 ^ 32
used_small [] s h held = absurd h
used_small (SplitAt at ∷ ns) s h held = used_small ns s h held.1
used_small (LeafOf ws ∷ ns) s (inl h) held = in_small ws s h (recursion_from_All IsHeldWeight ws held.0)
used_small (LeafOf ws ∷ ns) s (inr h) held = used_small ns s h held.1

pub all_rows : (ns : List Node) → All IsNode ns → All IsHeldNode ns → AllByRecursion (IsRowIn ordinary) (rows_of ns)
all_rows ns nodes held = kept_from (rows_of ns) (recursion_from_All IsNamed (rows_of ns) (rows_named ns nodes))
    (each_listed (λ (r : RowId). r.index < 2 ^ 32) (rows_of ns) (λ s h. used_small ns s (rows_only ns s h) (recursion_from_All IsHeldNode ns held)))

-- a row as a number
abbrev code_of : RowId → ℕ
code_of r = r.family * 2 ^ 32 + r.index

below_numbers : (a b i j : ℕ) → (nat_lt a b || ((a == b) && nat_lt i j)) ≡ true → (a < b) ⊎ ((a ≡ b) × (i < j))
below_numbers a b i j h = grind (arith, nat_tests)

below_is : (r s : RowId) → is_below r s ≡ true → IsBelow r s
below_is r s e = below_numbers r.family s.family r.index s.index e

code_above : (r s : RowId) → r.index < 2 ^ 32 → is_below r s ≡ true → code_of r < code_of s
code_above r s few e = elim (below_is r s e) [ inl h ↦ omega (arith, h, few) | inr h ↦ omega (arith, h.0, h.1) ]

few_from : (last : RowId) (rs : List RowId) → last.index < 2 ^ 32 → AscendRows (Some last) rs → AllByRecursion (IsRowIn ordinary) rs → (code_of last + length rs < 22 * 2 ^ 32) ⊎ (rs ≡ [])
few_from last [] few ascend all = inr refl
few_from last (r ∷ rs) few ascend all =
    let up = code_above last r few ascend.0 in
    let small = all.0.index in
    let named = all.0.named.last in
    inl (elim (few_from r rs all.0.index ascend.1 all.1) [
      | inl h ↦ omega (arith, up, h)
      | inr e ↦ omega (arith, up, small, named, ordinary_length, ap length e)
    ])

pub few_rows : (rs : List RowId) → AscendRows None rs → AllByRecursion (IsRowIn ordinary) rs → length rs < 2 ^ 64
few_rows [] ascend all = omega arith
few_rows (r ∷ rs) ascend all = elim (few_from r rs all.0.index ascend.1 all.1) [ inl h ↦ omega (arith, h) | inr e ↦ omega (arith, ap length e) ]
