-- The list of the rows that leaves name: how the code's set keeps it, and that it has these rows, each once, in their order.
use Rattle.std.proofs.Common.{◌≡◌, ℕ, suc, ◌+◌, ◌<◌, ◌≤◌, Bool, true, false, List, [], ◌∷◌, length, map, drop, get_or, All, Option, None, Some, refl, sym, ◌∙◌, ap, subst, inl, inr, add-one, drop-cons}
use Rattle.std.specs.Prelude.{◌⊎◌, if◌then◌else◌}
use Rattle.std.specs.BTreeSet.{insert_key}
use Rattle.std.proofs.lemmas.List.{drop_all}
use Rattle.std.proofs.lemmas.List.Elements.{All-nil, All-cons, All-head, All-tail, All-weaker}
use Rattle.std.proofs.lemmas.Map.Views.{All-insert_key}
use Rattle.named_row.specs.declared.leaves.Weight.{Weight}
use Rattle.named_row.specs.declared.names.RowId.{RowId}
use Rattle.named_row.specs.declared.leaves.Leaf.{Leaf}
use Rattle.search_box.specs.declared.span.At.{At}
use Rattle.named_row.specs.Order.{is_below}
use Rattle.certificate_model.specs.declared.certificate.CertNode.{CertNode}
use Rattle.certificate_model.specs.declared.certificate.CertNode.TheVariants as code
use Rattle.certificate_model.specs.Families.{is_after, IsNamed}
use Rattle.certificate_model.specs.Warrants.{Node, SplitAt, LeafOf, node_of}
use Rattle.certificate_model.proofs.KeptNodes.{IsNode}
use Rattle.plan_text.specs.Leaves.{with_row, with_rows, rows_from, rows_of, AscendRows}
use Rattle.plan_text.proofs.RowOrder.{row_cmp, row_cases, below_apart}

-- ---- the code's set

-- one more row of a set
pub inserted : (row : RowId) (rs : List RowId) → insert_key row_cmp rs row ≡ with_row row rs
unfolding with_row
inserted row [] = refl
inserted row (r ∷ rs) =
    row_cases row r (row ∷ r ∷ rs) (r ∷ rs) (r ∷ insert_key row_cmp rs row)
    ∙ ap (λ (y : List RowId). if is_below row r then row ∷ r ∷ rs else (if is_below r row then r ∷ y else r ∷ rs)) (inserted row rs)

-- one more row of a leaf
pub rows_more : (ws : List Weight) (i : ℕ) (d w : Weight) (rs after : List RowId) → i < length ws → w ≡ get_or ws i d → after ≡ insert_key row_cmp rs w.row
    → with_rows (drop i ws) rs ≡ with_rows (drop (i + 1) ws) after
unfolding with_rows
rows_more ws i d w rs after lt is e =
    rw (add-one, drop-cons ws i d) (ap (with_rows (drop (suc i) ws)) (ap (λ (v : Weight). with_row v.row rs) (sym is) ∙ sym (inserted w.row rs) ∙ sym e))

pub rows_passed : (ws : List Weight) (i : ℕ) (rs : List RowId) → length ws ≤ i → with_rows (drop i ws) rs ≡ rs
unfolding with_rows
rows_passed ws i rs le = ap (λ (vs : List Weight). with_rows vs rs) (drop_all i ws le)

-- one more node
pub split_next : (ns : List CertNode) (i : ℕ) (d n : CertNode) (at : At) (rs : List RowId) → i < length ns → n ≡ get_or ns i d → n ≡ code.Split at
    → rows_from rs (map node_of (drop i ns)) ≡ rows_from rs (map node_of (drop (i + 1) ns))
unfolding rows_from
split_next ns i d n at rs lt is e = rw (add-one, drop-cons ns i d) (ap (λ (m : CertNode). rows_from rs (node_of m ∷ map node_of (drop (suc i) ns))) (sym is ∙ e))

pub leaf_next : (ns : List CertNode) (i : ℕ) (d n : CertNode) (leaf : Leaf) (rs after : List RowId) → i < length ns → n ≡ get_or ns i d → n ≡ code.Leaf leaf
    → after ≡ with_rows leaf.multipliers.items rs → rows_from rs (map node_of (drop i ns)) ≡ rows_from after (map node_of (drop (i + 1) ns))
unfolding rows_from
leaf_next ns i d n leaf rs after lt is e f =
    rw (add-one, drop-cons ns i d)
    (ap (λ (m : CertNode). rows_from rs (node_of m ∷ map node_of (drop (suc i) ns))) (sym is ∙ e)
    ∙ ap (λ (y : List RowId). rows_from y (map node_of (drop (suc i) ns))) (sym f))

pub nodes_passed : (ns : List CertNode) (i : ℕ) (rs : List RowId) → length ns ≤ i → rows_from rs (map node_of (drop i ns)) ≡ rs
unfolding rows_from
nodes_passed ns i rs le = ap (λ (y : List CertNode). rows_from rs (map node_of y)) (drop_all i ns le)

-- ---- what holds of each row

module _ (P : RowId → Type 0) where
  all_with_row : (row : RowId) (rs : List RowId) → P row → All P rs → All P (with_row row rs)
  all_with_row row rs here all = subst (All P) (inserted row rs) (All-insert_key row_cmp row P rs all here)

  all_with_rows : (ws : List Weight) (rs : List RowId) → All (λ (w : Weight). P w.row) ws → All P rs → All P (with_rows ws rs)
  unfolding with_rows
  all_with_rows [] rs here all = all
  all_with_rows (w ∷ ws) rs here all = all_with_rows ws (with_row w.row rs) (All-tail (λ (w : Weight). P w.row) w ws here) (all_with_row w.row rs (All-head (λ (w : Weight). P w.row) w ws here) all)

named_from : (rs : List RowId) (ns : List Node) → All IsNode ns → All IsNamed rs → All IsNamed (rows_from rs ns)
unfolding rows_from
named_from rs [] nodes all = all
named_from rs (SplitAt at ∷ ns) nodes all = named_from rs ns (All-tail IsNode (SplitAt at) ns nodes) all
named_from rs (LeafOf ws ∷ ns) nodes all = named_from (with_rows ws rs) ns (All-tail IsNode (LeafOf ws) ns nodes) (all_with_rows IsNamed ws rs (All-head IsNode (LeafOf ws) ns nodes).2 all)

-- every listed row has a name
pub rows_named : (ns : List Node) → All IsNode ns → All IsNamed (rows_of ns)
rows_named ns nodes = named_from [] ns nodes (All-nil IsNamed)

-- ---- the order

-- a list that is chosen by two tests
by_tests : (P : List RowId → Type 0) (x y z : List RowId) (b c : Bool) → (b ≡ true → P x) → (b ≡ false → c ≡ true → P y) → (b ≡ false → c ≡ false → P z) → P (if b then x else (if c then y else z))
by_tests P x y z true c first second third = first refl
by_tests P x y z false true first second third = second refl refl
by_tests P x y z false false first second third = third refl refl

with_row_ascends : (last : Option RowId) (row : RowId) (rs : List RowId) → is_after last row ≡ true → AscendRows last rs → AscendRows last (with_row row rs)
unfolding with_row
with_row_ascends last row [] h a = (h, tt)
with_row_ascends last row (r ∷ rs) h a =
    by_tests (AscendRows last) (row ∷ r ∷ rs) (r ∷ with_row row rs) (r ∷ rs) (is_below row r) (is_below r row)
    (λ e. (h, (e, a.1)))
    (λ e f. (a.0, with_row_ascends (Some r) row rs f a.1))
    (λ e f. a)

with_rows_ascend : (ws : List Weight) (rs : List RowId) → AscendRows None rs → AscendRows None (with_rows ws rs)
unfolding with_rows
with_rows_ascend [] rs a = a
with_rows_ascend (w ∷ ws) rs a = with_rows_ascend ws (with_row w.row rs) (with_row_ascends None w.row rs refl a)

rows_from_ascend : (rs : List RowId) (ns : List Node) → AscendRows None rs → AscendRows None (rows_from rs ns)
unfolding rows_from
rows_from_ascend rs [] a = a
rows_from_ascend rs (SplitAt at ∷ ns) a = rows_from_ascend rs ns a
rows_from_ascend rs (LeafOf ws ∷ ns) a = rows_from_ascend (with_rows ws rs) ns (with_rows_ascend ws rs a)

-- the list ascends
pub rows_ascend : (ns : List Node) → AscendRows None (rows_of ns)
rows_ascend ns = rows_from_ascend [] ns tt

-- ---- which rows it has

abbrev pub IsListed : List RowId → RowId → Type 0
IsListed [] row = ⊥
IsListed (r ∷ rs) row = (r ≡ row) ⊎ IsListed rs row

with_row_has : (row : RowId) (rs : List RowId) → IsListed (with_row row rs) row
unfolding with_row
with_row_has row [] = inl refl
with_row_has row (r ∷ rs) =
    by_tests (λ (y : List RowId). IsListed y row) (row ∷ r ∷ rs) (r ∷ with_row row rs) (r ∷ rs) (is_below row r) (is_below r row)
    (λ e. inl refl)
    (λ e f. inr (with_row_has row rs))
    (λ e f. inl (sym (below_apart row r e f)))

with_row_keeps : (row : RowId) (rs : List RowId) (s : RowId) → IsListed rs s → IsListed (with_row row rs) s
unfolding with_row
with_row_keeps row [] s h = absurd h
with_row_keeps row (r ∷ rs) s h =
    by_tests (λ (y : List RowId). IsListed y s) (row ∷ r ∷ rs) (r ∷ with_row row rs) (r ∷ rs) (is_below row r) (is_below r row)
    (λ e. inr h)
    (λ e f. elim h [ inl k ↦ inl k | inr k ↦ inr (with_row_keeps row rs s k) ])
    (λ e f. h)

with_row_only : (row : RowId) (rs : List RowId) (s : RowId) → IsListed (with_row row rs) s → (row ≡ s) ⊎ IsListed rs s
unfolding with_row
with_row_only row [] s h = h
with_row_only row (r ∷ rs) s h =
    by_tests (λ (y : List RowId). IsListed y s → (row ≡ s) ⊎ IsListed (r ∷ rs) s) (row ∷ r ∷ rs) (r ∷ with_row row rs) (r ∷ rs) (is_below row r) (is_below r row)
    (λ e k. k)
    (λ e f k. elim k [ inl m ↦ inr (inl m) | inr m ↦ deeper (with_row_only row rs s m) ])
    (λ e f k. inr k)
    h
  where
    deeper : (row ≡ s) ⊎ IsListed rs s → (row ≡ s) ⊎ IsListed (r ∷ rs) s
    deeper (inl e) = inl e
    deeper (inr k) = inr (inr k)

with_rows_keep : (ws : List Weight) (rs : List RowId) (s : RowId) → IsListed rs s → IsListed (with_rows ws rs) s
unfolding with_rows
with_rows_keep [] rs s h = h
with_rows_keep (w ∷ ws) rs s h = with_rows_keep ws (with_row w.row rs) s (with_row_keeps w.row rs s h)

with_rows_have : (ws : List Weight) (rs : List RowId) → All (λ (w : Weight). IsListed (with_rows ws rs) w.row) ws
unfolding with_rows
with_rows_have [] rs = All-nil (λ (w : Weight). IsListed (with_rows [] rs) w.row)
with_rows_have (w ∷ ws) rs = All-cons (λ (v : Weight). IsListed (with_rows (w ∷ ws) rs) v.row) w ws (with_rows_keep ws (with_row w.row rs) w.row (with_row_has w.row rs))
    (with_rows_have ws (with_row w.row rs))

rows_from_keep : (rs : List RowId) (ns : List Node) (s : RowId) → IsListed rs s → IsListed (rows_from rs ns) s
unfolding rows_from
rows_from_keep rs [] s h = h
rows_from_keep rs (SplitAt at ∷ ns) s h = rows_from_keep rs ns s h
rows_from_keep rs (LeafOf ws ∷ ns) s h = rows_from_keep (with_rows ws rs) ns s (with_rows_keep ws rs s h)

-- the rows of a node are listed
abbrev pub AreListed : List RowId → Node → Type 0
AreListed rs (SplitAt at) = Unit {0}
AreListed rs (LeafOf ws) = All (λ (w : Weight). IsListed rs w.row) ws

all_from : (rs : List RowId) (ns : List Node) → All (AreListed (rows_from rs ns)) ns
unfolding rows_from
all_from rs [] = All-nil (AreListed (rows_from rs []))
all_from rs (SplitAt at ∷ ns) = All-cons (AreListed (rows_from rs (SplitAt at ∷ ns))) (SplitAt at) ns tt (all_from rs ns)
all_from rs (LeafOf ws ∷ ns) =
    All-cons (AreListed (rows_from rs (LeafOf ws ∷ ns))) (LeafOf ws) ns
    (All-weaker (λ (w : Weight). IsListed (with_rows ws rs) w.row) (λ (w : Weight). IsListed (rows_from (with_rows ws rs) ns) w.row)
    (λ w h. rows_from_keep (with_rows ws rs) ns w.row h) ws (with_rows_have ws rs))
    (all_from (with_rows ws rs) ns)

-- every row of a leaf is listed
pub rows_have : (ns : List Node) → All (AreListed (rows_of ns)) ns
rows_have ns = all_from [] ns

-- a leaf among these nodes names the row
abbrev pub IsIn : List Weight → RowId → Type 0
IsIn [] row = ⊥
IsIn (w ∷ ws) row = (w.row ≡ row) ⊎ IsIn ws row

abbrev pub IsUsed : List Node → RowId → Type 0
IsUsed [] row = ⊥
IsUsed (SplitAt at ∷ ns) row = IsUsed ns row
IsUsed (LeafOf ws ∷ ns) row = IsIn ws row ⊎ IsUsed ns row

with_rows_only : (ws : List Weight) (rs : List RowId) (s : RowId) → IsListed (with_rows ws rs) s → IsIn ws s ⊎ IsListed rs s
unfolding with_rows
with_rows_only [] rs s h = inr h
with_rows_only (w ∷ ws) rs s h = own (with_rows_only ws (with_row w.row rs) s h)
  where
    own : IsIn ws s ⊎ IsListed (with_row w.row rs) s → IsIn (w ∷ ws) s ⊎ IsListed rs s
    own (inl k) = inl (inr k)
    own (inr k) = elim (with_row_only w.row rs s k) [ inl e ↦ inl (inl e) | inr m ↦ inr m ]

only_from : (rs : List RowId) (ns : List Node) (s : RowId) → IsListed (rows_from rs ns) s → IsUsed ns s ⊎ IsListed rs s
unfolding rows_from
only_from rs [] s h = inr h
only_from rs (SplitAt at ∷ ns) s h = only_from rs ns s h
only_from rs (LeafOf ws ∷ ns) s h = own (only_from (with_rows ws rs) ns s h)
  where
    own : IsUsed ns s ⊎ IsListed (with_rows ws rs) s → IsUsed (LeafOf ws ∷ ns) s ⊎ IsListed rs s
    own (inl k) = inl (inr k)
    own (inr k) = elim (with_rows_only ws rs s k) [ inl m ↦ inl (inl m) | inr m ↦ inr m ]

-- and no other
pub rows_only : (ns : List Node) (s : RowId) → IsListed (rows_of ns) s → IsUsed ns s
rows_only ns s h = elim (only_from [] ns s h) [ inl k ↦ k | inr k ↦ absurd k ]
