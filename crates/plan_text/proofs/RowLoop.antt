-- Reading rows one after the other, as a loop does.
use Rattle.std.specs.Prelude.{if◌then◌else◌}
use Rattle.std.specs.List.{AllByRecursion}
use Rattle.std.proofs.Common.{true, zero, length, ◌≡◌, ℕ, suc, ◌+◌, ◌-◌, ◌<◌, ◌≤◌, Bor, map, List, [], ◌∷◌, ◌++◌, Option, Some, Result, Ok, Err, refl}
use Rattle.std.proofs.Common.{sym, ap, ◌∙◌, subst, append_assoc, append-nil, arith}
use Rattle.named_row.specs.declared.names.RowId.{RowId}
use Rattle.plan_text.specs.declared.fault.BadText.{BadText}
use Rattle.plan_text.specs.declared.fault.TextEnd.{TextEnd}
use Rattle.plan_text.specs.declared.fault.TextEnd.TheVariants as ends
use Rattle.plan_text.specs.declared.fault.TextFault.TheVariants.{Order}
use Rattle.certificate_model.specs.Words.{line_of}
use Rattle.plan_text.specs.Lines.{◌>>=◌, Fails, fault, words_at}
use Rattle.certificate_model.specs.Families.{is_after}
use Rattle.plan_text.proofs.Fields.{bind_ok, guard_ok, ok_is, moved}
use Rattle.plan_text.proofs.WordLines.{words_take, words_shorter, ended_and}
use Rattle.plan_text.specs.CertificateReading.{read_after, rising_at, last_row}

-- ---- what failed, and what follows it

pub fails_then : {A B : Type 0} (e : TextEnd) (r : Result A BadText) (f : A → Result B BadText) → Fails e r → Fails e (r >>= f)
fails_then ends.Memory r f h = tt
fails_then (ends.Bad b) r f h = rw h refl

pub fails_as : {A : Type 0} (e : TextEnd) (r s : Result A BadText) → r ≡ s → Fails e r → Fails e s
fails_as e r s p h = subst (Fails e) p h

-- a step that did not fail
pub then_ok : {A B : Type 0} (r : Result A BadText) (x : A) (f : A → Result B BadText) → r ≡ Ok x → (r >>= f) ≡ f x
then_ok r x f e = rw e refl

-- a line's words, as a slice has them
pub words_are : (slice words : List (Bor (List ℕ))) (after : List ℕ) (read : Result (List (List ℕ) × List ℕ) BadText) → slice ≡ words
    → read ≡ Ok (map (λ w. w.now) words, after) → read ≡ Ok (map (λ w. w.now) slice, after)
words_are slice words after read same e = e ∙ ap (λ (v : List (Bor (List ℕ))). Ok (map (λ w. w.now) v, after)) (sym same)

-- ---- rows

-- the rows before, and those that are still read
abbrev pub with_front : {A : Type 0} → List A → Result (List A × List ℕ) BadText → Result (List A × List ℕ) BadText
with_front front read = read >>= λ x. Ok (front ++ x.0, x.1)

regroup : {A : Type 0} (front : List A) (w : A) (read : Result (List A × List ℕ) BadText) → with_front front (read >>= λ x. Ok (w ∷ x.0, x.1)) ≡ with_front (front ++ w ∷ []) read
regroup {A = A} front w (Ok x) = ap (λ (y : List A). Ok (y, x.1)) (simp append_assoc)
regroup front w (Err e) = refl

-- what follows a row's line
abbrev row_then : {A : Type 0} → (A → RowId) → (ℕ → List (List ℕ) → Result A BadText) → ℕ → Option RowId → ℕ → List (List ℕ) × List ℕ → Result (List A × List ℕ) BadText
row_then row read n last line l = read_after row read last line l.0 >>= λ w. rising_at row read n (Some (row w)) (line + 1) l.1 >>= λ x. Ok (w ∷ x.0, x.1)

step : {A : Type 0} (row : A → RowId) (read : ℕ → List (List ℕ) → Result A BadText) (n : ℕ) (last : Option RowId) (line : ℕ) (bytes : List ℕ)
    → rising_at row read (suc n) last line bytes ≡ (words_at line bytes >>= row_then row read n last line)
unfolding rising_at
step row read n last line bytes = refl

-- one of count rows is read after i
next : {A : Type 0} (row : A → RowId) (read : ℕ → List (List ℕ) → Result A BadText) (count i : ℕ) (last : Option RowId) (line : ℕ) (bytes : List ℕ)
    → i < count → rising_at row read (count - i) last (line + i) bytes ≡ (words_at (line + i) bytes >>= row_then row read (count - (i + 1)) last (line + i))
next row read count i last line bytes lt =
    let e : count - i ≡ suc (count - (i + 1)) = omega arith in
    ap (λ (n : ℕ). rising_at row read n last (line + i) bytes) e ∙ step row read (count - (i + 1)) last (line + i) bytes

pub goes_on : {A : Type 0} (row : A → RowId) (read : ℕ → List (List ℕ) → Result A BadText) (front : List A) (count i : ℕ) (last : Option RowId) (line : ℕ)
    (bytes : List ℕ) (l : List (List ℕ) × List ℕ) (w : A) (total : Result (List A × List ℕ) BadText) → i < count → words_at (line + i) bytes ≡ Ok l → read_after row read last (line + i) l.0 ≡ Ok w
    → with_front front (rising_at row read (count - i) last (line + i) bytes) ≡ total → with_front (front ++ w ∷ []) (rising_at row read (count - (i + 1)) (Some (row w)) (line + (i + 1)) l.1) ≡ total
goes_on row read front count i last line bytes l w total lt p q so_far =
    let k : line + (i + 1) ≡ line + i + 1 = omega arith in
    let more = rising_at row read (count - (i + 1)) (Some (row w)) (line + i + 1) l.1 in
    let one : rising_at row read (count - i) last (line + i) bytes ≡ (more >>= λ x. Ok (w ∷ x.0, x.1))
    = next row read count i last line bytes lt ∙ then_ok (words_at (line + i) bytes) l (row_then row read (count - (i + 1)) last (line + i)) p
    ∙ then_ok (read_after row read last (line + i) l.0) w (λ w. rising_at row read (count - (i + 1)) (Some (row w)) (line + i + 1) l.1 >>= λ x. Ok (w ∷ x.0, x.1)) q in
    ap (λ (n : ℕ). with_front (front ++ w ∷ []) (rising_at row read (count - (i + 1)) (Some (row w)) n l.1)) k ∙ sym (regroup front w more) ∙ ap (with_front front) (sym one) ∙ so_far

pub no_words : {A : Type 0} (row : A → RowId) (read : ℕ → List (List ℕ) → Result A BadText) (e : TextEnd) (front : List A) (count i : ℕ) (last : Option RowId)
    (line : ℕ) (bytes : List ℕ) (total : Result (List A × List ℕ) BadText) → i < count → Fails e (words_at (line + i) bytes)
    → with_front front (rising_at row read (count - i) last (line + i) bytes) ≡ total → Fails e total
no_words row read e front count i last line bytes total lt h so_far =
    let x = fails_then e (words_at (line + i) bytes) (row_then row read (count - (i + 1)) last (line + i)) h in
    let y = fails_as e _ (rising_at row read (count - i) last (line + i) bytes) (sym (next row read count i last line bytes lt)) x in
    fails_as e _ total so_far (fails_then e (rising_at row read (count - i) last (line + i) bytes) (λ x. Ok (front ++ x.0, x.1)) y)

pub no_weight : {A : Type 0} (row : A → RowId) (read : ℕ → List (List ℕ) → Result A BadText) (e : TextEnd) (front : List A) (count i : ℕ) (last : Option RowId)
    (line : ℕ) (bytes : List ℕ) (l : List (List ℕ) × List ℕ) (total : Result (List A × List ℕ) BadText) → i < count → words_at (line + i) bytes ≡ Ok l
    → Fails e (read_after row read last (line + i) l.0)
    → with_front front (rising_at row read (count - i) last (line + i) bytes) ≡ total → Fails e total
no_weight row read e front count i last line bytes l total lt p h so_far =
    let x = fails_then e (read_after row read last (line + i) l.0) (λ w. rising_at row read (count - (i + 1)) (Some (row w)) (line + i + 1) l.1 >>= λ x. Ok (w ∷ x.0, x.1)) h in
    let one : (words_at (line + i) bytes >>= row_then row read (count - (i + 1)) last (line + i)) ≡ row_then row read (count - (i + 1)) last (line + i) l =
    then_ok (words_at (line + i) bytes) l (row_then row read (count - (i + 1)) last (line + i)) p in
    let y = fails_as e _ (rising_at row read (count - i) last (line + i) bytes) (sym (next row read count i last line bytes lt ∙ one)) x in
    fails_as e _ total so_far (fails_then e (rising_at row read (count - i) last (line + i) bytes) (λ x. Ok (front ++ x.0, x.1)) y)

pub is_done : {A : Type 0} (row : A → RowId) (read : ℕ → List (List ℕ) → Result A BadText) (front : List A) (count i : ℕ) (last : Option RowId) (line : ℕ)
    (bytes : List ℕ) (total : Result (List A × List ℕ) BadText) → count ≤ i → with_front front (rising_at row read (count - i) last (line + i) bytes) ≡ total → total ≡ Ok (front, bytes)
unfolding rising_at
is_done {A = A} row read front count i last line bytes total le so_far =
    let n : count - i ≡ 0 = omega arith in
    sym so_far ∙ ap (λ (n : ℕ). with_front front (rising_at row read n last (line + i) bytes)) n ∙ ap (λ (y : List A). Ok (y, bytes)) (append-nil front)

-- ---- how many there are

pub rising_lengths : {A : Type 0} (row : A → RowId) (read : ℕ → List (List ℕ) → Result A BadText) (n : ℕ) (last : Option RowId) (line : ℕ) (bytes : List ℕ) (x : List A × List ℕ)
    → rising_at row read n last line bytes ≡ Ok x → (length x.0 ≡ n) × (n + length x.1 ≤ length bytes)
unfolding rising_at
rising_lengths row read zero last line bytes x e = moved (λ y. (length y.0 ≡ 0) × (0 + length y.1 ≤ length bytes)) ([], bytes) x e (refl, omega arith)
rising_lengths row read (suc n) last line bytes x e =
    let a = bind_ok (words_at line bytes) (row_then row read n last line) x e in
    let b = bind_ok (read_after row read last line a.0.0) (λ w. rising_at row read n (Some (row w)) (line + 1) a.0.1 >>= λ ws. Ok (w ∷ ws.0, ws.1)) x a.2 in
    let d = bind_ok (rising_at row read n (Some (row b.0)) (line + 1) a.0.1) (λ ws. Ok (b.0 ∷ ws.0, ws.1)) x b.2 in
    let more = rising_lengths row read n (Some (row b.0)) (line + 1) a.0.1 d.0 d.1 in
    let shorter = words_shorter line bytes a.0 a.1 in
    moved (λ y. (length y.0 ≡ suc n) × (suc n + length y.1 ≤ length bytes)) (b.0 ∷ d.0.0, d.0.1) x d.2 (omega (arith, more.0), omega (arith, more.1))

-- ---- what is read is spelled so, and what is spelled so is read

abbrev pub AscendBy : {A : Type 0} → (A → RowId) → Option RowId → List A → Type 0
AscendBy row last [] = Unit {0}
AscendBy row last (x ∷ xs) = (is_after last (row x) ≡ true) × AscendBy row (Some (row x)) xs

pub record LinesOf {A : Type 0} (row : A → RowId) (spell : A → List (List ℕ)) (Kept : A → Type 0) (last : Option RowId) (bytes : List ℕ) (x : List A × List ℕ) : Type 0 where
  pub parts : bytes ≡ ended_and (map (λ a. line_of (spell a)) x.0) x.1
  pub ascend : AscendBy row last x.0
  pub kept : AllByRecursion Kept x.0

after_takes : {A : Type 0} (row : A → RowId) (read : ℕ → List (List ℕ) → Result A BadText) (last : Option RowId) (line : ℕ) (ws : List (List ℕ)) (x : A)
    → read_after row read last line ws ≡ Ok x → (read line ws ≡ Ok x) × (is_after last (row x) ≡ true)
unfolding read_after
after_takes row read last line ws x e =
    let a = bind_ok (read line ws) (λ w. if is_after last (row w) then Ok w else fault line Order) x e in
    let g = guard_ok (is_after last (row a.0)) line Order (Ok a.0) x a.2 in
    moved (λ y. (read line ws ≡ Ok y) × (is_after last (row y) ≡ true)) a.0 x g.1 (a.1, g.0)

pub rising_takes : {A : Type 0} (row : A → RowId) (read : ℕ → List (List ℕ) → Result A BadText) (spell : A → List (List ℕ)) (Kept : A → Type 0)
    → ((line : ℕ) (ws : List (List ℕ)) (x : A) → read line ws ≡ Ok x → (ws ≡ spell x) × Kept x)
    → (n : ℕ) (last : Option RowId) (line : ℕ) (bytes : List ℕ) (x : List A × List ℕ) → rising_at row read n last line bytes ≡ Ok x → LinesOf row spell Kept last bytes x
unfolding rising_at
rising_takes row read spell Kept takes zero last line bytes x e = moved (LinesOf row spell Kept last bytes) ([], bytes) x e (record { parts = refl; ascend = tt; kept = tt })
rising_takes row read spell Kept takes (suc n) last line bytes x e =
    let a = bind_ok (words_at line bytes) (row_then row read n last line) x e in
    let b = bind_ok (read_after row read last line a.0.0) (λ w. rising_at row read n (Some (row w)) (line + 1) a.0.1 >>= λ ws. Ok (w ∷ ws.0, ws.1)) x a.2 in
    let d = bind_ok (rising_at row read n (Some (row b.0)) (line + 1) a.0.1) (λ ws. Ok (b.0 ∷ ws.0, ws.1)) x b.2 in
    let f = after_takes row read last line a.0.0 b.0 b.1 in
    let t = takes line a.0.0 b.0 f.0 in
    let more = rising_takes row read spell Kept takes n (Some (row b.0)) (line + 1) a.0.1 d.0 d.1 in
    moved (LinesOf row spell Kept last bytes) (b.0 ∷ d.0.0, d.0.1) x d.2 (record {
      parts = words_take line bytes a.0 a.1 ∙ (λ i. line_of (t.0 i) ++ 10 ∷ more.parts i);
      ascend = (f.1, more.ascend);
      kept = (t.1, more.kept);
    })

-- a line that is read as this
pub record ReadsAs {A : Type 0} (read : ℕ → List (List ℕ) → Result A BadText) (spell : A → List (List ℕ)) (x : A) : Type 0 where
  pub again : (line : ℕ) → read line (spell x) ≡ Ok x
  pub words : (line : ℕ) (rest : List ℕ) → words_at line (line_of (spell x) ++ 10 ∷ rest) ≡ Ok (spell x, rest)

pub rising_again : {A : Type 0} (row : A → RowId) (read : ℕ → List (List ℕ) → Result A BadText) (spell : A → List (List ℕ)) (xs : List A) (last : Option RowId) (line : ℕ) (rest : List ℕ)
    → AscendBy row last xs → AllByRecursion (ReadsAs read spell) xs
    → rising_at row read (length xs) last line (ended_and (map (λ a. line_of (spell a)) xs) rest) ≡ Ok (xs, rest)
unfolding rising_at read_after
rising_again row read spell [] last line rest ascend reads = refl
rising_again row read spell (x ∷ xs) last line rest ascend reads =
    rw (reads.0.words line (ended_and (map (λ a. line_of (spell a)) xs) rest), reads.0.again line, ascend.0, rising_again row read spell xs (Some (row x)) (line + 1) rest ascend.1 reads.1) refl

-- ---- the last line apart

-- what was read of the lines before the last one, the last one's words, and its item
pub record LastOf {A : Type 0} (row : A → RowId) (read : ℕ → List (List ℕ) → Result A BadText) (n : ℕ) (last : Option RowId) (line : ℕ) (bytes : List ℕ) (x : List A × List ℕ) : Type 0 where
  pub before : List A × List ℕ
  pub words : List (List ℕ) × List ℕ
  pub item : A
  pub read_before : rising_at row read n last line bytes ≡ Ok before
  pub read_words : words_at (line + n) before.1 ≡ Ok words
  pub read_item : read (line + n) words.0 ≡ Ok item
  pub ascends : is_after (last_row row last before.0) (row item) ≡ true
  pub is : x ≡ (before.0 ++ item ∷ [], words.1)

none_rise : {A : Type 0} (row : A → RowId) (read : ℕ → List (List ℕ) → Result A BadText) (last : Option RowId) (line : ℕ) (bytes : List ℕ) → rising_at row read zero last line bytes ≡ Ok ([], bytes)
unfolding rising_at
none_rise row read last line bytes = refl

abbrev and_items : {A : Type 0} → A → List A × List ℕ → Result (List A × List ℕ) BadText
and_items x xs = Ok (x ∷ xs.0, xs.1)

abbrev items_then : {A : Type 0} → (A → RowId) → (ℕ → List (List ℕ) → Result A BadText) → ℕ → ℕ → List ℕ → A → Result (List A × List ℕ) BadText
items_then row read n line bytes x = rising_at row read n (Some (row x)) (line + 1) bytes >>= and_items x

-- one line, and so many more
one_more : {A : Type 0} (row : A → RowId) (read : ℕ → List (List ℕ) → Result A BadText) (n : ℕ) (last : Option RowId) (line : ℕ) (bytes : List ℕ)
    (l : List (List ℕ) × List ℕ) (w : A) (xs : List A × List ℕ) → words_at line bytes ≡ Ok l → read_after row read last line l.0 ≡ Ok w → rising_at row read n (Some (row w)) (line + 1) l.1 ≡ Ok xs
    → rising_at row read (suc n) last line bytes ≡ Ok (w ∷ xs.0, xs.1)
one_more row read n last line bytes l w xs p q more =
    step row read n last line bytes
    ∙ then_ok (words_at line bytes) l (row_then row read n last line) p
    ∙ then_ok (read_after row read last line l.0) w (items_then row read n line l.1) q
    ∙ then_ok (rising_at row read n (Some (row w)) (line + 1) l.1) xs (and_items w) more

after_reads : {A : Type 0} (row : A → RowId) (read : ℕ → List (List ℕ) → Result A BadText) (last : Option RowId) (line : ℕ) (ws : List (List ℕ)) (x : A)
    → read line ws ≡ Ok x → is_after last (row x) ≡ true → read_after row read last line ws ≡ Ok x
unfolding read_after
after_reads row read last line ws x e a = rw (e, a) refl

-- one line more at the end
pub rising_joins : {A : Type 0} (row : A → RowId) (read : ℕ → List (List ℕ) → Result A BadText) (n : ℕ) (last : Option RowId) (line : ℕ) (bytes : List ℕ) (x : List A × List ℕ)
    → LastOf row read n last line bytes x → rising_at row read (suc n) last line bytes ≡ Ok x
rising_joins row read zero last line bytes x h =
    let at : line + zero ≡ line = omega arith in
    let start = moved (λ (y : List _ × List ℕ). words_at line y.1 ≡ Ok h.words → is_after (last_row row last y.0) (row h.item) ≡ true
    → rising_at row read 1 last line bytes ≡ Ok (y.0 ++ h.item ∷ [], h.words.1)) ([], bytes) h.before (sym (none_rise row read last line bytes) ∙ h.read_before)
    (λ p a. one_more row read zero last line bytes h.words h.item ([], h.words.1) p (after_reads row read last line h.words.0 h.item
    (subst (λ (k : ℕ). read k h.words.0 ≡ Ok h.item) at h.read_item) a) (none_rise row read (Some (row h.item)) (line + 1) h.words.1)) in
    start (subst (λ (k : ℕ). words_at k h.before.1 ≡ Ok h.words) at h.read_words) h.ascends ∙ ap (λ (y : List _ × List ℕ). Ok y) (sym h.is)
rising_joins row read (suc n) last line bytes x h =
    let p = bind_ok (words_at line bytes) (row_then row read n last line) h.before (sym (step row read n last line bytes) ∙ h.read_before) in
    let q = bind_ok (read_after row read last line p.0.0) (items_then row read n line p.0.1) h.before p.2 in
    let d = bind_ok (rising_at row read n (Some (row q.0)) (line + 1) p.0.1) (and_items q.0) h.before q.2 in
    let at : line + suc n ≡ line + 1 + n = omega arith in
    let all = moved (λ (y : List _ × List ℕ). words_at (line + suc n) y.1 ≡ Ok h.words → is_after (last_row row last y.0) (row h.item) ≡ true
    → rising_at row read (suc (suc n)) last line bytes ≡ Ok (y.0 ++ h.item ∷ [], h.words.1)) (q.0 ∷ d.0.0, d.0.1) h.before d.2
    (λ w a. one_more row read (suc n) last line bytes p.0 q.0 (d.0.0 ++ h.item ∷ [], h.words.1) p.1 q.1
    (rising_joins row read n (Some (row q.0)) (line + 1) p.0.1 (d.0.0 ++ h.item ∷ [], h.words.1) (record {
      before = d.0;
      words = h.words;
      item = h.item;
      read_before = d.1;
      read_words = subst (λ (k : ℕ). words_at k d.0.1 ≡ Ok h.words) at w;
      read_item = subst (λ (k : ℕ). read k h.words.0 ≡ Ok h.item) at h.read_item;
      ascends = a;
      is = refl;
    }))) in
    all h.read_words h.ascends ∙ ap (λ (y : List _ × List ℕ). Ok y) (sym h.is)

-- and the last of some lines
pub rising_parts : {A : Type 0} (row : A → RowId) (read : ℕ → List (List ℕ) → Result A BadText) (n : ℕ) (last : Option RowId) (line : ℕ) (bytes : List ℕ) (x : List A × List ℕ)
    → rising_at row read (suc n) last line bytes ≡ Ok x → LastOf row read n last line bytes x
rising_parts row read zero last line bytes x e =
    let p = bind_ok (words_at line bytes) (row_then row read zero last line) x (sym (step row read zero last line bytes) ∙ e) in
    let q = bind_ok (read_after row read last line p.0.0) (items_then row read zero line p.0.1) x p.2 in
    let d = bind_ok (rising_at row read zero (Some (row q.0)) (line + 1) p.0.1) (and_items q.0) x q.2 in
    let f = after_takes row read last line p.0.0 q.0 q.1 in
    let at : line ≡ line + zero = omega arith in
    record {
      before = ([], bytes);
      words = p.0;
      item = q.0;
      read_before = none_rise row read last line bytes;
      read_words = subst (λ (k : ℕ). words_at k bytes ≡ Ok p.0) at p.1;
      read_item = subst (λ (k : ℕ). read k p.0.0 ≡ Ok q.0) at f.0;
      ascends = f.1;
      is = sym (moved (λ (y : List _ × List ℕ). (q.0 ∷ y.0, y.1) ≡ x) d.0 ([], p.0.1) (sym d.1 ∙ none_rise row read (Some (row q.0)) (line + 1) p.0.1) (ok_is (q.0 ∷ d.0.0, d.0.1) x d.2));
    }
rising_parts row read (suc n) last line bytes x e =
    let p = bind_ok (words_at line bytes) (row_then row read (suc n) last line) x (sym (step row read (suc n) last line bytes) ∙ e) in
    let q = bind_ok (read_after row read last line p.0.0) (items_then row read (suc n) line p.0.1) x p.2 in
    let d = bind_ok (rising_at row read (suc n) (Some (row q.0)) (line + 1) p.0.1) (and_items q.0) x q.2 in
    let r = rising_parts row read n (Some (row q.0)) (line + 1) p.0.1 d.0 d.1 in
    let at : line + 1 + n ≡ line + suc n = omega arith in
    record {
      before = (q.0 ∷ r.before.0, r.before.1);
      words = r.words;
      item = r.item;
      read_before = one_more row read n last line bytes p.0 q.0 r.before p.1 q.1 r.read_before;
      read_words = subst (λ (k : ℕ). words_at k r.before.1 ≡ Ok r.words) at r.read_words;
      read_item = subst (λ (k : ℕ). read k r.words.0 ≡ Ok r.item) at r.read_item;
      ascends = r.ascends;
      is = sym (ok_is (q.0 ∷ d.0.0, d.0.1) x d.2) ∙ ap (λ (y : List _ × List ℕ). (q.0 ∷ y.0, y.1)) r.is;
    }
