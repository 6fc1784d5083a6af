-- A node that is read is the node that was written, and what was written is read again.
use Rattle.std.proofs.Common.{◌≡◌, ℕ, zero, suc, ◌+◌, ◌-◌, ◌<◌, ◌≤◌, ◌^◌, Bool, true, false, List, [], ◌∷◌, ◌++◌, map, length, Option, Some, None}
use Rattle.std.proofs.Common.{pos, eqb-true, Result, Ok, Err, refl, sym, ap, subst, ◌∙◌, arith}
use Rattle.std.specs.Prelude.{if◌then◌else◌, flat_map}
use Rattle.std.proofs.lemmas.Bool.{eq-eqb}
use Rattle.std.specs.Fmt.{decimal, signed_decimal}
use Rattle.std.specs.List.{AllByRecursion}
use Rattle.std.proofs.lemmas.List.Elements.{All-from_recursion}
use Rattle.search_box.specs.declared.span.At.{At}
use Rattle.search_box.specs.declared.span.At.TheVariants.{Loop, Turn}
use Rattle.plan_text.specs.declared.fault.BadText.{BadText}
use Rattle.plan_text.specs.declared.fault.TextFault.TheVariants.{Ended, Shape}
use Rattle.named_row.specs.declared.leaves.Weight.{Weight}
use Rattle.named_row.specs.declared.names.RowId.{RowId}
use Rattle.plan_text.specs.declared.form.LeafForm.{LeafForm}
use Rattle.plan_text.specs.declared.form.LeafForm.TheVariants.{Over, Plain}
use Rattle.plan_text.specs.declared.tree.NodeHead.{NodeHead}
use Rattle.plan_text.specs.declared.tree.NodeHead.TheVariants as heads
use Rattle.certificate_model.specs.Words.{is_text, line_of}
use Rattle.plan_text.specs.Numbers.{number}
use Rattle.plan_text.specs.Fractions.{integer, exact}
use Rattle.plan_text.specs.Lines.{◌>>=◌, fault, ranged, line_at, words_at}
use Rattle.certificate_model.specs.Families.{Table, IsNamedIn}
use Rattle.certificate_model.specs.Warrants.{Node, SplitAt, LeafOf, AreTrees, Ascend, IsNodeIn}
use Rattle.certificate_model.proofs.KeptNodes.{IsNode}
use Rattle.plan_text.specs.CertificateText.{split_key, loop_key, turn_key, leaf_key, split_words, IsHeldWeight, IsHeldNode}
use Rattle.plan_text.specs.Leaves.{form_of}
use Rattle.plan_text.specs.Namings.{Naming, Named, Listed, fractions_key, IsFormed, same_form, is_form, weight_words, weight_line, first_words, leaf_lines, form_by, node_lines}
use Rattle.plan_text.specs.CertificateReading.{row_of_weight, weight_of, above_zero, leaf_count, over_head, or_number, range_of, index_of, split_of}
use Rattle.plan_text.specs.CertificateReading.{head_of, leaf_at, rest_of, node_at, owed_after, nodes_at}
use Rattle.plan_text.proofs.Fields.{bind_ok, guard_ok, moved, same_text, text_same, number_takes, number_again, IsKey}
use Rattle.plan_text.proofs.ExactWords.{integer_takes, integer_again, integer_word, decimal_word}
use Rattle.plan_text.proofs.WordLines.{number_ok, words_take, words_shorter, words_again, ended_and, ended_more}
use Rattle.plan_text.proofs.WeightLines.{index_takes, index_again}
use Rattle.plan_text.proofs.Multipliers.{Suits, whole_word, denominator_takes, denominator_again}
use Rattle.plan_text.proofs.NamedRows.{IsOver, IsTold, KeptWeight, weight_takes, weight_reads}
use Rattle.plan_text.proofs.RowLoop.{AscendBy, ReadsAs, rising_lengths, rising_takes, rising_again}
use Rattle.plan_text.proofs.LeafLines.{leaf_takes, leaf_reads}

-- ---- the first line of a node

-- the words of a split
pub record SplitOf (ws : List (List ℕ)) (at : At) : Type 0 where
  pub spelled : ws ≡ split_words at
  pub kept : IsNode (SplitAt at)
  pub held : IsHeldNode (SplitAt at)

loop_takes : (line : ℕ) (i place : List ℕ) (at : At) → (index_of line i >>= λ link. or_number line (integer place) >>= λ at. Ok (Loop link at)) ≡ Ok at
    → SplitOf (split_key ∷ loop_key ∷ i ∷ place ∷ []) at
loop_takes line i place at e =
    let a = bind_ok (index_of line i) (λ link. or_number line (integer place) >>= λ at. Ok (Loop link at)) at e in
    let b = bind_ok (or_number line (integer place)) (λ at. Ok (Loop a.0 at)) at a.2 in
    let n = index_takes line i a.0 a.1 in
    let z = integer_takes place b.0 (number_ok line (integer place) b.0 b.1) in
    moved (SplitOf (split_key ∷ loop_key ∷ i ∷ place ∷ [])) (Loop a.0 b.0) at b.2 (record {
      spelled = λ j. split_key ∷ loop_key ∷ n.spelled j ∷ z.spelled j ∷ [];
      kept = n.least;
      held = (n.most, z.fits);
    })

turn_takes : (line : ℕ) (i place : List ℕ) (at : At) → (index_of line i >>= λ signal. ranged (range_of line 0 (2 ^ 32 - 1)) (number place) >>= λ rank. Ok (Turn signal rank)) ≡ Ok at
    → SplitOf (split_key ∷ turn_key ∷ i ∷ place ∷ []) at
turn_takes line i place at e =
    let a = bind_ok (index_of line i) (λ signal. ranged (range_of line 0 (2 ^ 32 - 1)) (number place) >>= λ rank. Ok (Turn signal rank)) at e in
    let b = bind_ok (ranged (range_of line 0 (2 ^ 32 - 1)) (number place)) (λ rank. Ok (Turn a.0 rank)) at a.2 in
    let n = index_takes line i a.0 a.1 in
    let r = number_takes (range_of line 0 (2 ^ 32 - 1)) place b.0 b.1 in
    let g = r.1.greatest in
    moved (SplitOf (split_key ∷ turn_key ∷ i ∷ place ∷ [])) (Turn a.0 b.0) at b.2 (record {
      spelled = λ j. split_key ∷ turn_key ∷ n.spelled j ∷ r.0 j ∷ [];
      kept = n.least;
      held = (n.most, omega arith);
    })

turn_by : (line : ℕ) (kind i place : List ℕ) (at : At) (b : Bool) → (b ≡ true → kind ≡ turn_key)
    → (if b then (index_of line i >>= λ signal. ranged (range_of line 0 (2 ^ 32 - 1)) (number place) >>= λ rank. Ok (Turn signal rank)) else fault line Shape) ≡ Ok at
    → SplitOf (split_key ∷ kind ∷ i ∷ place ∷ []) at
turn_by line kind i place at true is e = subst (λ (k : List ℕ). SplitOf (split_key ∷ k ∷ i ∷ place ∷ []) at) (sym (is refl)) (turn_takes line i place at e)
turn_by line kind i place at false is e = absurd cc

split_by : (line : ℕ) (kind i place : List ℕ) (at : At) (b : Bool) → (b ≡ true → kind ≡ loop_key)
    → (if b then (index_of line i >>= λ link. or_number line (integer place) >>= λ at. Ok (Loop link at)) else
    (if is_text kind turn_key then (index_of line i >>= λ signal. ranged (range_of line 0 (2 ^ 32 - 1)) (number place) >>= λ rank. Ok (Turn signal rank)) else fault line Shape)) ≡ Ok at
    → SplitOf (split_key ∷ kind ∷ i ∷ place ∷ []) at
split_by line kind i place at true is e = subst (λ (k : List ℕ). SplitOf (split_key ∷ k ∷ i ∷ place ∷ []) at) (sym (is refl)) (loop_takes line i place at e)
split_by line kind i place at false is e = turn_by line kind i place at (is_text kind turn_key) (same_text kind turn_key) e

split_takes : (line : ℕ) (kind i place : List ℕ) (at : At) → split_of line kind i place ≡ Ok at → SplitOf (split_key ∷ kind ∷ i ∷ place ∷ []) at
unfolding split_of
split_takes line kind i place at e = split_by line kind i place at (is_text kind loop_key) (same_text kind loop_key) e

-- by names a leaf is always of fractions
abbrev FormSuits : Naming → LeafForm → Type 0
FormSuits (Named table) form = form ≡ Plain
FormSuits (Listed rows) form = Unit {0}

form_suits : (names : Naming) (ws : List Weight) → FormSuits names (form_by names ws)
form_suits (Named table) ws = refl
form_suits (Listed rows) ws = tt

plain_suits : (names : Naming) → FormSuits names Plain
plain_suits (Named table) = refl
plain_suits (Listed rows) = tt

-- what a node's first line says, where leaves go by names or by places
abbrev pub HeadOf : Naming → List (List ℕ) → NodeHead → Type 0
HeadOf names ws (heads.Split at) = SplitOf ws at
HeadOf names ws (heads.Leaf n form) = (ws ≡ first_words names form n) × (n ≤ 10000) × IsFormed form × FormSuits names form

leaf_head : (names : Naming) (line : ℕ) (key n : List ℕ) (h : NodeHead)
    → (if is_text key (fractions_key names) then (leaf_count line n >>= λ count. Ok (heads.Leaf count Plain)) else fault line Shape) ≡ Ok h → HeadOf names (key ∷ n ∷ []) h
leaf_head names line key n h e =
    let g = guard_ok (is_text key (fractions_key names)) line Shape (leaf_count line n >>= λ count. Ok (heads.Leaf count Plain)) h e in
    let a = bind_ok (leaf_count line n) (λ count. Ok (heads.Leaf count Plain)) h g.1 in
    let t = number_takes (range_of line 0 10000) n a.0 a.1 in
    let k = same_text key (fractions_key names) g.0 in
    moved (HeadOf names (key ∷ n ∷ [])) (heads.Leaf a.0 Plain) h a.2 ((λ j. k j ∷ t.0 j ∷ []), t.1.greatest, tt, plain_suits names)

over_takes : (names : Naming) (line : ℕ) (key d n : List ℕ) (h : NodeHead) → over_head names line key d n ≡ Ok h → HeadOf names (key ∷ d ∷ n ∷ []) h
unfolding over_head
over_takes (Named table) line key d n h e = absurd cc
over_takes (Listed rows) line key d n h e =
    let g = guard_ok (is_text key leaf_key) line Shape (or_number line (above_zero (exact d)) >>= λ denominator. leaf_count line n >>= λ count. Ok (heads.Leaf count (Over denominator))) h e in
    let a = bind_ok (or_number line (above_zero (exact d))) (λ denominator. leaf_count line n >>= λ count. Ok (heads.Leaf count (Over denominator))) h g.1 in
    let b = bind_ok (leaf_count line n) (λ count. Ok (heads.Leaf count (Over a.0))) h a.2 in
    let f = denominator_takes line d a.0 a.1 in
    let t = number_takes (range_of line 0 10000) n b.0 b.1 in
    let k = same_text key leaf_key g.0 in
    moved (HeadOf (Listed rows) (key ∷ d ∷ n ∷ [])) (heads.Leaf b.0 (Over a.0)) h b.2 ((λ j. k j ∷ f.spelled j ∷ t.0 j ∷ []), t.1.greatest, f.formed, tt)

split_head : (names : Naming) (line : ℕ) (key kind i place : List ℕ) (h : NodeHead)
    → (if is_text key split_key then (split_of line kind i place >>= λ at. Ok (heads.Split at)) else fault line Shape) ≡ Ok h → HeadOf names (key ∷ kind ∷ i ∷ place ∷ []) h
split_head names line key kind i place h e =
    let g = guard_ok (is_text key split_key) line Shape (split_of line kind i place >>= λ at. Ok (heads.Split at)) h e in
    let a = bind_ok (split_of line kind i place) (λ at. Ok (heads.Split at)) h g.1 in
    moved (HeadOf names (key ∷ kind ∷ i ∷ place ∷ [])) (heads.Split a.0) h a.2
    (subst (λ (k : List ℕ). SplitOf (k ∷ kind ∷ i ∷ place ∷ []) a.0) (sym (same_text key split_key g.0)) (split_takes line kind i place a.0 a.1))

pub head_takes : (names : Naming) (line : ℕ) (ws : List (List ℕ)) (h : NodeHead) → head_of names line ws ≡ Ok h → HeadOf names ws h
unfolding head_of
head_takes names line [] h e = absurd cc
head_takes names line (a ∷ []) h e = absurd cc
head_takes names line (a ∷ b ∷ []) h e = leaf_head names line a b h e
head_takes names line (a ∷ b ∷ c ∷ []) h e = over_takes names line a b c h e
head_takes names line (a ∷ b ∷ c ∷ d ∷ []) h e = split_head names line a b c d h e
head_takes names line (a ∷ b ∷ c ∷ d ∷ f ∷ ws) h e = absurd cc

split_again : (names : Naming) (line : ℕ) (at : At) → IsNode (SplitAt at) → IsHeldNode (SplitAt at) → head_of names line (split_words at) ≡ Ok (heads.Split at)
unfolding head_of split_of
split_again names line (Loop link at) kept held = rw (index_again line link kept held.0, integer_again at held.1) refl
split_again names line (Turn signal rank) kept held =
    let few = held.1 in
    rw (index_again line signal kept held.0, number_again (range_of line 0 (2 ^ 32 - 1)) rank (record { least = omega arith; greatest = omega arith; limit = omega arith })) refl

leaf_again : (names : Naming) (form : LeafForm) (line n : ℕ) → FormSuits names form → IsFormed form → n ≤ 10000 → head_of names line (first_words names form n) ≡ Ok (heads.Leaf n form)
unfolding head_of over_head
leaf_again names Plain line n suits formed few = rw (text_same (fractions_key names), number_again (range_of line 0 10000) n (record { least = omega arith; greatest = few; limit = omega arith })) refl
leaf_again (Named table) (Over d) line n suits formed few = absurd cc
leaf_again (Listed rows) (Over d) line n suits formed few =
    rw (denominator_again line d formed, number_again (range_of line 0 10000) n (record { least = omega arith; greatest = few; limit = omega arith })) refl

split_line : (line : ℕ) (at : At) (rest : List ℕ) → IsHeldNode (SplitAt at) → words_at line (line_of (split_words at) ++ 10 ∷ rest) ≡ Ok (split_words at, rest)
split_line line (Loop link at) rest held =
    let few = held.0 in
    words_again line split_key (loop_key ∷ decimal link ∷ signed_decimal at ∷ []) rest
    (record { spaces = refl; feeds = refl }, (record { spaces = refl; feeds = refl }, (decimal_word link (omega arith), (integer_word at held.1, tt))))
split_line line (Turn signal rank) rest held =
    let few = held.0 in
    let small = held.1 in
    words_again line split_key (turn_key ∷ decimal signal ∷ decimal rank ∷ []) rest
    (record { spaces = refl; feeds = refl }, (record { spaces = refl; feeds = refl }, (decimal_word signal (omega arith), (decimal_word rank (omega arith), tt))))

fractions_is_key : (names : Naming) → IsKey (fractions_key names)
fractions_is_key (Named table) = record { spaces = refl; feeds = refl }
fractions_is_key (Listed rows) = record { spaces = refl; feeds = refl }

leaf_line : (names : Naming) (form : LeafForm) (line n : ℕ) (rest : List ℕ) → IsFormed form → n ≤ 10000
    → words_at line (line_of (first_words names form n) ++ 10 ∷ rest) ≡ Ok (first_words names form n, rest)
leaf_line names Plain line n rest formed few = words_again line (fractions_key names) (decimal n ∷ []) rest (fractions_is_key names, (decimal_word n (omega arith), tt))
leaf_line names (Over d) line n rest formed few = words_again line leaf_key (decimal d ∷ decimal n ∷ []) rest (
  record { spaces = refl; feeds = refl },
  (whole_word (pos d) formed.1, (decimal_word n (omega arith), tt)),
)

-- ---- a node

-- how much a node takes
pub record NodeLengths (line : ℕ) (bytes : List ℕ) (x : Node × ℕ × List ℕ) : Type 0 where
  pub shorter : length x.2 < length bytes
  pub lines : x.1 + length x.2 ≤ line + length bytes

rest_lengths : (names : Naming) (line : ℕ) (bytes after : List ℕ) (h : NodeHead) (x : Node × ℕ × List ℕ) → length after + 1 ≤ length bytes
    → rest_of names h line after ≡ Ok x → NodeLengths line bytes x
unfolding rest_of
rest_lengths names line bytes after (heads.Split at) x shorter e = moved (NodeLengths line bytes) (SplitAt at, line + 1, after) x e (record { shorter = omega arith; lines = omega arith })
rest_lengths names line bytes after (heads.Leaf n form) x shorter e =
    let a = bind_ok (leaf_at names form n line after) (λ ws. Ok (LeafOf ws.0, line + 1 + n, ws.1)) x e in
    let few = (rising_lengths row_of_weight (weight_of names form) n None (line + 1) after a.0 (leaf_takes names form n line after a.0 a.1).0).1 in
    moved (NodeLengths line bytes) (LeafOf a.0.0, line + 1 + n, a.0.1) x a.2 (record { shorter = omega (arith, few); lines = omega (arith, few) })

pub node_lengths : (names : Naming) (line : ℕ) (bytes : List ℕ) (x : Node × ℕ × List ℕ) → node_at names line bytes ≡ Ok x → NodeLengths line bytes x
unfolding node_at
node_lengths names line bytes x e =
    let a = bind_ok (words_at line bytes) (λ l. head_of names line l.0 >>= λ head. rest_of names head line l.1) x e in
    let b = bind_ok (head_of names line a.0.0) (λ head. rest_of names head line a.0.1) x a.2 in
    rest_lengths names line bytes a.0.1 b.0 x (words_shorter line bytes a.0 a.1) b.2

-- what was read of a node
pub record NodeOf (names : Naming) (table : Table) (bytes : List ℕ) (x : Node × ℕ × List ℕ) : Type 0 where
  pub parts : bytes ≡ ended_and (node_lines names x.0) x.2
  pub kept : IsNodeIn table x.0
  pub held : IsHeldNode x.0

same_form_is : (f g : LeafForm) → same_form f g ≡ true → f ≡ g
same_form_is Plain Plain e = refl
same_form_is Plain (Over d) e = absurd cc
same_form_is (Over d) Plain e = absurd cc
same_form_is (Over d) (Over k) e = ap (λ (n : ℕ). Over n) (eqb-true d k e)

pub same_form_again : (f : LeafForm) → same_form f f ≡ true
same_form_again Plain = refl
same_form_again (Over d) = eq-eqb d d refl

kept_rows : (table : Table) (ws : List Weight) → AllByRecursion (KeptWeight table) ws → AllByRecursion (λ w. IsNamedIn table w.row) ws
kept_rows table [] all = tt
kept_rows table (w ∷ ws) all = (all.0.row.named, kept_rows table ws all.1)

held_rows : (table : Table) (ws : List Weight) → AllByRecursion (KeptWeight table) ws → AllByRecursion IsHeldWeight ws
held_rows table [] all = tt
held_rows table (w ∷ ws) all = (record { index = all.0.row.index; by = all.0.by }, held_rows table ws all.1)

ascend_from : (last : Option RowId) (ws : List Weight) → AscendBy row_of_weight last ws → Ascend last ws
ascend_from last [] a = tt
ascend_from last (w ∷ ws) a = (a.0, ascend_from (Some w.row) ws a.1)

ascend_to : (last : Option RowId) (ws : List Weight) → Ascend last ws → AscendBy row_of_weight last ws
ascend_to last [] a = tt
ascend_to last (w ∷ ws) a = (a.0, ascend_to (Some w.row) ws a.1)

-- a leaf was read in the form in which it had to be written
leaf_parts : (names : Naming) (form : LeafForm) (ws : List Weight) → FormSuits names form → is_form names form ws ≡ true → form ≡ form_by names ws
leaf_parts (Named table) form ws suits e = suits
leaf_parts (Listed rows) form ws suits e = sym (same_form_is (form_of ws) form e)

node_from : (names : Naming) (table : Table) (line : ℕ) (bytes : List ℕ) (ws : List (List ℕ)) (after : List ℕ) (h : NodeHead) (x : Node × ℕ × List ℕ)
    → IsOver names table → bytes ≡ line_of ws ++ 10 ∷ after → HeadOf names ws h → rest_of names h line after ≡ Ok x → NodeOf names table bytes x
unfolding rest_of node_lines
node_from names table line bytes ws after (heads.Split at) x over parts h e =
    moved (NodeOf names table bytes) (SplitAt at, line + 1, after) x e (record {
      parts = parts ∙ ap (λ (v : List (List ℕ)). line_of v ++ 10 ∷ after) h.spelled;
      kept = h.kept;
      held = h.held;
    })
node_from names table line bytes ws after (heads.Leaf n form) x over parts h e =
    let a = bind_ok (leaf_at names form n line after) (λ ws. Ok (LeafOf ws.0, line + 1 + n, ws.1)) x e in
    let l = leaf_takes names form n line after a.0 a.1 in
    let count = (rising_lengths row_of_weight (weight_of names form) n None (line + 1) after a.0 l.0).0 in
    let t = rising_takes row_of_weight (weight_of names form) (weight_words names form) (KeptWeight table) (weight_takes names table form over h.2) n None (line + 1) after a.0 l.0 in
    let words : ws ≡ first_words names form (length a.0.0) = h.0 ∙ ap (first_words names form) (sym count) in
    moved (NodeOf names table bytes) (LeafOf a.0.0, line + 1 + n, a.0.1) x a.2 (record {
      parts = parts ∙ (λ i. line_of (words i) ++ 10 ∷ t.parts i) ∙ ap (λ (f : LeafForm). ended_and (leaf_lines names f a.0.0) a.0.1) (leaf_parts names form a.0.0 h.3 l.1);
      kept = (omega (arith, count, h.1), ascend_from None a.0.0 t.ascend, All-from_recursion (λ w. IsNamedIn table w.row) a.0.0 (kept_rows table a.0.0 t.kept));
      held = All-from_recursion IsHeldWeight a.0.0 (held_rows table a.0.0 t.kept);
    })

pub node_takes : (names : Naming) (table : Table) (line : ℕ) (bytes : List ℕ) (x : Node × ℕ × List ℕ) → IsOver names table → node_at names line bytes ≡ Ok x → NodeOf names table bytes x
unfolding node_at
node_takes names table line bytes x over e =
    let a = bind_ok (words_at line bytes) (λ l. head_of names line l.0 >>= λ head. rest_of names head line l.1) x e in
    let b = bind_ok (head_of names line a.0.0) (λ head. rest_of names head line a.0.1) x a.2 in
    node_from names table line bytes a.0.0 a.0.1 b.0 x over (words_take line bytes a.0 a.1) (head_takes names line a.0.0 b.0 b.1) b.2

-- the number of the line after a node, and after many
abbrev pub line_after : Node → ℕ → ℕ
line_after (SplitAt at) line = line + 1
line_after (LeafOf ws) line = line + 1 + length ws

abbrev pub line_after_all : List Node → ℕ → ℕ
line_after_all [] line = line
line_after_all (n ∷ ns) line = line_after_all ns (line_after n line)

-- a node that can be written so
abbrev pub ToldWeight : Naming → LeafForm → Weight → Type 0
ToldWeight names form w = IsTold names w.row × Suits form w

abbrev pub ToldNode : Naming → Node → Type 0
ToldNode names (SplitAt at) = IsNode (SplitAt at) × IsHeldNode (SplitAt at)
ToldNode names (LeafOf ws) = (length ws ≤ 10000) × Ascend None ws × IsFormed (form_by names ws) × AllByRecursion (ToldWeight names (form_by names ws)) ws

reads_all : (names : Naming) (form : LeafForm) (ws : List Weight) → AllByRecursion (ToldWeight names form) ws → AllByRecursion (ReadsAs (weight_of names form) (weight_words names form)) ws
reads_all names form [] all = tt
reads_all names form (w ∷ ws) all = (weight_reads names form w all.0.0 all.0.1, reads_all names form ws all.1)

form_again : (names : Naming) (ws : List Weight) → is_form names (form_by names ws) ws ≡ true
form_again (Named table) ws = refl
form_again (Listed rows) ws = same_form_again (form_of ws)

pub node_again : (names : Naming) (line : ℕ) (n : Node) (rest : List ℕ) → ToldNode names n → node_at names line (ended_and (node_lines names n) rest) ≡ Ok (n, line_after n line, rest)
unfolding node_at rest_of node_lines
node_again names line (SplitAt at) rest told = rw (split_line line at rest told.1, split_again names line at told.0 told.1) refl
node_again names line (LeafOf ws) rest told =
    let form = form_by names ws in
    rw (
      leaf_line names form line (length ws) (ended_and (map (weight_line names form) ws) rest) told.2 told.0,
      leaf_again names form line (length ws) (form_suits names ws) told.2 told.0,
      leaf_reads names form (length ws) line (ended_and (map (weight_line names form) ws) rest) (ws, rest)
          (rising_again row_of_weight (weight_of names form) (weight_words names form) ws None (line + 1) rest (ascend_to None ws told.1) (reads_all names form ws told.3))
          (form_again names ws),
    ) refl

-- ---- trees

pub record NodesOf (names : Naming) (table : Table) (owed : ℕ) (bytes : List ℕ) (x : List Node × ℕ × List ℕ) : Type 0 where
  pub parts : bytes ≡ ended_and (flat_map (node_lines names) x.0) x.2
  pub trees : AreTrees owed x.0
  pub kept : AllByRecursion (IsNodeIn table) x.0
  pub held : AllByRecursion IsHeldNode x.0

-- one node more
trees_more : (n : Node) (others : ℕ) (ns : List Node) → AreTrees (owed_after n others) ns → AreTrees (suc others) (n ∷ ns)
trees_more (SplitAt at) others ns t = t
trees_more (LeafOf ws) others ns t = t

trees_less : (n : Node) (others : ℕ) (ns : List Node) → AreTrees (suc others) (n ∷ ns) → AreTrees (owed_after n others) ns
trees_less (SplitAt at) others ns t = t
trees_less (LeafOf ws) others ns t = t

pub nodes_take : (names : Naming) (table : Table) → IsOver names table → (steps owed line : ℕ) (bytes : List ℕ) (x : List Node × ℕ × List ℕ)
    → nodes_at names steps owed line bytes ≡ Ok x → NodesOf names table owed bytes x
unfolding nodes_at
nodes_take names table over zero zero line bytes x e = moved (NodesOf names table 0 bytes) ([], line, bytes) x e (record { parts = refl; trees = tt; kept = tt; held = tt })
nodes_take names table over (suc steps) zero line bytes x e = moved (NodesOf names table 0 bytes) ([], line, bytes) x e (record { parts = refl; trees = tt; kept = tt; held = tt })
nodes_take names table over zero (suc others) line bytes x e = absurd cc
nodes_take names table over (suc steps) (suc others) line bytes x e =
    let a = bind_ok (node_at names line bytes) (λ n. nodes_at names steps (owed_after n.0 others) n.1 n.2 >>= λ ns. Ok (n.0 ∷ ns.0, ns.1, ns.2)) x e in
    let b = bind_ok (nodes_at names steps (owed_after a.0.0 others) a.0.1 a.0.2) (λ ns. Ok (a.0.0 ∷ ns.0, ns.1, ns.2)) x a.2 in
    let n = node_takes names table line bytes a.0 over a.1 in
    let more = nodes_take names table over steps (owed_after a.0.0 others) a.0.1 a.0.2 b.0 b.1 in
    moved (NodesOf names table (suc others) bytes) (a.0.0 ∷ b.0.0, b.0.1, b.0.2) x b.2 (record {
      parts = n.parts ∙ ap (ended_and (node_lines names a.0.0)) more.parts ∙ sym (ended_more (node_lines names a.0.0) (flat_map (node_lines names) b.0.0) b.0.2);
      trees = trees_more a.0.0 others b.0.0 more.trees;
      kept = (n.kept, more.kept);
      held = (n.held, more.held);
    })

pub nodes_again : (names : Naming) (steps owed line : ℕ) (ns : List Node) (rest : List ℕ) → length ns ≤ steps → AreTrees owed ns → AllByRecursion (ToldNode names) ns
    → nodes_at names steps owed line (ended_and (flat_map (node_lines names) ns) rest) ≡ Ok (ns, line_after_all ns line, rest)
unfolding nodes_at
nodes_again names zero zero line [] rest few trees told = refl
nodes_again names (suc steps) zero line [] rest few trees told = refl
nodes_again names steps zero line (n ∷ ns) rest few trees told = absurd trees
nodes_again names steps (suc others) line [] rest few trees told = absurd trees
nodes_again names zero (suc others) line (n ∷ ns) rest few trees told = absurd (omega arith)
nodes_again names (suc steps) (suc others) line (n ∷ ns) rest few trees told =
    rw (
      ended_more (node_lines names n) (flat_map (node_lines names) ns) rest,
      node_again names line n (ended_and (flat_map (node_lines names) ns) rest) told.0,
      nodes_again names steps (owed_after n others) (line_after n line) ns rest (omega arith) (trees_less n others ns trees) told.1,
    ) refl

-- ---- as many steps as there are bytes are enough

bind_same : {A B : Type 0} (r : Result A BadText) (f g : A → Result B BadText) → ((x : A) → r ≡ Ok x → f x ≡ g x) → (r >>= f) ≡ (r >>= g)
bind_same (Ok x) f g h = h x refl
bind_same (Err e) f g h = refl

no_node : (names : Naming) (line : ℕ) (bytes : List ℕ) → length bytes ≤ 0 → node_at names line bytes ≡ fault line Ended
unfolding node_at words_at line_at
no_node names line [] none = refl
no_node names line (b ∷ bs) none = absurd (omega arith)

-- what is read after a node
abbrev pub nodes_then : Naming → ℕ → ℕ → Node × ℕ × List ℕ → Result (List Node × ℕ × List ℕ) BadText
nodes_then names steps others n = nodes_at names steps (owed_after n.0 others) n.1 n.2 >>= λ ns. Ok (n.0 ∷ ns.0, ns.1, ns.2)

pub enough : (names : Naming) (s t owed line : ℕ) (bytes : List ℕ) → length bytes ≤ s → length bytes ≤ t → nodes_at names s owed line bytes ≡ nodes_at names t owed line bytes
unfolding nodes_at
enough names zero zero owed line bytes p q = refl
enough names zero (suc t) zero line bytes p q = refl
enough names (suc s) zero zero line bytes p q = refl
enough names (suc s) (suc t) zero line bytes p q = refl
enough names zero (suc t) (suc others) line bytes p q = sym (ap (λ r. r >>= nodes_then names t others) (no_node names line bytes p))
enough names (suc s) zero (suc others) line bytes p q = ap (λ r. r >>= nodes_then names s others) (no_node names line bytes q)
enough names (suc s) (suc t) (suc others) line bytes p q =
    bind_same (node_at names line bytes) (nodes_then names s others) (nodes_then names t others) (λ n e.
    let shorter = (node_lengths names line bytes n e).shorter in
    ap (λ r. r >>= λ ns. Ok (n.0 ∷ ns.0, ns.1, ns.2)) (enough names s t (owed_after n.0 others) n.1 n.2 (omega arith) (omega arith)))

pub first_node : (names : Naming) (others line : ℕ) (bytes : List ℕ) → nodes_at names (length bytes) (suc others) line bytes ≡
    (node_at names line bytes >>= λ n. nodes_then names (length n.2) others n)
unfolding nodes_at
first_node names others line [] = sym (ap (λ r. r >>= λ n. nodes_then names (length n.2) others n) (no_node names line [] (omega arith)))
first_node names others line (b ∷ bs) =
    bind_same (node_at names line (b ∷ bs)) (nodes_then names (length bs) others) (λ n. nodes_then names (length n.2) others n) (λ n e.
    let shorter = (node_lengths names line (b ∷ bs) n e).shorter in
    ap (λ r. r >>= λ ns. Ok (n.0 ∷ ns.0, ns.1, ns.2)) (enough names (length bs) (length n.2) (owed_after n.0 others) n.1 n.2 (omega arith) (omega arith)))
