-- The two laws of the texts of a certificate: what is read is spelled so, and what is spelled so is read.
use Rattle.std.proofs.Common.{◌≡◌, ℕ, ◌+◌, ◌<◌, ◌≤◌, ◌^◌, Bool, true, false, List, [], ◌∷◌, ◌++◌, length, All, None, Result, Ok, Err, refl, sym, ap, subst, ◌∙◌, eqb-true, inl, inr, arith}
use Rattle.std.specs.Prelude.{◌⊎◌, ◌==◌, flat_map, IfOk, if◌then◌else◌}
use Rattle.std.specs.Cmp.Lexicographic.{pointwise}
use Rattle.std.specs.List.{AllByRecursion}
use Rattle.std.proofs.lemmas.Bool.{and_parts, eq-eqb}
use Rattle.std.proofs.lemmas.List.Elements.{All-from_recursion, recursion_from_All}
use Rattle.rational_theory.proofs.Multiples.{IsMultiple}
use Rattle.progression.specs.TimingRecord.{TimingRecord}
use Rattle.named_row.specs.declared.leaves.Weight.{Weight}
use Rattle.named_row.specs.declared.names.RowId.{RowId}
use Rattle.search_box.specs.declared.span.At.TheVariants.{Loop, Turn}
use Rattle.plan_text.specs.declared.form.LeafForm.{LeafForm}
use Rattle.plan_text.specs.declared.form.LeafForm.TheVariants.{Over, Plain}
use Rattle.plan_text.specs.declared.fault.TextFault.TheVariants.{Shape}
use Rattle.plan_text.specs.declared.fault.TextEnd.{TextEnd}
use Rattle.certificate_model.specs.Words.{is_text}
use Rattle.plan_text.specs.Spelling.{end_line}
use Rattle.plan_text.specs.Lines.{◌>>=◌, Gives, fault, line_at, fixed_at, nothing_at}
use Rattle.certificate_model.specs.Families.{Table, ordinary, IsNamedIn}
use Rattle.plan_text.specs.TimingTexts.{TimingText, one_band}
use Rattle.certificate_model.specs.Warrants.{Node, SplitAt, LeafOf, WarrantWith, Warrant, AreTrees, IsNodeIn}
use Rattle.certificate_model.proofs.KeptNodes.{IsNode}
use Rattle.plan_text.specs.CertificateText.{certificate_line, tree_line, claim_lines, IsHeldWeight, IsHeldNode, IsHeldWith, IsHeldWarrant}
use Rattle.plan_text.specs.FirstText.{first_lines, first_text, certificate_text}
use Rattle.plan_text.specs.SecondText.{second_line, row_lines, second_lines, second_text}
use Rattle.plan_text.specs.Leaves.{AscendRows, IsWhole, form_of, rows_of}
use Rattle.plan_text.specs.Namings.{Naming, Named, Listed, IsFormed, same_row, is_list, node_lines, tree_lines}
use Rattle.plan_text.specs.CertificateReading.{nodes_at, rows_at, Beginning, claim_at, ends_after, tree_at, first_of, second_of, text_by, certificate_of, headed_of}
use Rattle.plan_text.proofs.Fields.{bind_ok, guard_ok, moved, same_text, line_takes, line_again, fixed_takes, fixed_again, nothing_takes}
use Rattle.plan_text.proofs.Pieces.{lacks}
use Rattle.plan_text.proofs.WordLines.{ended_and, ended_is, ended_more}
use Rattle.plan_text.proofs.FamilyNames.{Tells, ordinary_tells}
use Rattle.plan_text.proofs.Denominators.{denominator_above}
use Rattle.plan_text.proofs.Forms.{over_says}
use Rattle.plan_text.proofs.ListedRows.{IsListed, AreListed, rows_ascend, rows_have}
use Rattle.plan_text.proofs.Multipliers.{Suits, each_divides}
use Rattle.plan_text.proofs.NamedRows.{IsOver}
use Rattle.plan_text.proofs.RowLists.{list_lines, rows_take, rows_again, all_rows, few_rows}
use Rattle.plan_text.proofs.NodeLines.{ToldWeight, ToldNode, nodes_take, nodes_again, enough, line_after_all}
use Rattle.plan_text.proofs.TimingLaws.{TimingLaws, one_band_laws}
use Rattle.plan_text.proofs.Claims.{claim_takes, claim_again, claim_end}

-- ---- the tree

-- the lines of the nodes, and the last line
abbrev pub tree_and_end : Naming → List Node → List ℕ
tree_and_end names ns = tree_line ++ 10 ∷ ended_and (flat_map (node_lines names) ns) (end_line ++ 10 ∷ [])

pub record TreeOf (names : Naming) (table : Table) (bytes : List ℕ) (ns : List Node) : Type 0 where
  pub parts : bytes ≡ tree_and_end names ns
  pub trees : AreTrees 1 ns
  pub kept : All (IsNodeIn table) ns
  pub held : All IsHeldNode ns
  pub list : is_list names ns ≡ true

pub tree_takes : (names : Naming) (table : Table) (line : ℕ) (bytes : List ℕ) (ns : List Node) → IsOver names table → tree_at names line bytes ≡ Ok ns → TreeOf names table bytes ns
unfolding tree_at
tree_takes names table line bytes ns over e =
    let a = bind_ok (fixed_at line tree_line bytes) (λ rest. nodes_at names (length rest) 1 (line + 1) rest >>= λ nodes. fixed_at nodes.1 end_line
    nodes.2 >>= λ more. ends_after names nodes.0 nodes.1 more) ns e in
    let b = bind_ok (nodes_at names (length a.0) 1 (line + 1) a.0) (λ nodes. fixed_at nodes.1 end_line nodes.2 >>= λ more. ends_after names nodes.0 nodes.1 more) ns a.2 in
    let d = bind_ok (fixed_at b.0.1 end_line b.0.2) (λ more. ends_after names b.0.0 b.0.1 more) ns b.2 in
    let g = guard_ok (is_list names b.0.0) b.0.1 Shape (nothing_at (b.0.1 + 1) d.0 >>= λ nothing. Ok b.0.0) ns d.2 in
    let f = bind_ok (nothing_at (b.0.1 + 1) d.0) (λ nothing. Ok b.0.0) ns g.1 in
    let n = nodes_take names table over (length a.0) 1 (line + 1) a.0 b.0 b.1 in
    let last : b.0.2 ≡ end_line ++ 10 ∷ [] = fixed_takes b.0.1 end_line b.0.2 d.0 d.1 ∙ ap (λ (r : List ℕ). end_line ++ 10 ∷ r) (nothing_takes (b.0.1 + 1) d.0 f.0 f.1) in
    moved (TreeOf names table bytes) b.0.0 ns f.2 (record {
      parts = fixed_takes line tree_line bytes a.0 a.1 ∙ ap (λ (y : List ℕ). tree_line ++ 10 ∷ y) (n.parts ∙ ap (ended_and (flat_map (node_lines names) b.0.0)) last);
      trees = n.trees;
      kept = All-from_recursion (IsNodeIn table) b.0.0 n.kept;
      held = All-from_recursion IsHeldNode b.0.0 n.held;
      list = g.0;
    })

pub tree_again : (names : Naming) (line : ℕ) (ns : List Node) → AreTrees 1 ns → AllByRecursion (ToldNode names) ns → is_list names ns ≡ true → tree_at names line (tree_and_end names ns) ≡ Ok ns
unfolding tree_at nothing_at
tree_again names line ns trees told list =
    let last = end_line ++ 10 ∷ [] in
    let rest = ended_and (flat_map (node_lines names) ns) last in
    let first = fixed_again line tree_line rest refl in
    let second = enough names (length rest) (length rest + length ns) 1 (line + 1) rest (omega arith) (omega arith)
    ∙ nodes_again names (length rest + length ns) 1 (line + 1) ns last (omega arith) trees told in
    rw (first, second, fixed_again (line_after_all ns (line + 1)) end_line [] refl, list) refl

-- ---- the list of rows is that of the nodes

same_row_is : (r s : RowId) → same_row r s ≡ true → r ≡ s
same_row_is r s e =
    let p = and_parts (r.family == s.family) (r.index == s.index) e in
    λ i. record { family = eqb-true r.family s.family p.0 i; index = eqb-true r.index s.index p.1 i }

rows_same : (rs ss : List RowId) → pointwise same_row rs ss ≡ true → rs ≡ ss
rows_same [] [] e = refl
rows_same [] (s ∷ ss) e = absurd cc
rows_same (r ∷ rs) [] e = absurd cc
rows_same (r ∷ rs) (s ∷ ss) e =
    let p = and_parts (same_row r s) (pointwise same_row rs ss) e in
    λ i. same_row_is r s p.0 i ∷ rows_same rs ss p.1 i

same_rows : (rs : List RowId) → pointwise same_row rs rs ≡ true
same_rows [] = refl
same_rows (r ∷ rs) = rw (eq-eqb r.family r.family refl, eq-eqb r.index r.index refl, same_rows rs) refl

-- ---- nodes that can be written so

told_named_rows : (table : Table) → Tells table → (ws : List Weight) → AllByRecursion (λ w. IsNamedIn table w.row) ws → AllByRecursion IsHeldWeight ws
    → AllByRecursion (ToldWeight (Named table) Plain) ws
told_named_rows table tells [] named held = tt
told_named_rows table tells (w ∷ ws) named held = (((tells, record { named = named.0; index = held.0.index }), held.0.by), told_named_rows table tells ws named.1 held.1)

told_named : (table : Table) → Tells table → (n : Node) → IsNodeIn table n → IsHeldNode n → ToldNode (Named table) n
told_named table tells (SplitAt (Loop link at)) kept held = (kept, held)
told_named table tells (SplitAt (Turn signal rank)) kept held = (kept, held)
told_named table tells (LeafOf ws) kept held =
    (kept.0, kept.1, tt, told_named_rows table tells ws (recursion_from_All (λ w. IsNamedIn table w.row) ws kept.2) (recursion_from_All IsHeldWeight ws held))

pub all_told_named : (table : Table) → Tells table → (ns : List Node) → AllByRecursion (IsNodeIn table) ns → AllByRecursion IsHeldNode ns → AllByRecursion (ToldNode (Named table)) ns
all_told_named table tells [] kept held = tt
all_told_named table tells (n ∷ ns) kept held = (told_named table tells n kept.0 held.0, all_told_named table tells ns kept.1 held.1)

told_rows : (rows : List RowId) (form : LeafForm) (ws : List Weight) → AscendRows None rows → length rows < 2 ^ 64 → AllByRecursion (λ w. IsListed rows w.row) ws
    → AllByRecursion (Suits form) ws → AllByRecursion (ToldWeight (Listed rows) form) ws
told_rows rows form [] ascend few listed suits = tt
told_rows rows form (w ∷ ws) ascend few listed suits = (((ascend, listed.0, few), suits.0), told_rows rows form ws ascend few listed.1 suits.1)

plain_suits : (ws : List Weight) → AllByRecursion IsHeldWeight ws → AllByRecursion (Suits Plain) ws
plain_suits [] held = tt
plain_suits (w ∷ ws) held = (held.0.by, plain_suits ws held.1)

over_suits : (d : ℕ) (vs : List Weight) → 0 < d → AllByRecursion (λ (w : Weight). IsMultiple d w.by.den) vs → AllByRecursion (IsWhole d) vs → AllByRecursion (Suits (Over d)) vs
over_suits d [] above divides wholes = tt
over_suits d (v ∷ vs) above divides wholes = ((above, divides.0, wholes.0), over_suits d vs above divides.1 wholes.1)

leaf_told : (rows : List RowId) (ws : List Weight) (form : LeafForm) → form_of ws ≡ form → AscendRows None rows → length rows < 2 ^ 64
    → AllByRecursion (λ w. IsListed rows w.row) ws → AllByRecursion IsHeldWeight ws
    → IsFormed form × AllByRecursion (ToldWeight (Listed rows) form) ws
leaf_told rows ws Plain e ascend few listed held = (tt, told_rows rows Plain ws ascend few listed (plain_suits ws held))
leaf_told rows ws (Over d) e ascend few listed held =
    let h = over_says d ws e in
    let above : 1 ≤ d = subst (λ (n : ℕ). 1 ≤ n) (sym h.denominator) (denominator_above 1 ws (omega arith)) in
    let divides = subst (λ (n : ℕ). AllByRecursion (λ (w : Weight). IsMultiple n w.by.den) ws) (sym h.denominator) (each_divides 1 ws) in
    ((above, h.small), told_rows rows (Over d) ws ascend few listed (over_suits d ws (omega (arith, above)) divides (recursion_from_All (IsWhole d) ws h.wholes)))

told_second : (rows : List RowId) (n : Node) → AscendRows None rows → length rows < 2 ^ 64 → IsNode n → IsHeldNode n → AreListed rows n → ToldNode (Listed rows) n
told_second rows (SplitAt at) ascend few kept held listed = (kept, held)
told_second rows (LeafOf ws) ascend few kept held listed =
    let t = leaf_told rows ws (form_of ws) refl ascend few (recursion_from_All (λ (w : Weight). IsListed rows w.row) ws listed) (recursion_from_All IsHeldWeight ws held) in
    (kept.0, kept.1, t.0, t.1)

all_told_second : (rows : List RowId) (ns : List Node) → AscendRows None rows → length rows < 2 ^ 64 → AllByRecursion IsNode ns → AllByRecursion IsHeldNode ns
    → AllByRecursion (AreListed rows) ns → AllByRecursion (ToldNode (Listed rows)) ns
all_told_second rows [] ascend few kept held listed = tt
all_told_second rows (n ∷ ns) ascend few kept held listed = (told_second rows n ascend few kept.0 held.0 listed.0, all_told_second rows ns ascend few kept.1 held.1 listed.1)

-- ---- the first text

-- what follows the first line
abbrev pub claim_and_tree : {T : Type 0} → TimingText T → Table → WarrantWith T → List ℕ
claim_and_tree text table c = ended_and (claim_lines text c.claim c.timing) (tree_and_end (Named table) c.nodes)

pub first_is : {T : Type 0} (text : TimingText T) (table : Table) (head : List ℕ) (c : WarrantWith T) → head ++ 10 ∷ claim_and_tree text table c ≡ first_text text table head c
first_is text table head c =
    ap (λ (y : List ℕ). head ++ 10 ∷ y)
    (ap (λ (y : List ℕ). ended_and (claim_lines text c.claim c.timing) (tree_line ++ 10 ∷ y)) (sym (ended_more (flat_map (node_lines (Named table)) c.nodes) (end_line ∷ []) []))
    ∙ sym (ended_more (claim_lines text c.claim c.timing) (tree_lines (Named table) c.nodes) []))
    ∙ ended_is (first_lines text table head c)

pub record FirstOf {T : Type 0} (text : TimingText T) (table : Table) (bytes : List ℕ) (c : WarrantWith T) : Type 0 where
  pub parts : bytes ≡ claim_and_tree text table c
  pub held : IsHeldWith text table c

module _ {T : Type 0} (text : TimingText T) (laws : TimingLaws text) (table : Table) where
  pub first_takes : (bytes : List ℕ) (c : WarrantWith T) → first_of text table bytes ≡ Ok c → FirstOf text table bytes c
  unfolding first_of
  first_takes bytes c e =
      let b = bind_ok (claim_at text bytes) (λ opening. tree_at (Named table) opening.2 opening.3 >>= λ nodes. Ok (record { claim = opening.0; timing = opening.1; nodes = nodes })) c e in
      let d = bind_ok (tree_at (Named table) b.0.2 b.0.3) (λ nodes. Ok (record { claim = b.0.0; timing = b.0.1; nodes = nodes })) c b.2 in
      let k = claim_takes text laws bytes b.0 b.1 in
      let t = tree_takes (Named table) table b.0.2 b.0.3 d.0 refl d.1 in
      let made : WarrantWith T = record { claim = b.0.0; timing = b.0.1; nodes = d.0 } in
      moved (FirstOf text table bytes) made c d.2 (record {
        parts = k.parts ∙ ap (ended_and (claim_lines text b.0.0 b.0.1)) t.parts;
        held = record { kept = record { timing = k.timing; tree = t.trees; nodes = t.kept }; claim = k.claim; timing = k.held; nodes = t.held };
      })

  pub first_again : Tells table → (c : WarrantWith T) → IsHeldWith text table c → first_of text table (claim_and_tree text table c) ≡ Ok c
  unfolding first_of
  first_again tells c h =
      let tail = tree_and_end (Named table) c.nodes in
      let second = claim_again text laws c.claim c.timing tail h.kept.timing h.claim h.timing in
      let told = all_told_named table tells c.nodes (recursion_from_All (IsNodeIn table) c.nodes h.kept.nodes) (recursion_from_All IsHeldNode c.nodes h.nodes) in
      rw (second, tree_again (Named table) (claim_end text.height c.claim) c.nodes h.kept.tree told refl) refl

  -- with its first line, where a certificate has no other text
  pub headed_takes : (head bytes : List ℕ) (c : WarrantWith T) → headed_of text table head bytes ≡ Ok c → (bytes ≡ first_text text table head c) × IsHeldWith text table c
  unfolding headed_of
  headed_takes head bytes c e =
      let a = bind_ok (fixed_at 1 head bytes) (first_of text table) c e in
      let f = first_takes a.0 c a.2 in
      (fixed_takes 1 head bytes a.0 a.1 ∙ ap (λ (y : List ℕ). head ++ 10 ∷ y) f.parts ∙ first_is text table head c, f.held)

  pub headed_again : Tells table → (head : List ℕ) → lacks 10 head ≡ true → (c : WarrantWith T) → IsHeldWith text table c → headed_of text table head (first_text text table head c) ≡ Ok c
  unfolding headed_of
  headed_again tells head one c h = ap (headed_of text table head) (sym (first_is text table head c)) ∙ rw (fixed_again 1 head (claim_and_tree text table c) one) (first_again tells c h)

-- what the code read
pub first_read : {T : Type 0} (text : TimingText T) (table : Table) (bytes : List ℕ) (x : Beginning T) (ns : List Node) → claim_at text bytes ≡ Ok x
    → tree_at (Named table) x.2 x.3 ≡ Ok ns → first_of text table bytes ≡ Ok (record { claim = x.0; timing = x.1; nodes = ns })
unfolding first_of
first_read text table bytes x ns e f = rw (e, f) refl

pub second_read : (bytes : List ℕ) (x : Beginning TimingRecord) (rows : List RowId × ℕ × List ℕ) (ns : List Node) → claim_at one_band bytes ≡ Ok x
    → rows_at ordinary x.2 x.3 ≡ Ok rows → tree_at (Listed rows.0) rows.1 rows.2 ≡ Ok ns → second_of bytes ≡ Ok (record { claim = x.0; timing = x.1; nodes = ns })
unfolding second_of
second_read bytes x rows ns e g f = rw (e, g, f) refl

-- ---- the second text

abbrev rows_and_tree : List RowId → List Node → List ℕ
rows_and_tree rows ns = ended_and (list_lines ordinary rows) (tree_and_end (Listed rows) ns)

second_is : (c : Warrant) → second_line ++ 10 ∷ ended_and (claim_lines one_band c.claim c.timing) (rows_and_tree (rows_of c.nodes) c.nodes) ≡ second_text c
second_is c =
    let rows = rows_of c.nodes in
    let nodes = flat_map (node_lines (Listed rows)) c.nodes in
    ap (λ (y : List ℕ). second_line ++ 10 ∷ y)
    (ap (λ (y : List ℕ). ended_and (claim_lines one_band c.claim c.timing) (ended_and (row_lines rows) (tree_line ++ 10 ∷ y))) (sym (ended_more nodes (end_line ∷ []) []))
    ∙ ap (ended_and (claim_lines one_band c.claim c.timing)) (sym (ended_more (row_lines rows) (tree_line ∷ (nodes ++ end_line ∷ [])) []))
    ∙ sym (ended_more (claim_lines one_band c.claim c.timing) (row_lines rows ++ tree_line ∷ (nodes ++ end_line ∷ [])) []))
    ∙ ended_is (second_lines c)

record SecondOf (bytes : List ℕ) (c : Warrant) : Type 0 where
  parts : second_line ++ 10 ∷ bytes ≡ second_text c
  held : IsHeldWarrant c

second_takes : (bytes : List ℕ) (c : Warrant) → second_of bytes ≡ Ok c → SecondOf bytes c
unfolding second_of
second_takes bytes c e =
    let b = bind_ok (claim_at one_band bytes) (λ opening. rows_at ordinary opening.2 opening.3 >>= λ rows. tree_at (Listed rows.0) rows.1 rows.2 >>=
    λ nodes. Ok (record { claim = opening.0; timing = opening.1; nodes = nodes })) c e in
    let f = bind_ok (rows_at ordinary b.0.2 b.0.3) (λ rows. tree_at (Listed rows.0) rows.1 rows.2 >>= λ nodes. Ok (record { claim = b.0.0; timing = b.0.1; nodes = nodes })) c b.2 in
    let d = bind_ok (tree_at (Listed f.0.0) f.0.1 f.0.2) (λ nodes. Ok (record { claim = b.0.0; timing = b.0.1; nodes = nodes })) c f.2 in
    let k = claim_takes one_band one_band_laws bytes b.0 b.1 in
    let r = rows_take ordinary b.0.2 b.0.3 f.0 f.1 in
    let t = tree_takes (Listed f.0.0) ordinary f.0.1 f.0.2 d.0 (r.ascend, r.rows) d.1 in
    let own : f.0.0 ≡ rows_of d.0 = sym (rows_same (rows_of d.0) f.0.0 t.list) in
    let made : Warrant = record { claim = b.0.0; timing = b.0.1; nodes = d.0 } in
    let body : b.0.3 ≡ rows_and_tree (rows_of d.0) d.0 = r.parts ∙ ap (ended_and (list_lines ordinary f.0.0)) t.parts ∙ ap (λ (y : List RowId). rows_and_tree y d.0) own in
    moved (SecondOf bytes) made c d.2 (record {
      parts = ap (λ (y : List ℕ). second_line ++ 10 ∷ y) (k.parts ∙ ap (ended_and (claim_lines one_band b.0.0 b.0.1)) body) ∙ second_is made;
      held = record { kept = record { timing = k.timing; tree = t.trees; nodes = t.kept }; claim = k.claim; timing = k.held; nodes = t.held };
    })

second_again : (c : Warrant) → IsHeldWarrant c → second_of (ended_and (claim_lines one_band c.claim c.timing) (rows_and_tree (rows_of c.nodes) c.nodes)) ≡ Ok c
unfolding second_of
second_again c h =
    let rows = rows_of c.nodes in
    let first = claim_again one_band one_band_laws c.claim c.timing (rows_and_tree rows c.nodes) h.kept.timing h.claim h.timing in
    let all = all_rows c.nodes h.kept.nodes h.nodes in
    let ascend = rows_ascend c.nodes in
    let few = few_rows rows ascend all in
    let second = rows_again ordinary (claim_end 8 c.claim) rows (tree_and_end (Listed rows) c.nodes) ordinary_tells few ascend all in
    let told = all_told_second rows c.nodes ascend few (recursion_from_All IsNode c.nodes h.kept.nodes) (recursion_from_All IsHeldNode c.nodes h.nodes)
    (recursion_from_All (AreListed rows) c.nodes (rows_have c.nodes)) in
    rw (first, second, tree_again (Listed rows) (claim_end 8 c.claim + 1 + length rows) c.nodes h.kept.tree told (same_rows rows)) refl

-- ---- the whole

pub record WarrantOf (bytes : List ℕ) (c : Warrant) : Type 0 where
  pub parts : (bytes ≡ certificate_text c) ⊎ (bytes ≡ second_text c)
  pub held : IsHeldWarrant c

text_takes : (bytes text after : List ℕ) (c : Warrant) (a b : Bool) → bytes ≡ text ++ 10 ∷ after → (a ≡ true → text ≡ certificate_line)
    → (b ≡ true → text ≡ second_line) → (if a then first_of one_band ordinary after else (if b then second_of after else fault 1 Shape)) ≡ Ok c → WarrantOf bytes c
text_takes bytes text after c true b parts is other e =
    let f = first_takes one_band one_band_laws ordinary after c e in
    record { parts = inl (parts ∙ (λ i. is refl i ++ 10 ∷ f.parts i) ∙ first_is one_band ordinary certificate_line c); held = f.held }
text_takes bytes text after c false true parts is other e =
    let f = second_takes after c e in
    record { parts = inr (parts ∙ ap (λ (y : List ℕ). y ++ 10 ∷ after) (other refl) ∙ f.parts); held = f.held }
text_takes bytes text after c false false parts is other e = absurd cc

pub certificate_takes : (bytes : List ℕ) (c : Warrant) → certificate_of bytes ≡ Ok c → WarrantOf bytes c
unfolding certificate_of
certificate_takes bytes c e =
    let a = bind_ok (line_at 1 bytes) text_by c e in
    text_takes bytes a.0.0 a.0.1 c (is_text a.0.0 certificate_line) (is_text a.0.0 second_line) (line_takes 1 bytes a.0 a.1) (same_text a.0.0 certificate_line) (same_text a.0.0 second_line) a.2

pub certificate_again : (c : Warrant) → IsHeldWarrant c → certificate_of (certificate_text c) ≡ Ok c
unfolding certificate_of
certificate_again c h =
    ap certificate_of (sym (first_is one_band ordinary certificate_line c))
    ∙ rw (line_again 1 certificate_line (claim_and_tree one_band ordinary c) refl) (first_again one_band one_band_laws ordinary ordinary_tells c h)

pub second_text_again : (c : Warrant) → IsHeldWarrant c → certificate_of (second_text c) ≡ Ok c
unfolding certificate_of
second_text_again c h =
    let body = ended_and (claim_lines one_band c.claim c.timing) (rows_and_tree (rows_of c.nodes) c.nodes) in
    ap certificate_of (sym (second_is c)) ∙ rw (line_again 1 second_line body refl) (second_again c h)

pub is_found : (bytes : List ℕ) (r : Result Warrant TextEnd) → Gives (λ c. c) r (certificate_of bytes) → IfOk r (λ c. (bytes ≡ certificate_text c) ⊎ (bytes ≡ second_text c))
is_found bytes (Ok c) given = (certificate_takes bytes c given).parts
is_found bytes (Err e) given = tt
