-- The texts of a certificate, written piece by piece.
use Rattle.std.proofs.lemmas.List.{length-map, get_or-map}
use Rattle.std.proofs.lemmas.List.Elements.{All-get_or, All-same, All-push}
use Rattle.std.proofs.Common.{◌≡◌, ℕ, ◌+◌, ◌<◌, Bool, true, false, map, length, get_or, take, All, List, [], ◌∷◌, ◌++◌, Option, None, Some, Result}
use Rattle.std.proofs.Common.{Ok, Err, OnOk, sym, ap, subst, ◌∙◌, append_assoc, append-nil, arith}
use Rattle.std.specs.Prelude.{flat_map, IfOk, if◌then◌else◌}
use Rattle.std.specs.Global.{Vec}
use Rattle.std.specs.Fmt.{decimal}
use Rattle.named_row.specs.declared.leaves.Weight.{Weight}
use Rattle.named_row.specs.declared.names.RowId.{RowId}
use Rattle.plan_text.specs.declared.fault.BadText.{BadText}
use Rattle.plan_text.specs.declared.form.LeafForm.{LeafForm}
use Rattle.rational_theory.specs.Rational.{ℚ}
use Rattle.certificate_model.specs.declared.certificate.Claim.{Claim}
use Rattle.certificate_model.specs.declared.certificate.Claim.TheVariants.{Best, NoTiming, Stopped}
use Rattle.certificate_model.specs.declared.certificate.CertNode.{CertNode}
use Rattle.certificate_model.specs.Words.{after_space, line_of}
use Rattle.plan_text.specs.Spelling.{ended, end_line}
use Rattle.plan_text.specs.TimingTexts.{TimingText, one_band}
use Rattle.certificate_model.specs.Families.{Table, family_name_in, is_lone_in}
use Rattle.certificate_model.specs.Warrants.{Node, LeafOf, node_of, IsNodeIn, HasTiming, WarrantWith, Warrant}
use Rattle.plan_text.specs.CertificateText.{best_line, open_line, no_timing_line, tree_line, value_key, bound_key, fraction_words, timing_part, claim_lines, IsHeldTiming, IsHeldNode}
use Rattle.plan_text.specs.FirstText.{first_text}
use Rattle.plan_text.specs.Leaves.{rows_of, place_of_row, multiplier_word, IsWritable}
use Rattle.plan_text.specs.Namings.{Naming, Named, Listed, name_words, weight_line, form_by, node_lines, tree_lines, HasWords, IsWritableNode, AreWritable}
use Rattle.plan_text.specs.SecondText.{second_line, row_lines, second_text}
use Rattle.plan_text.proofs.Forms.{writable}
use Rattle.plan_text.proofs.Written.{map_more, more_lines, ended-append}

-- one more node
pub more_held : (ns : List CertNode) (i : ℕ) (d n : CertNode) → i < length ns → n ≡ get_or ns i d → All IsHeldNode (map node_of (take i ns))
    → IsHeldNode (node_of n) → All IsHeldNode (map node_of (take (i + 1) ns))
more_held ns i d n lt is before here = All-same IsHeldNode _ _ (map_more node_of ns i d n lt is) (All-push IsHeldNode (map node_of (take i ns)) (node_of n) before here)

-- a node of a list can be written as the list can
pub node_here : (names : Naming) (ns : List CertNode) (i : ℕ) (d n : CertNode) → i < length ns → n ≡ get_or ns i d → AreWritable names (map node_of ns) → IsWritableNode names (node_of n)
node_here (Named table) ns i d n lt is all = subst (IsNodeIn table) (get_or-map node_of ns i d (node_of d) lt ∙ ap node_of (sym is))
    (All-get_or (IsNodeIn table) (map node_of ns) i (node_of d) (omega (arith, length-map ns node_of)) all)
node_here (Listed rows) ns i d n lt is ascend = ascend

-- and so can the rows of a leaf, in its form
pub rows_here : (names : Naming) (ws : List Weight) → IsWritableNode names (LeafOf ws) → All (λ w. HasWords names w.row) ws
rows_here (Named table) ws is = is.2
rows_here (Listed rows) ws ascend = λ i d lt. ascend

pub form_here : (names : Naming) (ws : List Weight) (form : LeafForm) → form ≡ form_by names ws → All (IsWritable form) ws
form_here (Named table) ws form is = subst (λ (f : LeafForm). All (IsWritable f) ws) (sym is) (λ i d lt. tt)
form_here (Listed rows) ws form is = writable ws form is

-- one word more of a line
after_more : (ws : List (List ℕ)) (w : List ℕ) → after_space (ws ++ w ∷ []) ≡ after_space ws ++ 32 ∷ w
after_more [] w = ap (λ (y : List ℕ). 32 ∷ y) (append-nil w)
after_more (v ∷ ws) w = ap (λ (y : List ℕ). 32 ∷ (v ++ y)) (after_more ws w) ∙ ap (λ (y : List ℕ). 32 ∷ y) (sym (append_assoc v (after_space ws) (32 ∷ w)))

one_word_more : (v : List ℕ) (ws : List (List ℕ)) (w : List ℕ) → line_of ((v ∷ ws) ++ w ∷ []) ≡ line_of (v ∷ ws) ++ 32 ∷ w
one_word_more v ws w = ap (λ (y : List ℕ). v ++ y) (after_more ws w) ∙ sym (append_assoc v (after_space ws) (32 ∷ w))

row_more : (lone : Bool) (name index w : List ℕ) → line_of ((if lone then name ∷ [] else name ∷ index ∷ []) ++ w ∷ []) ≡ line_of (if lone then name ∷ [] else name ∷ index ∷ []) ++ 32 ∷ w
row_more true name index w = one_word_more name [] w
row_more false name index w = one_word_more name (index ∷ []) w

words_more : (names : Naming) (row : RowId) (w : List ℕ) → line_of (name_words names row ++ w ∷ []) ≡ line_of (name_words names row) ++ 32 ∷ w
words_more (Named table) row w = row_more (is_lone_in table row.family) (family_name_in table row.family) (decimal row.index) w
words_more (Listed rows) row w = one_word_more (decimal (place_of_row rows row)) [] w

-- the line of a row and its multiplier
pub weight_written : (names : Naming) (form : LeafForm) (w : Weight) (old words spaced multiplied after : List ℕ) → words ≡ old ++ line_of (name_words names w.row)
    → spaced ≡ words ++ 32 ∷ [] → multiplied ≡ spaced ++ multiplier_word form w → after ≡ multiplied ++ 10 ∷ []
    → after ≡ old ++ ended (weight_line names form w ∷ [])
weight_written names form w old words spaced multiplied after e s m f =
    let name = line_of (name_words names w.row) in
    let by = multiplier_word form w in
    f ∙ ap (λ (y : List ℕ). y ++ 10 ∷ []) (m ∙ ap (λ (y : List ℕ). y ++ by) s ∙ append_assoc words (32 ∷ []) by) ∙ append_assoc words (32 ∷ by) (10 ∷ [])
    ∙ ap (λ (y : List ℕ). y ++ 32 ∷ (by ++ 10 ∷ [])) e ∙ append_assoc old name (32 ∷ (by ++ 10 ∷ []))
    ∙ ap (λ (y : List ℕ). old ++ y) (sym (append_assoc name (32 ∷ by) (10 ∷ [])) ∙ ap (λ (y : List ℕ). y ++ 10 ∷ []) (sym (words_more names w.row by)))

-- ---- claims

bound_written : (old first second : List ℕ) (bound : ℚ) → first ≡ old ++ ended (open_line ∷ []) → second ≡ first ++ ended (line_of (fraction_words bound_key bound) ∷ [])
    → second ≡ old ++ ended (open_line ∷ line_of (fraction_words bound_key bound) ∷ [])
bound_written old first second bound e f = more_lines old (open_line ∷ []) (line_of (fraction_words bound_key bound) ∷ []) first second e f

module _ {T : Type 0} (text : TimingText T) where
  pub best_written : (old first second after : List ℕ) (claim : Claim) (value : ℚ) (timing : Option T) → claim ≡ Best value → first ≡ old
      ++ ended (best_line ∷ []) → second ≡ first ++ ended (line_of (fraction_words value_key value) ∷ []) → after ≡ second ++ ended (timing_part text timing)
      → after ≡ old ++ ended (claim_lines text claim timing)
  unfolding claim_lines
  best_written old first second after claim value timing is e f g =
      more_lines old (best_line ∷ line_of (fraction_words value_key value) ∷ []) (timing_part text timing) second after
      (more_lines old (best_line ∷ []) (line_of (fraction_words value_key value) ∷ []) first second e f) g
      ∙ ap (λ (c : Claim). old ++ ended (claim_lines text c timing)) (sym is)

  pub missing_written : (old first second after : List ℕ) (claim : Claim) (bound : ℚ) (value : Option ℚ) (timing : Option T) → claim ≡ Stopped bound value
      → value ≡ None → first ≡ old ++ ended (open_line ∷ []) → second ≡ first ++ ended (line_of (fraction_words bound_key bound) ∷ []) → after ≡ second ++ ended (no_timing_line ∷ [])
      → after ≡ old ++ ended (claim_lines text claim timing)
  unfolding claim_lines
  missing_written old first second after claim bound value timing is none e f g =
      more_lines old (open_line ∷ line_of (fraction_words bound_key bound) ∷ []) (no_timing_line ∷ []) second after (bound_written old first second bound e f) g
      ∙ ap (λ (c : Claim). old ++ ended (claim_lines text c timing)) (sym (is ∙ ap (λ (v : Option ℚ). Stopped bound v) none))

  pub stopped_written : (old first second third after : List ℕ) (claim : Claim) (bound x : ℚ) (value : Option ℚ) (timing : Option T) → claim ≡ Stopped bound value
      → value ≡ Some x → first ≡ old ++ ended (open_line ∷ []) → second ≡ first ++ ended (line_of (fraction_words bound_key bound) ∷ []) → third ≡ second
      ++ ended (line_of (fraction_words value_key x) ∷ []) → after ≡ third ++ ended (timing_part text timing)
      → after ≡ old ++ ended (claim_lines text claim timing)
  unfolding claim_lines
  stopped_written old first second third after claim bound x value timing is some e f g h =
      let two = bound_written old first second bound e f in
      let three = more_lines old (open_line ∷ line_of (fraction_words bound_key bound) ∷ []) (line_of (fraction_words value_key x) ∷ []) second third two g in
      more_lines old (open_line ∷ line_of (fraction_words bound_key bound) ∷ line_of (fraction_words value_key x) ∷ []) (timing_part text timing) third after three h
      ∙ ap (λ (c : Claim). old ++ ended (claim_lines text c timing)) (sym (is ∙ ap (λ (v : Option ℚ). Stopped bound v) some))

  -- where no timing stands, there is none to hold
  pub none_held : (timing : Option T) → HasTiming NoTiming timing → IsHeldTiming text timing
  none_held None has = tt
  none_held (Some t) has = absurd has

  pub missing_held : (bound : ℚ) (timing : Option T) → HasTiming (Stopped bound None) timing → IsHeldTiming text timing
  missing_held bound None has = tt
  missing_held bound (Some t) has = absurd has

-- ---- the whole

pub tree_written : (old first second after : List ℕ) (names : Naming) (ns : List Node) → first ≡ old ++ ended (tree_line ∷ []) → second ≡ first
    ++ ended (flat_map (node_lines names) ns) → after ≡ second ++ ended (end_line ∷ []) → after ≡ old ++ ended (tree_lines names ns)
tree_written old first second after names ns e f g =
    let body = more_lines old (tree_line ∷ []) (flat_map (node_lines names) ns) first second e f in
    more_lines old (tree_line ∷ flat_map (node_lines names) ns) (end_line ∷ []) second after body g

pub first_written : {T : Type 0} (text : TimingText T) (table : Table) (head first second after : List ℕ) (c : WarrantWith T) → first ≡ ended (head ∷ [])
    → second ≡ first ++ ended (claim_lines text c.claim c.timing) → after ≡ second ++ ended (tree_lines (Named table) c.nodes) → after ≡ first_text text table head c
first_written text table head first second after c e f g =
    let claim = claim_lines text c.claim c.timing in
    let tree = tree_lines (Named table) c.nodes in
    more_lines (ended (head ∷ [])) claim tree second after (f ∙ ap (λ (y : List ℕ). y ++ ended claim) e) g ∙ sym (ended-append (head ∷ []) (claim ++ tree))

pub second_written : (first second third after : List ℕ) (c : Warrant) → first ≡ ended (second_line ∷ []) → second ≡ first ++ ended (claim_lines one_band c.claim c.timing)
    → third ≡ second ++ ended (row_lines (rows_of c.nodes)) → after ≡ third ++ ended (tree_lines (Listed (rows_of c.nodes)) c.nodes) → after ≡ second_text c
second_written first second third after c e f g h =
    let start = ended (second_line ∷ []) in
    let claim = claim_lines one_band c.claim c.timing in
    let rows = row_lines (rows_of c.nodes) in
    let tree = tree_lines (Listed (rows_of c.nodes)) c.nodes in
    let two : third ≡ start ++ ended (claim ++ rows) = more_lines start claim rows second third (f ∙ ap (λ (y : List ℕ). y ++ ended claim) e) g in
    more_lines start (claim ++ rows) tree third after two h ∙ sym (ended-append (second_line ∷ []) ((claim ++ rows) ++ tree))
    ∙ ap (λ (y : List (List ℕ)). ended (second_line ∷ y)) (append_assoc claim rows tree)

-- what is written is read again, where the program can hold it
pub read_again : {T E : Type 0} (read : List ℕ → Result T BadText) (spell : T → List ℕ) (Holds : T → Type 0) → ((w : T) → Holds w → read (spell w) ≡ Ok w)
    → (w : T) (r : Result (Vec ℕ) E) → IfOk r (λ v. v.items ≡ spell w) → OnOk r (Holds w) → IfOk r (λ v. read v.items ≡ Ok w)
read_again read spell Holds again w (Ok v) text held = ap read text ∙ again w held
read_again read spell Holds again w (Err e) text held = tt
