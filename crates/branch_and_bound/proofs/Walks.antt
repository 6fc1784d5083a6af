-- What a change of one leaf does to a tree in preorder.
use Rattle.std.proofs.Common.{◌≡◌, ℕ, ◌+◌, ◌⊎◌, inl, inr, List, [], ◌∷◌, ◌++◌, Option, Some, None, ap, subst, sym, arith}
use Rattle.std.specs.Prelude.{All}
use Rattle.std.proofs.lemmas.List.Elements.{All-head, All-tail}
use Rattle.search_box.specs.declared.span.At.{At}
use Rattle.branch_and_bound.specs.Lines.{BoxLine, low_line, high_line, owed, Fills, Finds, total, line_after}

pub Fills-map : {N : Type 0} (cut : N → Option At) (P Q : BoxLine → N → Type 0) → ((line : BoxLine) (node : N) → P line node → Q line node)
    → (lines : List BoxLine) (nodes : List N) → Fills cut P lines nodes → Fills cut Q lines nodes
Fills-map cut P Q f lines [] h = h
Fills-map cut P Q f [] (node ∷ nodes) h = h
Fills-map cut P Q f (line ∷ lines) (node ∷ nodes) h = (f line node h.0, Fills-map cut P Q f (owed (cut node) line lines) nodes h.1)

-- of two facts about each node both
pub Fills-both : {N : Type 0} (cut : N → Option At) (P Q : BoxLine → N → Type 0) (lines : List BoxLine) (nodes : List N) → Fills cut P lines nodes
    → Fills cut Q lines nodes → Fills cut (λ line node. P line node × Q line node) lines nodes
Fills-both cut P Q lines [] h k = h
Fills-both cut P Q [] (node ∷ nodes) h k = h
Fills-both cut P Q (line ∷ lines) (node ∷ nodes) h k = ((h.0, k.0), Fills-both cut P Q (owed (cut node) line lines) nodes h.1 k.1)

pub Fills-at : {N : Type 0} (cut : N → Option At) (P : BoxLine → N → Type 0) (lines : List BoxLine) (front : List N) (node : N) (rest : List N)
    → Fills cut P lines (front ++ node ∷ rest) → P (line_after cut lines front) node
Fills-at cut P [] [] node rest h = absurd h
Fills-at cut P (line ∷ lines) [] node rest h = h.0
Fills-at cut P [] (x ∷ front) node rest h = absurd h
Fills-at cut P (line ∷ lines) (x ∷ front) node rest h = Fills-at cut P (owed (cut x) line lines) front node rest h.1

-- a leaf becomes a split with two leaves
pub Fills-split : {N : Type 0} (cut : N → Option At) (P : BoxLine → N → Type 0) (place : At) (leaf node low high : N) (lines : List BoxLine) (front rest : List N)
    → cut leaf ≡ None → cut node ≡ Some place → cut low ≡ None → cut high ≡ None
    → P (line_after cut lines front) node → P (low_line place (line_after cut lines front)) low → P (high_line place (line_after cut lines front)) high
    → Fills cut P lines (front ++ leaf ∷ rest) → Fills cut P lines (front ++ node ∷ low ∷ high ∷ rest)
Fills-split cut P place leaf node low high [] [] rest e f g h p q r s = absurd s
Fills-split cut P place leaf node low high (line ∷ lines) [] rest e f g h p q r s =
    let last : Fills cut P lines rest = subst (λ c. Fills cut P (owed c line lines) rest) e s.1 in
    let third : Fills cut P (high_line place line ∷ lines) (high ∷ rest) = (r, subst (λ c. Fills cut P (owed c (high_line place line) lines) rest) (sym h) last) in
    let second : Fills cut P (low_line place line ∷ high_line place line ∷ lines) (low ∷ high ∷ rest) =
    (q, subst (λ c. Fills cut P (owed c (low_line place line) (high_line place line ∷ lines)) (high ∷ rest)) (sym g) third) in
    (p, subst (λ c. Fills cut P (owed c line lines) (low ∷ high ∷ rest)) (sym f) second)
Fills-split cut P place leaf node low high [] (x ∷ front) rest e f g h p q r s = absurd s
Fills-split cut P place leaf node low high (line ∷ lines) (x ∷ front) rest e f g h p q r s =
    (s.0, Fills-split cut P place leaf node low high (owed (cut x) line lines) front rest e f g h p q r s.1)

-- a node that was found stays, unless it is the leaf that is split
pub Finds-split : {N : Type 0} (cut : N → Option At) (P : BoxLine → N → Type 0) (place : At) (leaf node low high : N) (lines : List BoxLine) (front rest : List N)
    → cut leaf ≡ None → cut node ≡ Some place → cut low ≡ None → cut high ≡ None
    → (P (line_after cut lines front) leaf → ⊥)
    → Finds cut P lines (front ++ leaf ∷ rest) → Finds cut P lines (front ++ node ∷ low ∷ high ∷ rest)
Finds-split cut P place leaf node low high [] [] rest e f g h not s = absurd s
Finds-split cut P place leaf node low high (line ∷ lines) [] rest e f g h not (inl s) = absurd (not s)
Finds-split cut P place leaf node low high (line ∷ lines) [] rest e f g h not (inr s) =
    let last : Finds cut P lines rest = subst (λ c. Finds cut P (owed c line lines) rest) e s in
    let third : Finds cut P (high_line place line ∷ lines) (high ∷ rest) = inr (subst (λ c. Finds cut P (owed c (high_line place line) lines) rest) (sym h) last) in
    let second : Finds cut P (low_line place line ∷ high_line place line ∷ lines) (low ∷ high ∷ rest) =
    inr (subst (λ c. Finds cut P (owed c (low_line place line) (high_line place line ∷ lines)) (high ∷ rest)) (sym g) third) in
    inr (subst (λ c. Finds cut P (owed c line lines) (low ∷ high ∷ rest)) (sym f) second)
Finds-split cut P place leaf node low high [] (x ∷ front) rest e f g h not s = absurd s
Finds-split cut P place leaf node low high (line ∷ lines) (x ∷ front) rest e f g h not (inl s) = inl s
Finds-split cut P place leaf node low high (line ∷ lines) (x ∷ front) rest e f g h not (inr s) =
    inr (Finds-split cut P place leaf node low high (owed (cut x) line lines) front rest e f g h not s)

-- the new leaves are found
pub Finds-new : {N : Type 0} (cut : N → Option At) (P Q : BoxLine → N → Type 0) (place : At) (leaf node low high : N) (lines : List BoxLine) (front rest : List N)
    → cut node ≡ Some place → cut low ≡ None → Fills cut Q lines (front ++ leaf ∷ rest)
    → P (low_line place (line_after cut lines front)) low ⊎ P (high_line place (line_after cut lines front)) high
    → Finds cut P lines (front ++ node ∷ low ∷ high ∷ rest)
Finds-new cut P Q place leaf node low high [] [] rest f g s p = absurd s
Finds-new cut P Q place leaf node low high (line ∷ lines) [] rest f g s (inl p) =
    inr (subst (λ c. Finds cut P (owed c line lines) (low ∷ high ∷ rest)) (sym f) (inl p))
Finds-new cut P Q place leaf node low high (line ∷ lines) [] rest f g s (inr p) =
    let third : Finds cut P (high_line place line ∷ lines) (high ∷ rest) = inl p in
    let second : Finds cut P (low_line place line ∷ high_line place line ∷ lines) (low ∷ high ∷ rest) =
    inr (subst (λ c. Finds cut P (owed c (low_line place line) (high_line place line ∷ lines)) (high ∷ rest)) (sym g) third) in
    inr (subst (λ c. Finds cut P (owed c line lines) (low ∷ high ∷ rest)) (sym f) second)
Finds-new cut P Q place leaf node low high [] (x ∷ front) rest f g s p = absurd s
Finds-new cut P Q place leaf node low high (line ∷ lines) (x ∷ front) rest f g s p =
    inr (Finds-new cut P Q place leaf node low high (owed (cut x) line lines) front rest f g s.1 p)

-- what holds of no node isn't found
pub Finds-none : {N : Type 0} (cut : N → Option At) (P Q : BoxLine → N → Type 0) → ((line : BoxLine) (node : N) → P line node → Q line node → ⊥)
    → (lines : List BoxLine) (nodes : List N) → Fills cut P lines nodes → Finds cut Q lines nodes → ⊥
Finds-none cut P Q f lines [] h k = k
Finds-none cut P Q f [] (node ∷ nodes) h k = k
Finds-none cut P Q f (line ∷ lines) (node ∷ nodes) h (inl k) = f line node h.0 k
Finds-none cut P Q f (line ∷ lines) (node ∷ nodes) h (inr k) = Finds-none cut P Q f (owed (cut node) line lines) nodes h.1 k

-- the cost of a tree grows by that of the two parts
pub total-split : {N : Type 0} (cut : N → Option At) (cost : BoxLine → ℕ) (P : BoxLine → N → Type 0) (place : At) (leaf node low high : N) (lines : List BoxLine) (front rest : List N)
    → cut leaf ≡ None → cut node ≡ Some place → cut low ≡ None → cut high ≡ None
    → Fills cut P lines (front ++ leaf ∷ rest)
    → total cut cost lines (front ++ node ∷ low ∷ high ∷ rest) ≡ total cut cost lines (front ++ leaf ∷ rest) +
    (cost (low_line place (line_after cut lines front)) + cost (high_line place (line_after cut lines front)))
total-split cut cost P place leaf node low high [] [] rest e f g h s = absurd s
total-split cut cost P place leaf node low high (line ∷ lines) [] rest e f g h s =
    let a = ap (λ c. total cut cost (owed c line lines) (low ∷ high ∷ rest)) f in
    let b = ap (λ c. total cut cost (owed c (low_line place line) (high_line place line ∷ lines)) (high ∷ rest)) g in
    let d = ap (λ c. total cut cost (owed c (high_line place line) lines) rest) h in
    let i = ap (λ c. total cut cost (owed c line lines) rest) e in
    omega (arith, a, b, d, i)
total-split cut cost P place leaf node low high [] (x ∷ front) rest e f g h s = absurd s
total-split cut cost P place leaf node low high (line ∷ lines) (x ∷ front) rest e f g h s =
    let t = total-split cut cost P place leaf node low high (owed (cut x) line lines) front rest e f g h s.1 in
    omega (arith, t)

-- a fact about each node alone
pub Fills-each : {N : Type 0} (cut : N → Option At) (P : BoxLine → N → Type 0) (Q : N → Type 0) (lines : List BoxLine) (nodes : List N) → All Q nodes
    → Fills cut P lines nodes → Fills cut (λ line node. P line node × Q node) lines nodes
Fills-each cut P Q lines [] q h = h
Fills-each cut P Q [] (node ∷ nodes) q h = h
Fills-each cut P Q (line ∷ lines) (node ∷ nodes) q h =
    ((h.0, All-head Q node nodes q), Fills-each cut P Q (owed (cut node) line lines) nodes (All-tail Q node nodes q) h.1)

-- the node after the front is found
pub Finds-at : {N : Type 0} (cut : N → Option At) (P Q : BoxLine → N → Type 0) (lines : List BoxLine) (front : List N) (node : N) (rest : List N)
    → Fills cut Q lines (front ++ node ∷ rest) → P (line_after cut lines front) node → Finds cut P lines (front ++ node ∷ rest)
Finds-at cut P Q [] [] node rest h p = absurd h
Finds-at cut P Q (line ∷ lines) [] node rest h p = inl p
Finds-at cut P Q [] (x ∷ front) node rest h p = absurd h
Finds-at cut P Q (line ∷ lines) (x ∷ front) node rest h p = inr (Finds-at cut P Q (owed (cut x) line lines) front node rest h.1 p)
