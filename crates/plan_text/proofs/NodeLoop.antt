-- Reading nodes one after the other, as a loop does.
use Rattle.std.proofs.Common.{◌≡◌, ℕ, zero, suc, ◌+◌, ◌-◌, ◌<◌, ◌≤◌, Bor, map, List, [], ◌∷◌, ◌++◌, length, Result, Ok, Err, refl, sym, ap, subst, ◌∙◌, append_assoc, append-nil, arith}
use Rattle.std.specs.Prelude.{IfOk}
use Rattle.std.proofs.lemmas.List.{map-append}
use Rattle.certificate_model.specs.declared.certificate.CertNode.{CertNode}
use Rattle.plan_text.specs.declared.fault.BadText.{BadText}
use Rattle.plan_text.specs.declared.fault.TextEnd.{TextEnd}
use Rattle.plan_text.specs.Lines.{◌>>=◌, Gives, Fails}
use Rattle.plan_text.specs.Namings.{Naming}
use Rattle.certificate_model.specs.Warrants.{Node, SplitAt, LeafOf, node_of}
use Rattle.plan_text.specs.CertificateReading.{node_at, owed_after, nodes_at}
use Rattle.plan_text.proofs.NodeLines.{node_lengths, nodes_then, first_node}
use Rattle.plan_text.proofs.RowLoop.{fails_then, fails_as, then_ok}

-- what a function that reads a node returned
abbrev Given : Naming → ℕ → List ℕ → Result (CertNode × ℕ × Bor (List ℕ)) TextEnd → Type 0
Given names line bytes r = Gives (λ (x : CertNode × ℕ × Bor (List ℕ)). (node_of x.0, x.1, x.2.now)) r (node_at names line bytes)

pub is_shorter : (names : Naming) (line : ℕ) (bytes : List ℕ) (r : Result (CertNode × ℕ × Bor (List ℕ)) TextEnd) → Given names line bytes r → IfOk r (λ x. length x.2.now < length bytes)
is_shorter names line bytes (Ok x) given = (node_lengths names line bytes (node_of x.0, x.1, x.2.now) given).shorter
is_shorter names line bytes (Err e) given = tt

pub has_lines : (names : Naming) (line : ℕ) (bytes : List ℕ) (r : Result (CertNode × ℕ × Bor (List ℕ)) TextEnd) → Given names line bytes r → IfOk r (λ x. x.1 + length x.2.now ≤ line + length bytes)
has_lines names line bytes (Ok x) given = (node_lengths names line bytes (node_of x.0, x.1, x.2.now) given).lines
has_lines names line bytes (Err e) given = tt

-- the nodes before, and those that are still read
abbrev pub with_nodes : List Node → Result (List Node × ℕ × List ℕ) BadText → Result (List Node × ℕ × List ℕ) BadText
with_nodes front read = read >>= λ x. Ok (front ++ x.0, x.1, x.2)

regroup : (front : List Node) (n : Node) (read : Result (List Node × ℕ × List ℕ) BadText) → with_nodes front (read >>= λ x. Ok (n ∷ x.0, x.1, x.2)) ≡ with_nodes (front ++ n ∷ []) read
regroup front n (Ok x) = ap (λ (y : List Node). Ok (y, x.1, x.2)) (simp append_assoc)
regroup front n (Err e) = refl

-- so many trees are read next, and the nodes before them are these
pub record IsOnTheWay (names : Naming) (nodes : List CertNode) (owed line : ℕ) (bytes : List ℕ) (first : ℕ) (all : List ℕ) : Type 0 where
  pub read : with_nodes (map node_of nodes) (nodes_at names (length bytes) owed line bytes) ≡ nodes_at names (length all) 1 first all
  pub lines : line + length bytes ≤ first + length all
  pub few : owed + length bytes ≤ 1 + length all

-- a tree is owed
one_owed : (names : Naming) (nodes : List CertNode) (owed line first : ℕ) (bytes all : List ℕ) → 0 < owed → IsOnTheWay names nodes owed line bytes first all
    → IsOnTheWay names nodes (suc (owed - 1)) line bytes first all
one_owed names nodes owed line first bytes all some way =
    let e : owed ≡ suc (owed - 1) = omega arith in
    subst (λ (n : ℕ). IsOnTheWay names nodes n line bytes first all) e way

none_owed : (names : Naming) (nodes : List CertNode) (owed line first : ℕ) (bytes all : List ℕ) → owed ≤ 0 → IsOnTheWay names nodes owed line bytes first all
    → IsOnTheWay names nodes 0 line bytes first all
none_owed names nodes owed line first bytes all none way =
    let e : owed ≡ 0 = omega arith in
    subst (λ (n : ℕ). IsOnTheWay names nodes n line bytes first all) e way

few_more : (n : Node) (others rest bytes all : ℕ) → rest < bytes → suc others + bytes ≤ 1 + all → owed_after n others + rest ≤ 1 + all
few_more (SplitAt at) others rest bytes all p q = omega arith
few_more (LeafOf ws) others rest bytes all p q = omega arith

next : (names : Naming) (others line : ℕ) (bytes : List ℕ) (n : Node × ℕ × List ℕ) → node_at names line bytes ≡ Ok n
    → nodes_at names (length bytes) (suc others) line bytes ≡ nodes_then names (length n.2) others n
next names others line bytes n e = first_node names others line bytes ∙ then_ok (node_at names line bytes) n (λ n. nodes_then names (length n.2) others n) e

step : (names : Naming) (nodes after : List CertNode) (node : CertNode) (others line to first : ℕ) (bytes rest all : List ℕ)
    → node_at names line bytes ≡ Ok (node_of node, to, rest) → length rest < length bytes → to + length rest ≤ line + length bytes → after ≡ nodes ++ node ∷ []
    → IsOnTheWay names nodes (suc others) line bytes first all → IsOnTheWay names after (owed_after (node_of node) others) to rest first all
step names nodes after node others line to first bytes rest all e shorter lines pushed way =
    let before = way.lines in
    let made : map node_of after ≡ map node_of nodes ++ node_of node ∷ [] = ap (map node_of) pushed ∙ map-append node_of nodes (node ∷ []) in
    let more = nodes_at names (length rest) (owed_after (node_of node) others) to rest in
    record {
      read = ap (λ (y : List Node). with_nodes y more) made ∙ sym (regroup (map node_of nodes) (node_of node) more)
          ∙ ap (with_nodes (map node_of nodes)) (sym (next names others line bytes (node_of node, to, rest) e)) ∙ way.read;
      lines = omega arith;
      few = few_more (node_of node) others (length rest) (length bytes) (length all) shorter way.few;
    }

pub goes_on : (names : Naming) (nodes after : List CertNode) (node : CertNode) (owed line to first : ℕ) (bytes rest all : List ℕ) → 0 < owed
    → node_at names line bytes ≡ Ok (node_of node, to, rest) → length rest < length bytes → to + length rest ≤ line + length bytes → after ≡ nodes ++ node ∷ []
    → IsOnTheWay names nodes owed line bytes first all → IsOnTheWay names after (owed_after (node_of node) (owed - 1)) to rest first all
goes_on names nodes after node owed line to first bytes rest all some e shorter lines pushed way =
    step names nodes after node (owed - 1) line to first bytes rest all e shorter lines pushed (one_owed names nodes owed line first bytes all some way)

stop : (names : Naming) (e : TextEnd) (nodes : List CertNode) (others line first : ℕ) (bytes all : List ℕ) → Fails e (node_at names line bytes)
    → IsOnTheWay names nodes (suc others) line bytes first all → Fails e (nodes_at names (length all) 1 first all)
stop names e nodes others line first bytes all h way =
    let x = fails_then e (node_at names line bytes) (λ n. nodes_then names (length n.2) others n) h in
    let y = fails_as e _ (nodes_at names (length bytes) (suc others) line bytes) (sym (first_node names others line bytes)) x in
    fails_as e _ (nodes_at names (length all) 1 first all) way.read (fails_then e (nodes_at names (length bytes) (suc others) line bytes) (λ x. Ok (map node_of nodes ++ x.0, x.1, x.2)) y)

pub no_node : (names : Naming) (e : TextEnd) (nodes : List CertNode) (owed line first : ℕ) (bytes all : List ℕ) → 0 < owed → Fails e (node_at names line bytes)
    → IsOnTheWay names nodes owed line bytes first all → Fails e (nodes_at names (length all) 1 first all)
no_node names e nodes owed line first bytes all some h way = stop names e nodes (owed - 1) line first bytes all h (one_owed names nodes owed line first bytes all some way)

no_trees : (names : Naming) (steps line : ℕ) (bytes : List ℕ) → nodes_at names steps 0 line bytes ≡ Ok ([], line, bytes)
unfolding nodes_at
no_trees names zero line bytes = refl
no_trees names (suc steps) line bytes = refl

pub is_done : (names : Naming) (nodes : List CertNode) (owed line first : ℕ) (bytes all : List ℕ) → owed ≤ 0 → IsOnTheWay names nodes owed line bytes first all
    → nodes_at names (length all) 1 first all ≡ Ok (map node_of nodes, line, bytes)
is_done names nodes owed line first bytes all none way =
    let done = none_owed names nodes owed line first bytes all none way in
    sym done.read ∙ ap (with_nodes (map node_of nodes)) (no_trees names (length bytes) line bytes) ∙ ap (λ (y : List Node). Ok (y, line, bytes)) (append-nil (map node_of nodes))
