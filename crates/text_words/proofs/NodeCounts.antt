-- How many splits and leaves some nodes have, and one node more.
use Rattle.std.proofs.Common.{◌≡◌, ℕ, ◌+◌, ◌<◌, List, [], ◌∷◌, ◌++◌, map, length, take, get_or, sym, ◌∙◌, ap, arith}
use Rattle.std.proofs.lemmas.List.{map-append, take_more}
use Rattle.certificate_model.specs.Warrants.{Node, SplitAt, LeafOf, node_of}
use Rattle.certificate_model.specs.declared.certificate.CertNode.{CertNode}
use Rattle.text_words.specs.Claims.{splits, leaves}

splits_joined : (ms ns : List Node) → splits (ms ++ ns) ≡ splits ms + splits ns
splits_joined [] ns = omega arith
splits_joined (SplitAt at ∷ ms) ns = let h = splits_joined ms ns in omega (arith, h)
splits_joined (LeafOf ws ∷ ms) ns = splits_joined ms ns

leaves_joined : (ms ns : List Node) → leaves (ms ++ ns) ≡ leaves ms + leaves ns
leaves_joined [] ns = omega arith
leaves_joined (SplitAt at ∷ ms) ns = leaves_joined ms ns
leaves_joined (LeafOf ws ∷ ms) ns = let h = leaves_joined ms ns in omega (arith, h)

-- the nodes up to the next one
front_more : (xs : List CertNode) (i : ℕ) (x : CertNode) → i < length xs → x ≡ get_or xs i x → map node_of (take (i + 1) xs) ≡ map node_of (take i xs) ++ node_of x ∷ []
front_more xs i x h e =
    ap (map node_of) (take_more xs i x h ∙ ap (λ y. take i xs ++ y ∷ []) (sym e)) ∙ map-append node_of (take i xs) (x ∷ [])

pub splits_more : (xs : List CertNode) (i m : ℕ) (x : CertNode) → i < length xs → x ≡ get_or xs i x → m ≡ splits (map node_of (take i xs))
    → m + splits (node_of x ∷ []) ≡ splits (map node_of (take (i + 1) xs))
splits_more xs i m x h e f =
    ap (λ n. n + splits (node_of x ∷ [])) f ∙ sym (splits_joined (map node_of (take i xs)) (node_of x ∷ [])) ∙ ap splits (sym (front_more xs i x h e))

pub leaves_more : (xs : List CertNode) (i m : ℕ) (x : CertNode) → i < length xs → x ≡ get_or xs i x → m ≡ leaves (map node_of (take i xs))
    → m + leaves (node_of x ∷ []) ≡ leaves (map node_of (take (i + 1) xs))
leaves_more xs i m x h e f =
    ap (λ n. n + leaves (node_of x ∷ [])) f ∙ sym (leaves_joined (map node_of (take i xs)) (node_of x ∷ [])) ∙ ap leaves (sym (front_more xs i x h e))
