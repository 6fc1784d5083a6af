use Rattle.std.proofs.Common.{◌≡◌, ℕ, zero, suc, List, [], ◌∷◌, ◌++◌, ◌+◌, ◌-◌, ◌≤◌, sym, ◌∙◌, ap, arith}
use Rattle.std.proofs.lemmas.List.{append_assoc, append-nil}
use Rattle.rational_theory.specs.Rational.{ℚ}
use Rattle.progression.specs.declared.parts.Dir.{Dir}
use Rattle.named_row.specs.declared.leaves.Weight.{Weight}
use Rattle.multi_band.specs.LinkStarts.{far_weight, far_weights}
use Rattle.std.proofs.lemmas.Grind.{elements}
use Rattle.multi_band.proofs.starting.push_fars.Goals as goal

-- one more
fars_more : (d : Dir) (by : ℚ) (i k : ℕ) → far_weights d by i k ++ far_weight d by (i + k) ∷ [] ≡ far_weights d by i (suc k)
fars_more d by i zero = let e : i + 0 ≡ i = omega arith in ap (λ j. far_weight d by j ∷ []) e
fars_more d by i (suc k) =
    let e : i + suc k ≡ i + 1 + k = omega arith in
    ap (λ j. far_weight d by i ∷ (far_weights d by (i + 1) k ++ far_weight d by j ∷ [])) e ∙ ap (λ ws. far_weight d by i ∷ ws) (fars_more d by (i + 1) k)

pushed : (d : Dir) (by : ℚ) (i : ℕ) (old list new : List Weight) (w : Weight) → 1 ≤ i → list ≡ old ++ far_weights d by 1 (i - 1) → new ≡ list ++ w ∷ []
    → w ≡ far_weight d by i → new ≡ old ++ far_weights d by 1 (i + 1 - 1)
pushed d by i old list new w l e f g =
    let m : 1 + (i - 1) ≡ i = omega arith in
    let n : suc (i - 1) ≡ i + 1 - 1 = omega arith in
    f ∙ ap (λ ws. ws ++ w ∷ []) e ∙ ap (λ u. (old ++ far_weights d by 1 (i - 1)) ++ u ∷ []) g
    ∙ append_assoc old (far_weights d by 1 (i - 1)) (far_weight d by i ∷ [])
    ∙ ap (λ j. old ++ (far_weights d by 1 (i - 1) ++ far_weight d by j ∷ [])) (sym m)
    ∙ ap (λ ws. old ++ ws) (fars_more d by 1 (i - 1)) ∙ ap (λ k. old ++ far_weights d by 1 k) n

pub loop-link-init : goal.loop-link-init
loop-link-init c = sym (append-nil c.args.list.now.items)

pub loop-link-preserved : goal.loop-link-preserved
loop-link-preserved c =
    let i = c.loop-link.link in
    pushed c.args.dir c.args.by i c.args.list.now.items c.loop-link.list.items c.push.new.self.items (record { row = record { family = c.far_family-family.result; index = i }; by = c.args.by })
    c.loop-link.auto.link c.loop-link.invariant c.in_ok-push.ensures.items (ap (λ f. record { row = record { family = f; index = i }; by = c.args.by }) c.far_family-family.ensures)

pub returns : goal.returns
returns c = grind (arith, elements)
