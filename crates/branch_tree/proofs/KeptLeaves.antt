-- The leaf of the end of a line of an artery, and the start leaf, are leaves that a certificate keeps: their rows have names and ascend, and are few.
use Rattle.std.proofs.Common.{arith, ℕ, pos, Bool, true, false, cond, [], ◌∷◌, refl}
use Rattle.std.proofs.lemmas.List.Elements.{All-nil, All-cons}
use Rattle.std.specs.Ordering.{eq_by_cmp}
use Rattle.rational_theory.specs.Rational.{whole}
use Rattle.rational_theory.specs.Compare.{cmp_ℚ}
use Rattle.progression.specs.Street.{Street}
use Rattle.progression.specs.Speeds.{number}
use Rattle.artery_model.specs.Valid.{IsValid}
use Rattle.linear_theory.specs.Names.{HasRow, name_of}
use Rattle.branch_and_bound.specs.Lines.{BoxLine}
use Rattle.linear_theory.proofs.Families.{row_index, family_least, family_most}
use Rattle.named_row.specs.declared.leaves.Weight.{Weight}
use Rattle.program_builder.proofs.RowOrder.{rows_ascending, rows_there}
use Rattle.program_builder.proofs.RowCounts.{rows_most}
use Rattle.certificate_model.specs.Families.{IsNamed, ordinary}
use Rattle.certificate_model.specs.Warrants.{LeafOf}
use Rattle.certificate_model.proofs.KeptNodes.{IsNode}
use Rattle.branch_tree.specs.ArteryProgram.{program_of}
use Rattle.box_search.specs.Ends.{end_leaf}
use Rattle.branch_tree.specs.Starts.{first_out, first_in, start_leaf}
use Rattle.box_search.proofs.KeptLeaves.{program_kept}

-- a row of the artery has a name
named_row : (a : Street) (f i : ℕ) → HasRow a (name_of f i) → IsNamed (record { family = f; index = i })
unfolding ordinary
named_row a f i h =
    let x = row_index a f i h in
    record { first = family_least a f i h; last = family_most a f i h; lone = x.none; indexed = x.some }

-- ---- leaves
module _ (a : Street) (v : IsValid a) where
  -- the leaf of a line's end
  pub end_kept : (line : BoxLine) → IsNode (LeafOf (end_leaf (program_of a) line))
  end_kept line =
      let most = rows_most a v.many in
      program_kept ordinary (program_of a) line (omega arith) (rows_ascending a) (λ k l. named_row a _ _ (rows_there a k l))

  -- the start leaf
  pub start_kept : IsNode (LeafOf (start_leaf a))
  start_kept = pick (eq_by_cmp cmp_ℚ a.head.ratio (whole (pos 0)))
    where
      out_named : IsNamed first_out
      out_named = named_row a 1 1 (omega arith, let n = v.few in omega arith)

      in_named : IsNamed first_in
      in_named = named_row a 2 1 (omega arith, let n = v.few in omega arith)

      weight_out : Weight
      weight_out = record { row = first_out; by = number 1 }

      weight_in : Weight
      weight_in = record { row = first_in; by = a.head.ratio }

      pick : (b : Bool) → IsNode (LeafOf (weight_out ∷ cond b [] (weight_in ∷ [])))
      pick true = (omega arith, (refl, tt), All-cons (λ (w : Weight). IsNamed w.row) weight_out [] out_named (All-nil (λ (w : Weight). IsNamed w.row)))
      pick false = (
        omega arith,
        (refl, (refl, tt)),
        All-cons (λ (w : Weight). IsNamed w.row) weight_out (weight_in ∷ []) out_named (All-cons (λ (w : Weight). IsNamed w.row) weight_in [] in_named (All-nil (λ (w : Weight). IsNamed w.row))),
      )
