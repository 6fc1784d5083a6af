-- A line's box is finished within as many units as there are sets of basic variables, at most: Bland's rule meets none of them twice.
use Rattle.std.proofs.Common.{◌+◌, ◌<◌, ◌^◌, ◌∙◌, ap, ap₂, subst, arith}
use Rattle.simplex_theory.proofs.StepCounts.{steps_low, room_is}
use Rattle.branch_and_bound.specs.Lines.{BoxLine}
use Rattle.branch_and_bound.specs.Enough.{IsShort}
use Rattle.box_search.specs.Program.{Program}
use Rattle.box_search.specs.Ends.{steps_of}
use Rattle.box_search.proofs.Runs.{due_before}
use Rattle.box_search.specs.Enough.{sets_in}
use Rattle.box_search.specs.laws.RunLaws.{first_height}
use Rattle.branch_and_bound.specs.Rules.{IsMet}
use Rattle.box_search.specs.Meaning.{Meaning, rules_from}

pub steps_few : {T W : Type 0} (p : Program T W) (line : BoxLine) → p.IsSound → steps_of p line < sets_in p
unfolding steps_of
steps_few p line v =
    let size = ap₂ (λ m n. m + n) (first_height p line v) (p.first_is v line).columns_are in
    subst (λ n. steps_of p line < n) (room_is _ ∙ ap (λ n. 2 ^ n) size) (steps_low (p.first line) (p.first_is v line).dual)

pub program_short : {T K W : Type 0} (p : Program T W) (m : Meaning K p) → ((line : BoxLine) → IsMet (rules_from p m) line → p.IsSound) → IsShort (rules_from p m) (sets_in p)
program_short p m sound = record {
  cost = λ line l. let s = steps_few p line (sound line l) in omega arith;
  due = λ line k l d. due_before p line (sound line l) k d;
}
