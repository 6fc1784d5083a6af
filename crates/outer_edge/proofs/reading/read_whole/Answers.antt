use Rattle.std.proofs.Common.{arith, ◌∙◌}
use Rattle.outer_edge.proofs.Fronts.{front_after, begins_with}
use Rattle.std.proofs.lemmas.Grind.{common_steps}
use Rattle.outer_edge.proofs.reading.read_whole.Goals as goal

pub turns-preserved : goal.turns-preserved
turns-preserved g c = record {
  files = λ name. c.in_ok-count.ensures.files name ∙ c.turns.invariant.files name;
  front = front_after _ _ _ _ c.turns.invariant.front (rw c.turns.invariant.files at c.in_ok-count.ensures.more);
  within = omega arith;
  reads = λ name. c.in_ok-count.ensures.none_failed name ∙ c.turns.invariant.reads name;
  puts = λ name. c.in_ok-count.ensures.puts name ∙ c.turns.invariant.puts name;
}

pub returns-then-len-limit-clause-long_front : goal.returns-then-len-limit-clause-long_front
returns-then-len-limit-clause-long_front g c _ =
    begins_with _ c.take_piece.new.all.items _ (omega arith) (front_after _ _ _ _ c.turns.invariant.front (rw c.turns.invariant.files at c.in_ok-count.ensures.more))

pub returns-in_err-count : goal.returns-in_err-count
returns-in_err-count g c = grind (arith, common_steps)

pub returns-then-count-eq0 : goal.returns-then-count-eq0
returns-then-count-eq0 g c = grind (arith, common_steps)

pub returns-then-len-limit-clause-too_long : goal.returns-then-len-limit-clause-too_long
returns-then-len-limit-clause-too_long g c = grind (arith, common_steps)

pub returns-then-len-limit-clause-counted : goal.returns-then-len-limit-clause-counted
returns-then-len-limit-clause-counted g c = grind (arith, common_steps)

pub returns-then-len-limit-clause-failed : goal.returns-then-len-limit-clause-failed
returns-then-len-limit-clause-failed g c = grind arith

pub returns-then-len-limit-clause-long_counts : goal.returns-then-len-limit-clause-long_counts
returns-then-len-limit-clause-long_counts g c = grind arith

pub returns-then-len-limit-clause-memory_counts : goal.returns-then-len-limit-clause-memory_counts
returns-then-len-limit-clause-memory_counts g c = grind arith

pub returns-then-len-limit-clause-reads : goal.returns-then-len-limit-clause-reads
returns-then-len-limit-clause-reads g c = grind arith
