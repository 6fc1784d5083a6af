use Rattle.std.proofs.lemmas.Result.{err_from_is_err_and}
use Rattle.time_space.proofs.RulesOut.{not_base}
use Rattle.time_space.proofs.rules.check_base.Goals as goal

pub returns-in_err-check_shape-clause-refused : goal.returns-in_err-check_shape-clause-refused
returns-in_err-check_shape-clause-refused c =
    rw (err_from_is_err_and c.from_residual.result c.from_residual.ensures.1).1
    (not_base _ _ _ c.in_err-check_shape.ensures.first)

pub returns-in_err-check_shape-clause-first : goal.returns-in_err-check_shape-clause-first
returns-in_err-check_shape-clause-first c = let p = err_from_is_err_and c.from_residual.result c.from_residual.ensures.1 in rw (p.1, p.2) c.in_err-check_shape.ensures.first

pub returns-in_err-check_patterns-clause-refused : goal.returns-in_err-check_patterns-clause-refused
returns-in_err-check_patterns-clause-refused c =
    rw (err_from_is_err_and c.from_residual-in_err-check_patterns.result c.from_residual-in_err-check_patterns.ensures.1).1
    (not_base _ _ _ c.in_err-check_patterns.ensures.first)

pub returns-in_err-check_patterns-clause-first : goal.returns-in_err-check_patterns-clause-first
returns-in_err-check_patterns-clause-first c = let p = err_from_is_err_and c.from_residual-in_err-check_patterns.result c.from_residual-in_err-check_patterns.ensures.1 in
    rw (p.1, p.2) c.in_err-check_patterns.ensures.first

pub returns-in_err-check_cycle_least-clause-refused : goal.returns-in_err-check_cycle_least-clause-refused
returns-in_err-check_cycle_least-clause-refused c =
    rw (err_from_is_err_and c.from_residual-in_err-check_cycle_least.result c.from_residual-in_err-check_cycle_least.ensures.1).1
    (not_base _ _ _ c.in_err-check_cycle_least.ensures.first)

pub returns-in_err-check_cycle_least-clause-first : goal.returns-in_err-check_cycle_least-clause-first
returns-in_err-check_cycle_least-clause-first c = let p = err_from_is_err_and c.from_residual-in_err-check_cycle_least.result c.from_residual-in_err-check_cycle_least.ensures.1 in
    rw (p.1, p.2) c.in_err-check_cycle_least.ensures.first

pub returns-in_err-check_cycle_most-clause-refused : goal.returns-in_err-check_cycle_most-clause-refused
returns-in_err-check_cycle_most-clause-refused c =
    rw (err_from_is_err_and c.from_residual-in_err-check_cycle_most.result c.from_residual-in_err-check_cycle_most.ensures.1).1
    (not_base _ _ _ c.in_err-check_cycle_most.ensures.first)

pub returns-in_err-check_cycle_most-clause-first : goal.returns-in_err-check_cycle_most-clause-first
returns-in_err-check_cycle_most-clause-first c = let p = err_from_is_err_and c.from_residual-in_err-check_cycle_most.result c.from_residual-in_err-check_cycle_most.ensures.1 in
    rw (p.1, p.2) c.in_err-check_cycle_most.ensures.first

pub returns-in_err-check_links-clause-refused : goal.returns-in_err-check_links-clause-refused
returns-in_err-check_links-clause-refused c =
    rw (err_from_is_err_and c.from_residual-in_err-check_links.result c.from_residual-in_err-check_links.ensures.1).1
    (not_base _ _ _ c.in_err-check_links.ensures.first)

pub returns-in_err-check_links-clause-first : goal.returns-in_err-check_links-clause-first
returns-in_err-check_links-clause-first c = let p = err_from_is_err_and c.from_residual-in_err-check_links.result c.from_residual-in_err-check_links.ensures.1 in
    rw (p.1, p.2) c.in_err-check_links.ensures.first

pub returns-in_err-check_links-2-clause-refused : goal.returns-in_err-check_links-2-clause-refused
returns-in_err-check_links-2-clause-refused c =
    rw (err_from_is_err_and c.from_residual-in_err-check_links-2.result c.from_residual-in_err-check_links-2.ensures.1).1
    (not_base _ _ _ c.in_err-check_links-2.ensures.first)

pub returns-in_err-check_links-2-clause-first : goal.returns-in_err-check_links-2-clause-first
returns-in_err-check_links-2-clause-first c = let p = err_from_is_err_and c.from_residual-in_err-check_links-2.result c.from_residual-in_err-check_links-2.ensures.1 in
    rw (p.1, p.2) c.in_err-check_links-2.ensures.first

pub returns-in_err-check_links-3-clause-refused : goal.returns-in_err-check_links-3-clause-refused
returns-in_err-check_links-3-clause-refused c =
    rw (err_from_is_err_and c.from_residual-in_err-check_links-3.result c.from_residual-in_err-check_links-3.ensures.1).1
    (not_base _ _ _ c.in_err-check_links-3.ensures.first)

pub returns-in_err-check_links-3-clause-first : goal.returns-in_err-check_links-3-clause-first
returns-in_err-check_links-3-clause-first c = let p = err_from_is_err_and c.from_residual-in_err-check_links-3.result c.from_residual-in_err-check_links-3.ensures.1 in
    rw (p.1, p.2) c.in_err-check_links-3.ensures.first

pub returns-in_err-check_links-4-clause-refused : goal.returns-in_err-check_links-4-clause-refused
returns-in_err-check_links-4-clause-refused c =
    rw (err_from_is_err_and c.from_residual-in_err-check_links-4.result c.from_residual-in_err-check_links-4.ensures.1).1
    (not_base _ _ _ c.in_err-check_links-4.ensures.first)

pub returns-in_err-check_links-4-clause-first : goal.returns-in_err-check_links-4-clause-first
returns-in_err-check_links-4-clause-first c = let p = err_from_is_err_and c.from_residual-in_err-check_links-4.result c.from_residual-in_err-check_links-4.ensures.1 in
    rw (p.1, p.2) c.in_err-check_links-4.ensures.first

pub returns-clause-base : goal.returns-clause-base
returns-clause-base c = record {
  formed = c.check_shape.ensures.formed;
  shape = c.in_ok-check_shape.ensures.kept;
  patterns = c.in_ok-check_patterns.ensures.kept;
  cycle_least = c.in_ok-check_cycle_least.ensures.kept;
  cycle_most = c.in_ok-check_cycle_most.ensures.kept;
  fast = c.in_ok-check_links.ensures.kept;
  slow = c.in_ok-check_links-2.ensures.kept;
  rise = c.in_ok-check_links-3.ensures.kept;
  drop = c.in_ok-check_links-4.ensures.kept;
}

pub returns-clause-shape : goal.returns-clause-shape
returns-clause-shape c = c.in_ok-check_shape.ensures.kept
