use Rattle.engine_tests.proofs.tests.program_builder_tests.tests.opening.Goals as goal

pub returns-clause-first : goal.returns-clause-first
returns-clause-first c =
    let e = c.reset_from.ensures in
    record { columns = e.made.columns; dual = e.dual; stands = e.stands }
