use Rattle.program_builder.specs.Remembering.{HaveRoom}
use Rattle.program_builder.proofs.remembering.make_pivots.Given as goal

abbrev pub invariant-loop : goal.invariant-loop
invariant-loop l = HaveRoom l.pivots.items l.numbers
