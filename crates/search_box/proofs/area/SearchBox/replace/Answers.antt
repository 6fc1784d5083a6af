use Rattle.std.proofs.Common.{◌≡◌, to_z, of_z, arith}
use Rattle.std.specs.Int.{w64}
use Rattle.std.proofs.lemmas.Int.{ints}
use Rattle.search_box.specs.declared.span.At.TheVariants.{Loop, Turn}
use Rattle.search_box.specs.Seen.{span_of}
use Rattle.search_box.proofs.SpanBoxes.{span_boxed}
use Rattle.search_box.proofs.area.SearchBox.replace.Goals as goal

pub returns-in-Loop-clause-boxed : goal.returns-in-Loop-clause-boxed
returns-in-Loop-clause-boxed c a b w =
    let place = c.in-Loop.is in
    rw c.replace_loop.ensures.put
    (span_boxed a c.args.self.now (Loop c.in-Loop.link c.in-Loop.at) (span_of c.args.span) (rw place at c.requires.there) (rw place at c.requires.ranks) b (rw place at w))

pub returns-in-Turn-clause-boxed : goal.returns-in-Turn-clause-boxed
returns-in-Turn-clause-boxed c a b w =
    let place = c.in-Turn.is in
    let least : to_z w64 (of_z w64 c.args.span.least) ≡ c.args.span.least = omega (arith, ints) in
    let most : to_z w64 (of_z w64 c.args.span.most) ≡ c.args.span.most = omega (arith, ints) in
    rw (c.replace_turn.ensures.put, least, most)
    (span_boxed a c.args.self.now (Turn c.in-Turn.signal c.in-Turn.rank) (span_of c.args.span) (rw place at c.requires.there) (rw place at c.requires.ranks) b (rw place at w))
