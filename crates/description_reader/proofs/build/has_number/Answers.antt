use Rattle.std.proofs.Common.{◌∙◌, rules, tests, pos, int_eq}
use Rattle.std.proofs.lemmas.Iterator.{YieldsList-from_slice}
use Rattle.std.proofs.lemmas.Iterator.Search.{any_from_yields_List}
use Rattle.toml.specs.View.{view}
use Rattle.description_reader.specs.Quantity.{integer_in}
use Rattle.description_reader.proofs.Views.{number_of_views}
use Rattle.description_reader.proofs.build.has_number.Goals as goal

pub returns : goal.returns
returns c =
    any_from_yields_List (λ v. int_eq (integer_in (view v)) (pos c.args.pattern)) _ _ _ c.any.ensures.ran (YieldsList-from_slice c.args.items.now cc) (λ x b q k. search (rules, tests))
    ∙ number_of_views c.args.items.now c.args.pattern
