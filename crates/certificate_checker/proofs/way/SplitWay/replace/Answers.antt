use Rattle.std.proofs.Common.{◌≡◌, ◌+◌, ◌-◌, ◌<◌, length, ◌∙◌, ap, drop, ◌∷◌, subst, sym, arith}
use Rattle.std.proofs.lemmas.List.{length-reverse}
use Rattle.certificate_checker.proofs.Ways.{last_put}
use Rattle.certificate_checker.proofs.way.SplitWay.replace.Goals as goal

pub returns : goal.returns
returns c =
    let xs = c.self.inside.entries.items in
    let some = subst (λ ys. 0 < length ys) (sym c.self.view_is) c.requires in
    let n : length xs ≡ c.len-last.result - 1 + 1 = omega (arith, c.len-last.ensures, length-reverse xs, some) in
    last_put xs (c.len-last.result - 1) c.args.entry n ∙ ap (λ ys. c.args.entry ∷ drop 1 ys) c.self.view_is
