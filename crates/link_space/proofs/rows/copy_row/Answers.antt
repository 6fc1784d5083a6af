use Rattle.std.proofs.Common.{length, refl, sym, ◌∙◌, ap}
use Rattle.link_space.proofs.Copies.{copied, copied_first}
use Rattle.link_space.proofs.rows.copy_row.Goals as goal

pub loop-column-init : goal.loop-column-init
loop-column-init c = record {
  value = c.clear.ensures.value ∙ copied_first c.args.from.now.coefs (length c.args.into.now.coefs) ∙ ap (λ n. copied c.args.from.now.coefs 0 n) (sym c.clear.ensures.width);
  width = refl;
}
