use Rattle.std.proofs.Common.{◌≡◌, ◌-◌, ◌*◌, length, true≢false, refl, sym, subst, ◌∙◌, ap, arith}
use Rattle.progression.specs.Street.{count}
use Rattle.linear_theory.specs.Names.{name_of}
use Rattle.named_row.specs.Sheets.{Sheet}
use Rattle.link_theory.specs.LinkNames.{OfLines}
use Rattle.link_space.specs.LinkSheets.{wide_sheet, IsFilledLinks}
use Rattle.link_space.proofs.FilledRows.{link_sheet_filled}
use Rattle.link_space.proofs.rows.fill_line.Goals as goal

pub returns-then-not-is_of_lines-clause-there : goal.returns-then-not-is_of_lines-clause-there
returns-then-not-is_of_lines-clause-there c = (λ e. absurd (true≢false (sym e)), λ h. (c.if-not-is_of_lines.ensures c.args.row.index).1 h.0)

pub returns-then-not-fill_row-clause-there : goal.returns-then-not-fill_row-clause-there
returns-then-not-fill_row-clause-there c = (λ e. absurd (true≢false (sym e)), λ h. c.if-not-fill_row.ensures.there.1 h.1)

pub returns-clause-there : goal.returns-clause-there
returns-clause-there c = (λ e. ((c.if-not-is_of_lines.ensures c.args.row.index).0 refl, c.if-not-fill_row.ensures.there.0 refl), λ h. refl)

pub returns-clause-row : goal.returns-clause-row
returns-clause-row c = λ e.
    let a = c.args.artery.now in
    let few = c.count.ensures.few in let value = c.count.ensures.value in
    let room = c.fill_row.ensures.width in let wide = c.requires.columns in
    let k : length c.args.into.now.coefs - length c.fill_row.new.into.coefs ≡ 2 * (count a - 1) = omega arith in
    c.copy_row.ensures.value ∙ ap (λ n. wide_sheet n c.fill_row.new.into) k ∙ ap (λ (r : Sheet). wide_sheet (2 * (count a - 1)) r) (c.if-not-fill_row.ensures.row refl)

pub returns-clause-met : goal.returns-clause-met
returns-clause-met c = λ e.
    subst (IsFilledLinks c.args.artery.now c.args.area.now) (sym (returns-clause-row c e))
    (link_sheet_filled c.args.artery.now c.args.area.now (OfLines (name_of c.args.row.family c.args.row.index)) ((returns-clause-there c).0 refl))
