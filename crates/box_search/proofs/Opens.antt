-- What an end answers with its units; and the box of a part is of the kind that every box on a line is of.
use Rattle.std.proofs.Common.{◌≡◌, ℕ, ◌+◌, ◌⊎◌, inl, inr, Result, Ok, Err, IfOk, sym, ◌∙◌, ap, subst}
use Rattle.linear_theory.specs.Boxes.{Area}
use Rattle.search_box.specs.declared.span.At.{At}
use Rattle.branch_and_bound.specs.Lines.{BoxLine, low_line, high_line}
use Rattle.branch_and_bound.specs.Lineages.{at_low, at_high}
use Rattle.work_meter.specs.declared.meter.Meter.{Meter}
use Rattle.work_meter.specs.Work.{capped}
use Rattle.branch_and_bound.specs.Rules.{Rules, IsMet}
use Rattle.branch_and_bound.specs.Unfinished.{IsUnfinished}
use Rattle.branch_and_bound.specs.declared.opened.Opened.{Opened}
use Rattle.branch_and_bound.specs.declared.opened.Opened.TheVariants.{Infeasible, Timed, Splits, Unread, WorkOut, Wide}
use Rattle.branch_and_bound.specs.OpenedNodes.{Opens, IsPart, Finishes, Leaves}
use Rattle.box_search.specs.BoxRuns.{IsWideAt, IsReadEnd, IsEmptyEnd}

pub ok_map : {A E : Type 0} (r : Result A E) (P Q : A → Type 0) → ((x : A) → P x → Q x) → IfOk r P → IfOk r Q
ok_map (Ok x) P Q f h = f x h
ok_map (Err e) P Q f h = tt

-- ---- the units of an end
module _ {T K W : Type 0} (r : Rules T K W) (line : BoxLine) (before after : Meter) (k : ℕ) (e : k ≡ r.steps line) (l : Leaves before after k) (pivots : ℕ) (q : pivots ≡ capped k) where
  finished : Finishes r line before after
  finished = record { spent = l.spent ∙ ap (λ n. capped (before.spent + (1 + n))) e; within = l.within }

  left : (told : ℕ) (part : W) → IsWideAt r line (r.steps line) pivots told part → Opens r line before after (Wide told part)
  left told part h = (k, subst (IsUnfinished r line) (sym e) h.0, subst (λ n. r.IsWide line n part) (sym e) h.1, l, h.2 ∙ q)

  pub read_opens : (o : Opened T K W) → IsReadEnd r line pivots o → Opens r line before after o
  read_opens (Infeasible leaf) h = absurd h
  read_opens (Timed leaf bound timing) h = (h, finished)
  read_opens (Splits leaf bound place point kept) h = (h, finished)
  read_opens (Unread leaf bound told part) h = (h, finished)
  read_opens WorkOut h = absurd h
  read_opens (Wide told part) h = left told part h

  pub empty_opens : (o : Opened T K W) → IsEmptyEnd r line pivots o → Opens r line before after o
  empty_opens (Infeasible leaf) h = (h, finished)
  empty_opens (Timed leaf bound timing) h = absurd h
  empty_opens (Splits leaf bound place point kept) h = absurd h
  empty_opens (Unread leaf bound told part) h = absurd h
  empty_opens WorkOut h = absurd h
  empty_opens (Wide told part) h = left told part h

-- ---- boxes
-- a part's box is of the kind that every box on a line is of
pub part_is_for : {T K W : Type 0} (r : Rules T K W) (IsFor : Area → Type 0) → ((line : BoxLine) → IsMet r line → IsFor line.area)
    → (kept : K) (area : Area) (parent line : BoxLine) (place : At) → IsPart r parent place line kept area → IsFor area
part_is_for r IsFor boxes kept area parent line place p = pick p.side
  where
    pick : (line ≡ low_line place parent) ⊎ (line ≡ high_line place parent) → IsFor area
    pick (inl e) = subst IsFor (sym (p.area_is ∙ ap (λ (l : BoxLine). l.area) e)) (boxes (low_line place parent) (at_low parent place p.lineage p.cut))
    pick (inr e) = subst IsFor (sym (p.area_is ∙ ap (λ (l : BoxLine). l.area) e)) (boxes (high_line place parent) (at_high parent place p.lineage p.cut))
