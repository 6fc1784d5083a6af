use Rattle.std.proofs.Common.{◌≡◌, List, ℕ, ◌++◌, OnOk, sym, ap, ◌∙◌, subst, arith}
use Rattle.std.proofs.lemmas.List.{append-nil}
use Rattle.diagram_print.proofs.ColumnNames.{wait_out, wait_in, run_out, run_in, shift, half_out, half_in, past_columns}
use Rattle.diagram_print.proofs.names.push_column_at.Goals as goal

pub returns-then-column-signals : goal.returns-then-column-signals
returns-then-column-signals c =
    let e = wait_out c.args.signals c.args.column (omega arith) (omega arith) in
    subst (λ (y : List ℕ). OnOk c.push_numbered.result (c.push_numbered.new.out.items ≡ c.args.out.now.items ++ y)) (sym e) c.push_numbered.ensures

pub returns-then-column-signals-2 : goal.returns-then-column-signals-2
returns-then-column-signals-2 c =
    let e = wait_in c.args.signals c.args.column (omega arith) (omega arith) in
    subst (λ (y : List ℕ). OnOk c.push_numbered-then-column-signals-2.result (c.push_numbered-then-column-signals-2.new.out.items ≡ c.args.out.now.items ++ y))
    (sym e) c.push_numbered-then-column-signals-2.ensures

pub returns-then-column-signals-3 : goal.returns-then-column-signals-3
returns-then-column-signals-3 c =
    let e = run_out c.args.signals c.args.column (omega arith) (omega arith) in
    subst (λ (y : List ℕ). OnOk c.push_numbered-then-column-signals-3.result (c.push_numbered-then-column-signals-3.new.out.items ≡ c.args.out.now.items ++ y))
    (sym e) c.push_numbered-then-column-signals-3.ensures

pub returns-then-column-signals-4 : goal.returns-then-column-signals-4
returns-then-column-signals-4 c =
    let e = run_in c.args.signals c.args.column (omega arith) (omega arith) in
    subst (λ (y : List ℕ). OnOk c.push_numbered-then-column-signals-4.result (c.push_numbered-then-column-signals-4.new.out.items ≡ c.args.out.now.items ++ y))
    (sym e) c.push_numbered-then-column-signals-4.ensures

pub returns-then-column-signals-5 : goal.returns-then-column-signals-5
returns-then-column-signals-5 c =
    let e = shift c.args.signals c.args.column (omega arith) (omega arith) (omega arith) in
    subst (λ (y : List ℕ). OnOk c.push_numbered-then-column-signals-5.result (c.push_numbered-then-column-signals-5.new.out.items ≡ c.args.out.now.items ++ y))
    (sym e) c.push_numbered-then-column-signals-5.ensures

pub returns-then-column-signals-6 : goal.returns-then-column-signals-6
returns-then-column-signals-6 c =
    let e = half_out c.args.signals c.args.column (omega arith) (omega arith) in
    subst (λ (y : List ℕ). OnOk c.push_numbered-then-column-signals-6.result (c.push_numbered-then-column-signals-6.new.out.items ≡ c.args.out.now.items ++ y))
    (sym e) c.push_numbered-then-column-signals-6.ensures

pub returns-then-column-signals-7 : goal.returns-then-column-signals-7
returns-then-column-signals-7 c =
    let e = half_in c.args.signals c.args.column (omega arith) (omega arith) in
    subst (λ (y : List ℕ). OnOk c.push_numbered-then-column-signals-7.result (c.push_numbered-then-column-signals-7.new.out.items ≡ c.args.out.now.items ++ y))
    (sym e) c.push_numbered-then-column-signals-7.ensures

pub returns-else-column-signals-7 : goal.returns-else-column-signals-7
returns-else-column-signals-7 c =
    sym (append-nil c.args.out.now.items) ∙ ap (λ (y : List ℕ). c.args.out.now.items ++ y) (sym (past_columns c.args.signals c.args.column (omega arith) (omega arith)))
