use Rattle.search_box.proofs.Views.{single, not_single}
use Rattle.search_box.proofs.area.SearchBox.is_single.Goals as goal

pub returns-then-are_single : goal.returns-then-are_single
returns-then-are_single c =
    let f = c.self.inside in
    let h = c.are_single.ensures in
    let k = c.are_single_ranks.ensures in
    single f.loops.items f.turns.items c.args.self.now c.are_single.result c.are_single_ranks.result c.self.view_is (rw c.as_slice.ensures.value at h)
    (rw c.as_slice-then-are_single.ensures.value at k) c.if-are_single.true

pub returns-else-are_single : goal.returns-else-are_single
returns-else-are_single c =
    let f = c.self.inside in
    let h = c.are_single.ensures in
    not_single f.loops.items f.turns.items c.args.self.now c.are_single.result c.self.view_is (rw c.as_slice.ensures.value at h) c.if-are_single.false
