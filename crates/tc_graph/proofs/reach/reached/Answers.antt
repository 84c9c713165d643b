use Rattle.std.proofs.Common.{◌∙◌, ◌<◌, ◌∷◌, [], ap, arith, sym, subst, rules, length, length-append}
use Rattle.tc_graph.specs.Graph.{rows_of}
use Rattle.tc_graph.specs.Marks.{Marks}
use Rattle.tc_graph.proofs.Marks.{IsWalked, number_within, row_within, row_at, count_rows, none_left, walked_init, walked_more, walked_all}
use Rattle.tc_graph.proofs.reach.reached.Goals as goal

pub offset_bounds-rows-number : goal.offset_bounds-rows-number
offset_bounds-rows-number c =
    let k : c.in-Some.number < length c.args.rows.now = number_within c.args.rows.now c.args.from c.in-Some.number c.loop-number.marks.items c.pop.new.self.items c.loop-number.pending.items c.in-Some.ensures.items c.loop-number.invariant in
    search rules

pub bounds-rows-number : goal.bounds-rows-number
bounds-rows-number c =
    number_within c.args.rows.now c.args.from c.in-Some.number c.loop-number.marks.items c.pop.new.self.items c.loop-number.pending.items c.in-Some.ensures.items c.loop-number.invariant

pub mark-requires : goal.mark-requires
mark-requires c =
    row_within c.args.rows.now c.in-Some.number (length c.loop-number.marks.items) _
    (number_within c.args.rows.now c.args.from c.in-Some.number c.loop-number.marks.items c.pop.new.self.items c.loop-number.pending.items c.in-Some.ensures.items c.loop-number.invariant)
    (c.loop-number.invariant.size ∙ count_rows c.args.rows.now) c.requires.graph

pub loop-number-preserved : goal.loop-number-preserved
loop-number-preserved c =
    let rows = c.args.rows.now in
    let number = c.in-Some.number in
    let small = number_within rows c.args.from number c.loop-number.marks.items c.pop.new.self.items c.loop-number.pending.items c.in-Some.ensures.items c.loop-number.invariant in
    walked_more (rows_of rows) c.args.from number c.loop-number.marks.items c.mark.new.marks.items c.pop.new.self.items c.loop-number.pending.items c.mark.new.pending.items
    c.in-Some.ensures.items c.loop-number.invariant
    (subst (λ r. Marks r c.loop-number.marks.items c.mark.new.marks.items c.pop.new.self.items c.mark.new.pending.items) (sym (row_at rows number _ small)) c.in_ok-mark.ensures)

pub returns : goal.returns
returns c =
    walked_all (rows_of c.args.rows.now) c.args.from c.loop-number.marks.items
    (subst (IsWalked (rows_of c.args.rows.now) c.args.from c.loop-number.marks.items) (none_left c.loop-number.pending.items (search (rules, c.in_default.ensures.cases.0))) c.loop-number.invariant)

pub index_mut-requires : goal.index_mut-requires
index_mut-requires c = omega (arith, c.in_ok-marks.ensures.len, c.requires.within)

pub loop-number-init : goal.loop-number-init
loop-number-init c =
    walked_init c.args.rows.now c.args.from c.in_ok-marks.marks.items c.new-pending.result.items c.push.new.self.items c.requires.within
    (c.in_ok-marks.ensures.items_if_clones_equal (λ y e. e)) c.new-pending.ensures.items c.in_ok-push.ensures.items

pub loop-number-smaller : goal.loop-number-smaller
loop-number-smaller c =
    omega (arith, c.in_ok-mark.ensures.count, ap length c.in-Some.ensures.items, length-append c.pop.new.self.items (c.in-Some.number ∷ []))
