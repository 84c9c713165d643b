use Rattle.std.proofs.Common.{◌≡◌, ◌∙◌, ◌<◌, ◌-◌, ap, sym, subst, arith, rules, length, slice_index, take}
use Rattle.tc_graph.specs.Graph.{Path, rows_of}
use Rattle.tc_graph.specs.Walks.{IsWalk, cost, entered, joined, seen, state_at, stepped}
use Rattle.tc_graph.proofs.Marks.{count_rows, row_at}
use Rattle.tc_graph.proofs.Tops.{below_same, has_last, some_of, step_left, on_ok, state_is, target_is, target_within}
use Rattle.tc_graph.proofs.Walks.{stands_within, step_reach, walk_enter, walk_join, walk_skip, walk_close, close_old, enter_less, skip_less, join_less}
use Rattle.tc_graph.proofs.cycles.Walk.advance.Goals as goal

pub close-requires-clause-within : goal.close-requires-clause-within
close-requires-clause-within c = (c.requires.walk.within c.args.start (has_last c.args.self.now.starts.items c.requires.last.0 c.args.start c.requires.last.1)).0

pub close-requires-clause-states : goal.close-requires-clause-states
close-requires-clause-states c = stands_within c.requires.walk

pub returns-then-len-start-clause-walk : goal.returns-then-len-start-clause-walk
returns-then-len-start-clause-walk c =
    let none : length c.args.self.now.steps.items ≡ c.args.start.step = omega (arith, c.if-len-start.true, c.len.ensures, c.args.self.now.steps.ok.0) in
    on_ok c.close.result (λ e. walk_close (rows_of c.args.rows.now) (seen c.args.self.now) (seen c.close.new.self) c.requires.last.0 c.args.start c.requires.walk c.requires.last.1 none e) c.close.ensures

pub returns-then-len-start-clause-old : goal.returns-then-len-start-clause-old
returns-then-len-start-clause-old c =
    let none : length c.args.self.now.steps.items ≡ c.args.start.step = omega (arith, c.if-len-start.true, c.len.ensures, c.args.self.now.steps.ok.0) in
    on_ok c.close.result (λ e. close_old (rows_of c.args.rows.now) (seen c.args.self.now) (seen c.close.new.self) c.requires.last.0 c.args.start c.requires.walk c.requires.last.1 none e) c.close.ensures

pub overflow_sub-len : goal.overflow_sub-len
overflow_sub-len c =
    let high = (c.requires.walk.within c.args.start (has_last c.args.self.now.starts.items c.requires.last.0 c.args.start c.requires.last.1)).1 in
    omega (arith, high, c.if-len-start.false, c.len.ensures, c.len-2.ensures, c.args.self.now.steps.ok.0)

pub index-to-requires : goal.index-to-requires
index-to-requires c =
    let high = (c.requires.walk.within c.args.start (has_last c.args.self.now.starts.items c.requires.last.0 c.args.start c.requires.last.1)).1 in
    omega (arith, high, c.if-len-start.false, c.len.ensures, c.len-2.ensures, c.args.self.now.steps.ok.0)

pub index-requires : goal.index-requires
index-requires c =
    let high = (c.requires.walk.within c.args.start (has_last c.args.self.now.starts.items c.requires.last.0 c.args.start c.requires.last.1)).1 in
    let some : 0 < length c.args.self.now.steps.items = some_of (step_left high c.if-len-start.false c.len.ensures c.args.self.now.steps.ok.0) in
    let is = target_is c.args.self.now.steps.items c.len-2.result c.index-to.result.now (c.len-2.ensures ∙ c.args.self.now.steps.ok.0) some c.index-to.ensures in
    below_same (target_within c.index-to.result.now c.requires.walk c.requires.graph some is) (c.args.self.now.states.ok.0 ∙ c.requires.walk.size)

pub offset_bounds-rows-to : goal.offset_bounds-rows-to
offset_bounds-rows-to c =
    let high = (c.requires.walk.within c.args.start (has_last c.args.self.now.starts.items c.requires.last.0 c.args.start c.requires.last.1)).1 in
    let some : 0 < length c.args.self.now.steps.items = some_of (step_left high c.if-len-start.false c.len.ensures c.args.self.now.steps.ok.0) in
    let is = target_is c.args.self.now.steps.items c.len-2.result c.index-to.result.now (c.len-2.ensures ∙ c.args.self.now.steps.ok.0) some c.index-to.ensures in
    let small : c.index-to.result.now < length c.args.rows.now = below_same (target_within c.index-to.result.now c.requires.walk c.requires.graph some is) (sym (count_rows c.args.rows.now)) in
    search rules

pub bounds-rows-to : goal.bounds-rows-to
bounds-rows-to c =
    let high = (c.requires.walk.within c.args.start (has_last c.args.self.now.starts.items c.requires.last.0 c.args.start c.requires.last.1)).1 in
    let some : 0 < length c.args.self.now.steps.items = some_of (step_left high c.if-len-start.false c.len.ensures c.args.self.now.steps.ok.0) in
    let is = target_is c.args.self.now.steps.items c.len-2.result c.index-to.result.now (c.len-2.ensures ∙ c.args.self.now.steps.ok.0) some c.index-to.ensures in
    below_same (target_within c.index-to.result.now c.requires.walk c.requires.graph some is) (sym (count_rows c.args.rows.now))

pub enter-requires : goal.enter-requires
enter-requires c =
    let high = (c.requires.walk.within c.args.start (has_last c.args.self.now.starts.items c.requires.last.0 c.args.start c.requires.last.1)).1 in
    let some : 0 < length c.args.self.now.steps.items = some_of (step_left high c.if-len-start.false c.len.ensures c.args.self.now.steps.ok.0) in
    let is = target_is c.args.self.now.steps.items c.len-2.result c.index-to.result.now (c.len-2.ensures ∙ c.args.self.now.steps.ok.0) some c.index-to.ensures in
    below_same (target_within c.index-to.result.now c.requires.walk c.requires.graph some is) c.requires.walk.size

pub returns-in-New-clause-walk : goal.returns-in-New-clause-walk
returns-in-New-clause-walk c =
    let rows = c.args.rows.now in
    let s = seen c.args.self.now in
    let high = (c.requires.walk.within c.args.start (has_last s.starts c.requires.last.0 c.args.start c.requires.last.1)).1 in
    let some : c.args.start.step < length s.steps = step_left high c.if-len-start.false c.len.ensures c.args.self.now.steps.ok.0 in
    let is = target_is s.steps c.len-2.result c.index-to.result.now (c.len-2.ensures ∙ c.args.self.now.steps.ok.0) (some_of some) c.index-to.ensures in
    let small = target_within c.index-to.result.now c.requires.walk c.requires.graph (some_of some) is in
    let new = state_is s.states c.index-to.result.now _ _ (below_same small c.requires.walk.size) c.index.ensures c.in-New.is in
    let reach = step_reach (rows_of rows) s c.requires.last.0 c.args.start c.requires.walk c.requires.last.1 some in
    let walks = walk_enter (rows_of rows) s c.index-to.result.now c.requires.walk small new (λ i h. subst (λ z. Path (rows_of rows) (slice_index s.stack i) z) is (reach i h)) in
    on_ok c.enter.result (λ e. subst (IsWalk (rows_of rows)) (sym (e ∙ ap (λ r. entered c.index-to.result.now r s) (sym (row_at rows c.index-to.result.now _ (below_same small (sym (count_rows rows))))))) walks) c.enter.ensures

pub returns-in-New-clause-less : goal.returns-in-New-clause-less
returns-in-New-clause-less c =
    let rows = c.args.rows.now in
    let s = seen c.args.self.now in
    let high = (c.requires.walk.within c.args.start (has_last s.starts c.requires.last.0 c.args.start c.requires.last.1)).1 in
    let some : c.args.start.step < length s.steps = step_left high c.if-len-start.false c.len.ensures c.args.self.now.steps.ok.0 in
    let is = target_is s.steps c.len-2.result c.index-to.result.now (c.len-2.ensures ∙ c.args.self.now.steps.ok.0) (some_of some) c.index-to.ensures in
    let small = target_within c.index-to.result.now c.requires.walk c.requires.graph (some_of some) is in
    let states : c.index-to.result.now < length s.states = below_same small c.requires.walk.size in
    let new = state_is s.states c.index-to.result.now _ _ states c.index.ensures c.in-New.is in
    let less = enter_less (rows_of rows) s c.index-to.result.now states new in
    on_ok c.enter.result (λ e. subst (λ z. cost (rows_of rows) z < cost (rows_of rows) s) (sym (e ∙ ap (λ r. entered c.index-to.result.now r s) (sym (row_at rows c.index-to.result.now _ (below_same small (sym (count_rows rows))))))) less) c.enter.ensures

pub returns-in-Open-clause-walk : goal.returns-in-Open-clause-walk
returns-in-Open-clause-walk c =
    let rows = c.args.rows.now in
    let s = seen c.args.self.now in
    let high = (c.requires.walk.within c.args.start (has_last s.starts c.requires.last.0 c.args.start c.requires.last.1)).1 in
    let some : c.args.start.step < length s.steps = step_left high c.if-len-start.false c.len.ensures c.args.self.now.steps.ok.0 in
    let is = target_is s.steps c.len-2.result c.index-to.result.now (c.len-2.ensures ∙ c.args.self.now.steps.ok.0) (some_of some) c.index-to.ensures in
    let small = target_within c.index-to.result.now c.requires.walk c.requires.graph (some_of some) is in
    let there = state_is s.states c.index-to.result.now _ _ (below_same small c.requires.walk.size) c.index.ensures c.in-Open.is in
    let walks = walk_join (rows_of rows) s c.requires.last.0 c.args.start c.requires.walk c.requires.last.1 some c.in-Open.place c.join.new.self.starts.items (ap (state_at s.states) is ∙ there) c.join.ensures.started in
    let e : c.pop.new.self.items ≡ take (length s.steps - 1) s.steps = c.pop.ensures.rest ∙ ap (λ n. take (n - 1) s.steps) c.args.self.now.steps.ok.0 in
    let all : seen c.join.new.self ≡ joined c.join.new.self.starts.items (stepped s) = c.join.ensures.joined ∙ ap (λ z. joined c.join.new.self.starts.items (record s { steps = z })) e in
    subst (IsWalk (rows_of rows)) (sym all) walks

pub returns-in-Open-clause-less : goal.returns-in-Open-clause-less
returns-in-Open-clause-less c =
    let s = seen c.args.self.now in
    let high = (c.requires.walk.within c.args.start (has_last s.starts c.requires.last.0 c.args.start c.requires.last.1)).1 in
    let some : 0 < length s.steps = some_of (step_left high c.if-len-start.false c.len.ensures c.args.self.now.steps.ok.0) in
    let e : c.pop.new.self.items ≡ take (length s.steps - 1) s.steps = c.pop.ensures.rest ∙ ap (λ n. take (n - 1) s.steps) c.args.self.now.steps.ok.0 in
    let all : seen c.join.new.self ≡ joined c.join.new.self.starts.items (stepped s) = c.join.ensures.joined ∙ ap (λ z. joined c.join.new.self.starts.items (record s { steps = z })) e in
    subst (λ z. cost (rows_of c.args.rows.now) z < cost (rows_of c.args.rows.now) s) (sym all) (join_less (rows_of c.args.rows.now) s c.in-Open.place c.join.new.self.starts.items c.join.ensures.started some)

pub returns-in-Done-clause-walk : goal.returns-in-Done-clause-walk
returns-in-Done-clause-walk c =
    let rows = c.args.rows.now in
    let s = seen c.args.self.now in
    let high = (c.requires.walk.within c.args.start (has_last s.starts c.requires.last.0 c.args.start c.requires.last.1)).1 in
    let some : c.args.start.step < length s.steps = step_left high c.if-len-start.false c.len.ensures c.args.self.now.steps.ok.0 in
    let is = target_is s.steps c.len-2.result c.index-to.result.now (c.len-2.ensures ∙ c.args.self.now.steps.ok.0) (some_of some) c.index-to.ensures in
    let small = target_within c.index-to.result.now c.requires.walk c.requires.graph (some_of some) is in
    let there = state_is s.states c.index-to.result.now _ _ (below_same small c.requires.walk.size) c.index.ensures c.in-Done.is in
    let walks = walk_skip (rows_of rows) s c.requires.last.0 c.args.start c.requires.walk c.requires.last.1 some (c.in-Done.field-0, ap (state_at s.states) is ∙ there) in
    let e : c.pop-in-Done.new.self.items ≡ take (length s.steps - 1) s.steps = c.pop-in-Done.ensures.rest ∙ ap (λ n. take (n - 1) s.steps) c.args.self.now.steps.ok.0 in
    subst (λ z. IsWalk (rows_of rows) (record s { steps = z })) (sym e) walks

pub returns-in-Done-clause-less : goal.returns-in-Done-clause-less
returns-in-Done-clause-less c =
    let s = seen c.args.self.now in
    let high = (c.requires.walk.within c.args.start (has_last s.starts c.requires.last.0 c.args.start c.requires.last.1)).1 in
    let some : 0 < length s.steps = some_of (step_left high c.if-len-start.false c.len.ensures c.args.self.now.steps.ok.0) in
    let e : c.pop-in-Done.new.self.items ≡ take (length s.steps - 1) s.steps = c.pop-in-Done.ensures.rest ∙ ap (λ n. take (n - 1) s.steps) c.args.self.now.steps.ok.0 in
    subst (λ z. cost (rows_of c.args.rows.now) (record s { steps = z }) < cost (rows_of c.args.rows.now) s) (sym e) (skip_less (rows_of c.args.rows.now) s some)
