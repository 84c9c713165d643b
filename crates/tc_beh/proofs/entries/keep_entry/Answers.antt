use Rattle.std.proofs.Common.{◌≡◌, ◌<◌, ◌+◌, ◌*◌, ℕ, List, Option, IfSome, length, inl, refl, sym, ap, ◌∙◌, subst}
use Rattle.tc_mat.specs.Matrix.{Matrix}
use Rattle.tc_rules.specs.Kept.{told}
use Rattle.tc_rules.specs.RulesView.{RulesView, move_count}
use Rattle.tc_rows.specs.Triples.{moves}
use Rattle.tc_beh.specs.Entries.{AreCalledOn, IsBefore, IsEntryAt}
use Rattle.tc_beh.specs.Held.{set_at}
use Rattle.tc_beh.specs.Places.{entries_by}
use Rattle.tc_beh.specs.Rooms.{output_at}
use Rattle.tc_beh.proofs.Before.{entry_before}
use Rattle.tc_beh.proofs.Coming.{grounds_kept, rules_kept}
use Rattle.tc_beh.proofs.Holding.{extends_self}
use Rattle.tc_beh.proofs.Nodes.{work_held}
use Rattle.tc_beh.proofs.Passing.{if_ok_map, if_some_map}
use Rattle.tc_beh.proofs.Together.{on_err_map}
use Rattle.tc_beh.proofs.entries.keep_entry.Goals as goal

pub as_before-requires-clause-node : goal.as_before-requires-clause-node
as_before-requires-clause-node c = let (x, ok) = c.requires.grounds in (x, ok.machine.parts.are_rules, ok.node.letter)

pub as_before-requires-clause-leads : goal.as_before-requires-clause-leads
as_before-requires-clause-leads c = let (x, ok) = c.requires.grounds in ok.leads

pub as_before-requires-clause-before : goal.as_before-requires-clause-before
as_before-requires-clause-before c = if_some_map c.args.spot.before _ _ (λ q h. h.0) c.requires.before

pub returns-in-Some-as_before-clause-low : goal.returns-in-Some-as_before-clause-low
returns-in-Some-as_before-clause-low c =
    let (q, e, here, alike) = c.in-Some-as_before.ensures.entry in
    let m = move_count (told c.args.machine.now.rules) in
    let s = c.args.spot.state in
    let low = subst (λ (o : Option ℕ). IfSome o (λ a. (a < c.args.spot.ancestor) × (output_at c.args.out.now.flags c.args.out.now.numbers.items (a * m + s) < length c.args.outputs.now.matrices))) e c.requires.before in
    subst (λ k. k < length c.args.outputs.now.matrices) (sym here) low.1

pub returns-in-Some-as_before-clause-grows : goal.returns-in-Some-as_before-clause-grows
returns-in-Some-as_before-clause-grows c = inl (returns-in-Some-as_before-clause-low c, refl)

pub returns-in-Some-as_before-clause-work : goal.returns-in-Some-as_before-clause-work
returns-in-Some-as_before-clause-work c = λ x ok.
    (rules_kept x c.args.machine.now c.args.outputs.now c.args.work.now c.args.node ok c.as_before.new.known (c.as_before.ensures.known x ok.machine.parts.are_rules ok.work.known)).work

pub returns-in-Some-as_before-clause-called : goal.returns-in-Some-as_before-clause-called
returns-in-Some-as_before-clause-called c = λ x ok called ready. called ready

pub returns-in-Some-as_before-clause-held : goal.returns-in-Some-as_before-clause-held
returns-in-Some-as_before-clause-held c = extends_self c.args.outputs.now

pub returns-in-Some-as_before-clause-entry : goal.returns-in-Some-as_before-clause-entry
returns-in-Some-as_before-clause-entry c = λ x ok under called before.
    let (q, e, here, alike) = c.in-Some-as_before.ensures.entry in
    let rules = ok.machine.parts.are_rules in
    let h = c.args.outputs.now in
    let n = c.args.node in
    let es = entries_by h.matrices n.entries.now in
    let p = c.args.spot.ancestor in
    let s = c.args.spot.state in
    let k = c.in-Some-as_before.number in
    let numbers = output_at c.args.out.now.flags c.args.out.now.numbers.items in
    let all : move_count (told c.args.machine.now.rules) ≡ moves x = ap move_count rules.told in
    let within : s < moves x = subst (λ (t : RulesView). s < move_count t) rules.told c.requires.state in
    let (first, low, is) = subst (λ (o : Option ℕ). IsBefore x es n h c.args.spot.above s numbers o) e before in
    let at : k ≡ numbers (q * moves x + s) = here ∙ ap (λ j. numbers (q * j + s)) all in
    entry_before x es n q p c.args.spot.above s (set_at h k) first under (λ g st. alike x g rules ok.node.letter ok.work.known st) low within (subst (λ j. IsEntryAt x es n (q * moves x + s) (set_at h j)) (sym at) is)

pub returns-in-Some-clause-entry : goal.returns-in-Some-clause-entry
returns-in-Some-clause-entry c = λ x ok under called before. c.in-Some.ensures.entry x ok.machine.parts.are_rules ok.size ok.node under

pub returns-then-puts_nothing-clause-entry : goal.returns-then-puts_nothing-clause-entry
returns-then-puts_nothing-clause-entry c =
    if_ok_map c.keep_nothing.result _ _ (λ k h x ok under called before.
    c.puts_nothing.ensures c.if-puts_nothing.true x (entries_by c.args.outputs.now.matrices c.args.node.entries.now) (set_at c.keep_nothing.new.outputs k) ok.machine.parts.are_rules ok.node.letter h.is (h.size ∙ (c.keep_nothing.ensures.held.size ∙ ok.size)))
    c.keep_nothing.ensures.number

pub returns-then-puts_nothing-clause-err : goal.returns-then-puts_nothing-clause-err
returns-then-puts_nothing-clause-err c = on_err_map c.keep_nothing.result _ _ (λ err. (
  err.0,
  λ x ok under called.
      let (m, is, size, matrix, isnt) = err.1 in
      (m, c.puts_nothing.ensures c.if-puts_nothing.true x (entries_by c.args.outputs.now.matrices c.args.node.entries.now) m ok.machine.parts.are_rules ok.node.letter is (size ∙ ok.size), size, matrix, isnt),
)) c.keep_nothing.ensures.err

pub ready_named-requires-clause-grounds : goal.ready_named-requires-clause-grounds
ready_named-requires-clause-grounds c =
    let (x, ok) = c.requires.grounds in
    (x, rules_kept x c.args.machine.now c.args.outputs.now c.args.work.now c.args.node ok c.as_before.new.known (c.as_before.ensures.known x ok.machine.parts.are_rules ok.work.known))

pub put_entry_of-requires-clause-grounds : goal.put_entry_of-requires-clause-grounds
put_entry_of-requires-clause-grounds c =
    let (x, ok) = c.requires.grounds in
    let h = c.args.outputs.now in
    let known = rules_kept x c.args.machine.now h c.args.work.now c.args.node ok c.as_before.new.known (c.as_before.ensures.known x ok.machine.parts.are_rules ok.work.known) in
    (x, grounds_kept x c.args.machine.now h h (extends_self h) _ c.args.node known c.ready_named.new.work (c.ready_named.ensures.work x known))

pub keep_open-requires-clause-size : goal.keep_open-requires-clause-size
keep_open-requires-clause-size c =
    let (x, ok) = c.requires.grounds in
    let h = c.args.outputs.now in
    let known = rules_kept x c.args.machine.now h c.args.work.now c.args.node ok c.as_before.new.known (c.as_before.ensures.known x ok.machine.parts.are_rules ok.work.known) in
    let ready = grounds_kept x c.args.machine.now h h (extends_self h) _ c.args.node known c.ready_named.new.work (c.ready_named.ensures.work x known) in
    (c.put_entry_of.ensures.work x ready).open_size ∙ sym ok.size

pub keep_open-requires-clause-links : goal.keep_open-requires-clause-links
keep_open-requires-clause-links c =
    let (x, ok) = c.requires.grounds in
    let h = c.args.outputs.now in
    let known = rules_kept x c.args.machine.now h c.args.work.now c.args.node ok c.as_before.new.known (c.as_before.ensures.known x ok.machine.parts.are_rules ok.work.known) in
    let ready = grounds_kept x c.args.machine.now h h (extends_self h) _ c.args.node known c.ready_named.new.work (c.ready_named.ensures.work x known) in
    (c.put_entry_of.ensures.work x ready).links

pub returns-clause-held : goal.returns-clause-held
returns-clause-held c = c.keep_open.ensures.held

pub returns-clause-low : goal.returns-clause-low
returns-clause-low c = if_ok_map c.keep_open.result _ (λ k. k < length c.keep_open.new.outputs.matrices) (λ k h. h.0) c.keep_open.ensures.number

pub returns-clause-grows : goal.returns-clause-grows
returns-clause-grows c = c.keep_open.ensures.grows

pub returns-clause-entry : goal.returns-clause-entry
returns-clause-entry c =
    if_ok_map c.keep_open.result _ _ (λ k h x ok under called before.
    let held = c.args.outputs.now in
    let known = rules_kept x c.args.machine.now held c.args.work.now c.args.node ok c.as_before.new.known (c.as_before.ensures.known x ok.machine.parts.are_rules ok.work.known) in
    let ready = grounds_kept x c.args.machine.now held held (extends_self held) _ c.args.node known c.ready_named.new.work (c.ready_named.ensures.work x known) in
    subst (IsEntryAt x (entries_by held.matrices c.args.node.entries.now) c.args.node (c.args.spot.ancestor * moves x + c.args.spot.state)) (sym h.1)
    (c.put_entry_of.ensures.entry x ready under (c.ready_named.ensures.called x known called))) c.keep_open.ensures.number

pub returns-clause-err : goal.returns-clause-err
returns-clause-err c = on_err_map c.keep_open.result _ _ (λ err. (
  err.0,
  λ x ok under called.
      let held = c.args.outputs.now in
      let known = rules_kept x c.args.machine.now held c.args.work.now c.args.node ok c.as_before.new.known (c.as_before.ensures.known x ok.machine.parts.are_rules ok.work.known) in
      let ready = grounds_kept x c.args.machine.now held held (extends_self held) _ c.args.node known c.ready_named.new.work (c.ready_named.ensures.work x known) in (
        c.put_entry_of.new.work.sets.out,
        c.put_entry_of.ensures.entry x ready under (c.ready_named.ensures.called x known called),
        (c.put_entry_of.ensures.work x ready).open_size ∙ sym ok.size,
        c.put_entry_of.ensures.matrix,
        err.1,
      ),
)) c.keep_open.ensures.err

pub returns-clause-work : goal.returns-clause-work
returns-clause-work c = λ x ok.
    let held = c.args.outputs.now in
    let known = rules_kept x c.args.machine.now held c.args.work.now c.args.node ok c.as_before.new.known (c.as_before.ensures.known x ok.machine.parts.are_rules ok.work.known) in
    let ready = grounds_kept x c.args.machine.now held held (extends_self held) _ c.args.node known c.ready_named.new.work (c.ready_named.ensures.work x known) in
    work_held x c.args.machine.now held c.put_entry_of.new.work (c.put_entry_of.ensures.work x ready) c.keep_open.new.outputs c.keep_open.ensures.held c.keep_open.new.sets (c.keep_open.ensures.same c.args.machine.now.output)

pub returns-clause-called : goal.returns-clause-called
returns-clause-called c = λ x ok called is.
    let held = c.args.outputs.now in
    let known = rules_kept x c.args.machine.now held c.args.work.now c.args.node ok c.as_before.new.known (c.as_before.ensures.known x ok.machine.parts.are_rules ok.work.known) in
    subst (λ (ms : List Matrix). AreCalledOn x held c.args.node c.args.spot.above ms) (sym c.put_entry_of.ensures.named) (c.ready_named.ensures.called x known called)

pub puts_nothing-requires-clause-node : goal.puts_nothing-requires-clause-node
puts_nothing-requires-clause-node c = let (x, ok) = c.requires.grounds in (x, ok.machine.parts.are_rules, ok.node.letter)

pub puts_nothing-requires-clause-leads : goal.puts_nothing-requires-clause-leads
puts_nothing-requires-clause-leads c = let (x, ok) = c.requires.grounds in ok.leads

pub keep_nothing-requires-clause-size : goal.keep_nothing-requires-clause-size
keep_nothing-requires-clause-size c = let (x, ok) = c.requires.grounds in ok.work.open_size ∙ sym ok.size

pub keep_nothing-requires-clause-links : goal.keep_nothing-requires-clause-links
keep_nothing-requires-clause-links c = let (x, ok) = c.requires.grounds in ok.work.links

pub returns-then-puts_nothing-clause-work : goal.returns-then-puts_nothing-clause-work
returns-then-puts_nothing-clause-work c = λ x ok.
    let known = rules_kept x c.args.machine.now c.args.outputs.now c.args.work.now c.args.node ok c.as_before.new.known (c.as_before.ensures.known x ok.machine.parts.are_rules ok.work.known) in
    work_held x c.args.machine.now c.args.outputs.now _ known.work c.keep_nothing.new.outputs c.keep_nothing.ensures.held c.keep_nothing.new.sets (c.keep_nothing.ensures.same c.args.machine.now.output)

pub returns-then-puts_nothing-clause-called : goal.returns-then-puts_nothing-clause-called
returns-then-puts_nothing-clause-called c = λ x ok called ready. called ready

pub returns-then-puts_nothing-clause-low : goal.returns-then-puts_nothing-clause-low
returns-then-puts_nothing-clause-low c = if_ok_map c.keep_nothing.result _ (λ k. k < length c.keep_nothing.new.outputs.matrices) (λ k h. h.low) c.keep_nothing.ensures.number

pub passed_on-requires-clause-node : goal.passed_on-requires-clause-node
passed_on-requires-clause-node c = let (x, ok) = c.requires.grounds in (x, ok.machine.parts.are_rules, ok.node)

pub passed_on-requires-clause-leads : goal.passed_on-requires-clause-leads
passed_on-requires-clause-leads c = let (x, ok) = c.requires.grounds in ok.leads

pub returns-in-Some-clause-work : goal.returns-in-Some-clause-work
returns-in-Some-clause-work c = λ x ok. ok.work

pub returns-in-Some-clause-called : goal.returns-in-Some-clause-called
returns-in-Some-clause-called c = λ x ok called ready. called ready

pub returns-in-Some-clause-held : goal.returns-in-Some-clause-held
returns-in-Some-clause-held c = extends_self c.args.outputs.now

pub returns-in-Some-clause-low : goal.returns-in-Some-clause-low
returns-in-Some-clause-low c = c.in-Some.ensures.low

pub returns-in-Some-clause-grows : goal.returns-in-Some-clause-grows
returns-in-Some-clause-grows c = inl (c.in-Some.ensures.low, refl)
