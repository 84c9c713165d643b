use Rattle.std.proofs.Common.{◌≡◌, length, get_or, sym, subst, ap, ◌∙◌, refl, arith, true, false}
use Rattle.tc_hedge.proofs.Bounds.{patterns_of}
use Rattle.tc_model.specs.States.{input}
use Rattle.tc_beh.specs.Around.{AreAllTakers, PutsPatterns}
use Rattle.tc_beh.specs.Above.{letter_of}
use Rattle.tc_beh.specs.Held.{Grows}
use Rattle.tc_beh.specs.Rooms.{tree_layout, output_at}
use Rattle.tc_beh.proofs.Holding.{extends_self, on_err}
use Rattle.tc_beh.proofs.Led.{leads_back, leads_kept}
use Rattle.tc_beh.proofs.WrapRows.{wrap_letter, wrap_grounds, wrap_few, wrap_left_out, wrap_room, is_wrap, live_wrap, dead_wrap, patterns_kept, room_after, beside_then, rows_after}
use Rattle.tc_beh.proofs.Refusing.{not_true, not_false, no_error, same_error}
use Rattle.tc_beh.proofs.Steps.{no_value}
use Rattle.tc_beh.proofs.rows.Rows.wrap.Goals as goal

pub returns-then-not-put_patterns-clause-dead : goal.returns-then-not-put_patterns-clause-dead
returns-then-not-put_patterns-clause-dead c = λ e. (
  refl,
  λ x rows.
      let r = c.args.self.now in
      let put = c.put_patterns.ensures in
      let parted = room_after (tree_layout x) c.args.out.now.room c.put_patterns.new.out (c.requires.room x rows) put.beside in
      dead_wrap x r rows c.args.h.now (c.requires.hedge x rows) c.args.sym.0 (c.requires.symbol x rows) c.put_patterns.new.out.numbers.items c.put_patterns.new.out.flags parted.flags parted.count
      (subst (λ fs. PutsPatterns r.machine.now.input c.args.sym.0 fs c.put_patterns.new.out.numbers.items) c.flags.ensures.value put.flags)
      (λ some. let f : false ≡ true = sym c.if-not-put_patterns.true ∙ put.some.1 some in absurd (cc)),
)

pub put_leads-requires : goal.put_leads-requires
put_leads-requires c =
    let (x, rows) = c.requires.rows in
    let rules = rows.machine.parts.are_rules in
    (x, rules, wrap_letter x c.args.self.now rows c.args.h.now (c.requires.hedge x rows) c.args.sym.0 (c.requires.symbol x rows) c.element_letter-letter.result (c.element_letter-letter.ensures x rules))

pub put_node-requires-clause-grounds : goal.put_node-requires-clause-grounds
put_node-requires-clause-grounds c =
    let (x, rows) = c.requires.rows in
    let node = c.node_around-node.ensures in
    (x, wrap_grounds x c.args.self.now rows c.args.h.now (c.requires.hedge x rows) c.args.sym.0 (c.requires.symbol x rows) c.node_around-node.result (ap letter_of node.letter ∙ c.element_letter-letter.ensures x rows.machine.parts.are_rules) node.entries node.looks node.bears (leads_kept c.args.self.now.machine.now.rules c.element_letter-letter.result c.node_around-node.result.letter c.put_leads.new.leads c.node_around-node.result.leads.now c.put_leads.ensures node.letter (node.leads ∙ (c.as_slice.ensures.value ∙ leads_back c.args.self.now.leads c.put_leads.new.leads (c.put_leads.auto.leads ∙ ap length c.as_mut_slice.ensures.value)))))

pub put_node-requires-clause-few : goal.put_node-requires-clause-few
put_node-requires-clause-few c =
    let (x, rows) = c.requires.rows in
    let node = c.node_around-node.ensures in
    wrap_few x c.args.self.now rows c.args.h.now (c.requires.hedge x rows) c.args.sym.0 (c.requires.symbol x rows) c.node_around-node.result (ap letter_of node.letter ∙ c.element_letter-letter.ensures x rows.machine.parts.are_rules) node.entries node.looks node.bears (leads_kept c.args.self.now.machine.now.rules c.element_letter-letter.result c.node_around-node.result.letter c.put_leads.new.leads c.node_around-node.result.leads.now c.put_leads.ensures node.letter (node.leads ∙ (c.as_slice.ensures.value ∙ leads_back c.args.self.now.leads c.put_leads.new.leads (c.put_leads.auto.leads ∙ ap length c.as_mut_slice.ensures.value))))

pub put_node-requires-clause-room : goal.put_node-requires-clause-room
put_node-requires-clause-room c =
    let (x, rows) = c.requires.rows in
    let node = c.node_around-node.ensures in (
      x,
      wrap_grounds x c.args.self.now rows c.args.h.now (c.requires.hedge x rows) c.args.sym.0 (c.requires.symbol x rows) c.node_around-node.result (ap letter_of node.letter ∙ c.element_letter-letter.ensures x rows.machine.parts.are_rules) node.entries node.looks node.bears (leads_kept c.args.self.now.machine.now.rules c.element_letter-letter.result c.node_around-node.result.letter c.put_leads.new.leads c.node_around-node.result.leads.now c.put_leads.ensures node.letter (node.leads ∙ (c.as_slice.ensures.value ∙ leads_back c.args.self.now.leads c.put_leads.new.leads (c.put_leads.auto.leads ∙ ap length c.as_mut_slice.ensures.value)))),
      room_after (tree_layout x) c.args.out.now.room c.set_heads.new.self (c.requires.room x rows) (beside_then c.args.out.now.room c.put_patterns.new.out c.set_heads.new.self c.put_patterns.ensures.beside c.set_heads.ensures.beside),
    )

pub returns-in_err-put_node-clause-rows : goal.returns-in_err-put_node-clause-rows
returns-in_err-put_node-clause-rows c = λ x rows.
    let node = c.node_around-node.ensures in
    rows_after x c.args.self.now rows c.put_node.new.outputs c.put_node.ensures.held c.put_node.new.work
    (c.put_node.ensures.work x (wrap_grounds x c.args.self.now rows c.args.h.now (c.requires.hedge x rows) c.args.sym.0 (c.requires.symbol x rows) c.node_around-node.result (ap letter_of node.letter ∙ c.element_letter-letter.ensures x rows.machine.parts.are_rules) node.entries node.looks node.bears (leads_kept c.args.self.now.machine.now.rules c.element_letter-letter.result c.node_around-node.result.letter c.put_leads.new.leads c.node_around-node.result.leads.now c.put_leads.ensures node.letter (node.leads ∙ (c.as_slice.ensures.value ∙ leads_back c.args.self.now.leads c.put_leads.new.leads (c.put_leads.auto.leads ∙ ap length c.as_mut_slice.ensures.value)))))) _ refl refl refl

pub returns-in_err-put_node-clause-err : goal.returns-in_err-put_node-clause-err
returns-in_err-put_node-clause-err c = on_err c.from_residual.result _ (λ x rows.
    let r = c.args.self.now in
    let put = c.put_patterns.ensures in
    let parted = room_after (tree_layout x) c.args.out.now.room c.put_patterns.new.out (c.requires.room x rows) put.beside in
    live_wrap x r rows c.args.h.now (c.requires.hedge x rows) c.args.sym.0 (c.requires.symbol x rows) c.put_patterns.new.out.numbers.items c.put_patterns.new.out.flags parted.flags parted.count
    (subst (λ fs. PutsPatterns r.machine.now.input c.args.sym.0 fs c.put_patterns.new.out.numbers.items) c.flags.ensures.value put.flags) (put.some.0 c.if-not-put_patterns.false))

pub returns-in_err-put_node-clause-partly : goal.returns-in_err-put_node-clause-partly
returns-in_err-put_node-clause-partly c = on_err c.from_residual.result _ (λ x u rows is.
    let r = c.args.self.now in
    let node = c.node_around-node.ensures in
    let n = c.node_around-node.result in
    let letter = ap letter_of node.letter ∙ c.element_letter-letter.ensures x rows.machine.parts.are_rules in
    let hedge = c.requires.hedge x rows in
    let low = c.requires.symbol x rows in
    let grounds = wrap_grounds x r rows c.args.h.now hedge c.args.sym.0 low n letter node.entries node.looks node.bears (leads_kept c.args.self.now.machine.now.rules c.element_letter-letter.result c.node_around-node.result.letter c.put_leads.new.leads c.node_around-node.result.leads.now c.put_leads.ensures node.letter (node.leads ∙ (c.as_slice.ensures.value ∙ leads_back c.args.self.now.leads c.put_leads.new.leads (c.put_leads.auto.leads ∙ ap length c.as_mut_slice.ensures.value)))) in
    wrap_left_out x r rows c.args.h.now hedge c.args.sym.0 low n letter node.entries node.looks node.bears (leads_kept c.args.self.now.machine.now.rules c.element_letter-letter.result c.node_around-node.result.letter c.put_leads.new.leads c.node_around-node.result.leads.now c.put_leads.ensures node.letter (node.leads ∙ (c.as_slice.ensures.value ∙ leads_back c.args.self.now.leads c.put_leads.new.leads (c.put_leads.auto.leads ∙ ap length c.as_mut_slice.ensures.value)))) c.put_node.new.outputs c.put_node.ensures.sets c.put_node.ensures.held (c.in_err-put_node.ensures.partly x grounds) u is)

pub returns-clause-rows : goal.returns-clause-rows
returns-clause-rows c = λ x rows.
    let node = c.node_around-node.ensures in
    rows_after x c.args.self.now rows c.put_node.new.outputs c.put_node.ensures.held c.put_node.new.work
    (c.put_node.ensures.work x (wrap_grounds x c.args.self.now rows c.args.h.now (c.requires.hedge x rows) c.args.sym.0 (c.requires.symbol x rows) c.node_around-node.result (ap letter_of node.letter ∙ c.element_letter-letter.ensures x rows.machine.parts.are_rules) node.entries node.looks node.bears (leads_kept c.args.self.now.machine.now.rules c.element_letter-letter.result c.node_around-node.result.letter c.put_leads.new.leads c.node_around-node.result.leads.now c.put_leads.ensures node.letter (node.leads ∙ (c.as_slice.ensures.value ∙ leads_back c.args.self.now.leads c.put_leads.new.leads (c.put_leads.auto.leads ∙ ap length c.as_mut_slice.ensures.value)))))) _ refl refl refl

pub returns-clause-live : goal.returns-clause-live
returns-clause-live c = λ e x rows.
    let r = c.args.self.now in
    let put = c.put_patterns.ensures in
    let parted = room_after (tree_layout x) c.args.out.now.room c.put_patterns.new.out (c.requires.room x rows) put.beside in
    live_wrap x r rows c.args.h.now (c.requires.hedge x rows) c.args.sym.0 (c.requires.symbol x rows) c.put_patterns.new.out.numbers.items c.put_patterns.new.out.flags parted.flags parted.count
    (subst (λ fs. PutsPatterns r.machine.now.input c.args.sym.0 fs c.put_patterns.new.out.numbers.items) c.flags.ensures.value put.flags) (put.some.0 c.if-not-put_patterns.false)

pub returns-clause-row : goal.returns-clause-row
returns-clause-row c = λ e x rows.
    let r = c.args.self.now in
    let a = c.args.sym.0 in
    let node = c.node_around-node.ensures in
    let n = c.node_around-node.result in
    let letter = ap letter_of node.letter ∙ c.element_letter-letter.ensures x rows.machine.parts.are_rules in
    let hedge = c.requires.hedge x rows in
    let low = c.requires.symbol x rows in
    let grounds = wrap_grounds x r rows c.args.h.now hedge a low n letter node.entries node.looks node.bears (leads_kept c.args.self.now.machine.now.rules c.element_letter-letter.result c.node_around-node.result.letter c.put_leads.new.leads c.node_around-node.result.leads.now c.put_leads.ensures node.letter (node.leads ∙ (c.as_slice.ensures.value ∙ leads_back c.args.self.now.leads c.put_leads.new.leads (c.put_leads.auto.leads ∙ ap length c.as_mut_slice.ensures.value)))) in
    let first = c.put_patterns.ensures in
    let heads = c.set_heads.ensures in
    let put = c.put_node.ensures in
    let before = beside_then c.args.out.now.room c.put_patterns.new.out c.set_heads.new.self first.beside heads.beside in
    let mid = room_after (tree_layout x) c.args.out.now.room c.set_heads.new.self (c.requires.room x rows) before in
    let parted = room_after (tree_layout x) c.set_heads.new.self c.put_node.new.out mid put.beside in
    let us = c.put_node.new.out.numbers.items in
    let so = c.in_ok-put_node.ensures.row x grounds mid in
    let head : get_or us 0 0 ≡ 0 = put.others 0 (omega arith) ∙ heads.change.head in
    let bears = put.others 1 (omega arith) ∙ heads.change.bears in
    let puts = subst (λ fs. PutsPatterns r.machine.now.input a fs c.put_patterns.new.out.numbers.items) c.flags.ensures.value first.flags in
    let kept = patterns_kept r.machine.now.input a _ c.put_patterns.new.out.numbers.items us c.set_heads.new.self.flags (mid.flags ∙ sym (patterns_of input x.input r.machine.now.input.auto rows.machine.parts.contents.auto))
    (λ k from to. put.others k to ∙ heads.change.others k from) puts
    in (
      record { parted = parted; numbers = wrap_room x r rows c.args.h.now hedge a low n letter node.entries node.looks node.bears (leads_kept c.args.self.now.machine.now.rules c.element_letter-letter.result c.node_around-node.result.letter c.put_leads.new.leads c.node_around-node.result.leads.now c.put_leads.ensures node.letter (node.leads ∙ (c.as_slice.ensures.value ∙ leads_back c.args.self.now.leads c.put_leads.new.leads (c.put_leads.auto.leads ∙ ap length c.as_mut_slice.ensures.value)))) c.put_node.new.outputs put.sets put.held us parted.count so head bears kept },
      is_wrap x r rows c.args.h.now hedge a low n letter node.entries node.looks node.bears (leads_kept c.args.self.now.machine.now.rules c.element_letter-letter.result c.node_around-node.result.letter c.put_leads.new.leads c.node_around-node.result.leads.now c.put_leads.ensures node.letter (node.leads ∙ (c.as_slice.ensures.value ∙ leads_back c.args.self.now.leads c.put_leads.new.leads (c.put_leads.auto.leads ∙ ap length c.as_mut_slice.ensures.value)))) c.put_node.new.outputs put.sets put.held us parted.count so head bears kept,
    )

pub returns-clause-room : goal.returns-clause-room
returns-clause-room c =
    beside_then c.args.out.now.room c.set_heads.new.self c.put_node.new.out
    (beside_then c.args.out.now.room c.put_patterns.new.out c.set_heads.new.self c.put_patterns.ensures.beside c.set_heads.ensures.beside) c.put_node.ensures.beside

pub returns-in_err-put_node-clause-room : goal.returns-in_err-put_node-clause-room
returns-in_err-put_node-clause-room c =
    beside_then c.args.out.now.room c.set_heads.new.self c.put_node.new.out
    (beside_then c.args.out.now.room c.put_patterns.new.out c.set_heads.new.self c.put_patterns.ensures.beside c.set_heads.ensures.beside) c.put_node.ensures.beside

pub put_patterns-requires-clause-takers : goal.put_patterns-requires-clause-takers
put_patterns-requires-clause-takers c = let (x, rows) = c.requires.rows in subst (AreAllTakers c.args.self.now.machine.now.input) (sym c.as_slice-takers.ensures.value) rows.work.takers

pub put_patterns-requires-clause-symbol : goal.put_patterns-requires-clause-symbol
put_patterns-requires-clause-symbol c =
    let (x, rows) = c.requires.rows in
    let low = c.requires.symbol x rows in
    let count = rows.machine.parts.contents.counted in
    omega (arith, low, count)

pub returns-clause-grows : goal.returns-clause-grows
returns-clause-grows c = λ e.
    let old = c.args.self.now.outputs in
    let new = c.put_node.new.outputs in
    let us = c.put_node.new.out.numbers.items in
    let beside = c.put_node.ensures.beside in
    subst (λ n. Grows old new (output_at c.put_node.new.out.flags us) n) (sym beside.entries) (subst (λ f. Grows old new (output_at f us) c.set_heads.new.self.entries) (sym beside.flags) c.in_ok-put_node.ensures.grows)

pub returns-in_err-put_node-clause-dead : goal.returns-in_err-put_node-clause-dead
returns-in_err-put_node-clause-dead c = no_value c.from_residual.result _ _ c.from_residual.ensures.1

pub returns-in_err-put_node-clause-live : goal.returns-in_err-put_node-clause-live
returns-in_err-put_node-clause-live c = no_value c.from_residual.result _ _ c.from_residual.ensures.1

pub returns-in_err-put_node-clause-row : goal.returns-in_err-put_node-clause-row
returns-in_err-put_node-clause-row c = no_value c.from_residual.result _ _ c.from_residual.ensures.1

pub returns-in_err-put_node-clause-grows : goal.returns-in_err-put_node-clause-grows
returns-in_err-put_node-clause-grows c = no_value c.from_residual.result _ _ c.from_residual.ensures.1

pub returns-then-not-put_patterns-clause-same : goal.returns-then-not-put_patterns-clause-same
returns-then-not-put_patterns-clause-same c = record { machine = refl; is_fixed = refl }

pub returns-in_err-put_node-clause-same : goal.returns-in_err-put_node-clause-same
returns-in_err-put_node-clause-same c = record { machine = refl; is_fixed = refl }

pub returns-clause-same : goal.returns-clause-same
returns-clause-same c = record { machine = refl; is_fixed = refl }

pub returns-then-not-put_patterns-clause-held : goal.returns-then-not-put_patterns-clause-held
returns-then-not-put_patterns-clause-held c = extends_self c.args.self.now.outputs

pub returns-in_err-put_node-clause-held : goal.returns-in_err-put_node-clause-held
returns-in_err-put_node-clause-held c = c.put_node.ensures.held

pub returns-clause-held : goal.returns-clause-held
returns-clause-held c = c.put_node.ensures.held

pub returns-then-not-put_patterns-clause-rows : goal.returns-then-not-put_patterns-clause-rows
returns-then-not-put_patterns-clause-rows c = λ x rows. rows

pub returns-then-not-put_patterns-clause-fixed : goal.returns-then-not-put_patterns-clause-fixed
returns-then-not-put_patterns-clause-fixed c = λ e. refl

pub returns-in_err-put_node-clause-fixed : goal.returns-in_err-put_node-clause-fixed
returns-in_err-put_node-clause-fixed c = c.put_node.ensures.refusals.fixed

pub returns-clause-fixed : goal.returns-clause-fixed
returns-clause-fixed c = c.put_node.ensures.refusals.fixed

pub returns-then-not-put_patterns-clause-full : goal.returns-then-not-put_patterns-clause-full
returns-then-not-put_patterns-clause-full c = λ e. no_error _ _ e

pub returns-clause-full : goal.returns-clause-full
returns-clause-full c = λ e. no_error _ _ e

pub returns-in_err-put_node-clause-full : goal.returns-in_err-put_node-clause-full
returns-in_err-put_node-clause-full c = λ e. c.put_node.ensures.refusals.full (same_error c.from_residual.result c.put_node.result _ _ c.from_residual.ensures.1 c.in_err-put_node.was e)

pub returns-then-not-put_patterns-clause-fresh : goal.returns-then-not-put_patterns-clause-fresh
returns-then-not-put_patterns-clause-fresh c = λ e. no_error _ _ e

pub returns-clause-fresh : goal.returns-clause-fresh
returns-clause-fresh c = λ e. no_error _ _ e

pub returns-in_err-put_node-clause-fresh : goal.returns-in_err-put_node-clause-fresh
returns-in_err-put_node-clause-fresh c = λ e. c.put_node.ensures.refusals.fresh (same_error c.from_residual.result c.put_node.result _ _ c.from_residual.ensures.1 c.in_err-put_node.was e)

pub returns-then-not-put_patterns-clause-memory : goal.returns-then-not-put_patterns-clause-memory
returns-then-not-put_patterns-clause-memory c = λ e. no_error _ _ e

pub returns-clause-memory : goal.returns-clause-memory
returns-clause-memory c = λ e. no_error _ _ e

pub returns-in_err-put_node-clause-memory : goal.returns-in_err-put_node-clause-memory
returns-in_err-put_node-clause-memory c = λ e. c.put_node.ensures.refusals.memory (same_error c.from_residual.result c.put_node.result _ _ c.from_residual.ensures.1 c.in_err-put_node.was e)

pub returns-then-not-put_patterns-clause-live : goal.returns-then-not-put_patterns-clause-live
returns-then-not-put_patterns-clause-live c = λ e. not_true e

pub returns-then-not-put_patterns-clause-row : goal.returns-then-not-put_patterns-clause-row
returns-then-not-put_patterns-clause-row c = λ e. not_true e

pub returns-then-not-put_patterns-clause-grows : goal.returns-then-not-put_patterns-clause-grows
returns-then-not-put_patterns-clause-grows c = λ e. not_true e

pub returns-then-not-put_patterns-clause-err : goal.returns-then-not-put_patterns-clause-err
returns-then-not-put_patterns-clause-err c = tt

pub returns-then-not-put_patterns-clause-partly : goal.returns-then-not-put_patterns-clause-partly
returns-then-not-put_patterns-clause-partly c = tt

pub returns-clause-dead : goal.returns-clause-dead
returns-clause-dead c = λ e. not_false e

pub returns-clause-err : goal.returns-clause-err
returns-clause-err c = tt

pub returns-clause-partly : goal.returns-clause-partly
returns-clause-partly c = tt
