use Rattle.std.proofs.Common.{◌≡◌, ◌<◌, ◌+◌, inl, ℕ, length, get_or, sym, subst, ap, ◌∙◌, refl, arith, true, false}
use Rattle.tc_model.specs.States.{input}
use Rattle.tc_auto.specs.Stands.{Stands}
use Rattle.tc_auto.specs.declared.auto.Auto.{Auto}
use Rattle.tc_beh.specs.Above.{letter_of}
use Rattle.tc_beh.specs.Held.{Grows}
use Rattle.tc_beh.specs.Rooms.{tree_layout, flag_at, output_at}
use Rattle.tc_beh.proofs.Holding.{extends_self, on_err}
use Rattle.tc_beh.proofs.Led.{leads_back, leads_kept}
use Rattle.tc_beh.proofs.WrapRows.{text_letter, text_grounds, text_left_out, text_room, is_text_row, room_after, beside_then, rows_after}
use Rattle.tc_beh.proofs.Refusing.{not_true, not_false, no_error, same_error}
use Rattle.tc_beh.proofs.Steps.{no_value}
use Rattle.tc_beh.proofs.rows.Rows.text_row.Goals as goal

pub returns-then-not-has_text-clause-dead : goal.returns-then-not-has_text-clause-dead
returns-then-not-has_text-clause-dead c = λ e. (
  refl,
  λ x rows live.
      let stands = subst (λ (a : Auto). Stands input x.input a) (sym c.auto.ensures) rows.machine.parts.contents.auto in
      let f : false ≡ true = sym c.if-not-has_text.true ∙ (c.has_text.ensures input x.input stands ∙ live) in
      absurd (cc),
)

pub put_leads-requires : goal.put_leads-requires
put_leads-requires c =
    let (x, rows) = c.requires.rows in
    let rules = rows.machine.parts.are_rules in
    (x, rules, text_letter x c.text_letter-letter.result (c.text_letter-letter.ensures x rules))

pub put_node-requires-clause-grounds : goal.put_node-requires-clause-grounds
put_node-requires-clause-grounds c =
    let (x, rows) = c.requires.rows in
    let node = c.text_node-node.ensures in
    (x, text_grounds x c.args.self.now rows c.text_node-node.result (ap letter_of node.letter ∙ c.text_letter-letter.ensures x rows.machine.parts.are_rules) node.entries node.looks node.bears (leads_kept c.args.self.now.machine.now.rules c.text_letter-letter.result c.text_node-node.result.letter c.put_leads.new.leads c.text_node-node.result.leads.now c.put_leads.ensures node.letter (node.leads ∙ (c.as_slice.ensures.value ∙ leads_back c.args.self.now.leads c.put_leads.new.leads (c.put_leads.auto.leads ∙ ap length c.as_mut_slice.ensures.value)))))

pub put_node-requires-clause-room : goal.put_node-requires-clause-room
put_node-requires-clause-room c =
    let (x, rows) = c.requires.rows in
    let node = c.text_node-node.ensures in
    let heads = c.set_heads.ensures.beside in (
      x,
      text_grounds x c.args.self.now rows c.text_node-node.result (ap letter_of node.letter ∙ c.text_letter-letter.ensures x rows.machine.parts.are_rules) node.entries node.looks node.bears (leads_kept c.args.self.now.machine.now.rules c.text_letter-letter.result c.text_node-node.result.letter c.put_leads.new.leads c.text_node-node.result.leads.now c.put_leads.ensures node.letter (node.leads ∙ (c.as_slice.ensures.value ∙ leads_back c.args.self.now.leads c.put_leads.new.leads (c.put_leads.auto.leads ∙ ap length c.as_mut_slice.ensures.value)))),
      room_after (tree_layout x) c.args.out.now.room c.clear_flags.new.self (c.requires.room x rows) (beside_then c.args.out.now.room c.set_heads.new.self c.clear_flags.new.self heads c.clear_flags.ensures.beside),
    )

pub returns-in_err-put_node-clause-rows : goal.returns-in_err-put_node-clause-rows
returns-in_err-put_node-clause-rows c = λ x rows.
    let node = c.text_node-node.ensures in
    rows_after x c.args.self.now rows c.put_node.new.outputs c.put_node.ensures.held c.put_node.new.work (c.put_node.ensures.work x (text_grounds x c.args.self.now rows c.text_node-node.result (ap letter_of node.letter ∙ c.text_letter-letter.ensures x rows.machine.parts.are_rules) node.entries node.looks node.bears (leads_kept c.args.self.now.machine.now.rules c.text_letter-letter.result c.text_node-node.result.letter c.put_leads.new.leads c.text_node-node.result.leads.now c.put_leads.ensures node.letter (node.leads ∙ (c.as_slice.ensures.value ∙ leads_back c.args.self.now.leads c.put_leads.new.leads (c.put_leads.auto.leads ∙ ap length c.as_mut_slice.ensures.value)))))) _ refl refl refl

pub returns-in_err-put_node-clause-err : goal.returns-in_err-put_node-clause-err
returns-in_err-put_node-clause-err c = on_err c.from_residual.result _ (λ x rows.
    let stands = subst (λ (a : Auto). Stands input x.input a) (sym c.auto.ensures) rows.machine.parts.contents.auto in
    sym (c.has_text.ensures input x.input stands) ∙ c.if-not-has_text.false)

pub returns-in_err-put_node-clause-partly : goal.returns-in_err-put_node-clause-partly
returns-in_err-put_node-clause-partly c = on_err c.from_residual.result _ (λ x u rows is.
    let node = c.text_node-node.ensures in
    let n = c.text_node-node.result in
    let letter = ap letter_of node.letter ∙ c.text_letter-letter.ensures x rows.machine.parts.are_rules in
    let grounds = text_grounds x c.args.self.now rows n letter node.entries node.looks node.bears (leads_kept c.args.self.now.machine.now.rules c.text_letter-letter.result c.text_node-node.result.letter c.put_leads.new.leads c.text_node-node.result.leads.now c.put_leads.ensures node.letter (node.leads ∙ (c.as_slice.ensures.value ∙ leads_back c.args.self.now.leads c.put_leads.new.leads (c.put_leads.auto.leads ∙ ap length c.as_mut_slice.ensures.value)))) in
    text_left_out x c.args.self.now rows n letter node.entries node.looks node.bears (leads_kept c.args.self.now.machine.now.rules c.text_letter-letter.result c.text_node-node.result.letter c.put_leads.new.leads c.text_node-node.result.leads.now c.put_leads.ensures node.letter (node.leads ∙ (c.as_slice.ensures.value ∙ leads_back c.args.self.now.leads c.put_leads.new.leads (c.put_leads.auto.leads ∙ ap length c.as_mut_slice.ensures.value)))) c.put_node.new.outputs c.put_node.ensures.sets c.put_node.ensures.held (c.in_err-put_node.ensures.partly x grounds) u is)

pub returns-clause-rows : goal.returns-clause-rows
returns-clause-rows c = λ x rows.
    let node = c.text_node-node.ensures in
    rows_after x c.args.self.now rows c.put_node.new.outputs c.put_node.ensures.held c.put_node.new.work (c.put_node.ensures.work x (text_grounds x c.args.self.now rows c.text_node-node.result (ap letter_of node.letter ∙ c.text_letter-letter.ensures x rows.machine.parts.are_rules) node.entries node.looks node.bears (leads_kept c.args.self.now.machine.now.rules c.text_letter-letter.result c.text_node-node.result.letter c.put_leads.new.leads c.text_node-node.result.leads.now c.put_leads.ensures node.letter (node.leads ∙ (c.as_slice.ensures.value ∙ leads_back c.args.self.now.leads c.put_leads.new.leads (c.put_leads.auto.leads ∙ ap length c.as_mut_slice.ensures.value)))))) _ refl refl refl

pub returns-clause-live : goal.returns-clause-live
returns-clause-live c = λ e x rows.
    let stands = subst (λ (a : Auto). Stands input x.input a) (sym c.auto.ensures) rows.machine.parts.contents.auto in
    sym (c.has_text.ensures input x.input stands) ∙ c.if-not-has_text.false

pub returns-clause-row : goal.returns-clause-row
returns-clause-row c = λ e x rows.
    let r = c.args.self.now in
    let node = c.text_node-node.ensures in
    let n = c.text_node-node.result in
    let letter = ap letter_of node.letter ∙ c.text_letter-letter.ensures x rows.machine.parts.are_rules in
    let grounds = text_grounds x r rows n letter node.entries node.looks node.bears (leads_kept c.args.self.now.machine.now.rules c.text_letter-letter.result c.text_node-node.result.letter c.put_leads.new.leads c.text_node-node.result.leads.now c.put_leads.ensures node.letter (node.leads ∙ (c.as_slice.ensures.value ∙ leads_back c.args.self.now.leads c.put_leads.new.leads (c.put_leads.auto.leads ∙ ap length c.as_mut_slice.ensures.value)))) in
    let room = c.requires.room x rows in
    let heads = c.set_heads.ensures in
    let clear = c.clear_flags.ensures in
    let put = c.put_node.ensures in
    let before = beside_then c.args.out.now.room c.set_heads.new.self c.clear_flags.new.self heads.beside clear.beside in
    let mid = room_after (tree_layout x) c.args.out.now.room c.clear_flags.new.self room before in
    let parted = room_after (tree_layout x) c.clear_flags.new.self c.put_node.new.out mid put.beside in
    let us = c.put_node.new.out.numbers.items in
    let so = c.in_ok-put_node.ensures.row x grounds mid in
    let head : get_or us 0 0 ≡ 1 = put.others 0 (omega arith) ∙ (clear.others 0 (inl (omega arith)) ∙ heads.change.head) in
    let bears : get_or us 1 0 ≡ 1 = put.others 1 (omega arith) ∙ (clear.others 1 (inl (omega arith)) ∙ heads.change.bears) in
    let none : (i : ℕ) → i < length x.input.elements → flag_at us i ≡ 0 = λ i l.
    put.others (2 + i) (let s = mid.flags in omega (arith, l, s)) ∙ clear.flags i (let s = mid.flags in let t = clear.beside.flags in omega (arith, l, s, t))
    in (
      record { parted = parted; numbers = text_room x r rows n letter node.entries node.looks node.bears (leads_kept c.args.self.now.machine.now.rules c.text_letter-letter.result c.text_node-node.result.letter c.put_leads.new.leads c.text_node-node.result.leads.now c.put_leads.ensures node.letter (node.leads ∙ (c.as_slice.ensures.value ∙ leads_back c.args.self.now.leads c.put_leads.new.leads (c.put_leads.auto.leads ∙ ap length c.as_mut_slice.ensures.value)))) c.put_node.new.outputs put.sets put.held us parted.count so head bears none },
      is_text_row x r rows n letter node.entries node.looks node.bears (leads_kept c.args.self.now.machine.now.rules c.text_letter-letter.result c.text_node-node.result.letter c.put_leads.new.leads c.text_node-node.result.leads.now c.put_leads.ensures node.letter (node.leads ∙ (c.as_slice.ensures.value ∙ leads_back c.args.self.now.leads c.put_leads.new.leads (c.put_leads.auto.leads ∙ ap length c.as_mut_slice.ensures.value)))) c.put_node.new.outputs put.sets put.held us parted.count so head bears none,
    )

pub returns-clause-room : goal.returns-clause-room
returns-clause-room c =
    beside_then c.args.out.now.room c.clear_flags.new.self c.put_node.new.out
    (beside_then c.args.out.now.room c.set_heads.new.self c.clear_flags.new.self c.set_heads.ensures.beside c.clear_flags.ensures.beside) c.put_node.ensures.beside

pub returns-in_err-put_node-clause-room : goal.returns-in_err-put_node-clause-room
returns-in_err-put_node-clause-room c =
    beside_then c.args.out.now.room c.clear_flags.new.self c.put_node.new.out
    (beside_then c.args.out.now.room c.set_heads.new.self c.clear_flags.new.self c.set_heads.ensures.beside c.clear_flags.ensures.beside) c.put_node.ensures.beside

pub returns-clause-grows : goal.returns-clause-grows
returns-clause-grows c = λ e.
    let old = c.args.self.now.outputs in
    let new = c.put_node.new.outputs in
    let us = c.put_node.new.out.numbers.items in
    let beside = c.put_node.ensures.beside in
    subst (λ n. Grows old new (output_at c.put_node.new.out.flags us) n) (sym beside.entries) (subst (λ f. Grows old new (output_at f us) c.clear_flags.new.self.entries) (sym beside.flags) c.in_ok-put_node.ensures.grows)

pub returns-in_err-put_node-clause-dead : goal.returns-in_err-put_node-clause-dead
returns-in_err-put_node-clause-dead c = no_value c.from_residual.result _ _ c.from_residual.ensures.1

pub returns-in_err-put_node-clause-live : goal.returns-in_err-put_node-clause-live
returns-in_err-put_node-clause-live c = no_value c.from_residual.result _ _ c.from_residual.ensures.1

pub returns-in_err-put_node-clause-row : goal.returns-in_err-put_node-clause-row
returns-in_err-put_node-clause-row c = no_value c.from_residual.result _ _ c.from_residual.ensures.1

pub returns-in_err-put_node-clause-grows : goal.returns-in_err-put_node-clause-grows
returns-in_err-put_node-clause-grows c = no_value c.from_residual.result _ _ c.from_residual.ensures.1

pub returns-then-not-has_text-clause-same : goal.returns-then-not-has_text-clause-same
returns-then-not-has_text-clause-same c = record { machine = refl; is_fixed = refl }

pub returns-in_err-put_node-clause-same : goal.returns-in_err-put_node-clause-same
returns-in_err-put_node-clause-same c = record { machine = refl; is_fixed = refl }

pub returns-clause-same : goal.returns-clause-same
returns-clause-same c = record { machine = refl; is_fixed = refl }

pub returns-then-not-has_text-clause-held : goal.returns-then-not-has_text-clause-held
returns-then-not-has_text-clause-held c = extends_self c.args.self.now.outputs

pub returns-in_err-put_node-clause-held : goal.returns-in_err-put_node-clause-held
returns-in_err-put_node-clause-held c = c.put_node.ensures.held

pub returns-clause-held : goal.returns-clause-held
returns-clause-held c = c.put_node.ensures.held

pub returns-then-not-has_text-clause-rows : goal.returns-then-not-has_text-clause-rows
returns-then-not-has_text-clause-rows c = λ x rows. rows

pub returns-then-not-has_text-clause-fixed : goal.returns-then-not-has_text-clause-fixed
returns-then-not-has_text-clause-fixed c = λ e. refl

pub returns-in_err-put_node-clause-fixed : goal.returns-in_err-put_node-clause-fixed
returns-in_err-put_node-clause-fixed c = c.put_node.ensures.refusals.fixed

pub returns-clause-fixed : goal.returns-clause-fixed
returns-clause-fixed c = c.put_node.ensures.refusals.fixed

pub returns-then-not-has_text-clause-full : goal.returns-then-not-has_text-clause-full
returns-then-not-has_text-clause-full c = λ e. no_error _ _ e

pub returns-clause-full : goal.returns-clause-full
returns-clause-full c = λ e. no_error _ _ e

pub returns-in_err-put_node-clause-full : goal.returns-in_err-put_node-clause-full
returns-in_err-put_node-clause-full c = λ e. c.put_node.ensures.refusals.full (same_error c.from_residual.result c.put_node.result _ _ c.from_residual.ensures.1 c.in_err-put_node.was e)

pub returns-then-not-has_text-clause-fresh : goal.returns-then-not-has_text-clause-fresh
returns-then-not-has_text-clause-fresh c = λ e. no_error _ _ e

pub returns-clause-fresh : goal.returns-clause-fresh
returns-clause-fresh c = λ e. no_error _ _ e

pub returns-in_err-put_node-clause-fresh : goal.returns-in_err-put_node-clause-fresh
returns-in_err-put_node-clause-fresh c = λ e. c.put_node.ensures.refusals.fresh (same_error c.from_residual.result c.put_node.result _ _ c.from_residual.ensures.1 c.in_err-put_node.was e)

pub returns-then-not-has_text-clause-memory : goal.returns-then-not-has_text-clause-memory
returns-then-not-has_text-clause-memory c = λ e. no_error _ _ e

pub returns-clause-memory : goal.returns-clause-memory
returns-clause-memory c = λ e. no_error _ _ e

pub returns-in_err-put_node-clause-memory : goal.returns-in_err-put_node-clause-memory
returns-in_err-put_node-clause-memory c = λ e. c.put_node.ensures.refusals.memory (same_error c.from_residual.result c.put_node.result _ _ c.from_residual.ensures.1 c.in_err-put_node.was e)

pub returns-then-not-has_text-clause-live : goal.returns-then-not-has_text-clause-live
returns-then-not-has_text-clause-live c = λ e. not_true e

pub returns-then-not-has_text-clause-row : goal.returns-then-not-has_text-clause-row
returns-then-not-has_text-clause-row c = λ e. not_true e

pub returns-then-not-has_text-clause-grows : goal.returns-then-not-has_text-clause-grows
returns-then-not-has_text-clause-grows c = λ e. not_true e

pub returns-then-not-has_text-clause-err : goal.returns-then-not-has_text-clause-err
returns-then-not-has_text-clause-err c = tt

pub returns-then-not-has_text-clause-partly : goal.returns-then-not-has_text-clause-partly
returns-then-not-has_text-clause-partly c = tt

pub returns-clause-dead : goal.returns-clause-dead
returns-clause-dead c = λ e. not_false e

pub returns-clause-err : goal.returns-clause-err
returns-clause-err c = tt

pub returns-clause-partly : goal.returns-clause-partly
returns-clause-partly c = tt
