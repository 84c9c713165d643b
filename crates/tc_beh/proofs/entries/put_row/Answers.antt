use Rattle.std.proofs.Common.{◌≡◌, ◌<◌, ◌+◌, ◌*◌, inl, inr, ℕ, length, get_or, subst, sym, ap, ◌∙◌, refl, arith}
use Rattle.tc_mat.specs.Held.{Held}
use Rattle.tc_rules.specs.Kept.{told}
use Rattle.tc_rules.specs.RulesView.{RulesView, move_count}
use Rattle.tc_rows.specs.Triples.{ancestors, moves}
use Rattle.tc_rows.proofs.Append.{entry_index}
use Rattle.tc_beh.specs.Entries.{IsEntryAt, IsNewEntry}
use Rattle.tc_beh.specs.Held.{set_at}
use Rattle.tc_beh.specs.Rooms.{output_at}
use Rattle.tc_beh.proofs.Looking.{moves_told}
use Rattle.tc_beh.proofs.Holding.{extends_self, extends_then, on_err}
use Rattle.tc_beh.specs.Places.{entries_by}
use Rattle.tc_beh.proofs.Before.{before_row}
use Rattle.tc_beh.proofs.Passing.{if_some_map}
use Rattle.tc_beh.proofs.Coming.{grounds_kept, read_kept, called_kept, called_back, row_within, comes_step, comes_partly, comes_same}
use Rattle.tc_beh.proofs.Steps.{not_done}
use Rattle.tc_beh.proofs.Refusing.{no_error, refuse_err, refuse_then}
use Rattle.tc_beh.proofs.Remembering.{nothing_on}
use Rattle.tc_beh.proofs.entries.put_row.Goals as goal

pub loop-state-init : goal.loop-state-init
loop-state-init c = record {
  work = λ x ok. ok.work;
  called = λ x ok e. absurd (cc);
  beside = record { flags = refl; entries = refl; count = refl };
  others = λ k h. refl;
  held = extends_self c.args.outputs.now;
  comes = λ x es begun ok e so. comes_same x es c.args.node begun c.args.outputs.now (output_at c.args.out.now.flags c.args.out.now.numbers.items) (c.args.ancestor * moves x) (c.args.ancestor * moves x + 0) (omega arith) so;
  fixed = λ e. refl;
}

pub keep_entry-requires-clause-room : goal.keep_entry-requires-clause-room
keep_entry-requires-clause-room c = let same = c.loop-state.invariant.beside.entries in let room = c.requires.room in omega (arith, same, room)

pub keep_entry-requires-clause-before : goal.keep_entry-requires-clause-before
keep_entry-requires-clause-before c =
    let (x, begun, ok, so) = c.requires.before in
    let m = c.args.machine.now in
    let q = c.args.ancestor in
    let k = c.loop-state.state in
    let b = c.loop-state.outputs in
    let us = c.loop-state.out.numbers.items in
    let rules = ok.machine.parts.are_rules in
    let all : move_count (told m.rules) ≡ moves x = ap move_count rules.told in
    let count = c.moves-moves.ensures x.symbols rules.rules in
    let within : k < moves x = let t = c.loop-state-test.true in omega (arith, t, count, all) in
    let so_now = c.loop-state.invariant.comes x (entries_by c.args.outputs.now.matrices c.args.node.entries.now) begun ok refl so in
    if_some_map c.before_of-before.result _ _ (λ p h. (
      h.0,
      subst (λ n. output_at c.loop-state.out.flags us (p * n + k) < length b.matrices) (sym all)
          (subst (λ f. output_at f us (p * moves x + k) < length b.matrices) (sym c.loop-state.invariant.beside.flags)
          (so_now.grows.low (p * moves x + k) (let l = before_row p q k (moves x) h.0 within in omega (arith, l)))),
    )) c.before_of-before.ensures

pub keep_entry-requires-clause-grounds : goal.keep_entry-requires-clause-grounds
keep_entry-requires-clause-grounds c =
    let (x, ok) = c.requires.grounds in
    let so_far = c.loop-state.invariant in
    (x, grounds_kept x c.args.machine.now c.args.outputs.now c.loop-state.outputs so_far.held c.args.work.now c.args.node ok c.loop-state.work (so_far.work x ok))

pub keep_entry-requires-clause-nothing : goal.keep_entry-requires-clause-nothing
keep_entry-requires-clause-nothing c =
    let (x, ok) = c.requires.grounds in
    let a = c.args.outputs.now in
    if_some_map c.held_nothing-nothing.result _ _ (λ k h.
    let (low, is, size) = h a ok.work.links in
    nothing_on a c.loop-state.outputs c.loop-state.invariant.held k (record { low = low; is = is; size = size ∙ (ok.work.open_size ∙ sym ok.size) })) c.held_nothing-nothing.ensures

pub returns-in_err-number-clause-work : goal.returns-in_err-number-clause-work
returns-in_err-number-clause-work c = λ x ok.
    let so_far = c.loop-state.invariant in
    c.keep_entry.ensures.work x (grounds_kept x c.args.machine.now c.args.outputs.now c.loop-state.outputs so_far.held c.args.work.now c.args.node ok c.loop-state.work (so_far.work x ok))

pub returns-in_err-number-clause-held : goal.returns-in_err-number-clause-held
returns-in_err-number-clause-held c = extends_then c.args.outputs.now c.loop-state.outputs c.keep_entry.new.outputs c.loop-state.invariant.held c.keep_entry.ensures.held

pub returns-in_err-number-clause-partly : goal.returns-in_err-number-clause-partly
returns-in_err-number-clause-partly c = on_err c.from_residual.result _ (λ x es begun ok e so.
    let m = c.args.machine.now in
    let n = c.args.node in
    let a = c.args.outputs.now in
    let b = c.loop-state.outputs in
    let w = c.args.work.now in
    let so_far = c.loop-state.invariant in
    let q = c.args.ancestor in
    let k = c.loop-state.state in
    let rules = ok.machine.parts.are_rules in
    let now = grounds_kept x m a b so_far.held w n ok c.loop-state.work (so_far.work x ok) in
    let count = moves_told x m.rules rules c.moves-moves.result (c.moves-moves.ensures x.symbols rules.rules) in
    let within : k < moves x = let t = c.loop-state-test.true in omega (arith, t, count) in
    let low : q < ancestors x = subst (λ (t : RulesView). q < length t.ancestors.states) rules.told c.requires.ancestor in
    let under = c.state_below-above.ensures.under x rules ok.node.letter in
    let err = c.in_err-number.ensures.err in
    let fresh = err.1 x now under (λ ready. called_kept x m a b so_far.held w n ok c.state_below-above.result c.loop-state.work.named.items (so_far.called x ok ready)) in
    comes_partly x es n begun b c.keep_entry.new.outputs (output_at c.args.out.now.flags c.loop-state.out.numbers.items) (q * moves x + k) (so_far.comes x es begun ok e so) (entry_index x q k low within) err.0
    (subst (λ l. IsNewEntry x l n b (q * moves x + k)) (read_kept x m a b so_far.held w n ok ∙ sym e) fresh))

pub loop-state-preserved : goal.loop-state-preserved
loop-state-preserved c =
    let m = c.args.machine.now in
    let n = c.args.node in
    let a = c.args.outputs.now in
    let b = c.loop-state.outputs in
    let new = c.keep_entry.new.outputs in
    let w = c.args.work.now in
    let so_far = c.loop-state.invariant in
    let q = c.args.ancestor in
    let k = c.loop-state.state in
    let number = c.in_ok-number.number in
    let flags = so_far.beside.flags in
    let put = c.set_output.ensures in
    let more = c.keep_entry.ensures.held in
    let (y, fit) = c.requires.grounds in
    let many = c.moves-moves.ensures y.symbols fit.machine.parts.are_rules.rules in
    let inside : c.entry_place.result < c.args.out.now.entries = subst (λ j. j < c.args.out.now.entries) (sym c.entry_place.ensures) (row_within q k c.moves-moves.result (move_count (told m.rules)) c.args.out.now.entries many c.loop-state-test.true c.requires.room) in
    record {
      work = λ x ok. c.keep_entry.ensures.work x (grounds_kept x m a b so_far.held w n ok c.loop-state.work (so_far.work x ok));
      called = λ x ok ready.
          let now = grounds_kept x m a b so_far.held w n ok c.loop-state.work (so_far.work x ok) in
          called_back x m a b so_far.held w n ok c.state_below-above.result c.keep_entry.new.work.named.items
          (c.keep_entry.ensures.called x now (λ was. called_kept x m a b so_far.held w n ok c.state_below-above.result c.loop-state.work.named.items (so_far.called x ok was)) ready);
      beside = record { flags = put.beside.flags ∙ flags; entries = put.beside.entries ∙ so_far.beside.entries; count = put.beside.count ∙ so_far.beside.count };
      others = λ i h. put.others i (λ e. elim h [ inl l ↦ absurd (omega (arith, e, l, flags)) | inr l ↦ absurd (omega (arith, e, l, flags, inside)) ]) ∙ so_far.others i h;
      held = extends_then a b new so_far.held more;
      comes = λ x es begun ok e so.
          let rules = ok.machine.parts.are_rules in
          let now = grounds_kept x m a b so_far.held w n ok c.loop-state.work (so_far.work x ok) in
          let count = moves_told x m.rules rules c.moves-moves.result (c.moves-moves.ensures x.symbols rules.rules) in
          let i : ℕ = q * moves x + k in
          let place : c.entry_place.result ≡ i = c.entry_place.ensures ∙ ap (λ j. q * j + k) count in
          let before = output_at c.args.out.now.flags c.loop-state.out.numbers.items in
          let after = output_at c.args.out.now.flags c.set_output.new.self.numbers.items in
          let under = c.state_below-above.ensures.under x rules ok.node.letter in
          let within : k < moves x = let t = c.loop-state-test.true in omega (arith, t, count) in
          let low : q < ancestors x = subst (λ (t : RulesView). q < length t.ancestors.states) rules.told c.requires.ancestor in
          let so_now = so_far.comes x es begun ok e so in
          let flag = output_at c.loop-state.out.flags c.loop-state.out.numbers.items in
          let earlier =
          if_some_map c.before_of-before.result _ _ (λ p h.
          let there : p * moves x + k < q * moves x + k = let l = before_row p q k (moves x) h.0 within in omega (arith, l) in
          let right = subst (λ f. IsEntryAt x es n (p * moves x + k) (set_at b (output_at f c.loop-state.out.numbers.items (p * moves x + k)))) (sym flags) (so_now.right (p * moves x + k) there) in
          (h.1 x rules ok.node.letter, let t = h.0 in omega (arith, t, low), subst (λ l. IsEntryAt x l n (p * moves x + k) (set_at b (flag (p * moves x + k)))) (e ∙ sym (read_kept x m a b so_far.held w n ok)) right)) c.before_of-before.ensures in
          let made = c.in_ok-number.ensures.entry x now under (λ ready. called_kept x m a b so_far.held w n ok c.state_below-above.result c.loop-state.work.named.items (so_far.called x ok ready)) earlier in
          let right : IsEntryAt x es n i (set_at new number) = subst (λ l. IsEntryAt x l n i (set_at new number)) (read_kept x m a b so_far.held w n ok ∙ sym e) made in
          let stays : (p : ℕ) → p < i → after p ≡ before p = λ p l. put.others (2 + c.args.out.now.flags + p) (λ f. absurd (omega (arith, f, l, flags, place))) in
          let at : 2 + c.loop-state.out.flags + c.entry_place.result ≡ 2 + c.args.out.now.flags + i = omega (arith, flags, place) in
          let here : after i ≡ number = subst (λ j. get_or c.set_output.new.self.numbers.items j 0 ≡ number) at put.output in
          comes_same x es n begun new after (i + 1) (q * moves x + (k + 1)) (omega arith)
          (comes_step x es n begun b new before after i number (set_at new number) (so_far.comes x es begun ok e so) stays here more (c.in_ok-number.ensures.low, refl) c.in_ok-number.ensures.grows right);
      fixed = λ e. c.in_ok-number.ensures.refusals.fixed e ∙ so_far.fixed e;
    }

pub returns-clause-comes : goal.returns-clause-comes
returns-clause-comes c = λ x es begun ok e so.
    let m = c.args.machine.now in
    let rules = ok.machine.parts.are_rules in
    let q = c.args.ancestor in
    let count = moves_told x m.rules rules c.moves-moves.result (c.moves-moves.ensures x.symbols rules.rules) in
    let end : c.loop-state.state ≡ moves x = let t = c.loop-state-test.false in let l = c.loop-state.auto.state-end in omega (arith, t, l, count) in
    comes_same x es c.args.node begun c.loop-state.outputs (output_at c.args.out.now.flags c.loop-state.out.numbers.items) (q * moves x + c.loop-state.state) (q * moves x + moves x) (ap (λ j. q * moves x + j) end)
    (c.loop-state.invariant.comes x es begun ok e so)

pub set_output-requires : goal.set_output-requires
set_output-requires c =
    let (y, fit) = c.requires.grounds in
    let room = c.args.out.now.entries in
    let many = c.moves-moves.ensures y.symbols fit.machine.parts.are_rules.rules in
    let same = c.loop-state.invariant.beside.entries in
    let inside : c.entry_place.result < room =
    subst (λ j. j < room) (sym c.entry_place.ensures) (row_within c.args.ancestor c.loop-state.state c.moves-moves.result (move_count (told c.args.machine.now.rules)) room many c.loop-state-test.true c.requires.room)
    in
    omega (arith, inside, same)

pub returns-in_err-number-clause-comes : goal.returns-in_err-number-clause-comes
returns-in_err-number-clause-comes c = not_done c.from_residual.result _ _ c.from_residual.ensures.1

pub returns-clause-work : goal.returns-clause-work
returns-clause-work c = c.loop-state.invariant.work

pub returns-clause-beside : goal.returns-clause-beside
returns-clause-beside c = c.loop-state.invariant.beside

pub returns-clause-others : goal.returns-clause-others
returns-clause-others c = c.loop-state.invariant.others

pub returns-clause-held : goal.returns-clause-held
returns-clause-held c = c.loop-state.invariant.held

pub returns-in_err-number-clause-beside : goal.returns-in_err-number-clause-beside
returns-in_err-number-clause-beside c = c.loop-state.invariant.beside

pub returns-in_err-number-clause-others : goal.returns-in_err-number-clause-others
returns-in_err-number-clause-others c = c.loop-state.invariant.others

pub returns-clause-partly : goal.returns-clause-partly
returns-clause-partly c = tt

pub returns-clause-refusals : goal.returns-clause-refusals
returns-clause-refusals c = record { fixed = c.loop-state.invariant.fixed; full = λ e. no_error _ _ e; fresh = λ e. no_error _ _ e; memory = λ e. no_error _ _ e }

pub returns-in_err-number-clause-refusals : goal.returns-in_err-number-clause-refusals
returns-in_err-number-clause-refusals c =
    refuse_then c.args.is_fixed c.args.outputs.now c.loop-state.outputs c.keep_entry.new.outputs c.from_residual.result c.loop-state.invariant.fixed
    (refuse_err c.args.is_fixed c.loop-state.outputs c.keep_entry.new.outputs c.from_residual.result c.keep_entry.result _ c.from_residual.ensures.1 c.in_err-number.was c.keep_entry.ensures.refusals)
