use Rattle.std.proofs.Common.{◌≡◌, ◌≤◌, ◌+◌, ◌*◌, inl, inr, length, subst, sym, ap, ◌∙◌, refl, arith}
use Rattle.std.proofs.Math.Nat.{mul-le-mul_right}
use Rattle.tc_rules.specs.Kept.{told}
use Rattle.tc_rules.specs.RulesView.{move_count}
use Rattle.tc_rows.specs.Triples.{moves}
use Rattle.tc_beh.specs.Entries.{Comes}
use Rattle.tc_beh.specs.Places.{entries_by}
use Rattle.tc_beh.specs.Rooms.{output_at}
use Rattle.tc_beh.proofs.Holding.{extends_self, extends_then, on_err}
use Rattle.tc_beh.proofs.Coming.{grounds_kept, read_kept, comes_none, comes_same, next_row}
use Rattle.tc_beh.proofs.Steps.{not_done}
use Rattle.tc_beh.proofs.Refusing.{no_error, refuse_err, refuse_then}
use Rattle.tc_beh.proofs.entries.put_entries.Goals as goal

pub loop-ancestor-init : goal.loop-ancestor-init
loop-ancestor-init c = record {
  work = λ x ok. ok.work;
  beside = record { flags = refl; entries = refl; count = refl };
  others = λ k h. refl;
  held = extends_self c.args.outputs.now;
  comes = λ x ok.
      let a = c.args.outputs.now in
      let es = entries_by a.matrices c.args.node.entries.now in
      let f = output_at c.args.out.now.flags c.args.out.now.numbers.items in
      comes_same x es c.args.node a a f 0 (0 * moves x) (omega arith) (comes_none x es c.args.node a f);
  fixed = λ e. refl;
}

pub put_row-requires-clause-grounds : goal.put_row-requires-clause-grounds
put_row-requires-clause-grounds c =
    let (x, ok) = c.requires.grounds in
    let so_far = c.loop-ancestor.invariant in
    (x, grounds_kept x c.args.machine.now c.args.outputs.now c.loop-ancestor.outputs so_far.held c.args.work.now c.args.node ok c.loop-ancestor.work (so_far.work x ok))

pub put_row-requires-clause-before : goal.put_row-requires-clause-before
put_row-requires-clause-before c =
    let (x, ok) = c.requires.grounds in
    let m = c.args.machine.now in
    let n = c.args.node in
    let a = c.args.outputs.now in
    let b = c.loop-ancestor.outputs in
    let us = c.loop-ancestor.out.numbers.items in
    let so_far = c.loop-ancestor.invariant in
    let es = entries_by a.matrices n.entries.now in
    let here = subst (λ f. Comes x es n a b (output_at f us) (c.loop-ancestor.ancestor * moves x)) (sym so_far.beside.flags) (so_far.comes x ok) in (
      x,
      a,
      grounds_kept x m a b so_far.held c.args.work.now n ok c.loop-ancestor.work (so_far.work x ok),
      subst (λ l. Comes x l n a b (output_at c.loop-ancestor.out.flags us) (c.loop-ancestor.ancestor * moves x)) (sym (read_kept x m a b so_far.held c.args.work.now n ok)) here,
    )

pub returns-in_err-put_row-clause-work : goal.returns-in_err-put_row-clause-work
returns-in_err-put_row-clause-work c = λ x ok.
    let so_far = c.loop-ancestor.invariant in
    c.put_row.ensures.work x (grounds_kept x c.args.machine.now c.args.outputs.now c.loop-ancestor.outputs so_far.held c.args.work.now c.args.node ok c.loop-ancestor.work (so_far.work x ok))

pub returns-in_err-put_row-clause-beside : goal.returns-in_err-put_row-clause-beside
returns-in_err-put_row-clause-beside c =
    let so_far = c.loop-ancestor.invariant.beside in
    let put = c.put_row.ensures.beside in
    record { flags = put.flags ∙ so_far.flags; entries = put.entries ∙ so_far.entries; count = put.count ∙ so_far.count }

pub returns-in_err-put_row-clause-others : goal.returns-in_err-put_row-clause-others
returns-in_err-put_row-clause-others c = λ k h.
    let so_far = c.loop-ancestor.invariant in
    let flags = so_far.beside.flags in
    let entries = so_far.beside.entries in
    c.put_row.ensures.others k (elim h [ inl l ↦ inl (omega (arith, l, flags)) | inr l ↦ inr (omega (arith, l, flags, entries)) ]) ∙ so_far.others k h

pub returns-in_err-put_row-clause-held : goal.returns-in_err-put_row-clause-held
returns-in_err-put_row-clause-held c = extends_then c.args.outputs.now c.loop-ancestor.outputs c.put_row.new.outputs c.loop-ancestor.invariant.held c.put_row.ensures.held

pub returns-in_err-put_row-clause-partly : goal.returns-in_err-put_row-clause-partly
returns-in_err-put_row-clause-partly c = on_err c.from_residual.result _ (λ x ok.
    let m = c.args.machine.now in
    let n = c.args.node in
    let a = c.args.outputs.now in
    let b = c.loop-ancestor.outputs in
    let so_far = c.loop-ancestor.invariant in
    let es = entries_by a.matrices n.entries.now in
    let now = grounds_kept x m a b so_far.held c.args.work.now n ok c.loop-ancestor.work (so_far.work x ok) in
    c.in_err-put_row.ensures.partly x es a now (sym (read_kept x m a b so_far.held c.args.work.now n ok))
    (subst (λ f. Comes x es n a b (output_at f c.loop-ancestor.out.numbers.items) (c.loop-ancestor.ancestor * moves x)) (sym so_far.beside.flags) (so_far.comes x ok)))

pub loop-ancestor-preserved : goal.loop-ancestor-preserved
loop-ancestor-preserved c =
    let m = c.args.machine.now in
    let n = c.args.node in
    let a = c.args.outputs.now in
    let b = c.loop-ancestor.outputs in
    let q = c.loop-ancestor.ancestor in
    let so_far = c.loop-ancestor.invariant in
    let put = c.put_row.ensures in
    let flags = so_far.beside.flags in
    let entries = so_far.beside.entries in
    record {
      work = λ x ok. put.work x (grounds_kept x m a b so_far.held c.args.work.now n ok c.loop-ancestor.work (so_far.work x ok));
      beside = record { flags = put.beside.flags ∙ flags; entries = put.beside.entries ∙ entries; count = put.beside.count ∙ so_far.beside.count };
      others = λ k h. put.others k (elim h [ inl l ↦ inl (omega (arith, l, flags)) | inr l ↦ inr (omega (arith, l, flags, entries)) ]) ∙ so_far.others k h;
      held = extends_then a b c.put_row.new.outputs so_far.held put.held;
      comes = λ x ok.
          let es = entries_by a.matrices n.entries.now in
          let now = grounds_kept x m a b so_far.held c.args.work.now n ok c.loop-ancestor.work (so_far.work x ok) in
          let begun = subst (λ f. Comes x es n a b (output_at f c.loop-ancestor.out.numbers.items) (q * moves x)) (sym flags) (so_far.comes x ok) in
          let more = c.in_ok-put_row.ensures.comes x es a now (sym (read_kept x m a b so_far.held c.args.work.now n ok)) begun in
          comes_same x es n a c.put_row.new.outputs (output_at c.args.out.now.flags c.put_row.new.out.numbers.items) (q * moves x + moves x) ((q + 1) * moves x) (next_row q (moves x))
          (subst (λ f. Comes x es n a c.put_row.new.outputs (output_at f c.put_row.new.out.numbers.items) (q * moves x + moves x)) flags more);
      fixed = λ e. put.refusals.fixed e ∙ so_far.fixed e;
    }

pub returns-clause-comes : goal.returns-clause-comes
returns-clause-comes c = λ x ok.
    let r = c.args.machine.now.rules in
    let rules = ok.machine.parts.are_rules in
    let all = c.ancestors-ancestor-end.ensures.count x.symbols rules.rules in
    let end : c.loop-ancestor.ancestor ≡ length (told r).ancestors.states = let t = c.loop-ancestor-test.false in let l = c.loop-ancestor.auto.ancestor-end in omega (arith, t, l, all) in
    let same : c.loop-ancestor.ancestor * moves x ≡ c.args.out.now.entries =
    ap (λ q. q * moves x) end ∙ (ap (λ k. length (told r).ancestors.states * k) (sym (ap move_count rules.told)) ∙ c.requires.room)
    in
    comes_same x (entries_by c.args.outputs.now.matrices c.args.node.entries.now) c.args.node c.args.outputs.now c.loop-ancestor.outputs (output_at c.args.out.now.flags c.loop-ancestor.out.numbers.items) (c.loop-ancestor.ancestor * moves x) c.args.out.now.entries same
    (c.loop-ancestor.invariant.comes x ok)

pub put_row-requires-clause-room : goal.put_row-requires-clause-room
put_row-requires-clause-room c =
    let (x, ok) = c.requires.grounds in
    let rules = told c.args.machine.now.rules in
    let low = c.loop-ancestor-test.true in
    let count = c.ancestors-ancestor-end.ensures.count x.symbols ok.machine.parts.are_rules.rules in
    let up : c.loop-ancestor.ancestor + 1 ≤ length rules.ancestors.states = omega (arith, low, count) in
    let fit : (c.loop-ancestor.ancestor + 1) * move_count rules ≤ length rules.ancestors.states * move_count rules = mul-le-mul_right (move_count rules) up in
    let room = c.requires.room in
    let same = c.loop-ancestor.invariant.beside.entries in
    omega (arith, fit, room, same)

pub returns-in_err-put_row-clause-comes : goal.returns-in_err-put_row-clause-comes
returns-in_err-put_row-clause-comes c = not_done c.from_residual.result _ _ c.from_residual.ensures.1

pub returns-clause-work : goal.returns-clause-work
returns-clause-work c = c.loop-ancestor.invariant.work

pub returns-clause-beside : goal.returns-clause-beside
returns-clause-beside c = c.loop-ancestor.invariant.beside

pub returns-clause-others : goal.returns-clause-others
returns-clause-others c = c.loop-ancestor.invariant.others

pub returns-clause-held : goal.returns-clause-held
returns-clause-held c = c.loop-ancestor.invariant.held

pub returns-clause-partly : goal.returns-clause-partly
returns-clause-partly c = tt

pub returns-clause-refusals : goal.returns-clause-refusals
returns-clause-refusals c = record { fixed = c.loop-ancestor.invariant.fixed; full = λ e. no_error _ _ e; fresh = λ e. no_error _ _ e; memory = λ e. no_error _ _ e }

pub returns-in_err-put_row-clause-refusals : goal.returns-in_err-put_row-clause-refusals
returns-in_err-put_row-clause-refusals c =
    refuse_then c.args.is_fixed c.args.outputs.now c.loop-ancestor.outputs c.put_row.new.outputs c.from_residual.result c.loop-ancestor.invariant.fixed
    (refuse_err c.args.is_fixed c.loop-ancestor.outputs c.put_row.new.outputs c.from_residual.result c.put_row.result _ c.from_residual.ensures.1 c.in_err-put_row.was c.put_row.ensures.refusals)
