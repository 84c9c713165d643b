use Rattle.std.proofs.Common.{◌≡◌, ◌+◌, ◌∙◌, ap, arith, refl, drop}
use Rattle.tc_model.specs.Views as see
use Rattle.tc_model.specs.SheetText.{numbered, numbered_branches}
use Rattle.tc_model.proofs.ViewsBody.{body_then}
use Rattle.tc_sheet.specs.Views.{body, branches}
use Rattle.tc_sheet.specs.SeenCalls.{names_seen}
use Rattle.tc_sheet.specs.declared.written.Written.TheVariants as v
use Rattle.tc_sheet.specs.declared.faults.SheetFault.TheVariants.{NoMemory}
use Rattle.tc_sheet.proofs.Passed.{passed_on}
use Rattle.tc_sheet.proofs.NumberLaws.{body_count, body_counted, body_end, body_step, branches_count, branches_counted, branches_end, branches_step, counted_by, number_apply, number_call, number_choose, number_copy, number_each, number_elem, number_self, number_text, number_value}
use Rattle.tc_sheet.proofs.WrittenParts.{eaches_of_apply, eaches_of_call, eaches_of_choose, eaches_of_copy, eaches_of_each, eaches_of_elem, eaches_of_self, eaches_of_text, eaches_of_value}
use Rattle.tc_sheet.proofs.numbering.+number.Goals as goal

pub numbered_one-returns-in_ok-otherwise-in-Choose : goal.numbered_one-returns-in_ok-otherwise-in-Choose
numbered_one-returns-in_ok-otherwise-in-Choose t c = (
  number_choose (names_seen c.args.tables.now.modes.now) (names_seen c.args.tables.now.names.now) c.args.instruction.now c.args.next.now c.numbered-in-Choose.new.next c.in-Choose.branches c.in-Choose.last
      c.in_ok-chosen-in-Choose.chosen c.in_ok-otherwise-in-Choose.otherwise c.numbered_branches.new.next c.in-Choose.is c.in_ok-chosen-in-Choose.ensures.0 c.in_ok-chosen-in-Choose.ensures.1
      c.in_ok-otherwise-in-Choose.ensures.0 c.in_ok-otherwise-in-Choose.ensures.1,
  counted_by (names_seen c.args.tables.now.modes.now) (names_seen c.args.tables.now.names.now) c.args.instruction.now c.args.next.now c.numbered-in-Choose.new.next (v.Choose c.in-Choose.branches c.in-Choose.last) _ c.in-Choose.is (eaches_of_choose c.in-Choose.branches c.in-Choose.last) (omega (arith, c.in_ok-chosen-in-Choose.ensures.1, c.in_ok-otherwise-in-Choose.ensures.1)),
)

pub numbered-loop-instruction-preserved : goal.numbered-loop-instruction-preserved
numbered-loop-instruction-preserved t c = let modes = names_seen c.args.tables.now.modes.now in
    let names = names_seen c.args.tables.now.names.now in
    let is = c.args.body.now in
    let k = c.loop-instruction.instruction-index in
    record {
      means =
          ap (λ z. body_then (see.body z) (numbered modes names c.numbered_one.new.next (body (drop (k + 1) is)))) c.in_ok-push.ensures.items
          ∙ body_step modes names is k c.instruction-item.result c.loop-instruction-test.true c.instruction-item.is c.loop-instruction.found.items c.in_ok-numbered.numbered c.loop-instruction.next c.numbered_one.new.next _
          c.in_ok-numbered.ensures.0 c.loop-instruction.invariant.means;
      counted =
          body_count is k c.instruction-item.result c.loop-instruction-test.true c.instruction-item.is c.loop-instruction.next c.numbered_one.new.next _ c.in_ok-numbered.ensures.1
          c.loop-instruction.invariant.counted;
    }

pub numbered-returns : goal.numbered-returns
numbered-returns t c = (
  ap see.body c.into_bump_slice.ensures
      ∙ body_end (names_seen c.args.tables.now.modes.now) (names_seen c.args.tables.now.names.now) c.args.body.now c.loop-instruction.instruction-index c.loop-instruction.found.items c.loop-instruction.next _
      c.loop-instruction-test.false c.loop-instruction.invariant.means,
  body_counted c.args.body.now c.loop-instruction.instruction-index c.loop-instruction.next _ c.loop-instruction-test.false c.loop-instruction.invariant.counted,
)

pub numbered_branches-loop-branch-preserved : goal.numbered_branches-loop-branch-preserved
numbered_branches-loop-branch-preserved t c = let modes = names_seen c.args.tables.now.modes.now in
    let names = names_seen c.args.tables.now.names.now in
    let bs = c.args.branches.now in
    let k = c.loop-branch.branch-index in
    record {
      means = λ rest.
          ap (λ z. see.branches z (numbered_branches modes names c.numbered.new.next (branches (drop (k + 1) bs) rest))) c.in_ok-push.ensures.items
          ∙ branches_step modes names bs k _ c.loop-branch-test.true c.loop-branch.found.items _ c.loop-branch.next c.numbered.new.next c.args.next.now refl c.in_ok-body.ensures.0 c.in_ok-body.ensures.1
          c.loop-branch.invariant.means rest;
      counted = branches_count bs k _ c.loop-branch-test.true c.loop-branch.next c.numbered.new.next _ c.in_ok-body.ensures.1 c.loop-branch.invariant.counted;
    }

pub numbered_one-returns-in-Text : goal.numbered_one-returns-in-Text
numbered_one-returns-in-Text t c = (
  number_text (names_seen c.args.tables.now.modes.now) (names_seen c.args.tables.now.names.now) c.args.instruction.now c.args.next.now c.args.next.now c.in-Text.text c.in-Text.is refl,
  counted_by (names_seen c.args.tables.now.modes.now) (names_seen c.args.tables.now.names.now) c.args.instruction.now c.args.next.now c.args.next.now (v.Text c.in-Text.text) 0 c.in-Text.is (eaches_of_text c.in-Text.text) (omega arith),
)

pub numbered_one-returns-in-ValueOf : goal.numbered_one-returns-in-ValueOf
numbered_one-returns-in-ValueOf t c = (
  number_value (names_seen c.args.tables.now.modes.now) (names_seen c.args.tables.now.names.now) c.args.instruction.now c.args.next.now c.args.next.now c.in-ValueOf.path c.in-ValueOf.is refl,
  counted_by (names_seen c.args.tables.now.modes.now) (names_seen c.args.tables.now.names.now) c.args.instruction.now c.args.next.now c.args.next.now (v.ValueOf c.in-ValueOf.path) 0 c.in-ValueOf.is (eaches_of_value c.in-ValueOf.path) (omega arith),
)

pub numbered_one-returns-in-ValueOfSelf : goal.numbered_one-returns-in-ValueOfSelf
numbered_one-returns-in-ValueOfSelf t c = (
  number_self (names_seen c.args.tables.now.modes.now) (names_seen c.args.tables.now.names.now) c.args.instruction.now c.args.next.now c.args.next.now c.in-ValueOfSelf.is refl,
  counted_by (names_seen c.args.tables.now.modes.now) (names_seen c.args.tables.now.names.now) c.args.instruction.now c.args.next.now c.args.next.now v.ValueOfSelf 0 c.in-ValueOfSelf.is eaches_of_self (omega arith),
)

pub numbered_one-returns-in_ok-number_of_mode-in-Apply : goal.numbered_one-returns-in_ok-number_of_mode-in-Apply
numbered_one-returns-in_ok-number_of_mode-in-Apply t c = (
  number_apply (names_seen c.args.tables.now.modes.now) (names_seen c.args.tables.now.names.now) c.args.instruction.now c.args.next.now c.args.next.now c.in-Apply.path c.in-Apply.mode c.in_ok-number_of_mode-in-Apply.number_of_mode c.in-Apply.is c.in_ok-number_of_mode-in-Apply.ensures.ok refl,
  counted_by (names_seen c.args.tables.now.modes.now) (names_seen c.args.tables.now.names.now) c.args.instruction.now c.args.next.now c.args.next.now (v.Apply c.in-Apply.path c.in-Apply.mode) 0 c.in-Apply.is (eaches_of_apply c.in-Apply.path c.in-Apply.mode) (omega arith),
)

pub numbered_one-returns-in_ok-callee-in-Call : goal.numbered_one-returns-in_ok-callee-in-Call
numbered_one-returns-in_ok-callee-in-Call t c = (
  number_call (names_seen c.args.tables.now.modes.now) (names_seen c.args.tables.now.names.now) c.args.instruction.now c.args.next.now c.args.next.now c.in-Call.name c.in-Call.field-1 c.in_ok-callee-in-Call.callee c.in-Call.is c.in_ok-callee-in-Call.ensures.ok refl,
  counted_by (names_seen c.args.tables.now.modes.now) (names_seen c.args.tables.now.names.now) c.args.instruction.now c.args.next.now c.args.next.now (v.Call c.in-Call.name c.in-Call.field-1) 0 c.in-Call.is (eaches_of_call c.in-Call.name c.in-Call.field-1) (omega arith),
)

pub numbered_one-returns-in_ok-content-in-Elem : goal.numbered_one-returns-in_ok-content-in-Elem
numbered_one-returns-in_ok-content-in-Elem t c = (
  number_elem (names_seen c.args.tables.now.modes.now) (names_seen c.args.tables.now.names.now) c.args.instruction.now c.args.next.now c.numbered.new.next c.in-Elem.name c.in-Elem.inner c.in_ok-content-in-Elem.content c.in-Elem.is c.in_ok-content-in-Elem.ensures.0 c.in_ok-content-in-Elem.ensures.1,
  counted_by (names_seen c.args.tables.now.modes.now) (names_seen c.args.tables.now.names.now) c.args.instruction.now c.args.next.now c.numbered.new.next (v.Elem c.in-Elem.name c.in-Elem.inner) _ c.in-Elem.is (eaches_of_elem c.in-Elem.name c.in-Elem.inner) c.in_ok-content-in-Elem.ensures.1,
)

pub numbered_one-returns-in_ok-copied-in-Copy : goal.numbered_one-returns-in_ok-copied-in-Copy
numbered_one-returns-in_ok-copied-in-Copy t c = (
  number_copy (names_seen c.args.tables.now.modes.now) (names_seen c.args.tables.now.names.now) c.args.instruction.now c.args.next.now c.numbered-in-Copy.new.next c.in-Copy.inner c.in_ok-copied-in-Copy.copied c.in-Copy.is c.in_ok-copied-in-Copy.ensures.0 c.in_ok-copied-in-Copy.ensures.1,
  counted_by (names_seen c.args.tables.now.modes.now) (names_seen c.args.tables.now.names.now) c.args.instruction.now c.args.next.now c.numbered-in-Copy.new.next (v.Copy c.in-Copy.inner) _ c.in-Copy.is (eaches_of_copy c.in-Copy.inner) c.in_ok-copied-in-Copy.ensures.1,
)

pub numbered_one-returns-in_ok-repeated-in-ForEach : goal.numbered_one-returns-in_ok-repeated-in-ForEach
numbered_one-returns-in_ok-repeated-in-ForEach t c = (
  number_each (names_seen c.args.tables.now.modes.now) (names_seen c.args.tables.now.names.now) c.args.instruction.now c.args.next.now c.numbered-in-ForEach.new.next c.in-ForEach.path c.in-ForEach.inner c.in_ok-repeated-in-ForEach.repeated c.in_ok-number-in-ForEach.number c.take_number.new.next c.in-ForEach.is c.in_ok-number-in-ForEach.ensures.ok c.in_ok-number-in-ForEach.ensures.counted c.in_ok-repeated-in-ForEach.ensures.0 c.in_ok-repeated-in-ForEach.ensures.1,
  counted_by (names_seen c.args.tables.now.modes.now) (names_seen c.args.tables.now.names.now) c.args.instruction.now c.args.next.now c.numbered-in-ForEach.new.next (v.ForEach c.in-ForEach.path c.in-ForEach.inner) _ c.in-ForEach.is (eaches_of_each c.in-ForEach.path c.in-ForEach.inner) (omega (arith, c.in_ok-number-in-ForEach.ensures.counted, c.in_ok-repeated-in-ForEach.ensures.1)),
)

pub numbered_one-returns-in_err-content-in-Elem : goal.numbered_one-returns-in_err-content-in-Elem
numbered_one-returns-in_err-content-in-Elem t c = passed_on _ (λ e. e ≡ NoMemory) c.from_residual.result c.in_err-content-in-Elem.field-0.0 c.from_residual.ensures.1 c.in_err-content-in-Elem.ensures

pub numbered_one-returns-in_err-copied-in-Copy : goal.numbered_one-returns-in_err-copied-in-Copy
numbered_one-returns-in_err-copied-in-Copy t c = passed_on _ (λ e. e ≡ NoMemory) c.from_residual-in_err-copied-in-Copy.result c.in_err-copied-in-Copy.field-0.0 c.from_residual-in_err-copied-in-Copy.ensures.1 c.in_err-copied-in-Copy.ensures

pub numbered_one-returns-in_err-number_of_mode-in-Apply : goal.numbered_one-returns-in_err-number_of_mode-in-Apply
numbered_one-returns-in_err-number_of_mode-in-Apply t c = passed_on _ (λ e. e ≡ NoMemory) c.from_residual-in_err-number_of_mode-in-Apply.result c.in_err-number_of_mode-in-Apply.field-0.0 c.from_residual-in_err-number_of_mode-in-Apply.ensures.1 c.in_err-number_of_mode-in-Apply.ensures.no

pub numbered_one-returns-in_err-callee-in-Call : goal.numbered_one-returns-in_err-callee-in-Call
numbered_one-returns-in_err-callee-in-Call t c = passed_on _ (λ e. e ≡ NoMemory) c.from_residual-in_err-callee-in-Call.result c.in_err-callee-in-Call.field-0.0 c.from_residual-in_err-callee-in-Call.ensures.1 c.in_err-callee-in-Call.ensures.no

pub numbered_one-returns-in_err-chosen-in-Choose : goal.numbered_one-returns-in_err-chosen-in-Choose
numbered_one-returns-in_err-chosen-in-Choose t c = passed_on _ (λ e. e ≡ NoMemory) c.from_residual-in_err-chosen-in-Choose.result c.in_err-chosen-in-Choose.field-0.0 c.from_residual-in_err-chosen-in-Choose.ensures.1 c.in_err-chosen-in-Choose.ensures

pub numbered_one-returns-in_err-otherwise-in-Choose : goal.numbered_one-returns-in_err-otherwise-in-Choose
numbered_one-returns-in_err-otherwise-in-Choose t c = passed_on _ (λ e. e ≡ NoMemory) c.from_residual-in_err-otherwise-in-Choose.result c.in_err-otherwise-in-Choose.field-0.0 c.from_residual-in_err-otherwise-in-Choose.ensures.1 c.in_err-otherwise-in-Choose.ensures

pub numbered_one-returns-in_err-number-in-ForEach : goal.numbered_one-returns-in_err-number-in-ForEach
numbered_one-returns-in_err-number-in-ForEach t c = passed_on _ (λ e. e ≡ NoMemory) c.from_residual-in_err-number-in-ForEach.result c.in_err-number-in-ForEach.field-0.0 c.from_residual-in_err-number-in-ForEach.ensures.1 c.in_err-number-in-ForEach.ensures.no

pub numbered_one-returns-in_err-repeated-in-ForEach : goal.numbered_one-returns-in_err-repeated-in-ForEach
numbered_one-returns-in_err-repeated-in-ForEach t c = passed_on _ (λ e. e ≡ NoMemory) c.from_residual-in_err-repeated-in-ForEach.result c.in_err-repeated-in-ForEach.field-0.0 c.from_residual-in_err-repeated-in-ForEach.ensures.1 c.in_err-repeated-in-ForEach.ensures

pub numbered-returns-in_err-numbered : goal.numbered-returns-in_err-numbered
numbered-returns-in_err-numbered t c = passed_on _ (λ e. e ≡ NoMemory) c.from_residual.result c.in_err-numbered.field-0.0 c.from_residual.ensures.1 c.in_err-numbered.ensures

pub numbered_branches-returns-in_err-body : goal.numbered_branches-returns-in_err-body
numbered_branches-returns-in_err-body t c = passed_on _ (λ e. e ≡ NoMemory) c.from_residual.result c.in_err-body.field-0.0 c.from_residual.ensures.1 c.in_err-body.ensures

pub numbered_branches-returns : goal.numbered_branches-returns
numbered_branches-returns t c = (
  let modes = names_seen c.args.tables.now.modes.now in
      let names = names_seen c.args.tables.now.names.now in
      λ rest. ap (λ z. see.branches z (numbered_branches modes names c.loop-branch.next rest)) c.into_bump_slice.ensures
      ∙ branches_end modes names c.args.branches.now c.loop-branch.branch-index c.loop-branch.found.items c.loop-branch.next c.args.next.now c.loop-branch-test.false c.loop-branch.invariant.means rest,
  branches_counted c.args.branches.now c.loop-branch.branch-index c.loop-branch.next _ c.loop-branch-test.false c.loop-branch.invariant.counted,
)

pub numbered-returns-in_err-push : goal.numbered-returns-in_err-push
numbered-returns-in_err-push t c = passed_on _ (λ e. e ≡ NoMemory) c.from_residual-in_err-push.result NoMemory c.from_residual-in_err-push.ensures.1 refl

pub numbered_branches-returns-in_err-push : goal.numbered_branches-returns-in_err-push
numbered_branches-returns-in_err-push t c = passed_on _ (λ e. e ≡ NoMemory) c.from_residual-in_err-push.result NoMemory c.from_residual-in_err-push.ensures.1 refl

pub numbered-loop-instruction-init : goal.numbered-loop-instruction-init
numbered-loop-instruction-init t c =
    let modes = names_seen c.args.tables.now.modes.now in
    let names = names_seen c.args.tables.now.names.now in
    record {
      means = ap (λ z. body_then (see.body z) (numbered modes names c.args.next.now (body c.args.body.now))) c.new-found.ensures.items;
      counted = refl;
    }

pub numbered_branches-loop-branch-init : goal.numbered_branches-loop-branch-init
numbered_branches-loop-branch-init t c =
    let modes = names_seen c.args.tables.now.modes.now in
    let names = names_seen c.args.tables.now.names.now in
    record {
      means = λ rest. ap (λ z. see.branches z (numbered_branches modes names c.args.next.now (branches c.args.branches.now rest))) c.new-found.ensures.items;
      counted = refl;
    }
