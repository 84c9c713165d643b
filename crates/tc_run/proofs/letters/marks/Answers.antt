use Rattle.std.proofs.Common.{◌-◌, ◌<◌, sym, subst, get_or, arith}
use Rattle.tc_model.specs.Machine.{holds_in}
use Rattle.tc_model.specs.Sheets.{always}
use Rattle.tc_run.specs.Lettered.{bare}
use Rattle.tc_run.specs.Predicates.{IsAskedBy}
use Rattle.tc_run.specs.Running.{looking, predicates_by}
use Rattle.tc_run.specs.Views.{trees}
use Rattle.tc_run.proofs.Asking.{asked_at}
use Rattle.tc_run.proofs.Marking.{bit_low, mark_more, marks_low}
use Rattle.tc_run.proofs.letters.marks.Goals as goal

pub overflow_mul-marks : goal.overflow_mul-marks
overflow_mul-marks c =
    let r = c.args.runner.now in
    let low : c.loop-number.marks < 64 = marks_low r c.requires.kids.runner (λ p. holds_in (looking r) p (bare (trees c.args.kids.now))) c.loop-number.number c.loop-number.marks c.loop-number.invariant.2 in
    omega (arith, low)

pub is_met-requires-clause-asked : goal.is_met-requires-clause-asked
is_met-requires-clause-asked c =
    let r = c.args.runner.now in
    let i = c.loop-number.number - 1 in
    let x = c.index-asked-number.result in
    let t = get_or (predicates_by r) i always in
    (t, subst (IsAskedBy r t) (sym c.index-asked-number.is) (asked_at r c.args.asked.now i x c.requires.asked (omega (arith, c.loop-number.invariant.1, c.loop-number-test.true))).1)

pub overflow_add-marks : goal.overflow_add-marks
overflow_add-marks c =
    let r = c.args.runner.now in
    let low : c.loop-number.marks < 64 = marks_low r c.requires.kids.runner (λ p. holds_in (looking r) p (bare (trees c.args.kids.now))) c.loop-number.number c.loop-number.marks c.loop-number.invariant.2 in
    omega (arith, low, bit_low c.is_met.result, c.from.ensures)

pub loop-number-preserved : goal.loop-number-preserved
loop-number-preserved c =
    let r = c.args.runner.now in
    let i = c.loop-number.number - 1 in
    let x = c.index-asked-number.result in
    let t = get_or (predicates_by r) i always in
    let there = asked_at r c.args.asked.now i x c.requires.asked (omega (arith, c.loop-number.invariant.1, c.loop-number-test.true)) in (
      c.is_met.ensures.known,
      omega (arith, c.loop-number.invariant.1),
      mark_more (λ p. holds_in (looking r) p (bare (trees c.args.kids.now))) (predicates_by r) c.loop-number.number t c.is_met.result c.loop-number.marks c.from.result
          c.loop-number-test.true there.0 (c.is_met.ensures.met t (subst (IsAskedBy r t) (sym c.index-asked-number.is) there.1)) c.from.ensures c.loop-number.invariant.2,
    )

pub is_met-requires-clause-kids : goal.is_met-requires-clause-kids
is_met-requires-clause-kids c = record { runner = c.requires.kids.runner; nodes = c.requires.kids.nodes; known = c.loop-number.invariant.0 }
