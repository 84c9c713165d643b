use Rattle.std.proofs.Common.{◌<◌, ◌+◌, Contains, sym, subst}
use Rattle.tc_model.specs.Numberings.{moves_of}
use Rattle.tc_model.specs.Sheets.{Sheet}
use Rattle.tc_model.specs.Views as see
use Rattle.tc_rules.proofs.PartsOf.{children_move}
use Rattle.tc_run.specs.Running.{sheet_by, symbols_by}
use Rattle.tc_run.proofs.FirstOfChildren.{AreFirstSo, one_more_first, first_found}
use Rattle.tc_run.proofs.children.ChildMoves.new.Goals as goal

pub move_first-first-requires : goal.move_first-first-requires
move_first-first-requires c =
    let s = sheet_by c.args.runner.now in
    let m = c.loop-mode.mode in
    subst (λ p. Contains (moves_of s) (record { path = p; mode = m })) (sym c.all_children.ensures) (children_move s m (subst (λ (x : Sheet). m < x.modes) c.sheet.ensures c.loop-mode-test.true))

pub loop-mode-preserved : goal.loop-mode-preserved
loop-mode-preserved c =
    let r = c.args.runner.now in
    let m = c.loop-mode.mode in
    subst (AreFirstSo r (m + 1)) (sym c.in_ok-push.ensures.items)
    (one_more_first r m c.loop-mode.states.items c.move_first-first.result c.loop-mode.invariant
    (first_found r (see.path c.all_children.result.now) m c.move_first-first.result c.all_children.ensures (c.move_first-first.ensures (symbols_by r) c.requires)))
