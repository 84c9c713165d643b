use Rattle.std.proofs.Common.{List, sym, subst}
use Rattle.tc_beh.specs.Machines.{IsMachineOf}
use Rattle.tc_beh.specs.declared.machine.Machine.{Machine}
use Rattle.tc_beh.specs.declared.rooms.TRow.{TRow}
use Rattle.tc_tests_engine.specs.Kept.{AreKept}
use Rattle.tc_tests_engine.proofs.Keeping.{kept_on, tree_more, tree_now}
use Rattle.tc_tests_engine.proofs.rows.keep_text.Goals as goal

pub text_row-requires-clause-room : goal.text_row-requires-clause-room
text_row-requires-clause-room c = λ x are. c.in_ok-out.ensures x (subst (λ (m : Machine). IsMachineOf x m) (sym c.machine.ensures) are.machine)

pub returns-in_err-is_live : goal.returns-in_err-is_live
returns-in_err-is_live c = kept_on c.args.rows.now c.text_row.new.self c.args.hedges.now.items c.args.trees.now.items c.requires c.text_row.ensures.rows c.text_row.ensures.same c.text_row.ensures.held

pub returns-in_err-push : goal.returns-in_err-push
returns-in_err-push c = subst (λ (l : List TRow). AreKept c.text_row.new.self c.args.hedges.now.items l) (sym c.in_err-push.ensures.items)
    (kept_on c.args.rows.now c.text_row.new.self c.args.hedges.now.items c.args.trees.now.items c.requires c.text_row.ensures.rows c.text_row.ensures.same c.text_row.ensures.held)

pub returns-in_ok-push : goal.returns-in_ok-push
returns-in_ok-push c =
    let old = c.args.rows.now in
    let new = c.text_row.new.self in
    let hs = c.args.hedges.now.items in
    let ts = c.args.trees.now.items in
    subst (λ (l : List TRow). AreKept new hs l) (sym c.in_ok-push.ensures.items)
    (tree_more new hs ts c.text_row.new.out (kept_on old new hs ts c.requires c.text_row.ensures.rows c.text_row.ensures.same c.text_row.ensures.held)
    (tree_now old new hs ts c.text_row.new.out c.requires c.text_row.ensures.same (λ x are. (c.in_ok-is_live.ensures.row c.if-is_live.true x are).0)))

pub returns-else-is_live : goal.returns-else-is_live
returns-else-is_live c = kept_on c.args.rows.now c.text_row.new.self c.args.hedges.now.items c.args.trees.now.items c.requires c.text_row.ensures.rows c.text_row.ensures.same c.text_row.ensures.held
