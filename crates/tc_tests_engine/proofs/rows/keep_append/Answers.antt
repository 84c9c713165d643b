use Rattle.std.proofs.Common.{List, sym, subst}
use Rattle.tc_beh.specs.Machines.{IsMachineOf}
use Rattle.tc_beh.specs.declared.machine.Machine.{Machine}
use Rattle.tc_beh.specs.declared.rooms.HRow.{HRow}
use Rattle.tc_tests_engine.specs.Kept.{AreKept}
use Rattle.tc_tests_engine.proofs.Keeping.{kept_on, hedge_more, hedge_now}
use Rattle.tc_tests_engine.proofs.rows.keep_append.Goals as goal

pub append-requires-clause-room : goal.append-requires-clause-room
append-requires-clause-room c = λ x are. c.in_ok-out.ensures x (subst (λ (m : Machine). IsMachineOf x m) (sym c.machine.ensures) are.machine)

pub returns-in_err-is_live : goal.returns-in_err-is_live
returns-in_err-is_live c = kept_on c.args.rows.now c.append.new.self c.args.hedges.now.items c.args.trees.now.items c.requires c.append.ensures.rows c.append.ensures.same c.append.ensures.held

pub returns-in_err-push : goal.returns-in_err-push
returns-in_err-push c = subst (λ (l : List HRow). AreKept c.append.new.self l c.args.trees.now.items) (sym c.in_err-push.ensures.items)
    (kept_on c.args.rows.now c.append.new.self c.args.hedges.now.items c.args.trees.now.items c.requires c.append.ensures.rows c.append.ensures.same c.append.ensures.held)

pub returns-in_ok-push : goal.returns-in_ok-push
returns-in_ok-push c =
    let old = c.args.rows.now in
    let new = c.append.new.self in
    let hs = c.args.hedges.now.items in
    let ts = c.args.trees.now.items in
    subst (λ (l : List HRow). AreKept new l ts) (sym c.in_ok-push.ensures.items)
    (hedge_more new hs ts c.append.new.out (kept_on old new hs ts c.requires c.append.ensures.rows c.append.ensures.same c.append.ensures.held)
    (hedge_now old new hs ts c.append.new.out c.requires c.append.ensures.same (λ x are. (c.in_ok-is_live.ensures.row c.if-is_live.true x are).0)))

pub returns-else-is_live : goal.returns-else-is_live
returns-else-is_live c = kept_on c.args.rows.now c.append.new.self c.args.hedges.now.items c.args.trees.now.items c.requires c.append.ensures.rows c.append.ensures.same c.append.ensures.held
