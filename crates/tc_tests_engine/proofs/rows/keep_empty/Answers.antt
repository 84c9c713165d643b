use Rattle.std.proofs.Common.{List, sym, subst}
use Rattle.tc_beh.specs.Machines.{IsMachineOf}
use Rattle.tc_beh.specs.declared.machine.Machine.{Machine}
use Rattle.tc_beh.specs.declared.rooms.HRow.{HRow}
use Rattle.tc_tests_engine.specs.Kept.{AreKept}
use Rattle.tc_tests_engine.proofs.Keeping.{kept_on, hedge_more, hedge_now}
use Rattle.tc_tests_engine.proofs.rows.keep_empty.Goals as goal

pub empty_row-requires-clause-room : goal.empty_row-requires-clause-room
empty_row-requires-clause-room c = λ x are. c.in_ok-out.ensures x (subst (λ (m : Machine). IsMachineOf x m) (sym c.machine.ensures) are.machine)

pub returns-in_err-empty_row : goal.returns-in_err-empty_row
returns-in_err-empty_row c = kept_on c.args.rows.now c.empty_row.new.self c.args.hedges.now.items c.args.trees.now.items c.requires c.empty_row.ensures.rows c.empty_row.ensures.same c.empty_row.ensures.held

pub returns-in_err-push : goal.returns-in_err-push
returns-in_err-push c = subst (λ (l : List HRow). AreKept c.empty_row.new.self l c.args.trees.now.items) (sym c.in_err-push.ensures.items)
    (kept_on c.args.rows.now c.empty_row.new.self c.args.hedges.now.items c.args.trees.now.items c.requires c.empty_row.ensures.rows c.empty_row.ensures.same c.empty_row.ensures.held)

pub returns : goal.returns
returns c =
    let old = c.args.rows.now in
    let new = c.empty_row.new.self in
    let hs = c.args.hedges.now.items in
    let ts = c.args.trees.now.items in
    subst (λ (l : List HRow). AreKept new l ts) (sym c.in_ok-push.ensures.items)
    (hedge_more new hs ts c.empty_row.new.out (kept_on old new hs ts c.requires c.empty_row.ensures.rows c.empty_row.ensures.same c.empty_row.ensures.held)
    (hedge_now old new hs ts c.empty_row.new.out c.requires c.empty_row.ensures.same (λ x are. (c.in_ok-empty_row.ensures.row x are).0)))
