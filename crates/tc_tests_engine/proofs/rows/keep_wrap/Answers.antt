use Rattle.std.proofs.Common.{◌<◌, List, sym, subst, ap, ◌∙◌}
use Rattle.tc_model.specs.Symbols.{Mention, symbol_count}
use Rattle.tc_beh.specs.Machines.{IsMachineOf}
use Rattle.tc_beh.specs.declared.machine.Machine.{Machine}
use Rattle.tc_beh.specs.declared.rooms.TRow.{TRow}
use Rattle.tc_tests_engine.specs.Kept.{AreKept}
use Rattle.tc_tests_engine.proofs.Keeping.{kept_on, tree_more, tree_now}
use Rattle.tc_tests_engine.proofs.rows.keep_wrap.Goals as goal

pub wrap-requires-clause-room : goal.wrap-requires-clause-room
wrap-requires-clause-room c = λ x are. c.in_ok-out.ensures x (subst (λ (m : Machine). IsMachineOf x m) (sym c.machine.ensures) are.machine)

pub returns-in_err-is_live : goal.returns-in_err-is_live
returns-in_err-is_live c = kept_on c.args.rows.now c.wrap.new.self c.args.hedges.now.items c.args.trees.now.items c.requires c.wrap.ensures.rows c.wrap.ensures.same c.wrap.ensures.held

pub returns-in_err-push : goal.returns-in_err-push
returns-in_err-push c = subst (λ (l : List TRow). AreKept c.wrap.new.self c.args.hedges.now.items l) (sym c.in_err-push.ensures.items)
    (kept_on c.args.rows.now c.wrap.new.self c.args.hedges.now.items c.args.trees.now.items c.requires c.wrap.ensures.rows c.wrap.ensures.same c.wrap.ensures.held)

pub returns-in_ok-push : goal.returns-in_ok-push
returns-in_ok-push c =
    let old = c.args.rows.now in
    let new = c.wrap.new.self in
    let hs = c.args.hedges.now.items in
    let ts = c.args.trees.now.items in
    subst (λ (l : List TRow). AreKept new hs l) (sym c.in_ok-push.ensures.items)
    (tree_more new hs ts c.wrap.new.out (kept_on old new hs ts c.requires c.wrap.ensures.rows c.wrap.ensures.same c.wrap.ensures.held)
    (tree_now old new hs ts c.wrap.new.out c.requires c.wrap.ensures.same (λ x are. (c.in_ok-is_live.ensures.row c.if-is_live.true x are).0)))

pub returns-else-is_live : goal.returns-else-is_live
returns-else-is_live c = kept_on c.args.rows.now c.wrap.new.self c.args.hedges.now.items c.args.trees.now.items c.requires c.wrap.ensures.rows c.wrap.ensures.same c.wrap.ensures.held

pub wrap-requires-clause-symbol : goal.wrap-requires-clause-symbol
wrap-requires-clause-symbol c = λ x are.
    subst (λ (ms : List Mention). c.sym_of-symbol.result.0 < symbol_count ms) (c.alphabet.ensures ∙ (ap (λ (m : Machine). m.alphabet) c.machine-2.ensures ∙ are.machine.parts.same_symbols)) c.sym_of-symbol.ensures.below
