use Rattle.std.proofs.Common.{◌++◌, ◌∙◌, ap, map, sym}
use Rattle.std.proofs.lemmas.List.{take_all, drop_all}
use Rattle.tc_sheet.specs.Graphs.{callee_of, numbered_from, first_undefined, IsFirstUndefined}
use Rattle.tc_sheet.specs.SeenCalls.{call, site, names_seen}
use Rattle.tc_sheet.proofs.Refused.{handed_on}
use Rattle.tc_sheet.proofs.CallSteps.{first_step, put_step, row_step, undefined_here}
use Rattle.tc_sheet.proofs.Passed.{no_value}
use Rattle.tc_sheet.proofs.calls.put_numbered.Goals as goal

pub loop-site-preserved : goal.loop-site-preserved
loop-site-preserved c =
    let names = names_seen c.args.names.now in
    let ss = c.args.sites.now in
    let k = c.loop-site.site-index in
    record {
      row = row_step names ss k _ c.loop-site-test.true c.loop-site.row.items c.push.new.self.items c.in_ok-callee.callee c.in_ok-push.ensures.items c.in_ok-callee.ensures.ok c.loop-site.invariant.row;
      put =
          put_step names ss k _ c.loop-site-test.true c.args.caller c.in_ok-callee.callee c.loop-site.calls.items c.push-in-loop-site.new.self.items (map call c.args.calls.now.items) c.in_ok-push-2.ensures.items c.in_ok-callee.ensures.ok
          c.loop-site.invariant.put;
      first = first_step names ss k _ c.loop-site-test.true c.in_ok-callee.ensures.first c.loop-site.invariant.first;
    }

pub returns-in_err-callee-clause-no : goal.returns-in_err-callee-clause-no
returns-in_err-callee-clause-no c =
    let names = names_seen c.args.names.now in
    let ss = c.args.sites.now in
    handed_on (IsFirstUndefined names (map site ss)) c.from_residual.result c.in_err-callee.field-0.0 c.from_residual.ensures.1
    (undefined_here names ss c.loop-site.site-index _ c.loop-site-test.true c.in_err-callee.field-0.0 c.in_err-callee.ensures.no c.loop-site.invariant.first)

pub returns-clause-row : goal.returns-clause-row
returns-clause-row c =
    c.into_bump_slice.ensures
    ∙ (c.loop-site.invariant.row ∙ ap (λ z. map (callee_of (names_seen c.args.names.now)) (map site z)) (take_all c.loop-site.site-index c.args.sites.now c.loop-site-test.false))

pub returns-clause-put : goal.returns-clause-put
returns-clause-put c =
    c.loop-site.invariant.put
    ∙ ap (λ z. map call c.args.calls.now.items ++ map (numbered_from (names_seen c.args.names.now) c.args.caller) (map site z)) (take_all c.loop-site.site-index c.args.sites.now c.loop-site-test.false)

pub returns-clause-first : goal.returns-clause-first
returns-clause-first c = sym (ap (λ z. first_undefined (names_seen c.args.names.now) (map site z)) (sym (drop_all c.loop-site.site-index c.args.sites.now c.loop-site-test.false)) ∙ c.loop-site.invariant.first)

pub returns-in_err-callee-clause-row : goal.returns-in_err-callee-clause-row
returns-in_err-callee-clause-row c = no_value c.from_residual.result _ _ c.from_residual.ensures.1

pub returns-in_err-callee-clause-put : goal.returns-in_err-callee-clause-put
returns-in_err-callee-clause-put c = no_value c.from_residual.result _ _ c.from_residual.ensures.1

pub returns-in_err-callee-clause-first : goal.returns-in_err-callee-clause-first
returns-in_err-callee-clause-first c = no_value c.from_residual.result _ _ c.from_residual.ensures.1

pub returns-clause-no : goal.returns-clause-no
returns-clause-no c = tt
