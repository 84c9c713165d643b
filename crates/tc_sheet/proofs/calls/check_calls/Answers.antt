use Rattle.std.proofs.Common.{◌∙◌, ap, map, refl, get_or}
use Rattle.tc_graph.specs.Graph.{rows_of}
use Rattle.tc_model.specs.Views.{place}
use Rattle.tc_sheet.specs.Graphs.{IsCallFault, calls_from, row_of}
use Rattle.tc_sheet.specs.Views.{template}
use Rattle.tc_sheet.specs.SeenCalls.{call, names_seen}
use Rattle.tc_sheet.proofs.CallChecks.{first_step, first_end, undefined_fault, graph_rows, within_calls, no_loops, has_loop, all_are_defined}
use Rattle.tc_sheet.proofs.CallLaws.{all_listed}
use Rattle.tc_sheet.proofs.TableKeys.{blank, flat_step, flat_end, stands_here, handed}
use Rattle.tc_sheet.proofs.calls.check_calls.Goals as goal

pub put_template-requires : goal.put_template-requires
put_template-requires c =
    all_listed (map template c.args.templates.now) (template (get_or c.args.templates.now c.loop-template.template-index blank)) (names_seen c.args.names.now) (stands_here c.args.templates.now c.loop-template.template-index blank c.loop-template-test.true) c.requires.names

pub returns-in_err-put_template-clause-no : goal.returns-in_err-put_template-clause-no
returns-in_err-put_template-clause-no c =
    let ts = c.args.templates.now in
    handed c.from_residual.result c.in_err-put_template.field-0.0 _ (IsCallFault (map template ts)) c.from_residual.ensures.1
    (undefined_fault ts c.loop-template.template-index _ c.loop-template-test.true (names_seen c.args.names.now) _ c.loop-template.invariant.first c.requires.names refl) c.in_err-put_template.ensures.no

pub loop-template-preserved : goal.loop-template-preserved
loop-template-preserved c =
    let ts = c.args.templates.now in
    let k = c.loop-template.template-index in
    let names = names_seen c.args.names.now in
    record {
      rows = flat_step ts k _ c.loop-template-test.true (row_of names) (rows_of c.loop-template.rows.items) (rows_of c.put_template.new.rows.items) _ c.in_ok-put_template.ensures.rows c.loop-template.invariant.rows;
      put = flat_step ts k _ c.loop-template-test.true (calls_from names) (map call c.loop-template.calls.items) (map call c.put_template.new.calls.items) _ c.in_ok-put_template.ensures.put c.loop-template.invariant.put;
      first = first_step ts k _ c.loop-template-test.true names _ c.loop-template.invariant.first c.in_ok-put_template.ensures.first;
    }

pub components-requires : goal.components-requires
components-requires c =
    let ts = c.args.templates.now in
    let k = c.loop-template.template-index in
    let names = names_seen c.args.names.now in
    graph_rows (map template ts) names c.requires.names c.requires.once (first_end ts k names _ c.loop-template-test.false c.loop-template.invariant.first)
    (rows_of c.into_bump_slice-rows.result.now) (ap rows_of c.into_bump_slice-rows.ensures ∙ flat_end (row_of names) ts k (rows_of c.loop-template.rows.items) _ c.loop-template-test.false c.loop-template.invariant.rows)

pub first_loop-requires : goal.first_loop-requires
first_loop-requires c =
    let ts = c.args.templates.now in
    let k = c.loop-template.template-index in
    let names = names_seen c.args.names.now in
    within_calls (map template ts) names c.requires.names c.requires.once (first_end ts k names _ c.loop-template-test.false c.loop-template.invariant.first)
    (rows_of c.into_bump_slice-rows.result.now) (ap rows_of c.into_bump_slice-rows.ensures ∙ flat_end (row_of names) ts k (rows_of c.loop-template.rows.items) _ c.loop-template-test.false c.loop-template.invariant.rows)
    c.in_ok-walk.walk.states.items c.in_ok-walk.walk.order.items c.in_ok-walk.ensures
    c.into_bump_slice-calls.result.now (ap (map call) c.into_bump_slice-calls.ensures ∙ flat_end (calls_from names) ts k (map call c.loop-template.calls.items) _ c.loop-template-test.false c.loop-template.invariant.put)

pub returns-in-Some-clause-no : goal.returns-in-Some-clause-no
returns-in-Some-clause-no c =
    let ts = c.args.templates.now in
    let k = c.loop-template.template-index in
    let names = names_seen c.args.names.now in
    has_loop (map template ts) names c.requires.names c.requires.once (first_end ts k names _ c.loop-template-test.false c.loop-template.invariant.first)
    (rows_of c.into_bump_slice-rows.result.now) (ap rows_of c.into_bump_slice-rows.ensures ∙ flat_end (row_of names) ts k (rows_of c.loop-template.rows.items) _ c.loop-template-test.false c.loop-template.invariant.rows)
    c.in_ok-walk.walk.states.items c.in_ok-walk.walk.order.items c.in_ok-walk.ensures
    c.into_bump_slice-calls.result.now (ap (map call) c.into_bump_slice-calls.ensures ∙ flat_end (calls_from names) ts k (map call c.loop-template.calls.items) _ c.loop-template-test.false c.loop-template.invariant.put)
    (place c.in-Some.place) c.in-Some.ensures

pub returns-clause-defined : goal.returns-clause-defined
returns-clause-defined c =
    let ts = c.args.templates.now in
    let names = names_seen c.args.names.now in
    all_are_defined (map template ts) names c.requires.names c.requires.once (first_end ts c.loop-template.template-index names _ c.loop-template-test.false c.loop-template.invariant.first)

pub returns-clause-no_loop : goal.returns-clause-no_loop
returns-clause-no_loop c =
    let ts = c.args.templates.now in
    let k = c.loop-template.template-index in
    let names = names_seen c.args.names.now in
    no_loops (map template ts) names c.requires.names c.requires.once (first_end ts k names _ c.loop-template-test.false c.loop-template.invariant.first)
    (rows_of c.into_bump_slice-rows.result.now) (ap rows_of c.into_bump_slice-rows.ensures ∙ flat_end (row_of names) ts k (rows_of c.loop-template.rows.items) _ c.loop-template-test.false c.loop-template.invariant.rows)
    c.in_ok-walk.walk.states.items c.in_ok-walk.walk.order.items c.in_ok-walk.ensures
    c.into_bump_slice-calls.result.now (ap (map call) c.into_bump_slice-calls.ensures ∙ flat_end (calls_from names) ts k (map call c.loop-template.calls.items) _ c.loop-template-test.false c.loop-template.invariant.put)
    c.in-None.ensures

pub returns-in-Some-clause-defined : goal.returns-in-Some-clause-defined
returns-in-Some-clause-defined c = tt

pub returns-in-Some-clause-no_loop : goal.returns-in-Some-clause-no_loop
returns-in-Some-clause-no_loop c = tt

pub returns-clause-no : goal.returns-clause-no
returns-clause-no c = tt
