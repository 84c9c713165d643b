use Rattle.std.proofs.Common.{◌≡◌, ◌++◌, ◌∙◌, List, ap, sym, subst, map, Result, Ok, Err, None, ℕ}
use Rattle.std.specs.Prelude.{IfErr}
use Rattle.std.specs.Result.{OnOk}
use Rattle.tc_graph.specs.Graph.{rows_of}
use Rattle.tc_model.specs.SheetText.{Call, calls_in_body, one_name}
use Rattle.tc_model.specs.Names.{ExpandedName}
use Rattle.tc_sheet.specs.Graphs.{IsFirstUndefined, callee_of, first_undefined, numbered_from}
use Rattle.tc_sheet.specs.SeenCalls.{call, names_seen}
use Rattle.tc_sheet.specs.Views.{body, template}
use Rattle.tc_sheet.specs.declared.faults.SheetFault.{SheetFault}
use Rattle.tc_sheet.specs.declared.faults.SheetFault.TheVariants.{NoMemory}
use Rattle.tc_sheet.proofs.Passed.{no_value}
use Rattle.tc_sheet.proofs.Refused.{handed_on}
use Rattle.tc_sheet.proofs.calls.put_template.Goals as goal

holds : {T E : Type 0} (r : Result T E) (P : Type 0) → P → OnOk r P
holds (Ok v) P p = p
holds (Err e) P p = tt

memory_alone : {T : Type 0} (names : List ExpandedName) (cs : List Call) (r : Result T SheetFault) → IfErr r (λ e. e ≡ NoMemory) → IfErr r (IsFirstUndefined names cs)
memory_alone names cs (Ok v) h = tt
memory_alone names cs (Err e) h = subst (IsFirstUndefined names cs) (sym h) tt

pub caller-caller-requires : goal.caller-caller-requires
caller-caller-requires c = c.requires

pub returns-in_err-sites-clause-rows : goal.returns-in_err-sites-clause-rows
returns-in_err-sites-clause-rows c = no_value c.from_residual.result _ _ c.from_residual.ensures.1

pub returns-in_err-sites-clause-put : goal.returns-in_err-sites-clause-put
returns-in_err-sites-clause-put c = no_value c.from_residual.result _ _ c.from_residual.ensures.1

pub returns-in_err-sites-clause-first : goal.returns-in_err-sites-clause-first
returns-in_err-sites-clause-first c = no_value c.from_residual.result _ _ c.from_residual.ensures.1

pub returns-in_err-sites-clause-no : goal.returns-in_err-sites-clause-no
returns-in_err-sites-clause-no c =
    let first = IsFirstUndefined (names_seen c.args.names.now) (calls_in_body (body c.args.template.now.body.now)) in
    handed_on first c.from_residual.result c.in_err-sites.field-0.0 c.from_residual.ensures.1 (subst first (sym c.in_err-sites.ensures.no) tt)

pub returns-in_err-row-clause-rows : goal.returns-in_err-row-clause-rows
returns-in_err-row-clause-rows c = no_value c.from_residual-in_err-row.result _ _ c.from_residual-in_err-row.ensures.1

pub returns-in_err-row-clause-put : goal.returns-in_err-row-clause-put
returns-in_err-row-clause-put c = no_value c.from_residual-in_err-row.result _ _ c.from_residual-in_err-row.ensures.1

pub returns-in_err-row-clause-first : goal.returns-in_err-row-clause-first
returns-in_err-row-clause-first c = no_value c.from_residual-in_err-row.result _ _ c.from_residual-in_err-row.ensures.1

pub returns-in_err-row-clause-no : goal.returns-in_err-row-clause-no
returns-in_err-row-clause-no c =
    let names = names_seen c.args.names.now in
    let x = c.in_err-row.field-0.0 in
    handed_on (IsFirstUndefined names (calls_in_body (body c.args.template.now.body.now))) c.from_residual-in_err-row.result x c.from_residual-in_err-row.ensures.1
    (subst (λ (z : List Call). IsFirstUndefined names z x) c.in_ok-sites.ensures.ok c.in_err-row.ensures.no)

pub returns-clause-rows : goal.returns-clause-rows
returns-clause-rows c =
    let row = c.in_ok-row.ensures.row ∙ ap (map (callee_of (names_seen c.args.names.now))) c.in_ok-sites.ensures.ok in
    subst (λ (z : List ℕ). OnOk c.put_row.result (rows_of c.put_row.new.rows.items ≡ rows_of c.args.rows.now.items ++ map (λ n. z) (one_name (template c.args.template.now).name))) row c.put_row.ensures.ok

pub returns-clause-put : goal.returns-clause-put
returns-clause-put c =
    let names = names_seen c.args.names.now in
    let old = map call c.args.calls.now.items in
    holds c.put_row.result _
    (c.in_ok-row.ensures.put
    ∙ (ap (λ (z : List Call). old ++ map (numbered_from names c.caller-caller.result) z) c.in_ok-sites.ensures.ok
    ∙ ap (λ k. old ++ map (numbered_from names k) (calls_in_body (body c.args.template.now.body.now))) c.caller-caller.ensures))

pub returns-clause-first : goal.returns-clause-first
returns-clause-first c = holds c.put_row.result _ (sym (ap (first_undefined (names_seen c.args.names.now)) c.in_ok-sites.ensures.ok) ∙ c.in_ok-row.ensures.first)

pub returns-clause-no : goal.returns-clause-no
returns-clause-no c = memory_alone (names_seen c.args.names.now) (calls_in_body (body c.args.template.now.body.now)) c.put_row.result c.put_row.ensures.no
