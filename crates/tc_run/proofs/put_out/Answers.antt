use Rattle.std.proofs.Common.{◌≡◌, ap, ◌∙◌, subst}
use Rattle.tc_model.specs.Views as see
use Rattle.tc_model.specs.Trees.{none}
use Rattle.tc_run.specs.Lettered.{bare}
use Rattle.tc_run.specs.Limits.{IsCause, IsPutOut}
use Rattle.tc_run.specs.Running.{sheet_by}
use Rattle.tc_run.specs.Views.{trees}
use Rattle.tc_run.specs.declared.runner.Runner.{Runner}
use Rattle.tc_run.proofs.Result.{refused, told_as, passes, is_put_out}
use Rattle.tc_run.proofs.put_out.Goals as goal

pub lettered_document-requires : goal.lettered_document-requires
lettered_document-requires c = c.requires.rules

pub returns-in_err-document-clause-cause : goal.returns-in_err-document-clause-cause
returns-in_err-document-clause-cause c =
    refused c.args.alphabet.now c.args.rules.now c.requires.rules (see.before c.args.doc.now none) c.from_residual.result c.from_residual.ensures.1

pub root-requires-clause-document : goal.root-requires-clause-document
root-requires-clause-document c =
    let r : Runner = record { rules = c.args.rules; alphabet = c.args.alphabet; numbered = c.in_ok-document.document.numbered } in
    record {
      runner = c.requires.rules;
      nodes = c.in_ok-document.ensures.0;
    }

pub returns-in_err-root-clause-cause : goal.returns-in_err-root-clause-cause
returns-in_err-root-clause-cause c =
    let r : Runner = record { rules = c.args.rules; alphabet = c.args.alphabet; numbered = c.in_ok-document.document.numbered } in
    let given = trees c.in_ok-document.document.nodes.now in
    let same : bare given ≡ see.before c.args.doc.now none = c.in_ok-document.ensures.1 ∙ ap see.trees c.from_ref-nodes.ensures.value in
    let cause = subst (λ d. IsCause (sheet_by r) d c.in_err-root.field-0.0) same
    (passes r c.requires.rules (bare given) c.new-output.result c.root.new.output c.new-output.ensures.work c.in_err-root.field-0.0 c.in_err-root.ensures.outcome) in
    told_as c.from_residual-in_err-root.result c.in_err-root.field-0.0 (λ e. IsCause (sheet_by r) (see.before c.args.doc.now none) e) c.from_residual-in_err-root.ensures.1 cause

pub returns-clause-put : goal.returns-clause-put
returns-clause-put c =
    let r : Runner = record { rules = c.args.rules; alphabet = c.args.alphabet; numbered = c.in_ok-document.document.numbered } in
    let given = trees c.in_ok-document.document.nodes.now in
    let same : bare given ≡ see.before c.args.doc.now none = c.in_ok-document.ensures.1 ∙ ap see.trees c.from_ref-nodes.ensures.value in
    let x = c.new-output.result in
    let y = c.root.new.output in
    subst (λ t. IsPutOut (sheet_by r) (see.before c.args.doc.now none) t y.taken) c.new-output.ensures.taken
    (subst (λ d. IsPutOut (sheet_by r) d x.taken y.taken) same (is_put_out r c.requires.rules (bare given) x y c.new-output.ensures.work c.in_ok-root.ensures.outcome))
