use Rattle.std.proofs.Common.{◌≡◌, ◌++◌, ap, ◌∙◌, subst}
use Rattle.std.proofs.lemmas.Result.{IfOk-weaker}
use Rattle.tc_model.specs.Symbols.{node_tests}
use Rattle.tc_model.specs.Views as see
use Rattle.tc_beh.specs.AlikeSymbols.{AreAsked, asked_tests, seen}
use Rattle.tc_beh.proofs.Steps.{no_value}
use Rattle.tc_beh.proofs.node_tests.asked_of.Goals as goal

pub returns : goal.returns
returns c =
    let all : seen c.deref.result.now ≡ node_tests (see.sheet c.args.sheet.now) =
    ap seen c.deref.ensures.value ∙ (c.in_ok-add_sheet.ensures ∙ ap (λ l. seen l ++ node_tests (see.sheet c.args.sheet.now)) c.new-found.ensures.items) in
    IfOk-weaker c.each_once.result _ _ (λ r are. subst (λ ns. AreAsked ns (asked_tests r.keys)) all are) c.each_once.ensures

pub returns-in_err-add_sheet : goal.returns-in_err-add_sheet
returns-in_err-add_sheet c = no_value c.from_residual.result _ _ c.from_residual.ensures.1
