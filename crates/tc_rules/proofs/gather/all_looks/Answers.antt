use Rattle.std.proofs.Common.{List, ◌∙◌, ◌++◌, ap, flat_map, subst}
use Rattle.std.specs.Borrow.{Bor}
use Rattle.std.proofs.lemmas.Result.{IfOk-from_err}
use Rattle.tc_model.specs.Numbered.{each_once}
use Rattle.tc_model.specs.Numberings.{looks_in_test}
use Rattle.tc_model.specs.SameTests.{same_path}
use Rattle.tc_model.specs.Sheets as s
use Rattle.tc_model.specs.declared.sheet.Path.{Path}
use Rattle.tc_rules.specs.MoveTables.{IsPathsCause}
use Rattle.tc_rules.specs.Usages.{looks_in_usage}
use Rattle.tc_rules.specs.Views.{looks, predicates, usages}
use Rattle.tc_rules.proofs.Distinct.{then_if_err}
use Rattle.tc_rules.proofs.JobsOf.{then_if_ok}
use Rattle.tc_rules.proofs.UsagesOf.{looks_are}
use Rattle.tc_rules.proofs.gather.all_looks.Goals as goal

pub returns-clause-looks : goal.returns-clause-looks
returns-clause-looks c =
    then_if_ok c.looks_once.result _ _
    (λ v h x e f.
    h ∙ (ap (λ (ps : List (Bor Path)). each_once same_path (looks ps)) c.deref.ensures.value
    ∙ (ap (each_once same_path) (c.in_ok-looks_of_tests.ensures ∙ ap (λ w. w ++ flat_map looks_in_test (predicates c.args.numbered.now)) (c.in_ok-looks_of_usages.ensures ∙ ap (λ (ps : List (Bor Path)). looks ps ++ flat_map looks_in_usage (usages c.args.used.now)) c.new-found.ensures.items))
    ∙ looks_are x (usages c.args.used.now) (predicates c.args.numbered.now) e f)))
    c.looks_once.ensures.kept

pub returns-clause-cause : goal.returns-clause-cause
returns-clause-cause c =
    then_if_err c.looks_once.result _ _
    (λ g h x e f.
    subst (λ (ps : List s.Path). IsPathsCause ps g)
    (ap (λ (ps : List (Bor Path)). each_once same_path (looks ps)) c.deref.ensures.value
    ∙ (ap (each_once same_path) (c.in_ok-looks_of_tests.ensures ∙ ap (λ w. w ++ flat_map looks_in_test (predicates c.args.numbered.now)) (c.in_ok-looks_of_usages.ensures ∙ ap (λ (ps : List (Bor Path)). looks ps ++ flat_map looks_in_usage (usages c.args.used.now)) c.new-found.ensures.items))
    ∙ looks_are x (usages c.args.used.now) (predicates c.args.numbered.now) e f))
    h)
    c.looks_once.ensures.cause

pub returns-in_err-looks_of_usages-clause-looks : goal.returns-in_err-looks_of_usages-clause-looks
returns-in_err-looks_of_usages-clause-looks c = IfOk-from_err c.from_residual.result _ c.from_residual.ensures.0

pub returns-in_err-looks_of_tests-clause-looks : goal.returns-in_err-looks_of_tests-clause-looks
returns-in_err-looks_of_tests-clause-looks c = IfOk-from_err c.from_residual-in_err-looks_of_tests.result _ c.from_residual-in_err-looks_of_tests.ensures.0
