use Rattle.std.proofs.Common.{subst, arith}
use Rattle.std.proofs.lemmas.Result.{IfOk-from_err}
use Rattle.tc_model.specs.Chains.{top, whole}
use Rattle.tc_model.specs.Outcomes.{counted}
use Rattle.tc_model.specs.Paths.{fits}
use Rattle.tc_model.specs.Trees as t
use Rattle.tc_rules.specs.Asked.{found}
use Rattle.tc_rules.specs.States.{chosen, plain_of}
use Rattle.tc_rules.proofs.Counted.{ancestors_begin}
use Rattle.tc_run.specs.Lettered.{bare}
use Rattle.tc_run.specs.Running.{sheet_by, symbols_by}
use Rattle.tc_run.specs.Views.{trees}
use Rattle.tc_run.specs.Spent.{Answers}
use Rattle.tc_run.specs.Tasks.{built_in}
use Rattle.tc_run.specs.declared.RunFault.TheVariants.{NoMemory}
use Rattle.tc_run.proofs.FoundLow.{rule_low}
use Rattle.tc_run.proofs.Handing.{handed}
use Rattle.tc_run.proofs.Nodes.{is_here_root, down_low, down_is, does_on_root}
use Rattle.tc_rules.proofs.RuleOf.{chosen_number}
use Rattle.tc_run.proofs.bodies.root.Goals as goal

pub returns-clause-outcome : goal.returns-clause-outcome
returns-clause-outcome c = λ bodies hb.
    let r = c.args.runner.now in
    let rules = (sheet_by r).rules in
    let doc = bare (trees c.args.nodes.now) in
    let rule = chosen rules 0 (λ i q. fits q.pattern (top t.none)) in
    let p = plain_of bodies (built_in 0 (whole doc)) rule in
    let number = chosen_number rules 0 (λ i q. fits q.pattern (top t.none)) (found c.root_rule-found.result) (c.root_rule-found.ensures (symbols_by r) c.requires.document.runner) in
    subst (λ o. Answers 0 c.args.output.now c.instantiate-done.new.output c.instantiate-done.result (counted o)) (does_on_root r bodies p c.args.nodes (down_is r 0 _ (ancestors_begin (symbols_by r) r.rules.now c.requires.document.runner)))
    (c.instantiate-done.ensures.outcome bodies p hb (c.template_of-rule.ensures.meant bodies (whole doc) rule hb number))

pub instantiate-done-requires-clause-meant : goal.instantiate-done-requires-clause-meant
instantiate-done-requires-clause-meant c = c.template_of-rule.ensures.part

pub returns-in_err-known-clause-outcome : goal.returns-in_err-known-clause-outcome
returns-in_err-known-clause-outcome c = λ bodies hb. handed 0 c.args.output.now c.args.output.now c.from_residual.result NoMemory _ c.from_residual.ensures.1 tt

pub returns-clause-few : goal.returns-clause-few
returns-clause-few c = c.instantiate-done.ensures.ready.few

pub returns-in_err-known-clause-few : goal.returns-in_err-known-clause-few
returns-in_err-known-clause-few c = IfOk-from_err c.from_residual.result _ c.from_residual.ensures.0

pub template_of-rule-requires-clause-found : goal.template_of-rule-requires-clause-found
template_of-rule-requires-clause-found c =
    let r = c.args.runner.now in
    rule_low (sheet_by r).rules 0 _ (found c.root_rule-found.result) (c.root_rule-found.ensures (symbols_by r) c.requires.document.runner)

pub template_of-rule-requires-clause-runner : goal.template_of-rule-requires-clause-runner
template_of-rule-requires-clause-runner c = c.requires.document.runner

pub instantiate-done-requires-clause-ready : goal.instantiate-done-requires-clause-ready
instantiate-done-requires-clause-ready c =
    let r = c.args.runner.now in
    record {
      runner = c.requires.document.runner;
      here = is_here_root r c.args.nodes 0 c.requires.document.nodes (down_low r 0 _ (ancestors_begin (symbols_by r) r.rules.now c.requires.document.runner));
      known = c.in_ok-known.ensures;
      work = c.requires.work;
      nesting = omega arith;
    }
