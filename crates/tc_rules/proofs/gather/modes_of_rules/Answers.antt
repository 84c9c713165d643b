use Rattle.std.proofs.Common.{◌++◌, ◌∙◌, List, [], ap, drop, get_or, map, sym, arith}
use Rattle.std.proofs.lemmas.List.{drop_all}
use Rattle.std.proofs.lemmas.Result.{IfOk-from_err}
use Rattle.tc_model.specs.Views as see
use Rattle.tc_model.specs.declared.sheet.Rule.{Rule}
use Rattle.tc_rules.specs.Gathered.{numbers}
use Rattle.tc_rules.specs.Kept.{numbers_in_mode}
use Rattle.tc_rules.proofs.Collected.{rule_fits, rule_numbered}
use Rattle.tc_rules.proofs.RowSteps.{ended}
use Rattle.tc_rules.proofs.gather.modes_of_rules.Goals as goal

pub loop-number-init : goal.loop-number-init
loop-number-init c = (
  c.in_ok-lists.ensures.count,
  λ m l. ap (λ w. w ++ numbers_in_mode m 0 (map see.rule c.args.sheet.now.rules.now)) (c.in_ok-lists.ensures.none m),
)

pub add_number-requires : goal.add_number-requires
add_number-requires c = rule_fits c.args.sheet.now c.loop-number.number _ c.loop-number.lists.items c.requires (omega arith) c.loop-number.invariant.0

pub returns-clause-count : goal.returns-clause-count
returns-clause-count c = c.loop-number.invariant.0

pub returns-clause-numbers : goal.returns-clause-numbers
returns-clause-numbers c = λ m l.
    let i = c.loop-number.number in
    let rules = c.args.sheet.now.rules.now in
    let left = λ (rs : List Rule). numbers_in_mode m i (map see.rule rs) in
    ended (numbers_in_mode m 0 (map see.rule rules)) (get_or (numbers c.loop-number.lists.items) m []) (left (drop i rules)) (ap left (drop_all i rules c.loop-number-test.false)) (sym (c.loop-number.invariant.1 m l))

pub loop-number-preserved : goal.loop-number-preserved
loop-number-preserved c = (
  c.in_ok-add_number.ensures.count ∙ c.loop-number.invariant.0,
  λ m l. rule_numbered (numbers c.loop-number.lists.items) (numbers c.add_number.new.lists.items) _ c.args.sheet.now.rules.now c.loop-number.number m _ c.loop-number-test.true c.in_ok-add_number.ensures.added c.in_ok-add_number.ensures.others (c.loop-number.invariant.1 m l),
)

pub returns-in_err-lists-clause-count : goal.returns-in_err-lists-clause-count
returns-in_err-lists-clause-count c = IfOk-from_err c.from_residual.result _ c.from_residual.ensures.0

pub returns-in_err-lists-clause-numbers : goal.returns-in_err-lists-clause-numbers
returns-in_err-lists-clause-numbers c = IfOk-from_err c.from_residual.result _ c.from_residual.ensures.0

pub returns-in_err-add_number-clause-count : goal.returns-in_err-add_number-clause-count
returns-in_err-add_number-clause-count c = IfOk-from_err c.from_residual-in_err-add_number.result _ c.from_residual-in_err-add_number.ensures.0

pub returns-in_err-add_number-clause-numbers : goal.returns-in_err-add_number-clause-numbers
returns-in_err-add_number-clause-numbers c = IfOk-from_err c.from_residual-in_err-add_number.result _ c.from_residual-in_err-add_number.ensures.0
