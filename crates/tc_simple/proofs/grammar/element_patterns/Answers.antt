use Rattle.tc_simple.specs.declared.elements.Elem.{Elem}
use Rattle.tc_simple.specs.Totals.{element_patterns_of}
use Rattle.tc_model.specs.Views.{element_pattern}
use Rattle.std.proofs.lemmas.List.{take_all}
use Rattle.std.proofs.Common.{map, List, ap, ◌∙◌}
use Rattle.tc_simple.specs.Nodes.{see_element}
use Rattle.tc_simple.proofs.Answered.{element_patterns_next, failed_ok}
use Rattle.tc_simple.proofs.grammar.element_patterns.Goals as goal

pub loop-element-preserved : goal.loop-element-preserved
loop-element-preserved c =
    element_patterns_next c.args.table.now c.args.made.now (map see_element c.args.elements.now) c.args.elements.now c.loop-element.element-index _ c.in_ok-pattern.pattern c.loop-element.out.items c.push.new.self.items c.loop-element-test.true c.loop-element.invariant c.in_ok-push.ensures.items c.in_ok-pattern.ensures

pub loop-element-init : goal.loop-element-init
loop-element-init c = ap (map element_pattern) c.new-out.ensures.items

pub returns-in_err-pattern : goal.returns-in_err-pattern
returns-in_err-pattern c = failed_ok c.from_residual.result _ _ c.from_residual.ensures.1

pub returns-in_err-push : goal.returns-in_err-push
returns-in_err-push c = failed_ok c.from_residual-in_err-push.result _ _ c.from_residual-in_err-push.ensures.1

pub returns : goal.returns
returns c =
    ap (map element_pattern) c.into_bump_slice.ensures
    ∙ (c.loop-element.invariant ∙ ap (λ (es : List Elem). element_patterns_of c.args.table.now c.args.made.now (map see_element c.args.elements.now) (map see_element es)) (take_all c.loop-element.element-index c.args.elements.now c.loop-element-test.false))

pub element_pattern-requires-clause-few : goal.element_pattern-requires-clause-few
element_pattern-requires-clause-few c = c.requires.few

pub element_pattern-requires-clause-numbers : goal.element_pattern-requires-clause-numbers
element_pattern-requires-clause-numbers c = c.requires.numbers
