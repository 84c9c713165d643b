use Rattle.std.proofs.Common.{◌∙◌, ◌<◌, List, ap, subst, sym, arith, length}
use Rattle.tc_model.specs.Views as seen
use Rattle.tc_model.specs.Simplifies.{Element}
use Rattle.tc_model.specs.declared.grammar.Pat.TheVariants.{NotAllowed}
use Rattle.tc_simple.specs.Nodes.{HasNumbersBelow}
use Rattle.tc_simple.specs.Orders.{AreMade}
use Rattle.tc_simple.specs.Totals.{element_patterns_of}
use Rattle.tc_simple.proofs.Answered.{failed_ok, same_item}
use Rattle.tc_simple.proofs.Whole.{is_grammar, is_orderly}
use Rattle.tc_simple.proofs.grammar.built.Goals as goal

pub returns : goal.returns
returns c = λ s lawful faultless r elements.
    let t = c.args.table.now in
    let w = c.args.walk.now in
    let marks = c.args.marks.now in
    let made = c.in_ok-patterns.patterns.now in
    let small : c.args.start < length made = omega (arith, c.requires.order.start, c.in_ok-patterns.ensures.0) in
    let are = c.in_ok-patterns.ensures.1 s (is_orderly s t c.args.start marks w.states.items w.order.items r lawful faultless) in
    is_grammar s t c.args.start marks w.states.items w.order.items r lawful faultless made
    (subst (λ (z : List Element). AreMade s z t marks w.states.items (length w.order.items) made) elements are) _
    (ap seen.pattern (c.index-patterns-start.is ∙ same_item made c.args.start _ NotAllowed small))
    (c.in_ok-elements.ensures ∙ ap (λ (z : List Element). element_patterns_of t made z z) elements)

pub all_patterns-requires-clause-order : goal.all_patterns-requires-clause-order
all_patterns-requires-clause-order c = c.requires.order.order

pub all_patterns-requires-clause-few : goal.all_patterns-requires-clause-few
all_patterns-requires-clause-few c = c.requires.few

pub element_patterns-requires-clause-few : goal.element_patterns-requires-clause-few
element_patterns-requires-clause-few c = c.requires.few

pub element_patterns-requires-clause-numbers : goal.element_patterns-requires-clause-numbers
element_patterns-requires-clause-numbers c = subst (HasNumbersBelow c.args.table.now) (sym c.in_ok-patterns.ensures.0) c.requires.marks.numbers

pub returns-in_err-patterns : goal.returns-in_err-patterns
returns-in_err-patterns c = failed_ok c.from_residual.result _ _ c.from_residual.ensures.1

pub returns-in_err-elements : goal.returns-in_err-elements
returns-in_err-elements c = failed_ok c.from_residual-in_err-elements.result _ _ c.from_residual-in_err-elements.ensures.1

pub bounds-patterns-start : goal.bounds-patterns-start
bounds-patterns-start c = omega (arith, c.requires.order.start, c.in_ok-patterns.ensures.0)

pub all_patterns-requires-clause-marks : goal.all_patterns-requires-clause-marks
all_patterns-requires-clause-marks c = c.requires.marks
