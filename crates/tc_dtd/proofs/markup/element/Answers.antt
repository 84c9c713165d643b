use Rattle.tc_dtd.specs.DtdText.{deepest_parenthesis}
use Rattle.tc_dtd.specs.DtdTextDeclarations.{ElementAt}
use Rattle.tc_dtd.specs.Stops.{Stops}
use Rattle.tc_dtd.specs.Views.{content}
use Rattle.tc_dtd.proofs.ReaderLaws.{failed}
use Rattle.tc_dtd.proofs.MarkupLaws.{element_no_space, element_no_name, element_no_second_space, element_no_content, element_no_end, an_element}
use Rattle.tc_dtd.proofs.markup.element.Goals as goal

pub returns-in_err-start-clause-no : goal.returns-in_err-start-clause-no
returns-in_err-start-clause-no c =
    let e = c.in_err-start.field-0.0 in
    failed c.from_residual.result (λ e. Stops e (ElementAt deepest_parenthesis c.args.text.now)) e c.from_residual.ensures.1 (element_no_space deepest_parenthesis c.args.text.now e c.in_err-start.ensures.no)

pub returns-in_err-name-clause-no : goal.returns-in_err-name-clause-no
returns-in_err-name-clause-no c =
    let e = c.in_err-name.field-0.0 in
    failed c.from_residual-in_err-name.result (λ e. Stops e (ElementAt deepest_parenthesis c.args.text.now)) e c.from_residual-in_err-name.ensures.1
    (element_no_name deepest_parenthesis c.args.text.now c.in_ok-start.start.now e c.in_ok-start.ensures.ok c.in_err-name.ensures.no)

pub returns-in_err-past_name-clause-no : goal.returns-in_err-past_name-clause-no
returns-in_err-past_name-clause-no c =
    let e = c.in_err-past_name.field-0.0 in
    failed c.from_residual-in_err-past_name.result (λ e. Stops e (ElementAt deepest_parenthesis c.args.text.now)) e c.from_residual-in_err-past_name.ensures.1
    (element_no_second_space deepest_parenthesis c.args.text.now c.in_ok-start.start.now c.in_ok-name.behind.now c.in_ok-name.name.now e c.in_ok-start.ensures.ok c.in_ok-name.ensures.ok c.in_err-past_name.ensures.no)

pub returns-in_err-content-clause-no : goal.returns-in_err-content-clause-no
returns-in_err-content-clause-no c =
    let e = c.in_err-content.field-0.0 in
    failed c.from_residual-in_err-content.result (λ e. Stops e (ElementAt deepest_parenthesis c.args.text.now)) e c.from_residual-in_err-content.ensures.1
    (element_no_content deepest_parenthesis c.args.text.now c.in_ok-start.start.now c.in_ok-name.behind.now c.in_ok-name.name.now c.in_ok-past_name.past_name.now e c.in_ok-start.ensures.ok c.in_ok-name.ensures.ok
    c.in_ok-past_name.ensures.ok c.in_err-content.ensures.no)

pub returns-in_err-after-clause-no : goal.returns-in_err-after-clause-no
returns-in_err-after-clause-no c =
    let e = c.in_err-after.field-0.0 in
    failed c.from_residual-in_err-after.result (λ e. Stops e (ElementAt deepest_parenthesis c.args.text.now)) e c.from_residual-in_err-after.ensures.1
    (element_no_end deepest_parenthesis c.args.text.now c.in_ok-start.start.now c.in_ok-name.behind.now c.in_ok-name.name.now c.in_ok-past_name.past_name.now c.in_ok-content.end.now (content c.in_ok-content.content) e
    c.in_ok-start.ensures.ok c.in_ok-name.ensures.ok c.in_ok-past_name.ensures.ok c.in_ok-content.ensures.ok c.in_err-after.ensures.no)

pub returns-clause-ok : goal.returns-clause-ok
returns-clause-ok c =
    an_element deepest_parenthesis c.args.text.now c.in_ok-start.start.now c.in_ok-name.behind.now c.in_ok-name.name.now c.in_ok-past_name.past_name.now c.in_ok-content.end.now c.in_ok-after.after.now
    (content c.in_ok-content.content) c.in_ok-start.ensures.ok c.in_ok-name.ensures.ok c.in_ok-past_name.ensures.ok c.in_ok-content.ensures.ok c.in_ok-after.ensures.ok
