use Rattle.std.proofs.Common.{map}
use Rattle.tc_dtd.specs.DtdText.{deepest_parenthesis, TextAt}
use Rattle.tc_dtd.specs.PlacedViews.{placed}
use Rattle.tc_dtd.specs.Stops.{Stops}
use Rattle.tc_dtd.proofs.ReaderLaws.{failed}
use Rattle.tc_dtd.proofs.MarkupLaws.{no_prolog, no_misc, no_declarations, a_text}
use Rattle.tc_dtd.proofs.markup.all_placed.Goals as goal

pub returns-in_err-past_declaration-clause-no : goal.returns-in_err-past_declaration-clause-no
returns-in_err-past_declaration-clause-no c =
    let e = c.in_err-past_declaration.field-0.0 in
    failed c.from_residual.result (λ e. Stops e (TextAt deepest_parenthesis c.args.text.now)) e c.from_residual.ensures.1
    (no_prolog deepest_parenthesis c.args.text.now c.past_mark-start.result.now c.past_mark-start.ensures e c.in_err-past_declaration.ensures.no)

pub returns-in_err-first-clause-no : goal.returns-in_err-first-clause-no
returns-in_err-first-clause-no c =
    let e = c.in_err-first.field-0.0 in
    failed c.from_residual-in_err-first.result (λ e. Stops e (TextAt deepest_parenthesis c.args.text.now)) e c.from_residual-in_err-first.ensures.1
    (no_misc deepest_parenthesis c.args.text.now c.past_mark-start.result.now c.past_mark-start.ensures c.in_ok-past_declaration.past_declaration.now e c.in_ok-past_declaration.ensures.ok c.in_err-first.ensures.no)

pub returns-in_err-put_markup-clause-no : goal.returns-in_err-put_markup-clause-no
returns-in_err-put_markup-clause-no c =
    let e = c.in_err-put_markup.field-0.0 in
    failed c.from_residual-in_err-put_markup.result (λ e. Stops e (TextAt deepest_parenthesis c.args.text.now)) e c.from_residual-in_err-put_markup.ensures.1
    (no_declarations deepest_parenthesis c.args.text.now c.past_mark-start.result.now c.past_mark-start.ensures c.in_ok-past_declaration.past_declaration.now c.in_ok-first.first.now e
    c.in_ok-past_declaration.ensures.ok c.in_ok-first.ensures.ok c.in_err-put_markup.ensures.no)

pub returns-clause-ok : goal.returns-clause-ok
returns-clause-ok c =
    a_text deepest_parenthesis c.args.text.now c.past_mark-start.result.now c.past_mark-start.ensures c.in_ok-past_declaration.past_declaration.now c.in_ok-first.first.now (map placed c.put_markup.new.found.items)
    c.in_ok-past_declaration.ensures.ok c.in_ok-first.ensures.ok c.in_ok-put_markup.ensures.ok
