use Rattle.std.proofs.Common.{◌≡◌, ◌++◌, ◌∷◌, [], ◌∙◌, ap, List, map}
use Rattle.std.proofs.lemmas.List.{map-append}
use Rattle.tc_dtd.specs.DtdText.{deepest_parenthesis}
use Rattle.tc_dtd.specs.DtdTextDeclarations as form
use Rattle.tc_dtd.specs.DtdTextDeclarations.{MarkupAt}
use Rattle.tc_dtd.specs.Outcomes.{read}
use Rattle.tc_dtd.specs.PlacedViews.{placed}
use Rattle.tc_dtd.specs.Stops.{Stops}
use Rattle.tc_dtd.specs.Views.{declaration}
use Rattle.tc_dtd.proofs.ReaderLaws.{failed, map_ok, map_err}
use Rattle.tc_dtd.proofs.MarkupLaws.{element_stops, an_element_here, a_section, a_reference, unread_stops, unread}
use Rattle.tc_dtd.proofs.markup.after_markup.Goals as goal

pub returns-in_err-declaration-clause-no : goal.returns-in_err-declaration-clause-no
returns-in_err-declaration-clause-no c =
    let e = c.in_err-declaration.field-0.0 in
    failed c.from_residual.result (λ e. Stops e (MarkupAt deepest_parenthesis c.args.total c.args.text.now)) e c.from_residual.ensures.1
    (element_stops deepest_parenthesis c.args.total c.args.text.now c.in-Some.rest.now e c.in-Some.ensures c.in_err-declaration.ensures.no)

pub returns-in-Some-clause-ok : goal.returns-in-Some-clause-ok
returns-in-Some-clause-ok c =
    let x = declaration c.in_ok-declaration.declaration in (
      form.placed c.place_of-place.result.0 x ∷ [],
      ap (map placed) c.in_ok-push.ensures.items ∙ map-append placed c.args.found.now.items _,
      an_element_here deepest_parenthesis c.args.total c.args.text.now c.in-Some.rest.now c.in_ok-declaration.after.now x c.place_of-place.result.0 c.in-Some.ensures c.in_ok-declaration.ensures.ok c.place_of-place.ensures,
    )

pub returns-then-begins-clause-no : goal.returns-then-begins-clause-no
returns-then-begins-clause-no c = let (r, e) = c.if-begins.ensures in a_section deepest_parenthesis c.args.total c.args.text.now r e

pub returns-then-begins-2-clause-no : goal.returns-then-begins-2-clause-no
returns-then-begins-2-clause-no c = let (r, e) = c.if-begins-2.ensures in a_reference deepest_parenthesis c.args.total c.args.text.now r e

pub returns-clause-ok : goal.returns-clause-ok
returns-clause-ok c =
    map_ok _ (λ r. (xs : List form.Placed) × (map placed c.args.found.now.items ≡ map placed c.args.found.now.items ++ xs) × MarkupAt deepest_parenthesis c.args.total c.args.text.now (read xs r.now)) c.after_unread.result
    (λ r a. unread deepest_parenthesis c.args.total c.args.text.now r.now (map placed c.args.found.now.items) a) c.after_unread.ensures.ok

pub returns-clause-no : goal.returns-clause-no
returns-clause-no c =
    map_err _ (λ e. Stops e (MarkupAt deepest_parenthesis c.args.total c.args.text.now)) c.after_unread.result
    (λ e a. unread_stops deepest_parenthesis c.args.total c.args.text.now e c.in_default.ensures c.if-begins.ensures c.if-begins-2.ensures a) c.after_unread.ensures.no
