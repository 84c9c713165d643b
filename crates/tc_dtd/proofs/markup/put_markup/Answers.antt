use Rattle.std.proofs.Common.{ap, map, rules}
use Rattle.tc_dtd.specs.DtdText.{deepest_parenthesis}
use Rattle.tc_dtd.specs.DtdTextDeclarations.{DeclarationsAt}
use Rattle.tc_dtd.specs.PlacedViews.{placed}
use Rattle.tc_dtd.specs.Stops.{Stops}
use Rattle.tc_dtd.proofs.ReaderLaws.{failed}
use Rattle.tc_dtd.proofs.MarkupLaws.{some_left, none_left, declares_first, declares_more, markup_stops, misc_stops, declares_end, declares_shorter}
use Rattle.tc_dtd.proofs.markup.put_markup.Goals as goal

pub loop-rest-init : goal.loop-rest-init
loop-rest-init c = record { so_far = declares_first deepest_parenthesis c.args.total c.args.text.now _ (ap (map placed) c.requires.none); text = search rules }

pub returns-in_err-after-clause-no : goal.returns-in_err-after-clause-no
returns-in_err-after-clause-no c =
    let e = c.in_err-after.field-0.0 in
    failed c.from_residual.result (λ e. Stops e (DeclarationsAt deepest_parenthesis c.args.total c.args.text.now)) e c.from_residual.ensures.1
    (markup_stops deepest_parenthesis c.args.total c.args.text.now c.loop-rest.rest.now (map placed c.loop-rest.found.items) c.loop-rest.invariant.so_far e (some_left c.loop-rest.rest.now c.loop-rest-test.ensures) c.in_err-after.ensures.no)

pub returns-in_err-rest-clause-no : goal.returns-in_err-rest-clause-no
returns-in_err-rest-clause-no c =
    let e = c.in_err-rest.field-0.0 in
    failed c.from_residual-in_err-rest.result (λ e. Stops e (DeclarationsAt deepest_parenthesis c.args.total c.args.text.now)) e c.from_residual-in_err-rest.ensures.1
    (misc_stops deepest_parenthesis c.args.total c.args.text.now c.loop-rest.rest.now (map placed c.loop-rest.found.items) c.loop-rest.invariant.so_far c.in_ok-after.after.now (map placed c.after_markup.new.found.items) e
    c.in_ok-after.ensures.ok c.in_err-rest.ensures.no)

pub loop-rest-smaller : goal.loop-rest-smaller
loop-rest-smaller c =
    declares_shorter deepest_parenthesis c.args.total c.args.text.now c.loop-rest.rest.now (map placed c.loop-rest.found.items) c.loop-rest.invariant.so_far c.in_ok-after.after.now c.in_ok-rest.rest.now (map placed c.after_markup.new.found.items)
    c.in_ok-after.ensures.ok c.in_ok-rest.ensures.ok

pub loop-rest-preserved : goal.loop-rest-preserved
loop-rest-preserved c = record {
  so_far =
      declares_more deepest_parenthesis c.args.total c.args.text.now c.loop-rest.rest.now (map placed c.loop-rest.found.items) c.loop-rest.invariant.so_far c.in_ok-after.after.now c.in_ok-rest.rest.now (map placed c.after_markup.new.found.items)
      c.in_ok-after.ensures.ok c.in_ok-rest.ensures.ok;
  text = search rules;
}

pub returns-clause-ok : goal.returns-clause-ok
returns-clause-ok c = declares_end deepest_parenthesis c.args.total c.args.text.now c.loop-rest.rest.now (map placed c.loop-rest.found.items) c.loop-rest.invariant.so_far (none_left c.loop-rest.rest.now c.loop-rest-test.ensures)
