use Rattle.std.proofs.Common.{◌≡◌, ◌∙◌, map, subst, length, true, false}
use Rattle.tc_model.specs.SimplifiesCounts.{IsWithinCounts}
use Rattle.tc_model.proofs.SimplifiesUnique.{simplifies_unique}
use Rattle.tc_rnc.specs.Views.{syntax}
use Rattle.tc_simple.specs.Nodes.{elements_of, see_element}
use Rattle.tc_simple.proofs.Answered.{failed_ok}
use Rattle.tc_simple.proofs.Checked.{count_links, numbers_below, order_within, start_within}
use Rattle.tc_simple.proofs.resolved.Goals as goal

pub check-requires-clause-resolves : goal.check-requires-clause-resolves
check-requires-clause-resolves c = c.requires.resolves

pub built-requires-clause-few : goal.built-requires-clause-few
built-requires-clause-few c = c.in_ok-found.ensures.ok.few

pub returns-in_err-check-clause-grammar : goal.returns-in_err-check-clause-grammar
returns-in_err-check-clause-grammar c = failed_ok c.from_residual.result _ _ c.from_residual.ensures.1

pub returns-in_err-found-clause-grammar : goal.returns-in_err-found-clause-grammar
returns-in_err-found-clause-grammar c = failed_ok c.from_residual-in_err-found.result _ _ c.from_residual-in_err-found.ensures.1

pub returns-in_err-grammar-clause-grammar : goal.returns-in_err-grammar-clause-grammar
returns-in_err-grammar-clause-grammar c = failed_ok c.from_residual-in_err-grammar.result _ _ c.from_residual-in_err-grammar.ensures.1

pub returns-clause-err : goal.returns-clause-err
returns-clause-err c = tt

pub built-requires-clause-marks : goal.built-requires-clause-marks
built-requires-clause-marks c = record {
  marks = c.requires.resolves.reach.size ∙ count_links c.args.table.now true;
  numbers = numbers_below (syntax c.args.syntax.now) c.args.table.now c.requires.resolves.table;
}

pub built-requires-clause-order : goal.built-requires-clause-order
built-requires-clause-order c = record {
  start = start_within (syntax c.args.syntax.now) c.args.table.now c.args.start c.requires.resolves.table c.requires.resolves.begins;
  order = order_within (length c.args.table.now.patterns.items) c.requires.resolves.components (count_links c.args.table.now false);
}

pub returns-clause-grammar : goal.returns-clause-grammar
returns-clause-grammar c =
    let s = syntax c.args.syntax.now in
    let elements : map see_element c.in_ok-found.found.now ≡ elements_of c.args.table.now c.args.marks.now s.definitions = c.in_ok-found.ensures.ok.elements in
    let simplifies = c.in_ok-grammar.ensures s c.requires.lawful c.in_ok-check.ensures.ok c.requires.resolves elements in
    let (grammar, also, within) = c.in_ok-found.ensures.ok.within in
    record { simplifies = simplifies; within = subst IsWithinCounts (simplifies_unique also simplifies) within }

pub check-requires-clause-names : goal.check-requires-clause-names
check-requires-clause-names c = c.requires.names

pub counted-requires : goal.counted-requires
counted-requires c = record { lawful = c.requires.lawful; faultless = c.in_ok-check.ensures.ok; resolves = c.requires.resolves }
