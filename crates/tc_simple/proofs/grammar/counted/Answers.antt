use Rattle.std.proofs.Common.{◌≡◌, ◌∙◌, sym, subst, arith, length, map, true, false, Result, Ok, Err, IfErr}
use Rattle.std.specs.Result.{IsErrAnd}
use Rattle.tc_rnc.specs.Views.{syntax}
use Rattle.tc_simple.specs.Nodes.{HasNumbersBelow, elements_of, see_element}
use Rattle.tc_simple.proofs.Checked.{count_links, numbers_below, order_within, start_within}
use Rattle.tc_simple.specs.declared.faults.SimpleFault.{SimpleFault}
use Rattle.tc_simple.specs.Refused.{Refuses}
use Rattle.tc_model.specs.CompactSyntaxTrees.{Syntax}
use Rattle.tc_simple.proofs.grammar.counted.Goals as goal

refused_so : {T : Type 0} (s : Syntax) (r : Result T SimpleFault) (x : SimpleFault) → IsErrAnd r (λ e. e ≡ x) → Refuses s x → IfErr r (λ e. Refuses s e)
refused_so s (Ok y) x e h = tt
refused_so s (Err y) x e h = subst (Refuses s) (sym e) h

pub elements-requires : goal.elements-requires
elements-requires c =
    subst (HasNumbersBelow c.args.table.now) (sym (c.requires.resolves.reach.size ∙ count_links c.args.table.now true)) (numbers_below (syntax c.args.syntax.now) c.args.table.now c.requires.resolves.table)

pub returns-in_err-check_counts-clause-err : goal.returns-in_err-check_counts-clause-err
returns-in_err-check_counts-clause-err c =
    let s = syntax c.args.syntax.now in
    let elements : map see_element c.in_ok-found.found.now ≡ elements_of c.args.table.now c.args.marks.now s.definitions = c.in_ok-found.ensures in
    let (grammar, simplifies, is) = c.in_ok-size.ensures s c.requires.lawful c.requires.faultless c.requires.resolves elements in
    refused_so s _ _ c.from_residual-in_err-check_counts.ensures.1 (c.in_err-check_counts.ensures.err s grammar simplifies (record { nodes = is.nodes; depth = is.depth; elements = omega (arith, is.elements) }))

pub whole_size-requires-clause-marks : goal.whole_size-requires-clause-marks
whole_size-requires-clause-marks c = record {
  marks = c.requires.resolves.reach.size ∙ count_links c.args.table.now true;
  numbers = numbers_below (syntax c.args.syntax.now) c.args.table.now c.requires.resolves.table;
}

pub whole_size-requires-clause-order : goal.whole_size-requires-clause-order
whole_size-requires-clause-order c = record {
  start = start_within (syntax c.args.syntax.now) c.args.table.now c.args.start c.requires.resolves.table c.requires.resolves.begins;
  order = order_within (length c.args.table.now.patterns.items) c.requires.resolves.components (count_links c.args.table.now false);
}

pub returns-clause-ok : goal.returns-clause-ok
returns-clause-ok c =
    let elements : map see_element c.in_ok-found.found.now ≡ elements_of c.args.table.now c.args.marks.now (syntax c.args.syntax.now).definitions = c.in_ok-found.ensures in
    let (grammar, simplifies, is) = c.in_ok-size.ensures (syntax c.args.syntax.now) c.requires.lawful c.requires.faultless c.requires.resolves elements in
    let within = c.in_ok-check_counts.ensures.ok grammar (record { nodes = is.nodes; depth = is.depth; elements = omega (arith, is.elements) }) in
    record {
      elements = elements;
      few = omega (arith, within.elements, is.elements);
      within = (grammar, simplifies, within);
    }
