use Rattle.std.proofs.Common.{arith}
use Rattle.tc_simple.proofs.grammar.check_counts.Goals as goal

pub returns-then-size-gt-MOST_NODES-clause-err : goal.returns-then-size-gt-MOST_NODES-clause-err
returns-then-size-gt-MOST_NODES-clause-err c = λ s grammar simplifies is. (grammar, simplifies, omega (arith, is.nodes, c.if-size-gt-MOST_NODES.true))

pub returns-then-size-gt-GREATEST_DEPTH-clause-err : goal.returns-then-size-gt-GREATEST_DEPTH-clause-err
returns-then-size-gt-GREATEST_DEPTH-clause-err c = λ s grammar simplifies is. (grammar, simplifies, (omega (arith, is.nodes, c.if-size-gt-MOST_NODES.false), omega (arith, is.depth, c.if-size-gt-GREATEST_DEPTH.true)))

pub returns-then-elements-gt-MOST_ELEMENTS-clause-err : goal.returns-then-elements-gt-MOST_ELEMENTS-clause-err
returns-then-elements-gt-MOST_ELEMENTS-clause-err c = λ s grammar simplifies is. (
  grammar,
  simplifies,
  (
    omega (arith, is.nodes, c.if-size-gt-MOST_NODES.false),
    omega (arith, is.depth, c.if-size-gt-GREATEST_DEPTH.false),
    omega (arith, is.elements, c.if-elements-gt-MOST_ELEMENTS.true),
  ),
)

pub returns-clause-ok : goal.returns-clause-ok
returns-clause-ok c = λ grammar is. record {
  nodes = omega (arith, is.nodes, c.if-size-gt-MOST_NODES.false);
  depth = omega (arith, is.depth, c.if-size-gt-GREATEST_DEPTH.false);
  elements = omega (arith, is.elements, c.if-elements-gt-MOST_ELEMENTS.false);
}
