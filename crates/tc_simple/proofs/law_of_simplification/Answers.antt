use Rattle.tc_simple.proofs.SyntaxTotal.{grammar_or_fault}
use Rattle.tc_simple.proofs.law_of_simplification.Goals as goal

pub returns : goal.returns
returns c = λ s lawful. grammar_or_fault s lawful
