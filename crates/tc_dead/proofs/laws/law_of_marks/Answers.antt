use Rattle.tc_dead.proofs.OnlySpots.{are_spots}
use Rattle.tc_dead.proofs.NumberedSpots.{rule_of_node}
use Rattle.tc_dead.proofs.SameParts.{same_predicates, same_patterns, same_looks, same_moves}
use Rattle.tc_dead.proofs.Lawful.{lawful_schema}
use Rattle.tc_dead.proofs.MarkSymbols.{same_symbols}
use Rattle.tc_dead.proofs.laws.law_of_marks.Goals as goal

pub returns-clause-rule : goal.returns-clause-rule
returns-clause-rule c = rule_of_node

pub returns-clause-spots : goal.returns-clause-spots
returns-clause-spots c = are_spots

pub returns-clause-lawful : goal.returns-clause-lawful
returns-clause-lawful c = lawful_schema

pub returns-clause-symbols : goal.returns-clause-symbols
returns-clause-symbols c = same_symbols

pub returns-clause-predicates : goal.returns-clause-predicates
returns-clause-predicates c = same_predicates

pub returns-clause-patterns : goal.returns-clause-patterns
returns-clause-patterns c = same_patterns

pub returns-clause-moves : goal.returns-clause-moves
returns-clause-moves c = same_moves

pub returns-clause-looks : goal.returns-clause-looks
returns-clause-looks c = same_looks
