use Rattle.std.proofs.Common.{refl}
use Rattle.tc_model.specs.Symbols.{fresh_name}
use Rattle.tc_alpha.proofs.Alike.{alike}
use Rattle.tc_alpha.proofs.Fresh.{symbol_told, are_first_free}
use Rattle.tc_alpha.proofs.InOrder.{only_in_order, schemas_have_their_symbols}
use Rattle.tc_alpha.proofs.Lawful.{are_symbols}
use Rattle.tc_alpha.proofs.alphabet.law_of_symbols.Goals as goal

pub returns-clause-alike : goal.returns-clause-alike
returns-clause-alike c = alike

pub returns-clause-fresh : goal.returns-clause-fresh
returns-clause-fresh c = λ symbols ok k low. symbol_told symbols ok k low (fresh_name symbols k) refl

pub returns-clause-symbols : goal.returns-clause-symbols
returns-clause-symbols c = are_symbols

pub returns-clause-in_order : goal.returns-clause-in_order
returns-clause-in_order c = only_in_order

pub returns-clause-first_free : goal.returns-clause-first_free
returns-clause-first_free c = are_first_free

pub returns-clause-schemas : goal.returns-clause-schemas
returns-clause-schemas c = schemas_have_their_symbols
