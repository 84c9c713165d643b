use Rattle.std.proofs.Common.{subst}
use Rattle.tc_model.specs.Symbols.{AreSymbols}
use Rattle.tc_alpha.proofs.alphabet.Alphabet.at.Goals as goal

pub returns-in-Some-clause-symbols : goal.returns-in-Some-clause-symbols
returns-in-Some-clause-symbols c = subst AreSymbols c.self.view_is c.self.invariant.0

pub returns-in-None-clause-symbols : goal.returns-in-None-clause-symbols
returns-in-None-clause-symbols c = subst AreSymbols c.self.view_is c.self.invariant.0
