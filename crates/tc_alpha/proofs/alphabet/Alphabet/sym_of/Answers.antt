use Rattle.std.proofs.Common.{rules}
use Rattle.tc_model.specs.Views as see
use Rattle.tc_alpha.proofs.Alike.{alike_told}
use Rattle.tc_alpha.proofs.alphabet.Alphabet.sym_of.Goals as goal

pub returns-then-own-clause-symbol : goal.returns-then-own-clause-symbol
returns-then-own-clause-symbol c = search rules

pub returns-then-own-clause-alike : goal.returns-then-own-clause-alike
returns-then-own-clause-alike c =
    λ input output sheet stands other one. alike_told c.args.self.now (see.name c.args.name.now) c.place-own.result (search rules) input output sheet stands other one

pub returns-clause-symbol : goal.returns-clause-symbol
returns-clause-symbol c = search rules

pub returns-clause-alike : goal.returns-clause-alike
returns-clause-alike c =
    λ input output sheet stands other one. alike_told c.args.self.now (see.name c.args.name.now) c.place.result (search rules) input output sheet stands other one
