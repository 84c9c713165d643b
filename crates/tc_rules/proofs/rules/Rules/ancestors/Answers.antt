use Rattle.std.proofs.Common.{arith}
use Rattle.tc_rules.proofs.Counted.{ancestors_begin}
use Rattle.tc_rules.proofs.rules.Rules.ancestors.Goals as goal

pub returns-clause-count : goal.returns-clause-count
returns-clause-count c = λ symbols h. c.len.ensures (let few = h.tells.few_ancestors in omega (arith, few))

pub returns-clause-first : goal.returns-clause-first
returns-clause-first c = λ symbols h. ancestors_begin symbols c.args.self.now h
