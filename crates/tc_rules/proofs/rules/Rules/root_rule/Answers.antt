use Rattle.tc_rules.specs.Asked.{found}
use Rattle.tc_rules.proofs.Counted.{root_told}
use Rattle.tc_rules.proofs.rules.Rules.root_rule.Goals as goal

pub returns : goal.returns
returns c = λ symbols h.
    root_told symbols c.args.self.now h c.args.mode c.requires c.rules_of-number-items.result.now c.rules_of-number-items.ensures (found c.loop-number.best) c.loop-number.number-index c.loop-number-test.false c.loop-number.invariant
