use Rattle.tc_rules.specs.Asked.{found}
use Rattle.tc_rules.proofs.Counted.{below_told}
use Rattle.tc_rules.proofs.rules.Rules.rule_for.Goals as goal

pub returns : goal.returns
returns c = λ symbols h l.
    below_told symbols c.args.self.now h c.args.mode c.args.anc _ c.requires.mode c.requires.state l c.rules_of-number-items.result.now c.rules_of-number-items.ensures (found c.loop-number.best) c.loop-number.number-index c.loop-number-test.false c.loop-number.invariant
