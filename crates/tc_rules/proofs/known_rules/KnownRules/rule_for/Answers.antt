use Rattle.tc_rules.specs.Kept.{told}
use Rattle.tc_rules.proofs.known_rules.KnownRules.rule_for.Goals as goal

pub returns-clause-known : goal.returns-clause-known
returns-clause-known c = λ symbols is known. c.remember.ensures symbols (told c.args.rules.now) known (c.rule_for-found.ensures symbols is)

pub returns-clause-rule : goal.returns-clause-rule
returns-clause-rule c = λ symbols is known. c.rule_for-found.ensures symbols is
